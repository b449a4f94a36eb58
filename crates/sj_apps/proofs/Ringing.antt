-- The ring with chords: its weights, and a walk along it that is shorter than `inf`.
use Rattle.std.proofs.Common.{◌≡◌, ℕ, zero, suc, ◌+◌, ◌-◌, ◌*◌, ◌%◌, ◌<◌, ◌≤◌, ◌⊎◌, inl, inr, ⊎_elim, pos, ◌≤ℤ◌, Bool, true, false, cond, eqb, List, [], ◌∷◌, refl, sym, ap, ◌∙◌, subst, arith}
use Rattle.std.proofs.Math.Nat.{mod-eq_of_lt, mod_self}
use Rattle.std.proofs.lemmas.Bool.{cases_lt, eq-eqb}
use Rattle.std.proofs.lemmas.Int.{ints}
use Rattle.std.proofs.lemmas.Nat.{mod_below}
use Rattle.sj_codelet.specs.MinPlus.{inf}
use Rattle.sj_apps.specs.Generated.{weight}
use Rattle.sj_apps.proofs.Reaching.{end_within}
use Rattle.sj_apps.specs.Walks.{AreWeights, IsWalk, StayBelowInf, walk_length}

chosen_natural : (s : ℕ) (a b c : Bool) → pos 0 ≤ℤ cond a (pos 0) (cond b (pos 3) (cond c (pos (5 + s % 5)) inf))
chosen_natural s true b c = omega (arith, ints)
chosen_natural s false true c = omega (arith, ints)
chosen_natural s false false true = omega (arith, ints)
chosen_natural s false false false = omega (arith, ints)

chosen_below : (s : ℕ) (a b c : Bool) → cond a (pos 0) (cond b (pos 3) (cond c (pos (5 + s % 5)) inf)) ≤ℤ inf
chosen_below s true b c = omega (arith, ints)
chosen_below s false true c = omega (arith, ints)
chosen_below s false false true = let m = mod_below s 5 (omega arith) in omega (arith, ints)
chosen_below s false false false = omega (arith, ints)

chosen_three : (s : ℕ) (a b c : Bool) → b ≡ true → cond a (pos 0) (cond b (pos 3) (cond c (pos (5 + s % 5)) inf)) ≤ℤ pos 3
chosen_three s true b c e = omega (arith, ints)
chosen_three s false b c e = subst (λ t. cond t (pos 3) (cond c (pos (5 + s % 5)) inf) ≤ℤ pos 3) (sym e) (omega (arith, ints))

pub ring-weights : (n seed : ℕ) → AreWeights n (weight n seed)
ring-weights n seed = record {
  none_negative = λ i j hi hj. chosen_natural seed (eqb j i) (eqb j ((i + 1) % n)) (eqb j ((i + 7) % n));
  none_above = λ i j hi hj. chosen_below seed (eqb j i) (eqb j ((i + 1) % n)) (eqb j ((i + 7) % n));
  staying = λ i hi. ap (λ t. cond t (pos 0) (cond (eqb i ((i + 1) % n)) (pos 3) (cond (eqb i ((i + 7) % n)) (pos (5 + seed % 5)) inf))) (eq-eqb i i refl);
}

-- m steps along the ring
abbrev ring : ℕ → ℕ → ℕ → List ℕ
ring n i zero = []
ring n i (suc m) = (i + 1) % n ∷ ring n ((i + 1) % n) m

one_on : (n seed i : ℕ) → weight n seed i ((i + 1) % n) ≤ℤ pos 3
one_on n seed i = chosen_three seed (eqb ((i + 1) % n) i) (eqb ((i + 1) % n) ((i + 1) % n)) (eqb ((i + 1) % n) ((i + 7) % n)) (eq-eqb ((i + 1) % n) ((i + 1) % n) refl)

next_is : (n i : ℕ) → i < n → ((i + 1 < n) × ((i + 1) % n ≡ i + 1)) ⊎ ((i + 1 ≡ n) × ((i + 1) % n ≡ 0))
next_is n i h = ⊎_elim (λ l. inl (l, mod-eq_of_lt l)) (λ g. (let e : i + 1 ≡ n = omega arith in inr (e, ap (λ k. k % n) e ∙ mod_self n))) (cases_lt (i + 1) n)

ring-leads : (n seed i m j : ℕ) → i < n → j < n → (i + m ≡ j) ⊎ (i + m ≡ n + j) → IsWalk n (weight n seed) i (ring n i m) j
ring-leads n seed i zero j hi hj h = ⊎_elim (λ e. omega arith) (λ e. absurd (omega arith)) h
ring-leads n seed i (suc m) j hi hj h =
    let k = (i + 1) % n in
    let hk : k < n = mod_below (i + 1) n (omega arith) in
    let w = one_on n seed i in (
      (hk, omega (arith, ints)),
      ring-leads n seed k m j hk hj (⊎_elim
          (λ (a : (i + 1 < n) × (k ≡ i + 1)). ⊎_elim (λ e. inl (omega (arith, a.1))) (λ e. inr (omega (arith, a.1))) h)
          (λ (a : (i + 1 ≡ n) × (k ≡ 0)). ⊎_elim (λ e. absurd (omega (arith, a.0))) (λ e. inl (omega (arith, a.0, a.1))) h)
          (next_is n i hi)),
    )

ring-long : (n seed i m : ℕ) → walk_length (weight n seed) i (ring n i m) ≤ℤ pos (3 * m)
ring-long n seed i zero = omega (arith, ints)
ring-long n seed i (suc m) =
    let a = one_on n seed i in
    let b = ring-long n seed ((i + 1) % n) m in
    omega (arith, ints)

-- how many steps along the ring lead from i to j
steps_between : (n i j : ℕ) → i < n → j < n → (m : ℕ) × ((m < n) × ((i + m ≡ j) ⊎ (i + m ≡ n + j)))
steps_between n i j hi hj = ⊎_elim (λ l. (n + j - i, (omega arith, inr (omega arith)))) (λ g. (j - i, (omega arith, inl (omega arith)))) (cases_lt j i)

pub ring-stays : (n seed : ℕ) → n ≤ 2048 → StayBelowInf n (weight n seed)
ring-stays n seed most i j walk hi h =
    let hj = end_within n (weight n seed) i walk j hi h in
    let m = steps_between n i j hi hj in
    let few = m.1.0 in
    let long = ring-long n seed i m.0 in
    record { walk = ring n i m.0; leads = ring-leads n seed i m.0 j hi hj m.1.1; short = omega (arith, ints) }
