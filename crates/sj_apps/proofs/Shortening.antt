-- A walk without its rounds: no vertex stands twice in it, so it has fewer steps than there are vertices.
use Rattle.std.proofs.Common.{◌≡◌, ℕ, suc, ◌+◌, ◌*◌, ◌<◌, ◌≤◌, ◌⊎◌, inl, inr, ⊎_elim, ℤ, pos, ◌≤ℤ◌, ◌<ℤ◌, true, false, ◌||◌, eqb, List, [], ◌∷◌, length, sym, ap, ◌∙◌, subst, arith}
use Rattle.std.specs.List.{AllByRecursion, IsDistinct, list_any}
use Rattle.std.proofs.Math.Nat.{mul-le-mul_right}
use Rattle.std.proofs.lemmas.Bool.Decides.{eqb_tells}
use Rattle.std.proofs.lemmas.Int.{ints}
use Rattle.std.proofs.lemmas.Map.Steps.{length-le_from_distinct_below}
use Rattle.sj_codelet.specs.MinPlus.{inf}
use Rattle.sj_apps.specs.Walks.{IsWalk, StayBelowInf, walk_length}

-- a walk from i to j in which no vertex stands twice
record IsSimple (n : ℕ) (W : ℕ → ℕ → ℤ) (i j : ℕ) : Type 0 where
  walk : List ℕ
  leads : IsWalk n W i walk j
  distinct : IsDistinct eqb (i ∷ walk)

-- the end of such a walk from where it comes to i, or i isn't in it
from_there : (n : ℕ) (W : ℕ → ℕ → ℤ) (i v j : ℕ) (xs : List ℕ) → IsWalk n W v xs j → IsDistinct eqb (v ∷ xs) → IsSimple n W i j ⊎ AllByRecursion (λ y. eqb i y ≡ false) (v ∷ xs)
unfolding IsDistinct
from_there n W i v j [] h d = ⊎_elim (λ e. inl (record { walk = []; leads = e.1 ∙ h; distinct = (tt, tt) })) (λ e. inr (e.0, tt)) (eqb_tells i v)
from_there n W i v j (x ∷ xs) h d =
    ⊎_elim
    (λ e. inl (record { walk = x ∷ xs; leads = subst (λ u. IsWalk n W u (x ∷ xs) j) (sym e.1) h; distinct = subst (λ u. IsDistinct eqb (u ∷ x ∷ xs)) (sym e.1) d }))
    (λ e. ⊎_elim inl (λ rest. inr (e.0, rest)) (from_there n W i x j xs h.1 d.1))
    (eqb_tells i v)

shortened : (n : ℕ) (W : ℕ → ℕ → ℤ) (i : ℕ) (walk : List ℕ) (j : ℕ) → IsWalk n W i walk j → IsSimple n W i j
unfolding IsDistinct
shortened n W i [] j h = record { walk = []; leads = h; distinct = (tt, tt) }
shortened n W i (k ∷ ks) j h =
    let rest = shortened n W k ks j h.1 in
    ⊎_elim (λ s. s) (λ apart. record { walk = k ∷ rest.walk; leads = (h.0, rest.leads); distinct = (apart, rest.distinct) }) (from_there n W i k j rest.walk rest.leads rest.distinct)

-- each vertex of a walk is one of the n
among : (n : ℕ) (W : ℕ → ℕ → ℤ) (i j : ℕ) (xs : List ℕ) → i < n → IsWalk n W i xs j → (q : ℕ) → list_any (eqb q) (i ∷ xs) ≡ true → q < n
among n W i j [] hi h q e = ⊎_elim (λ t. subst (λ u. u < n) (sym t.1) hi) (λ f. absurd (grind (arith, f.0, e))) (eqb_tells q i)
among n W i j (x ∷ xs) hi h q e = ⊎_elim (λ t. subst (λ u. u < n) (sym t.1) hi) (λ f. among n W x j xs h.0.0 h.1 q (ap (λ b. b || list_any (eqb q) (x ∷ xs)) (sym f.0) ∙ e)) (eqb_tells q i)

-- the length of a walk whose steps have weights of at most m
long_by : (n m : ℕ) (W : ℕ → ℕ → ℤ) → ((i j : ℕ) → i < n → j < n → W i j <ℤ inf → W i j ≤ℤ pos m) → (i j : ℕ) (xs : List ℕ) → i < n → IsWalk n W i xs j → walk_length W i xs ≤ℤ pos (length xs * m)
long_by n m W bound i j [] hi h = omega (arith, ints)
long_by n m W bound i j (x ∷ xs) hi h =
    let first = bound i x hi h.0.0 h.0.1 in
    let rest = long_by n m W bound x j xs h.0.0 h.1 in
    let e : length (x ∷ xs) * m ≡ m + length xs * m = omega arith in
    omega (arith, ints)

-- where n steps of the greatest weight are shorter than `inf`, each walk has one from and to the same vertices that is
pub bounded-stay : (n m : ℕ) (W : ℕ → ℕ → ℤ) → ((i j : ℕ) → i < n → j < n → W i j <ℤ inf → W i j ≤ℤ pos m) → pos (n * m) <ℤ inf → StayBelowInf n W
bounded-stay n m W bound short i j walk hi h =
    let s = shortened n W i walk j h in
    let few : length s.walk + 1 ≤ n = few_steps s.walk (length-le_from_distinct_below (i ∷ s.walk) n s.distinct (among n W i j s.walk hi s.leads)) in
    let long = long_by n m W bound i j s.walk hi s.leads in
    let most : length s.walk * m ≤ n * m = mul-le-mul_right m (omega arith) in
    record { walk = s.walk; leads = s.leads; short = omega (arith, ints) }
  where
    few_steps : (xs : List ℕ) → suc (length xs) ≤ n → length xs + 1 ≤ n
    few_steps xs h = omega arith
