-- Runs of accesses: what joined neighbours have in common.
use Rattle.std.proofs.Common.{◌≡◌, ℕ, zero, suc, ◌+◌, ◌<◌, ◌≤◌, true, false, List, sym, ap, refl, ◌∙◌, subst, arith, ⊎_elim, inl, inr}
use Rattle.std.specs.Prelude.{◌⊎◌}
use Rattle.std.proofs.lemmas.Bool.{cases_Bool, cases_lt, eqb-true, eq-eqb, both_ways}
use Rattle.sj_base.specs.declared.program.Codelet.{Codelet}
use Rattle.sj_deps.specs.declared.manner.Manner.{Manner}
use Rattle.sj_deps.specs.declared.manner.Manner.TheVariants.{Read, Write, Commute, Contribute}
use Rattle.sj_deps.specs.Conflict.{IsShared}
use Rattle.sj_deps.specs.declared.chain.Member.{Member}
use Rattle.sj_deps.specs.Chains.{joins, joined, manner_at}

same_codelet : (k l : Codelet) → k.0 ≡ l.0 → k ≡ l
same_codelet k l e = ap (λ (n : ℕ). let c : Codelet = record { 0 = n } in c) e

pub joins_same : (a b : Manner) → joins a b ≡ true → a ≡ b
joins_same Read Read e = refl
joins_same Read Write e = cc
joins_same Read (Commute k) e = cc
joins_same Read Contribute e = cc
joins_same Write n e = cc
joins_same (Commute k) Read e = cc
joins_same (Commute k) Write e = cc
joins_same (Commute k) (Commute l) e = ap Commute (same_codelet k l (eqb-true _ _ e))
joins_same (Commute k) Contribute e = cc
joins_same Contribute Read e = cc
joins_same Contribute Write e = cc
joins_same Contribute (Commute k) e = cc
joins_same Contribute Contribute e = refl

pub joins_cases : (a b : Manner) → joins a b ≡ true → (a ≡ Read) ⊎ IsShared a
joins_cases Read b e = inl refl
joins_cases Write b e = absurd (both_ways false refl e)
joins_cases (Commute k) b e = inr tt
joins_cases Contribute b e = inr tt

pub joins_shared : (m : Manner) → IsShared m → joins m m ≡ true
joins_shared Read h = absurd h
joins_shared Write h = absurd h
joins_shared (Commute k) h = eq-eqb _ _ refl
joins_shared Contribute h = refl

module _ (ms : List Member) where
  -- neighbours from p on are joined, or two of them aren't
  pub all_joined : (p d : ℕ) → ((x : ℕ) → p ≤ x → x < p + d → joined ms x ≡ true) ⊎ ((x : ℕ) × (p ≤ x) × (x < p + d) × (joined ms x ≡ false))
  all_joined p zero = inl (λ x from below. absurd (omega arith))
  all_joined p (suc d) =
      ⊎_elim (λ all. ⊎_elim (λ last. inl (λ x from below. ⊎_elim (λ lower. all x from lower) (λ above. subst (λ n. joined ms n ≡ true) (omega arith) last) (cases_lt x (p + d)))) (λ last. inr (p + d, omega arith, omega arith, last)) (cases_Bool (joined ms (p + d)))) (λ some. inr (some.0, some.1, omega arith, some.3)) (all_joined p d)

  pub same_manner : (p d : ℕ) → ((x : ℕ) → p ≤ x → x < p + d → joined ms x ≡ true) → manner_at ms (p + d) ≡ manner_at ms p
  same_manner p zero all = ap (manner_at ms) (omega arith)
  same_manner p (suc d) all =
      let step : manner_at ms (p + d) ≡ manner_at ms (p + d + 1) = joins_same _ _ (all (p + d) (omega arith) (omega arith)) in
      ap (manner_at ms) (omega arith) ∙ sym step ∙ same_manner p d (λ x from below. all x from (omega arith))

  -- the run of a later access begins after some place y, no earlier than after e
  pub run_before : (e d : ℕ) → joined ms e ≡ false → (y : ℕ) × (e ≤ y) × (y ≤ e + d) × (joined ms y ≡ false) × ((x : ℕ) → y < x → x < e + d + 1 → joined ms x ≡ true)
  run_before e zero b = (e, omega arith, omega arith, b, λ x from below. absurd (omega arith))
  run_before e (suc d) b =
      ⊎_elim (λ last.
      let rest = run_before e d b in
      (rest.0, rest.1, omega arith, rest.3, λ x from below. ⊎_elim (λ lower. rest.4 x from lower) (λ above. subst (λ n. joined ms n ≡ true) (omega arith) last) (cases_lt x (e + d + 1)))) (λ last. (e + suc d, omega arith, omega arith, last, λ x from below. absurd (omega arith))) (cases_Bool (joined ms (e + suc d)))
