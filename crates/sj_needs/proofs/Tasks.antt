-- The tasks of a program, one after another.
use Rattle.std.proofs.Common.{◌≡◌, ℕ, zero, ◌+◌, ◌<◌, Bool, true, false, cond, List, [], ◌∷◌, drop, length, get_or, find, Some, None, refl, sym, ap, ◌∙◌, arith, suc, add-one}
use Rattle.std.specs.Prelude.{All}
use Rattle.std.proofs.Math.Seq.{drop-cons, drop-length}
use Rattle.std.proofs.lemmas.List.FromFn.{get_or-map-range_with_len, length-map-range_with_len}
use Rattle.sj_base.specs.declared.ids.Task.{Task}
use Rattle.sj_base.specs.declared.program.Program.{Program}
use Rattle.sj_base.proofs.Options.{the}
use Rattle.sj_core.specs.Program.{tasks_of}

module _ (p : Program) (test : Task → Bool) where
  -- the tasks from one on begin with it
  tasks-from : (i : ℕ) → i < length p.tasks → drop i (tasks_of p) ≡ (record { 0 = i }) ∷ drop (i + 1) (tasks_of p)
  tasks-from i below =
      let all = length-map-range_with_len {X = Task} (λ n. record { 0 = n }) 0 (length p.tasks) in
      let first : get_or (tasks_of p) i (record { 0 = 0 }) ≡ record { 0 = i } = get_or-map-range_with_len {X = Task} (λ n. record { 0 = n }) 0 (length p.tasks) i i (record { 0 = 0 }) below (omega arith) in
      drop-cons (tasks_of p) i (record { 0 = 0 }) (omega (arith, all)) ∙ ap (λ (t : Task). t ∷ drop (suc i) (tasks_of p)) first ∙ ap (λ (n : ℕ). (record { 0 = i }) ∷ drop n (tasks_of p)) (sym (add-one i))

  pub finds-next : (i : ℕ) → i < length p.tasks → test (record { 0 = i }) ≡ false → find test (drop i (tasks_of p)) ≡ find test (drop (i + 1) (tasks_of p))
  finds-next i below h = ap (find test) (tasks-from i below) ∙ ap (λ (b : Bool). cond b (Some (record { 0 = i })) (find test (drop (i + 1) (tasks_of p)))) h

  pub finds-this : (i : ℕ) → i < length p.tasks → test (record { 0 = i }) ≡ true → find test (drop i (tasks_of p)) ≡ Some (record { 0 = i })
  finds-this i below h = ap (find test) (tasks-from i below) ∙ ap (λ (b : Bool). cond b (Some (record { 0 = i })) (find test (drop (i + 1) (tasks_of p)))) h

  pub finds-none : find test (drop (length p.tasks) (tasks_of p)) ≡ None
  finds-none = ap (find test) (ap (λ (n : ℕ). drop n (tasks_of p)) (sym (length-map-range_with_len {X = Task} (λ n. record { 0 = n }) 0 (length p.tasks))) ∙ drop-length (tasks_of p))

-- where none passes a test, each fails it
pub each-fails : {X : Type 0} (test : X → Bool) (xs : List X) → find test xs ≡ None → All (λ x. test x ≡ false) xs
each-fails test [] none k d below = absurd (omega arith)
each-fails test (x ∷ xs) none k d below = by_test (test x) refl none (each-fails test xs) k d below
  where
    by_test : (b : Bool) → test x ≡ b → cond b (Some x) (find test xs) ≡ None → (find test xs ≡ None → All (λ y. test y ≡ false) xs) → All (λ y. test y ≡ false) (x ∷ xs)
    by_test true e found later k d below = absurd (let bad : Some x ≡ None = found in the ⊥ cc)
    by_test false e found later zero d below = e
    by_test false e found later (suc k) d below = later found k d (omega arith)
