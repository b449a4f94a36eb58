-- What lowering needs of the acts of a job.
use Rattle.sj_lower.proofs.Words.{[], Act, apply, Bool, Deliver, Invalidate, IsSoundAct, JobState, Kernel, kernel_of, List, Plan, Print, Some, Statement, Task, Unregister, ℕ, ◌∷◌, ◌≡◌}
use Rattle.sj_meaning.specs.Act.{Register, Redux}

-- a job can't name the codelet that delivers
abbrev pub DoesNotDeliver : Act (List ℕ) → Type 0
DoesNotDeliver (Register r) = Unit {0}
DoesNotDeliver (Plan name p) = Unit {0}
DoesNotDeliver (Redux name by) = Unit {0}
DoesNotDeliver (Task t) = kernel_of t.codelet ≡ Some Deliver → ⊥
DoesNotDeliver (Print name) = Unit {0}
DoesNotDeliver (Invalidate name) = Unit {0}
DoesNotDeliver (Unregister name) = Unit {0}

-- what lowering needs of an act
pub record CanBe (has : Kernel → Bool) (S : JobState) (a : Act (List ℕ)) : Type 0 where
  pub sound : IsSoundAct has S a
  pub nameable : DoesNotDeliver a

-- of acts, one after another
abbrev pub AllCanBe : (Kernel → Bool) → JobState → List (Statement (List ℕ)) → Type 0
AllCanBe has S [] = Unit {0}
AllCanBe has S (s ∷ ss) = CanBe has S s.act × AllCanBe has (apply s.act S) ss
