-- The set of the example, its laws, its machine and its programs. None of its codelets commutes or contributes, so the laws
-- have nothing to say.
use Rattle.std.specs.Prelude.{ℕ, Bool, true, false, ◌&&◌, IsTrue, All, List, [], ◌∷◌}
use Rattle.std.proofs.lemmas.Bool.{false≢true, and_parts}
use Rattle.sj_base.specs.declared.mode.Policy.TheVariants.{Eager}
use Rattle.sj_base.specs.declared.mode.Reduction.TheVariants.{Plus, Least}
use Rattle.sj_base.specs.declared.program.Machine.{Machine}
use Rattle.sj_base.specs.declared.program.Program.{Program}
use Rattle.sj_codelet.specs.declared.kernel.Kernel.{Kernel}
use Rattle.sj_codelet.specs.declared.kernel.Kernel.TheVariants.{Transpose, Load, LoadFill, Deliver}
use Rattle.sj_codelet.specs.Kernel.{contributes_of, out}
use Rattle.sj_codelet.specs.Laws.{CommutingCommute, ContributingContribute, ReductionsReduce}
use Rattle.sj_core.specs.Laws.{is_known}
use Rattle.sj_lower.specs.Lowering.{lowered}
use Rattle.sj_meaning.specs.Act.{Statement}

-- `transpose`, and what registrations and print statements are lowered to
abbrev pub turns_has : Kernel → Bool
turns_has Transpose = true
turns_has Load = true
turns_has LoadFill = true
turns_has Deliver = true
turns_has _ = false

-- the set has the codelet of each task
abbrev pub HasCodelets : Program → Type 0
HasCodelets p = All (λ l. IsTrue (is_known turns_has l.codelet)) p.tasks

-- two workers on one node that holds two of the example's three matrices, with disks of these sizes
abbrev pub small_machine : List ℕ → Machine
small_machine disks = record { workers = 2; nodes = 96 ∷ []; disks = disks; policy = Eager }

-- the program of statements for that machine's workers
abbrev pub small_program : List (Statement (List ℕ)) → Program
small_program ss = lowered ss 2

pub turns_commuting : CommutingCommute out turns_has
turns_commuting Transpose h = absurd (false≢true h)
turns_commuting Load h = absurd (false≢true h)
turns_commuting LoadFill h = absurd (false≢true h)
turns_commuting Deliver h = absurd (false≢true h)
turns_commuting _ h = absurd (false≢true h)

pub turns_contributing : ContributingContribute out turns_has
turns_contributing k Plus h = absurd (false≢true (and_parts (turns_has k && contributes_of k Plus) false h).1)
turns_contributing k Least h = absurd (false≢true (and_parts (turns_has k && contributes_of k Least) false h).1)

pub turns_reducing : ReductionsReduce out turns_has
turns_reducing Plus h = absurd (false≢true h)
turns_reducing Least h = absurd (false≢true h)
