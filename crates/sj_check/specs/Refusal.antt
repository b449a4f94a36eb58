-- Why a trace isn't one that runs its program to its end.
use Rattle.std.specs.Prelude.{ℕ, ◌+◌, ◌<◌, List, length, take}
use Rattle.sj_base.specs.declared.program.Program.{Program}
use Rattle.sj_base.specs.declared.program.Machine.{Machine}
use Rattle.sj_base.specs.declared.trace.Event.{Event}
use Rattle.sj_core.specs.Legal.{IsFinished, IsLegal}
use Rattle.sj_check.specs.declared.check.CheckRefusal.{CheckRefusal}
use Rattle.sj_check.specs.declared.check.CheckRefusal.TheVariants.{BadEvent, OutOfMemory, Unfinished}

-- the first event that isn't legal, counted from 0: those before it are, and with it they aren't
pub record IsFirstBad (p : Program) (m : Machine) (trace : List Event) (i : ℕ) : Type 0 where
  pub inside : i < length trace
  pub before : IsLegal p m (take i trace)
  pub bad : ¬ IsLegal p m (take (i + 1) trace)

-- all events are legal, and a task isn't done
pub record IsUnfinished (p : Program) (m : Machine) (trace : List Event) : Type 0 where
  pub legal : IsLegal p m trace
  pub undone : ¬ IsFinished p m trace

-- the refusal has its reason; want of memory has none
abbrev pub IsCheckRefusal : Program → Machine → List Event → CheckRefusal → Type 0
IsCheckRefusal p m trace (BadEvent i) = IsFirstBad p m trace i
IsCheckRefusal p m trace Unfinished = IsUnfinished p m trace
IsCheckRefusal p m trace OutOfMemory = Unit {0}
