-- Traces: which are legal and complete, and the state that the events of a trace leave.
use Rattle.std.specs.Prelude.{IsTrue, List, [], ◌∷◌, fold}
use Rattle.std.specs.List.{list_all}
use Rattle.sj_base.specs.declared.trace.Event.{Event}
use Rattle.sj_base.specs.declared.program.Program.{Program}
use Rattle.sj_base.specs.declared.program.Machine.{Machine}
use Rattle.sj_core.specs.Machine.{State, opening, is_done}
use Rattle.sj_core.specs.Step.{May, after}

-- the events may happen one after another, the first of them in the state
abbrev pub CanFollow : Program → Machine → State → List Event → Type 0
CanFollow p m s [] = Unit {0}
CanFollow p m s (e ∷ trace) = May p m s e × CanFollow p m (after p m s e) trace

-- each event of the trace is legal when they begin with nothing done
abbrev pub IsLegal : Program → Machine → List Event → Type 0
IsLegal p m trace = CanFollow p m (opening p m) trace

-- the state that the events leave one after another when they begin with nothing done
abbrev pub state_of : Program → Machine → List Event → State
state_of p m trace = fold (after p m) (opening p m) trace

-- all tasks are done
abbrev pub IsComplete : State → Type 0
IsComplete s = IsTrue (list_all is_done s.tasks)

-- the trace is legal and runs the program to its end
pub record IsFinished (p : Program) (m : Machine) (trace : List Event) : Type 0 where
  pub legal : IsLegal p m trace
  pub complete : IsComplete (state_of p m trace)
