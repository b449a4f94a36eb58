-- The rows of a run as contracts see them: its program, its machine, and the state that its events have left.
use Rattle.sj_base.specs.declared.program.Program.{Program}
use Rattle.sj_base.specs.declared.program.Machine.{Machine}
use Rattle.sj_base.specs.declared.trace.Event.{Event}
use Rattle.sj_core.specs.Laws.{IsSound}
use Rattle.sj_core.specs.Machine.{State, opening}
use Rattle.sj_core.specs.Step.{May, after}

pub record Rows : Type 0 where
  pub program : Program
  pub machine : Machine
  pub state : State

-- nothing has happened
abbrev pub rows_at_start : Program → Machine → Rows
rows_at_start p m = record { program = p; machine = m; state = opening p m }

-- the event may happen now
abbrev pub MayHappen : Rows → Event → Type 0
MayHappen r e = May r.program r.machine r.state e

-- the event has happened
abbrev pub has_happened : Rows → Event → Rows
has_happened r e = record r { state = after r.program r.machine r.state e }

-- the program is proper, the machine is one for it, and the state is coherent
abbrev pub AreSound : Rows → Type 0
AreSound r = IsSound r.program r.machine r.state
