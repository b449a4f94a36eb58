-- Why a worker doesn't get its claim.
use Rattle.sj_base.specs.declared.ids.Task.{Task}
use Rattle.sj_base.specs.declared.ids.Worker.{Worker}
use Rattle.sj_base.specs.declared.program.Program.{Program}
use Rattle.sj_base.specs.declared.program.Machine.{Machine}
use Rattle.sj_core.specs.Machine.{State}
use Rattle.sj_machine.specs.Planning.{AnotherHasTask, IsWhy}
use Rattle.sj_board.specs.declared.refusal.ClaimRefusal.{ClaimRefusal}
use Rattle.sj_board.specs.declared.refusal.ClaimRefusal.TheVariants.{NotNow, OutOfMemory}

-- why a claim isn't made: one of these reasons, or want of memory
abbrev pub IsRefusal : Program → Machine → State → Task → Worker → ClaimRefusal → Type 0
IsRefusal p m s t w (NotNow why) = IsWhy p m s t w why
IsRefusal p m s t w OutOfMemory = Unit {0}

-- a claim can't be made now only while another worker has a task
abbrev pub WaitsForAnother : State → Worker → ClaimRefusal → Type 0
WaitsForAnother s w (NotNow why) = AnotherHasTask s w
WaitsForAnother s w OutOfMemory = Unit {0}
