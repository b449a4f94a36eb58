-- The key of a board, which no call changes, and the row of a worker, which its calls alone change.
use Rattle.std.specs.Prelude.{ℕ, Bool, false, Option, List, [], filter, map, is_some, nat_eq, option_map, if◌then◌else◌}
use Rattle.sj_base.specs.declared.ids.Task.{Task}
use Rattle.sj_base.specs.declared.ids.Worker.{Worker}
use Rattle.sj_base.specs.declared.ids.Place.TheVariants.{Node as AtNode}
use Rattle.sj_base.specs.declared.program.Program.{Program}
use Rattle.sj_base.specs.declared.program.Machine.{Machine}
use Rattle.sj_base.specs.declared.trace.Event.{Event}
use Rattle.sj_base.specs.declared.trace.Event.TheVariants.{Claim, Run, End}
use Rattle.sj_base.specs.Array.{Array}
use Rattle.sj_codelet.specs.Kernel.{Equations}
use Rattle.sj_core.specs.Machine.{WorkerState, is_running_on, progress, worker_state, writes, idle_row}
use Rattle.sj_core.specs.Needs.{node_of}
use Rattle.sj_core.specs.Operands.{cells_of}
use Rattle.sj_core.specs.Arrays.{held_at}
use Rattle.sj_core.specs.declared.progress.Progress.{Progress}
use Rattle.sj_board.specs.Standing.{run_arrays, state}
use Rattle.sj_board.specs.Board.{BoardBy, hand_of, released_of, transfer_of}
use Rattle.sj_board.specs.Units.{unit_in_hand}
use Rattle.sj_disk.specs.Units.{UnitState}
use Rattle.sj_board.specs.declared.hand.Hand.{Hand}

-- the program, the machine, and the disks as they were when the run was made: their counts, and whether they tell
pub record BoardKey (D : Type 0) : Type 0 where
  pub program : Program
  pub machine : Machine
  pub opened : List D

abbrev pub key_of : {D : Type 0} {eq : Equations} → BoardBy eq D → BoardKey D
key_of b = record { program = b.run.program; machine = b.run.machine; opened = b.run.opened }

-- the event is a claim, a run or an end of the worker
abbrev pub is_event_of : ℕ → Event → Bool
is_event_of n (Claim t w) = nat_eq w.0 n
is_event_of n (Run t w) = nat_eq w.0 n
is_event_of n (End t w) = nat_eq w.0 n
is_event_of n _ = false

-- the arrays of the cells of a task that runs on the worker, at its node, in operand order
abbrev pub arrays_for : {D : Type 0} {eq : Equations} → BoardBy eq D → Worker → Task → List Array
arrays_for b w t = if is_running_on w (progress (state b.run) t) then map (held_at (run_arrays b.run) (AtNode (node_of b.run.machine w))) (cells_of b.run.program t w) else []

-- what a worker has in hand, a disk's unit as it was taken out, and how far its task is, with the arrays of its operands while it
-- runs; what it holds, its transfer with the array that this carries and the write count of its cell, as long as it has a task;
-- its events; and the tasks that its ends have released and that it hasn't taken away
pub record BoardRow (D : Type 0) : Type 0 where
  pub hand : Hand
  pub unit : Option (UnitState D)
  pub phase : Option Progress
  pub operands : Option (List Array)
  pub holds : WorkerState
  pub carries : Option Array
  pub writes : Option ℕ
  pub events : List Event
  pub released : List Task

abbrev pub row_for : {D : Type 0} {eq : Equations} → BoardBy eq D → Worker → BoardRow D
row_for b w = record {
  hand = hand_of b w;
  unit = unit_in_hand b w;
  phase = option_map (progress (state b.run)) (hand_of b w).task;
  operands = option_map (arrays_for b w) (hand_of b w).task;
  holds = if is_some (hand_of b w).task then worker_state (state b.run) w else idle_row;
  carries = option_map (λ x. run_arrays b.run x.cell x.from) (transfer_of b w);
  writes = option_map (λ x. writes (state b.run) x.cell) (transfer_of b w);
  events = filter (is_event_of w.0) b.run.trace;
  released = released_of b w;
}

-- the row of the worker with this number
abbrev pub row_of_number : {D : Type 0} {eq : Equations} → BoardBy eq D → ℕ → BoardRow D
row_of_number b n = row_for b (record { 0 = n })
