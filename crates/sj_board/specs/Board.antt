-- A board as contracts see it: the run, what each worker has in hand, the pool of ready tasks, the first fault, and what
-- deliver tasks have handed over.
use Rattle.std.specs.Prelude.{◌≡◌, ℕ, ◌<◌, ◌⊎◌, true, false, IsTrue, Option, Some, None, IfSome, is_some, List, [], ◌++◌, slice_index_or, slice_set, if◌then◌else◌}
use Rattle.sj_base.specs.declared.ids.Task.{Task}
use Rattle.sj_base.specs.declared.ids.Worker.{Worker}
use Rattle.sj_base.specs.declared.trace.Event.{Event}
use Rattle.sj_base.specs.declared.trace.Event.TheVariants.{Claim, End, Moved}
use Rattle.sj_base.specs.Array.{Array}
use Rattle.sj_codelet.specs.Kernel.{Equations, out}
use Rattle.sj_core.specs.Legal.{IsComplete}
use Rattle.sj_core.specs.Machine.{is_running_on, progress, transfer}
use Rattle.sj_core.specs.Needs.{node_of, node_size}
use Rattle.sj_core.specs.declared.progress.Transfer.{Transfer}
use Rattle.sj_disk.specs.Units.{UnitState}
use Rattle.sj_pool.specs.Pool.{Pooled, task_for, with_entry, without_entry_for}
use Rattle.sj_board.specs.Standing.{StandingBy, state, with_event}
use Rattle.sj_board.specs.declared.fault.RunFault.{RunFault}
use Rattle.sj_board.specs.Delivered.{handed}
use Rattle.sj_board.specs.Filling.{entry_of, with_each}
use Rattle.sj_board.specs.Released.{released_in, without_first_of}
use Rattle.sj_board.specs.declared.hand.Hand.{Hand}

-- a board: `pool` has ready tasks under prio, and else released ones; `fault` is the first one, and `delivered` has what ends of
-- tasks have handed over, in their order; the run is by these equations
pub record BoardBy (eq : Equations) (D : Type 0) : Type 0 where
  pub run : StandingBy eq D
  pub hands : List Hand
  pub pool : Pooled
  pub fault : Option RunFault
  pub delivered : List (Task × Array)

-- by the table's equations
abbrev pub BoardState : Type 0 → Type 0
BoardState D = BoardBy out D

abbrev pub board_state : {D : Type 0} {eq : Equations} → StandingBy eq D → List Hand → Pooled → Option RunFault → List (Task × Array) → BoardBy eq D
board_state run hands pool fault delivered = record { run = run; hands = hands; pool = pool; fault = fault; delivered = delivered }

-- ---- workers

-- nothing in hand
abbrev pub empty_hand : Hand
empty_hand = record { given = None; task = None; unit = None; has_stopped = false }

abbrev pub hand_in : List Hand → Worker → Hand
hand_in hands w = slice_index_or hands w.0 empty_hand

abbrev pub hand_of : {D : Type 0} {eq : Equations} → BoardBy eq D → Worker → Hand
hand_of b w = hand_in b.hands w

abbrev pub with_hand : {D : Type 0} {eq : Equations} → BoardBy eq D → Worker → Hand → BoardBy eq D
with_hand b w hand = record b { hands = slice_set b.hands w.0 hand }

-- it is a worker of the program, and hasn't stopped
pub record IsWorking {D : Type 0} {eq : Equations} (b : BoardBy eq D) (w : Worker) : Type 0 where
  pub known : w.0 < b.run.program.workers
  pub goes_on : (hand_of b w).has_stopped ≡ false

-- it has neither claimed a task nor runs one
pub record IsIdle {D : Type 0} {eq : Equations} (b : BoardBy eq D) (w : Worker) : Type 0 where
  pub works : IsWorking b w
  pub no_task : (hand_of b w).task ≡ None

-- nor was it given one
pub record IsFree {D : Type 0} {eq : Equations} (b : BoardBy eq D) (w : Worker) : Type 0 where
  pub idle : IsIdle b w
  pub none_given : (hand_of b w).given ≡ None

-- it was given the task
pub record WasGiven {D : Type 0} {eq : Equations} (b : BoardBy eq D) (w : Worker) (t : Task) : Type 0 where
  pub works : IsWorking b w
  pub given : (hand_of b w).given ≡ Some t

-- it has claimed the task, or runs it
pub record HasTask {D : Type 0} {eq : Equations} (b : BoardBy eq D) (w : Worker) (t : Task) : Type 0 where
  pub works : IsWorking b w
  pub task : (hand_of b w).task ≡ Some t

-- it has claimed a task, or runs one
pub record IsBusy {D : Type 0} {eq : Equations} (b : BoardBy eq D) (w : Worker) : Type 0 where
  pub works : IsWorking b w
  pub task : IsTrue (is_some (hand_of b w).task)

-- the task in its row, if there is one, doesn't run
abbrev pub RunsNone : {D : Type 0} {eq : Equations} → BoardBy eq D → Worker → Type 0
RunsNone b w = IfSome (hand_of b w).task (λ t. is_running_on w (progress (state b.run) t) ≡ false)

-- the transfer in its row: none once it has no task there
abbrev pub transfer_of : {D : Type 0} {eq : Equations} → BoardBy eq D → Worker → Option Transfer
transfer_of b w = if is_some (hand_of b w).task then transfer (state b.run) w else None

-- ---- released tasks

-- the tasks that the worker's ends have released and that it hasn't taken away; under prio none
abbrev pub released_of : {D : Type 0} {eq : Equations} → BoardBy eq D → Worker → List Task
released_of b w = released_in b.run.machine.policy b.pool w.0

-- it has taken all of them away
abbrev pub HasTakenReleased : {D : Type 0} {eq : Equations} → BoardBy eq D → Worker → Type 0
HasTakenReleased b w = released_of b w ≡ []

-- ---- what the calls make

-- one event more
abbrev pub has_event : {D : Type 0} {eq : Equations} → BoardBy eq D → Event → BoardBy eq D
has_event b e = record b { run = with_event b.run e }

-- the worker's transfer has ended, and nothing else has happened
abbrev pub EndsMoveOf : {D : Type 0} {eq : Equations} → Worker → BoardBy eq D → BoardBy eq D → Type 0
EndsMoveOf w old new = IfSome (transfer (state old.run) w) (λ x. new ≡ has_event old (Moved x.cell x.from x.to))

-- the worker has this unit in hand, and its disk is out
abbrev pub has_taken : {D : Type 0} {eq : Equations} → BoardBy eq D → Worker → UnitState D → BoardBy eq D
has_taken b w u = record (with_hand b w (record (hand_of b w) { unit = Some u.cell })) { run = record b.run { out = slice_set b.run.out u.extent.disk.0 true } }

-- no event has happened: the worker has no unit in hand any more, and the disks alone may have changed
abbrev pub GivesUnitBack : {D : Type 0} {eq : Equations} → Worker → BoardBy eq D → BoardBy eq D → Type 0
GivesUnitBack w old new = new ≡ record (with_hand old w (record (hand_of old w) { unit = None })) { run = record old.run { disks = new.run.disks; out = new.run.out } }

-- the bytes of a worker's node
abbrev pub room_of : {D : Type 0} {eq : Equations} → BoardBy eq D → Worker → ℕ
room_of b w = node_size b.run.machine (node_of b.run.machine w)

-- the worker was given this task or none, and this is the pool that is left
abbrev pub given_from : {D : Type 0} {eq : Equations} → BoardBy eq D → Worker → Option Task → Pooled → BoardBy eq D
given_from b w given pool = record (with_hand b w (record (hand_of b w) { given = given })) { pool = pool }

-- the worker was given the task that the pool has for it
abbrev pub given_next : {D : Type 0} {eq : Equations} → BoardBy eq D → Worker → BoardBy eq D
given_next b w = given_from b w (task_for b.pool w.0 (room_of b w)) (without_entry_for b.pool w.0 (room_of b w))

-- the worker has put the task that it was given back into the pool
abbrev pub given_back : {D : Type 0} {eq : Equations} → BoardBy eq D → Task → Worker → BoardBy eq D
given_back b t w = record (with_hand b w (record (hand_of b w) { given = None })) { pool = with_entry b.pool (entry_of b.run.program t) w.0 }

-- the worker has taken the first of its released tasks away, where there is one
abbrev pub has_released : {D : Type 0} {eq : Equations} → BoardBy eq D → Worker → BoardBy eq D
has_released b w = record b { pool = without_first_of b.run.machine.policy b.pool w.0 }

-- the worker has claimed the task
abbrev pub has_claimed : {D : Type 0} {eq : Equations} → BoardBy eq D → Task → Worker → BoardBy eq D
has_claimed b t w = with_hand (has_event b (Claim t w)) w (record (hand_of b w) { given = None; task = Some t })

-- the worker's task has ended, these are in the pool, and this was handed over
abbrev pub has_ended : {D : Type 0} {eq : Equations} → BoardBy eq D → Task → Worker → List Task → Option Array → BoardBy eq D
has_ended b t w ready gift = record (with_hand (has_event b (End t w)) w (record (hand_of b w) { task = None })) {
  pool = with_each b.run.program (Some w) b.pool ready;
  delivered = b.delivered ++ handed t gift;
}

-- ---- faults

-- all tasks are done, or a fault is kept
abbrev pub IsOver : {D : Type 0} {eq : Equations} → BoardBy eq D → Type 0
IsOver b = IsComplete (state b.run) ⊎ IsTrue (is_some b.fault)

-- the first fault, where there is one already
abbrev pub first_fault : Option RunFault → RunFault → Option RunFault
first_fault None fault = Some fault
first_fault (Some first) fault = Some first

-- the worker has failed: the first fault is kept, and its row has no task any more
abbrev pub failed : {D : Type 0} {eq : Equations} → BoardBy eq D → Worker → RunFault → BoardBy eq D
failed b w fault = record (with_hand b w (record (hand_of b w) { task = None })) { fault = first_fault b.fault fault }

-- the worker has stopped
abbrev pub stopped : {D : Type 0} {eq : Equations} → BoardBy eq D → Worker → BoardBy eq D
stopped b w = with_hand b w (record (hand_of b w) { task = None; has_stopped = true })
