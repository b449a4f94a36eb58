-- What is true of every board between two calls.
use Rattle.std.specs.Prelude.{◌≡◌, ◌≢◌, ℕ, ◌+◌, ◌<◌, ◌≤◌, ◌⊎◌, Bool, true, false, not, IsTrue, nat_eq, Option, Some, None, IfSome, is_some, All, List, length, map, count_by, sum_by}
use Rattle.std.specs.List.{Contains}
use Rattle.std.specs.List.Sorted.{IsStrictlyIncreasing}
use Rattle.sj_base.specs.declared.ids.Task.{Task}
use Rattle.sj_base.specs.declared.ids.Worker.{Worker}
use Rattle.sj_base.specs.declared.mode.Policy.TheVariants.{Prio}
use Rattle.sj_base.specs.declared.program.Program.{Program}
use Rattle.sj_base.specs.declared.program.Machine.{Machine}
use Rattle.sj_codelet.specs.Kernel.{Equations}
use Rattle.sj_core.specs.Legal.{IsComplete}
use Rattle.sj_base.specs.Array.{Array}
use Rattle.sj_core.specs.Machine.{State, is_done, is_task_of, progress}
use Rattle.sj_core.specs.Needs.{AreFootprints, footprint, node_of, node_size}
use Rattle.sj_core.specs.Step.{done_tasks}
use Rattle.sj_deps.specs.Conflict.{Ready}
use Rattle.sj_deps.specs.Progress.{Dependencies}
use Rattle.sj_pool.specs.Pool.{Pooled, queue_count}
use Rattle.sj_pool.specs.declared.entry.Entry.{Entry}
use Rattle.sj_board.specs.Cause.{HasCause}
use Rattle.sj_machine.specs.Gone.{KnownGone}
use Rattle.sj_board.specs.Sound.{IsSoundRun}
use Rattle.sj_board.specs.Standing.{AllTell, state}
use Rattle.sj_board.specs.declared.fault.RunFault.{RunFault}
use Rattle.sj_machine.specs.ReadyTasks.{CountsDone, IsToBeTaken}
use Rattle.sj_board.specs.Board.{BoardBy, hand_in}
use Rattle.sj_board.specs.Delivered.{DeliversDone, KeepsGifts, undelivered}
use Rattle.sj_board.specs.Filling.{entry_of}
use Rattle.sj_board.specs.Released.{pool_policy, queued_tasks}
use Rattle.sj_board.specs.Units.{UnitsStand}
use Rattle.sj_board.specs.declared.hand.Hand.{Hand}

-- ---- a worker's task

-- there is a hand for each worker; the task in it is the worker's; and as long as no fault is kept, each worker's task is
-- in its hand
pub record HandsAgree (p : Program) (s : State) (hands : List Hand) (fault : Option RunFault) : Type 0 where
  pub every_worker : length hands ≡ p.workers
  pub has : (w : Worker) (t : Task) → (hand_in hands w).task ≡ Some t → IsTrue (is_task_of w (progress s t))
  pub tells : fault ≡ None → (w : Worker) (t : Task) → IsTrue (is_task_of w (progress s t)) → (hand_in hands w).task ≡ Some t

-- a worker has stopped only where all tasks are done or a fault is kept, and then it has no task
pub record StopsAtTheEnd (s : State) (hands : List Hand) (fault : Option RunFault) : Type 0 where
  pub no_task : (w : Worker) → (hand_in hands w).has_stopped ≡ true → (hand_in hands w).task ≡ None
  pub over : (w : Worker) → (hand_in hands w).has_stopped ≡ true → IsComplete s ⊎ IsTrue (is_some fault)

-- ---- ready tasks

abbrev pub is_entry_of : Task → Entry → Bool
is_entry_of t e = nat_eq e.task.0 t.0

abbrev pub is_given : Task → Hand → Bool
is_given t hand = elim hand.given [ None ↦ false | Some u ↦ nat_eq u.0 t.0 ]

-- how many times the task stands in the pool
abbrev pub times_pooled : Pooled → Task → ℕ
times_pooled pool t = sum_by (λ q. count_by (is_entry_of t) q) pool.queues

-- and in the workers' hands
abbrev pub times_given : List Hand → Task → ℕ
times_given hands t = count_by (is_given t) hands

-- each ready task that waits stands once in the pool or in one worker's hand, and nothing else stands there
pub record StandsOnce (p : Program) (s : State) (hands : List Hand) (pool : Pooled) : Type 0 where
  pub once : (t : Task) → IsToBeTaken p s t → times_pooled pool t + times_given hands t ≡ 1
  pub only : (t : Task) → 0 < times_pooled pool t + times_given hands t → IsToBeTaken p s t

-- the task is ready, whether it waits or was begun meanwhile, or it is done
pub record HasBecomeReady (p : Program) (s : State) (t : Task) : Type 0 where
  pub task : t.0 < length p.tasks
  pub ready : Ready p (done_tasks s) t.0 ⊎ Contains (done_tasks s) t.0

-- no worker was given a task; each one in the pool has become ready and stands there once, in each queue by number
pub record StandsReleased (p : Program) (s : State) (hands : List Hand) (pool : Pooled) : Type 0 where
  pub none_given : (w : Worker) → (hand_in hands w).given ≡ None
  pub become : (t : Task) → 0 < times_pooled pool t → HasBecomeReady p s t
  pub once : (t : Task) → times_pooled pool t ≤ 1
  pub by_number : (n : ℕ) → IsStrictlyIncreasing (map (λ t. t.0) (queued_tasks pool n))

-- the entry has its task's priority and bytes
abbrev pub IsEntry : Program → Entry → Type 0
IsEntry p e = e ≡ entry_of p e.task

-- the pool was made for the program, its entries tell what their tasks need, and what a worker was given fits its node
pub record IsPoolFor (p : Program) (m : Machine) (hands : List Hand) (pool : Pooled) : Type 0 where
  pub policy : pool.policy ≡ pool_policy m.policy
  pub workers : pool.workers ≡ p.workers
  pub tasks : pool.limit ≡ length p.tasks
  pub queues : length pool.queues ≡ queue_count pool.policy pool.workers
  pub entries : All (All (IsEntry p)) pool.queues
  pub fits : (w : Worker) (t : Task) → (hand_in hands w).given ≡ Some t → footprint p t ≤ node_size m (node_of m w)

-- ---- all of it

-- what is true of a board in a state of its run: under prio each ready task that waits stands in the pool or in a hand, and
-- else those that were released stand in the pool until they are taken away
pub record IsSoundIn (p : Program) (m : Machine) (s : State) (hands : List Hand) (pool : Pooled) (fault : Option RunFault) : Type 0 where
  pub hands_agree : HandsAgree p s hands fault
  pub stops : StopsAtTheEnd s hands fault
  pub stands_once : m.policy ≡ Prio → StandsOnce p s hands pool
  pub stands_released : m.policy ≢ Prio → StandsReleased p s hands pool
  pub pool_fits : IsPoolFor p m hands pool

-- the run is sound, a fault that is kept has its cause, workers' hands and the pool fit the state, each deliver task that is done
-- has handed over what it was given, and each disk that is out is in one worker's hand
pub record IsSoundBoard {D : Type 0} {eq : Equations} (size faults mismatches : D → ℕ) (held : D → Option (List ℕ)) (b : BoardBy eq D) : Type 0 where
  pub run : IsSoundRun size faults mismatches held b.run
  pub fault : IfSome b.fault (HasCause faults mismatches held b.run)
  pub inside : IsSoundIn b.run.program b.run.machine (state b.run) b.hands b.pool b.fault
  pub delivered : DeliversDone eq b.run.program (state b.run) (AllTell held b.run) b.delivered
  pub units : UnitsStand b.run.disks b.run.out b.hands

-- ---- what a board keeps beside

pub record KeepsBoard {D : Type 0} {eq : Equations} (faults mismatches : D → ℕ) (held : D → Option (List ℕ)) (b : BoardBy eq D) (deps : Dependencies) (footprints : List ℕ) : Type 0 where
  pub fault : IfSome b.fault (HasCause faults mismatches held b.run)
  pub inside : IsSoundIn b.run.program b.run.machine (state b.run) b.hands b.pool b.fault
  pub counts : CountsDone b.run.program (state b.run) deps
  pub bytes : AreFootprints b.run.program footprints

-- how many tasks aren't done
abbrev pub undone : State → ℕ
undone s = count_by (λ x. not (is_done x)) s.tasks

-- what the ends of tasks leave: arrays that were handed over, with room for those to come, and the count of the tasks that
-- aren't done; and what running tasks are to hand over is kept
pub record KeepsEnds (eq : Equations) (p : Program) (s : State) (Tells : Type 0) (pairs : List (Task × Array)) (gifts : List (Option Array)) (spare left : ℕ) : Type 0 where
  pub delivered : DeliversDone eq p s Tells pairs
  pub gifts_kept : KeepsGifts eq p s Tells gifts
  pub room : undelivered p s ≤ spare
  pub counted : undone s ≡ left

-- of each worker's victims so many are known to be gone
pub record KnowsGone (workers : ℕ) (m : Machine) (s : State) (counts : List ℕ) : Type 0 where
  pub every_worker : length counts ≡ workers
  pub gone : KnownGone m s counts

-- all of it
pub record IsKept {D : Type 0} {eq : Equations} (faults mismatches : D → ℕ) (held : D → Option (List ℕ)) (b : BoardBy eq D) (deps : Dependencies) (footprints : List ℕ) (gifts : List (Option Array)) (spare left : ℕ) (gone : List ℕ) : Type 0 where
  pub board : KeepsBoard faults mismatches held b deps footprints
  pub ends : KeepsEnds eq b.run.program (state b.run) (AllTell held b.run) b.delivered gifts spare left
  pub victims : KnowsGone b.run.program.workers b.run.machine (state b.run) gone
  pub units : UnitsStand b.run.disks b.run.out b.hands
