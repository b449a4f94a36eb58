-- What a program needs so that a board can be made for it.
use Rattle.std.specs.Prelude.{◌≡◌, ◌<◌, ◌↔◌, ℕ, None, Option, List, [], count_by, length, map, replicate}
use Rattle.std.specs.List.{Contains}
use Rattle.std.specs.List.Sorted.{IsStrictlyIncreasing}
use Rattle.sj_base.specs.declared.ids.Task.{Task}
use Rattle.sj_base.specs.declared.mode.Policy.{Policy}
use Rattle.sj_base.specs.declared.mode.Policy.TheVariants.{Prio, Ws}
use Rattle.sj_base.specs.declared.program.Program.{Program}
use Rattle.sj_base.specs.declared.program.Machine.{Machine}
use Rattle.sj_base.specs.Array.{Array}
use Rattle.sj_codelet.specs.Kernel.{Equations}
use Rattle.sj_core.specs.Needs.{AreFootprints}
use Rattle.sj_deps.specs.Progress.{Dependencies, dependencies}
use Rattle.sj_disk.specs.Directory.{DiskState}
use Rattle.sj_pool.specs.Pool.{Pooled, empty_pool}
use Rattle.sj_board.specs.Delivery.{is_delivery}
use Rattle.sj_board.specs.Standing.{starting}
use Rattle.sj_board.specs.Board.{BoardBy, board_state, empty_hand}
use Rattle.sj_board.specs.Delivered.{Deliveries, deliveries}
use Rattle.sj_board.specs.Filling.{with_each}
use Rattle.sj_board.specs.declared.hand.Hand.{Hand}
use Rattle.sj_deps.specs.Conflict.{Ready}

-- these tasks are ready, each among the first so many, and no other of those
pub record AreReadyBelow (p : Program) (done : List ℕ) (n : ℕ) (ts : List Task) : Type 0 where
  pub each : (u : Task) → Contains ts u ↔ ((u.0 < n) × Ready p done u.0)
  pub by_number : IsStrictlyIncreasing (map (λ u. u.0) ts)

-- ---- a board when nothing has happened

-- these are the tasks that are ready when none is done, by number
pub record AreFirst (p : Program) (ready : List Task) : Type 0 where
  pub each : (u : Task) → Contains ready u ↔ Ready p [] u.0
  pub by_number : IsStrictlyIncreasing (map (λ u. u.0) ready)

-- the pool of a program whose ready tasks are these: under prio each is put by the worker of its number, modulo the workers, and
-- else nothing is released yet
abbrev pub first_pool : Program → Policy → List Task → Pooled
first_pool p Prio ready = with_each p None (empty_pool Prio p.workers (length p.tasks)) ready
first_pool p _ ready = empty_pool Ws p.workers (length p.tasks)

abbrev pub first_hands : Program → List Hand
first_hands p = replicate p.workers empty_hand

-- the parts beside the run
pub record IsPrepared (p : Program) (policy : Policy) (deps : Dependencies) (footprints : List ℕ) (hands : List Hand) (pool : Pooled) : Type 0 where
  pub deps_are : deps ≡ dependencies p []
  pub bytes : AreFootprints p footprints
  pub hands_are : hands ≡ first_hands p
  pub ready : List Task
  pub first : AreFirst p ready
  pub pool_is : pool ≡ first_pool p policy ready

-- how many tasks of a program hand an array over
abbrev pub delivery_count : Program → ℕ
delivery_count p = count_by (λ l. is_delivery l.codelet) p.tasks

-- nothing is handed over yet or kept for that, and there is room for all of it
pub record IsReadyToDeliver (p : Program) (gifts : List (Option Array)) (delivered : Deliveries) : Type 0 where
  pub gifts_are : gifts ≡ replicate p.workers None
  pub none : delivered ≡ deliveries [] (delivery_count p)

-- a board on which nothing has happened: under prio its ready tasks are in the pool
pub record IsOpening {D : Type 0} (eq : Equations) (p : Program) (m : Machine) (disks : DiskState D) (b : BoardBy eq D) : Type 0 where
  pub ready : List Task
  pub first : AreFirst p ready
  pub opens : b ≡ board_state (starting eq p m disks) (first_hands p) (first_pool p m.policy ready) None []
