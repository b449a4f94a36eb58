-- Whether a machine has what a program needs: room on its nodes for each task, and on its disks for a block of each cell.
use Rattle.std.specs.Prelude.{◌≡◌, ℕ, ◌≤◌, Bool, nat_lt, Option, Some, None, All, find, sum}
use Rattle.sj_base.specs.declared.ids.Line.{Line}
use Rattle.sj_base.specs.declared.ids.Task.{Task}
use Rattle.sj_base.specs.declared.program.Program.{Program}
use Rattle.sj_base.specs.declared.program.Machine.{Machine}
use Rattle.sj_core.specs.Needs.{footprint, place, room, swap_need}
use Rattle.sj_core.specs.Program.{task_of, tasks_of}
use Rattle.sj_needs.specs.declared.shortage.Shortage.{Shortage}
use Rattle.sj_needs.specs.declared.shortage.Shortage.TheVariants.{TooLarge, SwapTooSmall, OutOfMemory}

-- each task fits the largest node that has a worker
abbrev pub FitRoom : Program → Machine → Type 0
FitRoom p m = All (λ t. footprint p t ≤ room m) (tasks_of p)

-- the task needs more bytes than that node has
abbrev pub is_too_large : Program → Machine → Task → Bool
is_too_large p m t = nat_lt (room m) (footprint p t)

-- the first task, by number, that does
abbrev pub first_too_large : Program → Machine → Option Task
first_too_large p m = find (is_too_large p m) (tasks_of p)

-- the first task that fits no node with a worker comes from that line, and needs so many bytes
pub record IsTooLarge (p : Program) (m : Machine) (line : Line) (bytes : ℕ) : Type 0 where
  pub task : Task
  pub first : first_too_large p m ≡ Some task
  pub from_line : line ≡ (task_of p task).line
  pub needs : bytes ≡ footprint p task

-- each task fits, the blocks have no places on the disks, and all blocks and all disks have so many bytes
pub record IsSwapTooSmall (p : Program) (m : Machine) (needed have : ℕ) : Type 0 where
  pub tasks_fit : FitRoom p m
  pub has_no_places : place p m.disks ≡ None
  pub all_blocks : needed ≡ swap_need p
  pub all_disks : have ≡ sum m.disks

-- what a machine lacks for a program: room on a node, or else on its disks
abbrev pub IsShortage : Program → Machine → Shortage → Type 0
IsShortage p m (TooLarge line bytes) = IsTooLarge p m line bytes
IsShortage p m (SwapTooSmall needed have) = IsSwapTooSmall p m needed have
IsShortage p m OutOfMemory = Unit {0}
