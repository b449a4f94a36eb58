-- Disk units in workers' hands.
use Rattle.std.specs.Prelude.{◌≡◌, ◌≢◌, ℕ, Bool, true, List, Option, Some, IsSomeAnd, option_and_then, option_map, slice_get}
use Rattle.sj_base.specs.declared.ids.Cell.{Cell}
use Rattle.sj_base.specs.declared.ids.Worker.{Worker}
use Rattle.sj_codelet.specs.Kernel.{Equations}
use Rattle.sj_disk.specs.declared.directory.Extent.{Extent}
use Rattle.sj_disk.specs.Directory.{DiskState, extent_of}
use Rattle.sj_disk.specs.Rack.{is_out}
use Rattle.sj_disk.specs.Units.{UnitState, unit_state}
use Rattle.sj_board.specs.Board.{BoardBy, hand_in, hand_of}
use Rattle.sj_board.specs.declared.hand.Hand.{Hand}

-- the unit of a cell among the disks
abbrev pub unit_at : {D : Type 0} → DiskState D → Cell → Option (UnitState D)
unit_at disks c = option_and_then (λ (e : Extent). option_map (λ x. unit_state x c e) (slice_get disks.disks e.disk.0)) (extent_of disks.directory c.0)

-- the unit that a worker has in hand, as it was taken out
abbrev pub unit_in_hand : {D : Type 0} {eq : Equations} → BoardBy eq D → Worker → Option (UnitState D)
unit_in_hand b w = option_and_then (unit_at b.run.disks) (hand_of b w).unit

-- the disk is in a worker's hand
pub record IsInHand {D : Type 0} (disks : DiskState D) (hands : List Hand) (d : ℕ) : Type 0 where
  pub worker : Worker
  pub cell : Cell
  pub extent : Extent
  pub in_hand : (hand_in hands worker).unit ≡ Some cell
  pub its_extent : extent_of disks.directory cell.0 ≡ Some extent
  pub its_disk : extent.disk.0 ≡ d

-- what is in hand is out, no two workers have the same disk in hand, and what is out is in a worker's hand
pub record UnitsStand {D : Type 0} (disks : DiskState D) (out : List Bool) (hands : List Hand) : Type 0 where
  pub in_hand_is_out : (w : Worker) (c : Cell) → (hand_in hands w).unit ≡ Some c → IsSomeAnd (extent_of disks.directory c.0) (λ e. is_out out e.disk.0 ≡ true)
  pub in_one_hand :
      (v w : Worker) (c d : Cell) (e f : Extent) → (hand_in hands v).unit ≡ Some c → (hand_in hands w).unit ≡ Some d → extent_of disks.directory c.0 ≡ Some e → extent_of disks.directory d.0 ≡ Some f
      → e.disk.0 ≡ f.disk.0 → v ≡ w
  pub out_is_in_hand : (d : ℕ) → is_out out d ≡ true → IsInHand disks hands d

-- another worker has a unit in hand
pub record AnotherHasUnit {D : Type 0} {eq : Equations} (b : BoardBy eq D) (w : Worker) : Type 0 where
  pub worker : Worker
  pub other : worker ≢ w
  pub cell : Cell
  pub in_hand : (hand_of b worker).unit ≡ Some cell

-- the units in the hands of all other workers are as they were
abbrev pub OthersKeepUnits : {D : Type 0} {eq : Equations} → Worker → BoardBy eq D → BoardBy eq D → Type 0
OthersKeepUnits w old new = (v : Worker) → v ≢ w → unit_in_hand new v ≡ unit_in_hand old v
