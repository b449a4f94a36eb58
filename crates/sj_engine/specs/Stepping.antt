-- What a worker's row tells after a step for the task that it has claimed, and what has happened.
use Rattle.std.specs.Prelude.{◌≡◌, ◌<◌, ℕ, Bool, true, false, Option, Some, List, IsSomeAnd, length}
use Rattle.sj_base.specs.declared.ids.Cell.{Cell}
use Rattle.sj_base.specs.declared.ids.Place.{Place}
use Rattle.sj_base.specs.declared.ids.Place.TheVariants.{Node as AtNode, Disk as OnDisk}
use Rattle.sj_base.specs.declared.ids.Task.{Task}
use Rattle.sj_base.specs.declared.ids.Worker.{Worker}
use Rattle.sj_base.specs.declared.program.Program.{Program}
use Rattle.sj_base.specs.Array.{Array, area}
use Rattle.sj_core.specs.Program.{dims_of}
use Rattle.sj_disk.specs.Directory.{last_store}
use Rattle.sj_disk.specs.Units.{UnitState}
use Rattle.sj_base.specs.declared.trace.Event.TheVariants.{Drop, Move, Run}
use Rattle.sj_core.specs.declared.progress.Transfer.{Transfer}
use Rattle.sj_core.specs.Needs.{node_of}
use Rattle.sj_board.specs.Standing.{is_node}
use Rattle.sj_board.specs.Board.{BoardState}
use Rattle.sj_board.specs.BoardRow.{BoardKey, BoardRow}
use Rattle.sj_engine.specs.declared.sleepers.Change.{Change}
use Rattle.sj_engine.specs.declared.sleepers.Change.TheVariants.{Begun as Begins, Freed}
use Rattle.sj_engine.specs.declared.stepping.Step.{Step}
use Rattle.sj_engine.specs.declared.stepping.Step.TheVariants.{Begun, Moves, Writes, Reads, Discarded, Waits, Stopped, Failed}
use Rattle.sj_engine.specs.Stage.{HasClaimedRow, HasOperands, HoldsRow, IsCarried, IsFreeRow, IsStoppedRow, MovesRow}
use Rattle.sj_engine.specs.Turn.{Happens, NothingHappens}
use Rattle.sj_core.specs.Step.{a_transfer}

-- the transfer brings a cell of the program from a disk into a node
pub record IsFetch (p : Program) (x : Transfer) : Type 0 where
  pub cell : x.cell.0 < length p.cells
  pub node : is_node x.to ≡ true

-- a share of what the transfer carries, where it comes from a node
abbrev pub IsShareCarried : {D : Type 0} → (D → Option (List ℕ)) → BoardKey D → Transfer → BoardRow D → Place → Option Array → Type 0
IsShareCarried held k x r (AtNode n) share = IsSomeAnd share (IsCarried held k x r)
IsShareCarried held k x r (OnDisk d) share = IsFetch k.program x

-- the unit in the worker's hand, for its transfer: the block is as long as the cell, so often written, and was stored so
-- where the cell comes from there
pub record IsUnitFor {D : Type 0} (k : BoardKey D) (w : Worker) (t : Task) (x : Transfer) (r : BoardRow D) (u : UnitState D) (count : ℕ) : Type 0 where
  pub holds : HoldsRow w t x u r
  pub whole : u.extent.length ≡ area (dims_of k.program x.cell)
  pub counts : r.writes ≡ Some count
  pub stored : is_node x.from ≡ false → u.extent.last_store ≡ Some (last_store count true)

-- its kernel has begun, or a transfer, or another step is made, or it waits; or it has let its task go
abbrev pub AfterStep : {D : Type 0} → (D → Option (List ℕ)) → BoardKey D → Worker → Task → BoardRow D → Step D → Type 0
AfterStep held k w t r (Begun frame) = HasOperands held k w t r frame
AfterStep held k w t r (Moves cell from to share) = MovesRow w t (a_transfer cell from to) r × (is_node to ≡ true) × IsCarried held k (a_transfer cell from to) r share.value
AfterStep held k w t r (Writes cell from to writes share unit) = IsUnitFor k w t (a_transfer cell from to) r unit writes × (is_node to ≡ false) × IsCarried held k (a_transfer cell from to) r share.value
AfterStep held k w t r (Reads cell from to writes unit) = IsUnitFor k w t (a_transfer cell from to) r unit writes × (is_node from ≡ false) × IsFetch k.program (a_transfer cell from to)
AfterStep held k w t r Discarded = HasClaimedRow w t r
AfterStep held k w t r Waits = HasClaimedRow w t r
AfterStep held k w t r Stopped = IsStoppedRow r
AfterStep held k w t r Failed = IsFreeRow r

-- the event with which its kernel or a transfer has begun, or the drop of a copy from its node; else nothing
abbrev pub StepMakes : {D : Type 0} → Worker → Task → BoardState D → BoardState D → Step D → Type 0
StepMakes w t old new (Begun frame) = Happens (Run t w) old new
StepMakes w t old new (Moves cell from to share) = Happens (Move cell from to) old new
StepMakes w t old new (Writes cell from to writes share unit) = Happens (Move cell from to) old new
StepMakes w t old new (Reads cell from to writes unit) = Happens (Move cell from to) old new
StepMakes w t old new Discarded = (c : Cell) × Happens (Drop c (node_of old.run.machine w)) old new
StepMakes w t old new Waits = NothingHappens old new
StepMakes w t old new Stopped = NothingHappens old new
StepMakes w t old new Failed = NothingHappens old new

-- the worker has stopped or failed
abbrev pub EndsByFault : {D : Type 0} → Step D → Type 0
EndsByFault Stopped = Unit {0}
EndsByFault Failed = Unit {0}
EndsByFault _ = ⊥

-- nothing could be done before another worker goes on
abbrev pub has_to_wait : {D : Type 0} → Step D → Bool
has_to_wait Waits = true
has_to_wait _ = false

-- what a step that made an event did for those that rest
abbrev pub HasDone : {D : Type 0} → Step D → Change → Type 0
HasDone (Begun frame) change = change ≡ Freed
HasDone (Moves cell from to share) change = change ≡ Begins
HasDone (Writes cell from to writes share unit) change = change ≡ Begins
HasDone (Reads cell from to writes unit) change = change ≡ Begins
HasDone Discarded change = change ≡ Freed
HasDone _ change = Unit {0}

-- the worker goes on at once: no kernel has begun, no disk is out, and it neither waits nor has let its task go
abbrev pub goes_on : {D : Type 0} → Step D → Bool
goes_on (Moves cell from to share) = true
goes_on Discarded = true
goes_on _ = false
