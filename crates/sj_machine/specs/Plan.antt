-- What a claim does to the rows, and when it can't be made.
use Rattle.std.specs.Prelude.{◌≡◌, ◌≤◌, ◌<◌, ◌+◌, ◌^◌, ℕ, Some, false, IsTrue, All, List, [], ◌∷◌, map, fold, length, sum, slice_index_or}
use Rattle.sj_base.specs.declared.ids.Cell.{Cell}
use Rattle.sj_base.specs.declared.ids.Node.{Node}
use Rattle.sj_base.specs.declared.ids.Task.{Task}
use Rattle.sj_base.specs.declared.ids.Worker.{Worker}
use Rattle.sj_base.specs.declared.program.Program.{Program}
use Rattle.sj_base.specs.declared.program.Machine.{Machine}
use Rattle.sj_base.specs.Array.{area}
use Rattle.sj_core.specs.Machine.{State, WorkerState}
use Rattle.sj_core.specs.Needs.{node_of, scratch_bytes, tile_bytes}
use Rattle.sj_core.specs.Operands.{cells_of}
use Rattle.sj_core.specs.Program.{dims_of, task_of}
use Rattle.sj_core.specs.Step.{missing, victims_for}
use Rattle.sj_node.specs.Entry.{AreDistinctCells, admitted, has_entry, pins_of, repinned, entry_to_front, without_all}
use Rattle.sj_node.specs.Store.{Store, empty, free_bytes, with_entries}
use Rattle.sj_machine.specs.Cells.{with_rows_of}
use Rattle.sj_replica.specs.declared.mark.Mark.{Mark}
use Rattle.sj_replica.specs.Replica.{CellState, with_mark}

-- ---- a plan

-- the cells of a task, in operand order; those of them without an entry on the node, with their bytes; the bytes of its
-- scratch; and the victims, most recent first
pub record ClaimPlan : Type 0 where
  pub cells : List Cell
  pub missing : List Cell
  pub bytes : List ℕ
  pub scratch : ℕ
  pub victims : List Cell

-- the plan of a claim that evicts these victims
abbrev pub plan_with : Program → Machine → State → Task → Worker → List Cell → ClaimPlan
plan_with p m s t w evicted = record {
  cells = cells_of p t w;
  missing = missing p s t w (node_of m w);
  bytes = map (tile_bytes p) (missing p s t w (node_of m w));
  scratch = scratch_bytes p (task_of p t);
  victims = evicted;
}

-- it is the plan of the claim, with the victims that the claim has
pub record IsPlan (p : Program) (m : Machine) (s : State) (t : Task) (w : Worker) (plan : ClaimPlan) : Type 0 where
  pub chosen : victims_for p m s t w ≡ Some plan.victims
  pub rest : plan ≡ plan_with p m s t w plan.victims

-- ---- what a task needs

-- the cell is one of the program, within the limit of elements
pub record IsSmallCell (p : Program) (c : Cell) : Type 0 where
  pub cell : c.0 < length p.cells
  pub small : area (dims_of p c) ≤ 2 ^ 24

-- ---- one change each

-- the rows with this mark of each of these cells at a node
abbrev pub marked : List CellState → List Cell → Node → Mark → List CellState
marked rows cs n x = with_rows_of rows cs (λ row. with_mark row n x)

-- a cell of the node comes to the front, with one pin more
abbrev pub taken : Store → Cell → Store
taken s c = with_entries s (repinned (λ n. n + 1) c (entry_to_front c s.entries))

-- each of these cells can be taken, one after another
abbrev pub CanTakeAll : Store → List Cell → Type 0
CanTakeAll s [] = Unit {0}
CanTakeAll s (c ∷ cs) = IsTrue (has_entry s.entries c) × (pins_of s.entries c < 1024) × CanTakeAll (taken s c) cs

-- the node with the plan's victims away and its missing cells there
abbrev pub admitting : Store → ClaimPlan → Store
admitting s plan = with_entries s (admitted plan.victims plan.missing plan.bytes s.entries)

-- and all cells of the task taken
abbrev pub taking : Store → ClaimPlan → Store
taking s plan = fold taken (admitting s plan) plan.cells

-- and its scratch held
abbrev pub holding : Store → ClaimPlan → Store
holding s plan = record (taking s plan) { scratch = (taking s plan).scratch + plan.scratch }

-- the node can do all this
pub record CanHold (s : Store) (plan : ClaimPlan) : Type 0 where
  pub victims_there : All (λ c. IsTrue (has_entry s.entries c)) plan.victims
  pub victims_unpinned : All (λ c. pins_of s.entries c ≡ 0) plan.victims
  pub cells_differ : AreDistinctCells plan.missing
  pub cells_absent : All (λ c. has_entry s.entries c ≡ false) plan.missing
  pub paired : length plan.missing ≡ length plan.bytes
  pub fits : sum plan.bytes ≤ free_bytes (with_entries s (without_all plan.victims s.entries))
  pub few : length s.entries + length plan.missing ≤ s.limit
  pub cells : CanTakeAll (admitting s plan) plan.cells
  pub scratch : plan.scratch ≤ free_bytes (taking s plan)

abbrev pub store_at : List Store → Node → Store
store_at nodes n = slice_index_or nodes n.0 (empty 0 0)

-- the worker's row with the plan in hand
abbrev pub row_with : WorkerState → ClaimPlan → WorkerState
row_with row plan = record { pins = plan.cells; scratch = plan.scratch; victims = plan.victims; transfer = row.transfer }
