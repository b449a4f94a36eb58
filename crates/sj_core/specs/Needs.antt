-- What a task and a program need of the machine, in bytes: tiles on a node, blocks on disks.
use Rattle.std.specs.Prelude.{◌≡◌, ℕ, ◌<◌, ◌≤◌, ◌+◌, ◌*◌, ◌%◌, max, Option, Some, None, List, [], ◌∷◌, map, filter, fold, sum_by, length, option_map}
use Rattle.std.specs.List.{slice_index_or, slice_set, range_with_len}
use Rattle.sj_base.specs.declared.ids.Cell.{Cell}
use Rattle.sj_base.specs.declared.ids.Task.{Task}
use Rattle.sj_base.specs.declared.ids.Node.{Node}
use Rattle.sj_base.specs.declared.ids.Worker.{Worker}
use Rattle.sj_base.specs.declared.ids.DiskNo.{DiskNo}
use Rattle.sj_base.specs.declared.program.CellInfo.{CellInfo}
use Rattle.sj_base.specs.declared.program.Lowered.{Lowered}
use Rattle.sj_base.specs.declared.program.Program.{Program}
use Rattle.sj_base.specs.declared.program.Machine.{Machine}
use Rattle.sj_base.specs.Array.{area}
use Rattle.sj_core.specs.Program.{distinct, dims_of, task_of, data_operands}
use Rattle.sj_base.specs.Mode.{is_scratch}
pub use Rattle.sj_base.specs.FirstFit.{first_fit}

-- the bytes of a tile: eight for each element
abbrev pub tile_bytes : Program → Cell → ℕ
tile_bytes p c = 8 * area (dims_of p c)

-- the bytes of a task's scratch buffers
abbrev pub scratch_bytes : Program → Lowered → ℕ
scratch_bytes p l = sum_by (λ a. tile_bytes p a.cell) (filter (λ a. is_scratch a.mode) l.accesses)

-- the bytes that a task needs on its node: each cell that it names once, and its scratch buffers;
-- a REDUX operand counts as its cell, which is as large as the partial copy that is worked on
abbrev pub footprint : Program → Task → ℕ
footprint p t =
    sum_by (tile_bytes p) (distinct (map (λ a. a.cell) (data_operands (task_of p t)))) + scratch_bytes p (task_of p t)

-- the bytes that each task needs on its node
pub record AreFootprints (p : Program) (footprints : List ℕ) : Type 0 where
  pub every_task : length footprints ≡ length p.tasks
  pub bytes : (t : Task) → t.0 < length p.tasks → slice_index_or footprints t.0 0 ≡ footprint p t
  pub small : (t : Task) → t.0 < length p.tasks → footprint p t ≤ 18446744073709551615

-- the bytes of a cell's block on a disk: a header of 24 and the elements
abbrev pub cell_block_bytes : CellInfo → ℕ
cell_block_bytes c = 24 + 8 * area c.dims

-- the bytes of all blocks
abbrev pub swap_need : Program → ℕ
swap_need p = sum_by cell_block_bytes p.cells

-- where a block lies: its disk, and the position of its first byte there
pub record Block : Type 0 where
  pub disk : DiskNo
  pub position : ℕ

-- the blocks of these cells in order, each on the first disk that it fits, behind what is taken there
abbrev pub place_after : List ℕ → List ℕ → List CellInfo → Option (List Block)
place_after sizes taken [] = Some []
place_after sizes taken (c ∷ cs) = elim (first_fit sizes taken (cell_block_bytes c)) [
  | None ↦ None
  | Some d ↦ option_map (λ blocks. (record { disk = record { 0 = d }; position = slice_index_or taken d 0 }) ∷ blocks) (place_after sizes (slice_set taken d (slice_index_or taken d 0 + cell_block_bytes c)) cs)
]

-- the block of each cell by first fit, in cell order, on disks of these sizes; none where one fits nowhere
abbrev pub place : Program → List ℕ → Option (List Block)
place p sizes = place_after sizes (map (λ n. 0) sizes) p.cells

-- the node to which a worker is bound
abbrev pub node_of : Machine → Worker → Node
node_of m w = record { 0 = w.0 % length m.nodes }

-- the bytes of a node
abbrev pub node_size : Machine → Node → ℕ
node_size m n = slice_index_or m.nodes n.0 0

-- the workers of a machine by number
abbrev pub workers_of : Machine → List Worker
workers_of m = map (λ n. record { 0 = n }) (range_with_len 0 m.workers)

-- the bytes of the largest node that has a worker
abbrev pub room : Machine → ℕ
room m = fold (λ most w. max most (node_size m (node_of m w))) 0 (workers_of m)
