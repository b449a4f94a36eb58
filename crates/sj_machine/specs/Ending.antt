-- What an end changes in the rows.
use Rattle.std.specs.Prelude.{ℕ, ◌+◌, ◌-◌, ◌<◌, ◌≤◌, ◌^◌, List, [], fold, length, take}
use Rattle.std.specs.List.{slice_index_or, slice_set}
use Rattle.sj_base.specs.declared.ids.Cell.{Cell}
use Rattle.sj_base.specs.declared.ids.Worker.{Worker}
use Rattle.sj_core.specs.Machine.{WorkerState}
use Rattle.sj_node.specs.Entry.{NodeEntry, pins_of, repinned}
use Rattle.sj_node.specs.Store.{Store, with_entries}
use Rattle.sj_replica.specs.Replica.{CellState, written_once_more}
use Rattle.sj_machine.specs.Cells.{with_rows_of}
use Rattle.sj_machine.specs.Stores.{row_at}

-- each of these cells is written once more
abbrev pub written_each : List Cell → List CellState → List CellState
written_each cells rows = with_rows_of rows cells written_once_more

-- a row can be written so many times more
abbrev pub CanCount : ℕ → CellState → Type 0
CanCount times row = row.writes + times < 2 ^ 64

-- entries with one pin less for each of these cells
abbrev pub unpinned_each : List Cell → List NodeEntry → List NodeEntry
unpinned_each cells entries = fold (λ es c. repinned (λ k. k - 1) c es) entries cells

-- there is a pin to take off for each of these cells
abbrev pub CanUnpin : List Cell → List NodeEntry → Type 0
CanUnpin cells entries = (i : ℕ) (d : Cell) → i < length cells → 0 < pins_of (unpinned_each (take i cells) entries) (slice_index_or cells i d)

-- a node's store when a worker lets these pins and so much scratch go
abbrev pub released : List Cell → ℕ → Store → Store
released cells scratch node = record (with_entries node (unpinned_each cells node.entries)) { scratch = node.scratch - scratch }

pub record CanRelease (cells : List Cell) (scratch : ℕ) (node : Store) : Type 0 where
  pub pins : CanUnpin cells node.entries
  pub held : scratch ≤ node.scratch

-- the rows of workers when one lets its pins and its scratch go
abbrev pub let_go : List WorkerState → Worker → List WorkerState
let_go ws w = slice_set ws w.0 (record (row_at ws w) { pins = []; scratch = 0 })
