-- What a run changes in the rows.
use Rattle.std.specs.Prelude.{◌≡◌, ℕ, true, nat_eq, All, List, if◌then◌else◌}
use Rattle.sj_base.specs.declared.ids.Cell.{Cell}
use Rattle.sj_base.specs.declared.ids.Node.{Node}
use Rattle.sj_node.specs.Entry.{NodeEntry, is_of_cells, without_all}
use Rattle.sj_node.specs.Store.{Store, with_entries}
use Rattle.sj_replica.specs.Replica.{CellState, owned_at}
use Rattle.sj_machine.specs.Cells.{with_rows_of}

-- each of these cells is the node's own
abbrev pub owned_each : Node → List Cell → List CellState → List CellState
owned_each n cells rows = with_rows_of rows cells (owned_at n)

-- none of these cells has a pinned entry
abbrev pub AreUnpinned : List Cell → List NodeEntry → Type 0
AreUnpinned cells entries = All (λ e. is_of_cells cells e ≡ true → e.pins ≡ 0) entries

-- a node's store without the entries of these cells, but for the one node, which keeps them
abbrev pub evicted_at : Node → List Cell → ℕ → Store → Store
evicted_at n cells k node = if nat_eq k n.0 then node else with_entries node (without_all cells node.entries)
