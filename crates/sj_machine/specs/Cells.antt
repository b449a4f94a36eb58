-- The rows of cells, as a table.
use Rattle.std.specs.Prelude.{false, List, [], fold}
use Rattle.std.specs.List.{slice_index_or, slice_set}
use Rattle.sj_base.specs.declared.ids.Cell.{Cell}
use Rattle.sj_base.specs.declared.ids.Node.{Node}
use Rattle.sj_replica.specs.declared.mark.Mark.{Mark}
use Rattle.sj_replica.specs.Replica.{CellState, mark_in}

abbrev pub row_of : List CellState → Cell → CellState
row_of rows c = slice_index_or rows c.0 (record { marks = []; on_disk = false; writes = 0 })

-- what the cell is at the node
abbrev pub mark_at : List CellState → Node → Cell → Mark
mark_at rows n c = mark_in (row_of rows c) n

-- the table with the cell's row changed
abbrev pub with_row_of : List CellState → Cell → (CellState → CellState) → List CellState
with_row_of rows c f = slice_set rows c.0 (f (row_of rows c))

-- the table with the rows of these cells changed one after another
abbrev pub with_rows_of : List CellState → List Cell → (CellState → CellState) → List CellState
with_rows_of rows cs f = fold (λ kept c. with_row_of kept c f) rows cs
