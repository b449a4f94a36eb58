-- The row of one cell (CCPE 2011, "Data management": a replica is owner, shared or invalid).
use Rattle.std.specs.Prelude.{ℕ, ◌+◌, Bool, true, false, not, ◌&&◌, ◌||◌, nat_eq, Option, List, length, map, option_map, position, replicate}
use Rattle.std.specs.List.{list_any, range_with_len, slice_index_or, slice_set}
use Rattle.sj_base.specs.declared.ids.Node.{Node}
use Rattle.sj_replica.specs.declared.mark.Mark.{Mark}
use Rattle.sj_replica.specs.declared.mark.Mark.TheVariants.{Invalid, Valid}
use Rattle.sj_replica.specs.Mark.{is_valid}

-- what the cell is at each node, by number; whether its block on a disk is a copy; and how many tasks have written it
pub record CellState : Type 0 where
  pub marks : List Mark
  pub on_disk : Bool
  pub writes : ℕ

-- no copy of the cell, of so many nodes
abbrev pub no_copy : ℕ → CellState
no_copy nodes = record { marks = replicate nodes Invalid; on_disk = false; writes = 0 }

-- ---- reading

-- what the cell is at the node
abbrev pub mark_in : CellState → Node → Mark
mark_in row n = slice_index_or row.marks n.0 Invalid

-- a copy is at the node of this number, which is another than that
abbrev pub is_copy_beside : List Mark → ℕ → ℕ → Bool
is_copy_beside marks here k = not (nat_eq k here) && is_valid (slice_index_or marks k Invalid)

-- a copy is on a disk, or at another node
abbrev pub is_elsewhere_in : CellState → Node → Bool
is_elsewhere_in row n = row.on_disk || list_any (is_copy_beside row.marks n.0) (range_with_len 0 (length row.marks))

-- the node with the least number at which a copy is
abbrev pub first_node : CellState → Option Node
first_node row = option_map (λ k. record { 0 = k }) (position is_valid row.marks)

-- ---- changing

-- with this mark at the node
abbrev pub with_mark : CellState → Node → Mark → CellState
with_mark row n x = record row { marks = slice_set row.marks n.0 x }

-- its block on a disk is a copy
abbrev pub stored : CellState → CellState
stored row = record row { on_disk = true }

-- the one copy is the node's
abbrev pub owned_at : Node → CellState → CellState
owned_at n row = record { marks = slice_set (map (λ x. Invalid) row.marks) n.0 Valid; on_disk = false; writes = row.writes }

-- with one write more
abbrev pub written_once_more : CellState → CellState
written_once_more row = record row { writes = row.writes + 1 }
