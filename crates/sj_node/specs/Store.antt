-- A memory node as contracts see it: its size, the scratch bytes that are held on it, and its entries.
use Rattle.std.specs.Prelude.{ℕ, ◌+◌, ◌-◌, List, [], Option}
use Rattle.sj_base.specs.declared.ids.Cell.{Cell}
use Rattle.sj_node.specs.Entry.{NodeEntry, total, victim_cells}

-- its bytes, those held as scratch, how many entries there may be, and the entries, most recent first
pub record Store : Type 0 where
  pub size : ℕ
  pub scratch : ℕ
  pub limit : ℕ
  pub entries : List NodeEntry

abbrev pub store : ℕ → ℕ → ℕ → List NodeEntry → Store
store size scratch limit entries = record { size = size; scratch = scratch; limit = limit; entries = entries }

-- a node of this size with nothing on it
abbrev pub empty : ℕ → ℕ → Store
empty size limit = store size 0 limit []

abbrev pub with_entries : Store → List NodeEntry → Store
with_entries s es = record s { entries = es }

-- the bytes of its entries and its scratch
abbrev pub used_bytes : Store → ℕ
used_bytes s = total s.entries + s.scratch

abbrev pub free_bytes : Store → ℕ
free_bytes s = s.size - used_bytes s

-- the cells that a need evicts, least recent first, these cells spared; none where all spare entries don't make room for it
abbrev pub need_victims : List Cell → Store → ℕ → Option (List Cell)
need_victims held s need = victim_cells held s.entries (free_bytes s) need
