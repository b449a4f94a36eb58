-- The entries of a node: the cells that are valid or coming there, with their bytes and pins, most recent first.
use Rattle.std.specs.Prelude.{ℕ, Bool, not, ◌&&◌, nat_eq, Option, option_map, List, ◌∷◌, ◌++◌, map, filter, fold, reverse, sum_by, cond}
use Rattle.std.specs.List.{IsDistinct, list_any, find, zip}
use Rattle.std.specs.Option.{option_map_or}
use Rattle.sj_base.specs.declared.ids.Cell.{Cell}
use Rattle.sj_base.specs.Ids.{same_cell}
use Rattle.sj_base.specs.Victims.{victims}

pub record NodeEntry : Type 0 where
  pub cell : Cell
  pub bytes : ℕ
  pub pins : ℕ

-- an entry that nothing pins
abbrev pub unpinned : Cell → ℕ → NodeEntry
unpinned c bytes = record { cell = c; bytes = bytes; pins = 0 }

-- ---- one entry

abbrev pub is_of_cell : Cell → NodeEntry → Bool
is_of_cell c e = nat_eq c.0 e.cell.0

abbrev pub is_unpinned : NodeEntry → Bool
is_unpinned e = nat_eq e.pins 0

-- ---- lists of cells

-- no cell comes twice
abbrev pub AreDistinctCells : List Cell → Type 0
AreDistinctCells = IsDistinct same_cell

-- ---- reading

abbrev pub has_entry : List NodeEntry → Cell → Bool
has_entry es c = list_any (is_of_cell c) es

-- how many pins the cell's entry has
abbrev pub pins_of : List NodeEntry → Cell → ℕ
pins_of es c = option_map_or (λ e. e.pins) (find (is_of_cell c) es) 0

-- the bytes of all of them
abbrev pub total : List NodeEntry → ℕ
total es = sum_by (λ e. e.bytes) es

-- ---- changing

-- without the cell's entry
abbrev pub without_entry : Cell → List NodeEntry → List NodeEntry
without_entry c es = filter (λ e. not (is_of_cell c e)) es

-- the cell's entry goes before the others
abbrev pub entry_to_front : Cell → List NodeEntry → List NodeEntry
entry_to_front c es = filter (is_of_cell c) es ++ without_entry c es

-- the pins of the cell's entry are f of those that it had
abbrev pub repinned : (ℕ → ℕ) → Cell → List NodeEntry → List NodeEntry
repinned f c es = map (λ e. cond (is_of_cell c e) (record e { pins = f e.pins }) e) es

-- the entry is that of one of these cells
abbrev pub is_of_cells : List Cell → NodeEntry → Bool
is_of_cells cells e = list_any (λ c. is_of_cell c e) cells

-- without the entries of these cells
abbrev pub without_all : List Cell → List NodeEntry → List NodeEntry
without_all cells es = filter (λ e. not (is_of_cells cells e)) es

-- these cells go to the front one after another, with so many bytes and without pins
abbrev pub put_cells : List Cell → List ℕ → List NodeEntry → List NodeEntry
put_cells cells bytes es = fold (λ kept new. unpinned new.0 new.1 ∷ kept) es (zip cells bytes)

-- these cells come in the place of the victims
abbrev pub admitted : List Cell → List Cell → List ℕ → List NodeEntry → List NodeEntry
admitted victims cells bytes es = put_cells cells bytes (without_all victims es)

-- ---- choosing

-- nothing pins the entry, and it is none of these cells'
abbrev pub is_spare : List Cell → NodeEntry → Bool
is_spare held e = is_unpinned e && not (is_of_cells held e)

-- the cells that a need evicts beside so many free bytes, least recent first, these cells spared; none where all
-- spare entries don't make room for it
abbrev pub victim_cells : List Cell → List NodeEntry → ℕ → ℕ → Option (List Cell)
victim_cells held es free need =
    option_map (λ vs. map (λ e. e.cell) (reverse vs)) (victims (λ e. e.bytes) (is_spare held) es free need)
