-- The tiles of a run: shared tiles as the arrays that they hold, and where they are kept.
use Rattle.std.specs.Prelude.{◌≡◌, ◌<◌, true, false, Option, None, IfSome, IsTrue, All, List, [], fold, is_some, length, map, option_map}
use Rattle.std.specs.List.{slice_index_or, slice_set}
use Rattle.std.specs.declared.sync.Arc.{Arc}
use Rattle.sj_base.specs.declared.ids.Cell.{Cell}
use Rattle.sj_base.specs.declared.ids.Node.{Node}
use Rattle.sj_base.specs.declared.ids.Place.{Place}
use Rattle.sj_base.specs.declared.ids.Place.TheVariants.{Node as AtNode, Disk as OnDisk}
use Rattle.sj_base.specs.declared.program.Program.{Program}
use Rattle.sj_base.specs.declared.program.Machine.{Machine}
use Rattle.sj_base.specs.Array.{Array}
use Rattle.sj_core.specs.Arrays.{Arrays}
use Rattle.sj_core.specs.Coherent.{is_being_written}
use Rattle.sj_core.specs.Machine.{State, is_valid, mark}
use Rattle.sj_core.specs.Program.{dims_of}

-- the array of a shared tile, where there is one
abbrev pub array_in : {Z : Type 0} → Option (Arc Array Z) → Option Array
array_in tile = option_map (λ t. t.value) tile

-- the arrays in places
abbrev pub arrays_in : {Z : Type 0} → List (Option (Arc Array Z)) → List (Option Array)
arrays_in tiles = map array_in tiles

-- ---- where they are kept: for each cell a place for each node

abbrev pub tiles_of : List (List (Option Array)) → Cell → List (Option Array)
tiles_of tiles c = slice_index_or tiles c.0 []

-- the tile that is kept in the place of a node
abbrev pub tile_in : List (Option Array) → Node → Option Array
tile_in places n = slice_index_or places n.0 None

-- the tile that is kept of a cell at a node
abbrev pub tile_at : List (List (Option Array)) → Cell → Node → Option Array
tile_at tiles c n = tile_in (tiles_of tiles c) n

-- the tile that is kept of a cell at a place: none on a disk
abbrev pub tile_kept : List (List (Option Array)) → Cell → Place → Option Array
tile_kept tiles c (AtNode n) = tile_at tiles c n
tile_kept tiles c (OnDisk d) = None

-- a share of it can be given: at a node the place is there, and so is a tile
abbrev pub CanShare : List (List (Option Array)) → Cell → Place → Type 0
CanShare tiles c (AtNode n) = (c.0 < length tiles) × (n.0 < length (tiles_of tiles c)) × IsTrue (is_some (tile_at tiles c n))
CanShare tiles c (OnDisk d) = Unit {0}

-- the tile, or none, in the place of a node
abbrev pub with_tile : List (Option Array) → Node → Option Array → List (Option Array)
with_tile places n tile = slice_set places n.0 tile

-- no tile in any place
abbrev pub all_out : List (Option Array) → List (Option Array)
all_out places = map (λ x. None) places

-- the places of one cell changed
abbrev pub with_tiles_of : List (List (Option Array)) → Cell → (List (Option Array) → List (Option Array)) → List (List (Option Array))
with_tiles_of tiles c f = slice_set tiles c.0 (f (tiles_of tiles c))

-- the tiles of these cells are out
abbrev pub out_each : List Cell → List (List (Option Array)) → List (List (Option Array))
out_each cells tiles = fold (λ kept c. with_tiles_of kept c all_out) tiles cells

-- ---- when they are those of a state

-- the tiles are those of the copies at nodes, but for cells that a running task writes: their tiles are out.
-- What they hold is said where all disks tell
pub record HasTiles (p : Program) (m : Machine) (s : State) (A : Arrays) (Tells : Type 0) (tiles : List (List (Option Array))) : Type 0 where
  pub every_cell : length tiles ≡ length p.cells
  pub every_node : All (λ places. length places ≡ length m.nodes) tiles
  pub there : (c : Cell) (n : Node) → is_being_written p s c ≡ false → is_some (tile_at tiles c n) ≡ is_valid (mark s c n)
  pub out : (c : Cell) (n : Node) → is_being_written p s c ≡ true → tile_at tiles c n ≡ None
  pub dims : (c : Cell) (n : Node) → IfSome (tile_at tiles c n) (λ a. a.dims ≡ dims_of p c)
  pub arrays : Tells → (c : Cell) (n : Node) → IfSome (tile_at tiles c n) (λ a. a ≡ A c (AtNode n))
