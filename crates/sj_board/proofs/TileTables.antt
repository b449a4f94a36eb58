-- The tiles of cells at nodes after some were written, and when they are still those of a state.
use Rattle.sj_board.proofs.Words.{[], All, all_out, arith, Array, Arrays, AtNode, Cell, dims_of, false, get_or, HasTiles, IfSome, is_being_written, is_some, is_valid, length, List, Machine, mark, Node, None, Option, Program, refl, State, subst, suc, sym, tile_at, tile_in, tiles_of, with_tile, with_tiles_of, zero, ℕ, ◌<◌, ◌∙◌, ◌∷◌, ◌≡◌, ◌≢◌, ◌⊎◌}
use Rattle.std.proofs.lemmas.{List.get_or-set_other, List.get_or-set_same, List.length-map, List.length-set, List.Elements.All-get_or, List.Elements.All-set}
use Rattle.sj_base.proofs.SameIds.{cell_of_number, other_node}
use Rattle.sj_core.proofs.{Placing.cells_differ, Reading.same_node}

-- a place for each node
abbrev pub Places : Type 0
Places = List (Option Array)

-- ---- the places of one cell

pub tiles-same : (tiles : List Places) (c : Cell) (f : Places → Places) → c.0 < length tiles → tiles_of (with_tiles_of tiles c f) c ≡ f (tiles_of tiles c)
tiles-same tiles c f h = get_or-set_same tiles c.0 (f (tiles_of tiles c)) [] h

pub tiles-other : (tiles : List Places) (c d : Cell) (f : Places → Places) → d ≢ c → tiles_of (with_tiles_of tiles c f) d ≡ tiles_of tiles d
tiles-other tiles c d f h = get_or-set_other tiles c.0 d.0 (f (tiles_of tiles c)) [] (λ e. h (cell_of_number d c e))

pub length-changed : (tiles : List Places) (c : Cell) (f : Places → Places) → length (with_tiles_of tiles c f) ≡ length tiles
length-changed tiles c f = length-set tiles c.0 (f (tiles_of tiles c))

pub wide-at : (w : ℕ) (tiles : List Places) (c : Cell) → All (λ places. length places ≡ w) tiles → c.0 < length tiles → length (tiles_of tiles c) ≡ w
wide-at w tiles c wide inside = All-get_or (λ (places : Places). length places ≡ w) tiles c.0 [] inside wide

-- each cell has as many places where the change keeps their number
pub wide-changed : (w : ℕ) (tiles : List Places) (c : Cell) (f : Places → Places) → ((places : Places) → length (f places) ≡ length places) → c.0 < length tiles → All (λ places. length places ≡ w) tiles → All (λ places. length places ≡ w) (with_tiles_of tiles c f)
wide-changed w tiles c f same inside wide = All-set (λ (places : Places). length places ≡ w) tiles c.0 (f (tiles_of tiles c)) (same (tiles_of tiles c) ∙ wide-at w tiles c wide inside) wide

-- ---- tiles that are out

pub out-length : (places : Places) → length (all_out places) ≡ length places
out-length places = length-map places (λ x. None)

pub out-none : (places : Places) (k : Node) → tile_in (all_out places) k ≡ None
out-none places k = at places k.0
  where
    at : (xs : Places) (i : ℕ) → get_or (all_out xs) i None ≡ None
    at [] i = refl
    at (x ∷ xs) zero = refl
    at (x ∷ xs) (suc i) = at xs i

-- ---- one tile

-- a place of a table in which one tile was written: it is as before, or that one
pub tile-cases : (tiles : List Places) (c : Cell) (n : Node) (tile : Option Array) → c.0 < length tiles → n.0 < length (tiles_of tiles c) → (d : Cell) (k : Node) →
    (((d ≡ c) × (k ≡ n) → ⊥) × (tile_at (with_tiles_of tiles c (λ places. with_tile places n tile)) d k ≡ tile_at tiles d k)) ⊎ ((d ≡ c) × (k ≡ n) × (tile_at (with_tiles_of tiles c (λ places. with_tile places n tile)) d k ≡ tile))
tile-cases tiles c n tile inside place d k = search (arith, cells_differ d c, same_node k n, tiles-same, tiles-other, get_or-set_same, get_or-set_other, other_node)

-- ---- the tiles of a state

module _ (p : Program) (m : Machine) (s s' : State) (A A' : Arrays) (Tells : Type 0) (tiles : List Places) (had : HasTiles p m s A Tells tiles) (being : (d : Cell) → is_being_written p s' d ≡ is_being_written p s d) where
  -- tiles stay where copies and arrays at nodes do
  pub HasTiles-kept : ((d : Cell) (k : Node) → is_valid (mark s' d k) ≡ is_valid (mark s d k)) → ((d : Cell) (k : Node) → A' d (AtNode k) ≡ A d (AtNode k)) → HasTiles p m s' A' Tells tiles
  HasTiles-kept valid same = record {
    every_cell = had.every_cell;
    every_node = had.every_node;
    there = λ d k resting. had.there d k (sym (being d) ∙ resting) ∙ sym (valid d k);
    out = λ d k written. had.out d k (sym (being d) ∙ written);
    dims = had.dims;
    arrays = λ tells d k. subst (λ (x : Array). IfSome (tile_at tiles d k) (λ a. a ≡ x)) (sym (same d k)) (had.arrays tells d k);
  }

  -- one tile was put, or went
  module _ (c : Cell) (n : Node) (inside : c.0 < length tiles) (place : n.0 < length (tiles_of tiles c)) (tile : Option Array) (marks : (d : Cell) (k : Node) → ((d ≡ c) × (k ≡ n) → ⊥) → mark s' d k ≡ mark s d k) (same : (d : Cell) (k : Node) → ((d ≡ c) × (k ≡ n) → ⊥) → A' d (AtNode k) ≡ A d (AtNode k)) where
    abbrev new : List Places
    new = with_tiles_of tiles c (λ places. with_tile places n tile)

    pub HasTiles-put : is_being_written p s c ≡ false → is_some tile ≡ is_valid (mark s' c n) → IfSome tile (λ a. a.dims ≡ dims_of p c) → (Tells → IfSome tile (λ a. a ≡ A' c (AtNode n))) → HasTiles p m s' A' Tells new
    HasTiles-put rests some dims arrays = record {
      every_cell = length-changed tiles c (λ places. with_tile places n tile) ∙ had.every_cell;
      every_node = wide-changed (length m.nodes) tiles c (λ places. with_tile places n tile) (λ places. length-set places n.0 tile) inside had.every_node;
      there = λ d k resting. grind (arith, tile-cases tiles c n tile inside place d k, had.there d k, being d, marks d k);
      out = λ d k written. grind (arith, tile-cases tiles c n tile inside place d k, had.out d k, being d);
      dims = λ d k. search (arith, tile-cases tiles c n tile inside place d k, had.dims d k, dims);
      arrays = λ tells d k. search (arith, tile-cases tiles c n tile inside place d k, had.arrays tells d k, arrays tells, same d k);
    }
