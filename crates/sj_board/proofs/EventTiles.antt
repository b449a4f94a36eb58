-- What claims, drops and moves leave of a run: its blocks, and its tiles.
use Rattle.sj_board.proofs.Words.{[], a_transfer, Access, after, All, AllTell, ap, arith, Array, Arrays, arrays_after, AtNode, Bool, CanHappen, CanShare, Cell, cell_state, CellState, Claim, dims_of, DiskNo, Drop, Equations, Event, extent_of, false, has_copy, has_happened, HasTiles, HoldsArray, HoldsBlocks, IfSome, inl, inr, Invalid, is_being_written, is_coming_by, is_home, is_leaving, is_some, is_valid, IsBlockCopyOf, IsShareOf, IsSomeAnd, IsSound, IsStored, IsTileMoved, IsTileOf, IsWrittenOut, Keeps, kept_at, length, List, Machine, Mark, mark, mark_in, May, MayHappen, Move, Moved, mover_of, Node, None, on_disk, OnDisk, Option, Place, Program, refl, Rows, run_arrays, same_cell, Some, source_of, StandingBy, State, state, stored, subst, sym, Task, task_of, tile_at, tile_kept, tiles_of, Transfer, transfer, true, unwrap_or, Valid, with_event, with_mark, with_row, with_tile, with_tiles_of, Worker, writes, ℕ, ◌&&◌, ◌+◌, ◌<◌, ◌∙◌, ◌≡◌}
use Rattle.std.proofs.lemmas.{Bool.and_parts, Bool.cases_Bool, Bool.false_from_ne_true, Bool.false≢true, List.get_or-set_same, List.Elements.All-get_or, List.Elements.All-weaker, List.Quantifiers.position-Some}
use Rattle.sj_base.proofs.{Options.IfSome-at, SameIds.same_cell-is, SameIds.same_cell-itself, SameIds.same_place-itself}
use Rattle.sj_core.proofs.{Claiming.claim-on_disk, Claiming.claim-rested, Claiming.claim-rests, Claiming.claim-valid, Claiming.claim-writes, Eviction.evicted-after, Finding.being_written-by, Finding.both_pass, Finding.second_fails, Placing.cells_differ, Placing.home-is, Placing.mark-cases, Placing.on_disk-same, Placing.owned-fails, Placing.row-cases, Placing.same_place-is, Placing.writes-same, Reading.mark_in-same, Reading.no_row, Replicas.leaving_by-leaves, Replicas.leaving_by-valid, States.one-mover}
use Rattle.sj_base.specs.Ids.{same_place}
use Rattle.sj_machine.proofs.Happening.{mark-inside}
use Rattle.sj_board.proofs.{Answering.rows-state, Answering.to-rows, Keeping.copy-on_disk, Keeping.has-room, Keeping.HoldsArray-moved, Keeping.HoldsBlocks-kept, Keeping.IsSomeAnd-map, Keeping.IsStored-kept, Keeping.keeps-event, Keeping.sound_state, TileTables.HasTiles-kept, TileTables.HasTiles-put, TileTables.Places, TileTables.wide-at}

same-bool : (x y : Bool) → (x ≡ false → y ≡ false) → (y ≡ false → x ≡ false) → x ≡ y
same-bool x y f g = search (arith, cases_Bool)

-- a mark that was written, and the others
mark-here : (s : State) (c : Cell) (n : Node) (x : Mark) → c.0 < length s.cells → n.0 < length (cell_state s c).marks → mark (with_row s c (with_mark (cell_state s c) n x)) c n ≡ x
mark-here s c n x inside within = search (arith, get_or-set_same, mark_in-same, no_row)

mark-far : (s : State) (c : Cell) (n : Node) (x : Mark) (d : Cell) (k : Node) → ((d ≡ c) × (k ≡ n) → ⊥) → mark (with_row s c (with_mark (cell_state s c) n x)) d k ≡ mark s d k
mark-far s c n x d k far = search (arith, mark-cases)

-- a node from which a cell is fetched has a copy
source-there : (p : Program) (m : Machine) (s : State) (c : Cell) (k : Node) → source_of p m s c ≡ Some (AtNode k) → is_valid (mark s c k) ≡ true
source-there p m s c k source = search (arith, position-Some, false≢true)

module _ {D : Type 0} {eq : Equations} (size faults mismatches : D → ℕ) (held : D → Option (List ℕ)) (b : StandingBy eq D) (rows : Rows) (tiles : List Places) (spare : ℕ) (keeps : Keeps size faults mismatches held b rows tiles spare) where
  abbrev p : Program
  p = b.program

  abbrev m : Machine
  m = b.machine

  abbrev s : State
  s = state b

  abbrev A : Arrays
  A = run_arrays b

  h : IsSound p m s
  h = sound_state size faults mismatches held b rows tiles spare keeps

  -- a mark that isn't that of no copy is one of a place of the table
  there : (test : Mark → Bool) → test Invalid ≡ false → (c : Cell) (n : Node) → test (mark s c n) ≡ true → (c.0 < length tiles) × (n.0 < length (tiles_of tiles c))
  there test none c n passes =
      let inside = mark-inside test none s c n passes in
      let wide : length (cell_state s c).marks ≡ length m.nodes = All-get_or (λ (row : CellState). length row.marks ≡ length m.nodes) s.cells c.0 no_row inside.0 h.coherent.state.rows.marks in
      let cell : c.0 < length tiles = omega (arith, inside.0, h.coherent.state.rows.cells, keeps.tiles.every_cell) in
      (cell, omega (arith, inside.1, wide, wide-at (length m.nodes) tiles c keeps.tiles.every_node cell))

  -- a cell with a mark that neither the writer's own nor that of no copy could be isn't being written
  rests : (test : Mark → Bool) → test Valid ≡ false → test Invalid ≡ false → (c : Cell) (n : Node) → test (mark s c n) ≡ true → is_being_written p s c ≡ false
  rests test valid none c n passes = search (arith, false_from_ne_true, being_written-by, h.coherent.writers.owned, owned-fails, false≢true)

  -- a tile that is there is the run's
  pub tile_there : (c : Cell) (n : Node) → is_some (tile_at tiles c n) ≡ true → IsSomeAnd (tile_at tiles c n) (IsTileOf held b c (AtNode n)) × IsTileOf held b c (AtNode n) (kept_at tiles n c)
  tile_there c n some = by_tile (tile_at tiles c n) some (keeps.tiles.dims c n) (λ tells. keeps.tiles.arrays tells c n)
    where
      by_tile : (o : Option Array) → is_some o ≡ true → IfSome o (λ a. a.dims ≡ dims_of p c) → (AllTell held b → IfSome o (λ a. a ≡ A c (AtNode n))) → IsSomeAnd o (IsTileOf held b c (AtNode n)) × IsTileOf held b c (AtNode n) (unwrap_or o (record { dims = record { rows = 0; cols = 0 }; elements = [] }))
      by_tile None some dims arrays = absurd (false≢true some)
      by_tile (Some a) some dims arrays = (record { dims = dims; array = arrays }, record { dims = dims; array = arrays })

  -- an event after which each copy on a disk is one that was there, written as often
  pub keeps-blocks_stay : (e : Event) → CanHappen b e → (tiles' : List Places) (spare' : ℕ) → ((c : Cell) (d : DiskNo) → arrays_after eq p m A e c (OnDisk d) ≡ A c (OnDisk d)) → ((c : Cell) → on_disk (after p m s e) c ≡ true → (on_disk s c ≡ true) × (writes (after p m s e) c ≡ writes s c)) → HasTiles p m (after p m s e) (arrays_after eq p m A e) (AllTell held b) tiles' → spare' + 1 ≡ spare → Keeps size faults mismatches held (with_event b e) (has_happened rows e) tiles' spare'
  keeps-blocks_stay e can tiles' spare' same kept has left =
      keeps-event size faults mismatches held b rows tiles spare keeps e tiles' spare' can (HoldsBlocks-kept held p m s (after p m s e) A (arrays_after eq p m A e) (AllTell held b) b.disks same kept keeps.sound.blocks) has left

  -- a move that is under way can end
  can_end : (w : Worker) (c : Cell) (from to : Place) → transfer s w ≡ Some (a_transfer c from to) → CanHappen b (Moved c from to)
  can_end w c from to under_way = subst (λ (v : Worker). transfer s v ≡ Some (a_transfer c from to)) (one-mover p m s c from to w h.coherent under_way) under_way

  -- ---- a claim

  pub keeps-claim : (t : Task) (w : Worker) → CanHappen b (Claim t w) → (spare' : ℕ) → spare' + 1 ≡ spare → Keeps size faults mismatches held (with_event b (Claim t w)) (has_happened rows (Claim t w)) tiles spare'
  keeps-claim t w can spare' left =
      let s' : State = after p m s (Claim t w) in
      keeps-blocks_stay (Claim t w) can tiles spare' (λ c d. refl) (λ c on. (sym (claim-on_disk p m s t w s' can (evicted-after p m s t w) c) ∙ on, claim-writes p m s t w s' can (evicted-after p m s t w) c))
      (HasTiles-kept p m s s' A (arrays_after eq p m A (Claim t w)) (AllTell held b) tiles keeps.tiles (λ d. same-bool (is_being_written p s' d) (is_being_written p s d) (claim-rested p m s h t w s' can (evicted-after p m s t w) d) (claim-rests p m s h t w s' can (evicted-after p m s t w) d)) (claim-valid p m s h t w s' can (evicted-after p m s t w)) (λ d k. refl)) left

  -- ---- a drop

  module _ (c : Cell) (n : Node) (can : CanHappen b (Drop c n)) where
    pub drop-place : (c.0 < length tiles) × (n.0 < length (tiles_of tiles c))
    drop-place = there is_leaving refl c n can.leaving

    pub keeps-drop : (spare' : ℕ) → spare' + 1 ≡ spare → Keeps size faults mismatches held (with_event b (Drop c n)) (has_happened rows (Drop c n)) (with_tiles_of tiles c (λ places. with_tile places n None)) spare'
    keeps-drop spare' left =
        let row : CellState = with_mark (cell_state s c) n Invalid in
        let at = mark-inside is_leaving refl s c n can.leaving in
        keeps-blocks_stay (Drop c n) can (with_tiles_of tiles c (λ places. with_tile places n None)) spare' (λ d k. refl) (λ d on. (sym (on_disk-same s c row refl d) ∙ on, writes-same s c row refl d))
        (HasTiles-put p m s (after p m s (Drop c n)) A (arrays_after eq p m A (Drop c n)) (AllTell held b) tiles keeps.tiles (λ d. refl) c n drop-place.0 drop-place.1 None (mark-far s c n Invalid) (λ d k far. refl) (rests is_leaving refl refl c n can.leaving) (ap is_valid (sym (mark-here s c n Invalid at.0 at.1))) tt (λ tells. tt)) left

  -- ---- a move begins

  module _ (c : Cell) (from to : Place) (can : CanHappen b (Move c from to)) where
    pub keeps-begin : (spare' : ℕ) → spare' + 1 ≡ spare → Keeps size faults mismatches held (with_event b (Move c from to)) (has_happened rows (Move c from to)) tiles spare'
    keeps-begin spare' left =
        keeps-blocks_stay (Move c from to) can tiles spare' (λ d k. refl) (λ d on. (on, refl))
        (HasTiles-kept p m s (after p m s (Move c from to)) A (arrays_after eq p m A (Move c from to)) (AllTell held b) tiles keeps.tiles (λ d. refl) (λ d k. refl) (λ d k. refl)) left

    -- of a copy at a node that is there, and rests, a share can be given, and it is the run's
    share_there : (n : Node) → is_valid (mark s c n) ≡ true → is_being_written p s c ≡ false → CanShare tiles c (AtNode n) × IsShareOf held b c (AtNode n) (tile_at tiles c n)
    share_there n valid resting =
        let at = there is_valid refl c n valid in
        let some = keeps.tiles.there c n resting ∙ valid in
        ((at.0, at.1, some), (tile_there c n some).0)

    -- and so it is of the source
    source_share : CanShare tiles c from × IsShareOf held b c from (tile_kept tiles c from)
    source_share = by_places from to can
      where
        by_places : (q k : Place) → CanHappen b (Move c q k) → CanShare tiles c q × IsShareOf held b c q (tile_kept tiles c q)
        by_places (OnDisk e) k move = (tt, refl)
        by_places (AtNode n) (AtNode k) move = share_there n (source-there p m s c n move.source) (rests (is_coming_by (mover_of s c (AtNode n) (AtNode k))) refl refl c k move.coming)
        by_places (AtNode n) (OnDisk d) move = share_there n (leaving_by-valid (mover_of s c (AtNode n) (OnDisk d)) (mark s c n) move.leaving) (rests is_leaving refl refl c n (leaving_by-leaves (mover_of s c (AtNode n) (OnDisk d)) (mark s c n) move.leaving))

    pub begin-can_share : CanShare tiles c from
    begin-can_share = source_share.0

    pub begin-share : (b' : StandingBy eq D) (share : Option Array) → b ≡ b' → share ≡ tile_kept tiles c from → IsShareOf held b' c from share
    begin-share b' share same is = subst (λ (x : StandingBy eq D). IsShareOf held x c from share) same (subst (λ (o : Option Array). IsShareOf held b c from o) (sym is) source_share.1)

  -- ---- a move into a node ends

  module _ (w : Worker) (c : Cell) (from : Place) (n : Node) (under_way : transfer s w ≡ Some (a_transfer c from (AtNode n))) where
    coming : is_coming_by w (mark s c n) ≡ true
    coming = (h.coherent.transfers.target w (a_transfer c from (AtNode n)) under_way).1

    its_place : (c.0 < length tiles) × (n.0 < length (tiles_of tiles c))
    its_place = there (is_coming_by w) refl c n coming

    pub in-places : All (λ places. n.0 < length places) tiles
    in-places = All-weaker (λ (places : Places). length places ≡ length m.nodes) (λ (places : Places). n.0 < length places) (λ places wide. omega (arith, wide, its_place.1, wide-at (length m.nodes) tiles c keeps.tiles.every_node its_place.0)) tiles keeps.tiles.every_node

    abbrev moved_in : Arrays
    moved_in = arrays_after eq p m A (Moved c from (AtNode n))

    -- the cell has at the node what it has where it came from, and nothing else changes
    array-here : moved_in c (AtNode n) ≡ A c from
    array-here = both_pass (same_place (AtNode n) (AtNode n)) (same_cell c c) (A c from) (A c (AtNode n)) (same_place-itself (AtNode n)) (same_cell-itself c)

    array-far : (d : Cell) (k : Node) → ((d ≡ c) × (k ≡ n) → ⊥) → moved_in d (AtNode k) ≡ A d (AtNode k)
    array-far d k far = search (arith, cases_Bool, and_parts, same_place-is, same_cell-is)

    pub keeps-moved_in : (tile : Array) → IsTileOf held b c from tile → (spare' : ℕ) → spare' + 1 ≡ spare → Keeps size faults mismatches held (with_event b (Moved c from (AtNode n))) (has_happened rows (Moved c from (AtNode n))) (with_tiles_of tiles c (λ places. with_tile places n (Some tile))) spare'
    keeps-moved_in tile is spare' left =
        let row : CellState = with_mark (cell_state s c) n Valid in
        let at = mark-inside (is_coming_by w) refl s c n coming in
        keeps-blocks_stay (Moved c from (AtNode n)) (can_end w c from (AtNode n) under_way) (with_tiles_of tiles c (λ places. with_tile places n (Some tile))) spare' (λ d k. refl) (λ d on. (sym (on_disk-same s c row refl d) ∙ on, writes-same s c row refl d))
        (HasTiles-put p m s (after p m s (Moved c from (AtNode n))) A moved_in (AllTell held b) tiles keeps.tiles (λ d. refl) c n its_place.0 its_place.1 (Some tile) (mark-far s c n Valid) array-far (rests (is_coming_by w) refl refl c n coming) (ap is_valid (sym (mark-here s c n Valid at.0 at.1))) is.dims (λ tells. is.array tells ∙ sym array-here)) left

  -- ---- a move out to a disk ends

  module _ (w : Worker) (c : Cell) (from : Place) (d : DiskNo) (under_way : transfer s w ≡ Some (a_transfer c from (OnDisk d))) where
    abbrev out_row : CellState
    out_row = stored (cell_state s c)

    abbrev s1 : State
    s1 = after p m s (Moved c from (OnDisk d))

    abbrev moved_out : Arrays
    moved_out = arrays_after eq p m A (Moved c from (OnDisk d))

    count : (x : Cell) → writes s1 x ≡ writes s x
    count x = writes-same s c out_row refl x

    marks-stay : (x : Cell) (k : Node) → mark s1 x k ≡ mark s x k
    marks-stay x k = elim (row-cases s c out_row x) [ inl same ↦ ap (λ (row : CellState). mark_in row k) same | inr (e, is) ↦ ap (λ (row : CellState). mark_in row k) is ∙ ap (λ (y : Cell). mark s y k) (sym e) ]

    -- another cell has a copy on a disk where it had one
    was : (x : Cell) (k : DiskNo) → (x ≡ c → ⊥) → has_copy p m s1 x (OnDisk k) ≡ true → has_copy p m s x (OnDisk k) ≡ true
    was x k other copy = elim (row-cases s c out_row x) [ inl same ↦ ap (λ (row : CellState). row.on_disk && is_home p m x k) (sym same) ∙ copy | inr (e, is) ↦ absurd (other e) ]

    -- the disk of the cell is the one
    home : (k : DiskNo) → has_copy p m s1 c (OnDisk k) ≡ true → k ≡ d
    home k copy = (let at : Some d ≡ Some k = sym (h.coherent.state.blocks.aimed w (a_transfer c from (OnDisk d)) d under_way refl) ∙ home-is p m c k (copy-on_disk p m s1 c k copy).1 in cc)

    module _ (written : IsSomeAnd (extent_of b.disks.directory c.0) (IsBlockCopyOf held b c from)) where
      blocks-out : HoldsBlocks held p m s1 moved_out (AllTell held b) b.disks
      blocks-out = record {
        placed = keeps.sound.blocks.placed;
        stored = λ x k copy. elim (cells_differ x c) [
          | inr other ↦ IsSomeAnd-map (IsStored s x) (IsStored s1 x) (λ e is. IsStored-kept s s1 x e (count x) is) (extent_of b.disks.directory x.0) (keeps.sound.blocks.stored x k (was x k other copy))
          | inl e ↦ subst (λ (y : Cell). IsSomeAnd (extent_of b.disks.directory y.0) (IsStored s1 y)) (sym e) (IsSomeAnd-map (IsBlockCopyOf held b c from) (IsStored s1 c) (λ f held_there. IsStored-kept s s1 c f (count c) held_there.last) (extent_of b.disks.directory c.0) written)
        ];
        blocks = λ tells x k copy. elim (cells_differ x c) [
          | inr other ↦ IsSomeAnd-map (HoldsArray held b.disks.disks p s A x (OnDisk k)) (HoldsArray held b.disks.disks p s1 moved_out x (OnDisk k)) (λ e is. HoldsArray-moved held b.disks.disks p s s1 A moved_out x (OnDisk k) (OnDisk k) e (second_fails (same_place (OnDisk k) (OnDisk d)) (same_cell c x) (A c from) (A x (OnDisk k)) (false_from_ne_true (same_cell c x) (λ same. other (sym (same_cell-is c x same))))) (count x) is) (extent_of b.disks.directory x.0) (keeps.sound.blocks.blocks tells x k (was x k other copy))
          | inl e ↦ subst (λ (y : Cell). has_copy p m s1 y (OnDisk k) ≡ true → IsSomeAnd (extent_of b.disks.directory y.0) (HoldsArray held b.disks.disks p s1 moved_out y (OnDisk k))) (sym e)
              (λ here. IsSomeAnd-map (IsBlockCopyOf held b c from) (HoldsArray held b.disks.disks p s1 moved_out c (OnDisk k)) (λ f held_there. HoldsArray-moved held b.disks.disks p s s1 A moved_out c from (OnDisk k) f (both_pass (same_place (OnDisk k) (OnDisk d)) (same_cell c c) (A c from) (A c (OnDisk k)) (ap (λ (j : DiskNo). same_place (OnDisk j) (OnDisk d)) (home k here) ∙ same_place-itself (OnDisk d)) (same_cell-itself c)) (count c) (held_there.array tells)) (extent_of b.disks.directory c.0) written) copy
        ];
      }

      pub keeps-moved_out : (spare' : ℕ) → spare' + 1 ≡ spare → Keeps size faults mismatches held (with_event b (Moved c from (OnDisk d))) (has_happened rows (Moved c from (OnDisk d))) tiles spare'
      keeps-moved_out spare' left =
          keeps-event size faults mismatches held b rows tiles spare keeps (Moved c from (OnDisk d)) tiles spare' (can_end w c from (OnDisk d) under_way) blocks-out
          (HasTiles-kept p m s s1 A moved_out (AllTell held b) tiles keeps.tiles (λ x. refl) (λ x k. ap is_valid (marks-stay x k)) (λ x k. refl)) left

  -- ---- as the code finds it

  module _ (b' : StandingBy eq D) (same : b ≡ b') where
    -- an event that can happen to the run can happen to its rows, and the trace has room for it
    pub rows-can : (e : Event) → CanHappen b' e → MayHappen rows e
    rows-can e can = to-rows size faults mismatches held b rows tiles spare keeps b' same (λ p m s. May p m s e) can

    pub now-can : (e : Event) → CanHappen b' e → CanHappen b e
    now-can e can = subst (λ (x : StandingBy eq D). CanHappen x e) (sym same) can

    pub event-room : (e : Event) → CanHappen b' e → 0 < spare
    event-room e can = has-room size faults mismatches held b rows tiles spare keeps e (now-can e can)

    -- the transfer of a worker that the rows end
    module _ (w : Worker) (x : Transfer) (found : transfer rows.state w ≡ Some x) where
      its-transfer : (to : Place) → x.to ≡ to → transfer s w ≡ Some (a_transfer x.cell x.from to)
      its-transfer to at = ap (λ (z : State). transfer z w) (sym (rows-state size faults mismatches held b rows tiles spare keeps)) ∙ found ∙ ap (λ (q : Place). Some (a_transfer x.cell x.from q)) at

      pub moved-room : 0 < spare
      moved-room = has-room size faults mismatches held b rows tiles spare keeps (Moved x.cell x.from x.to) (can_end w x.cell x.from x.to (its-transfer x.to refl))

      module _ (n : Node) (at : x.to ≡ AtNode n) where
        pub found-in_cell : x.cell.0 < length tiles
        found-in_cell = (its_place w x.cell x.from n (its-transfer (AtNode n) at)).0

        pub found-in_places : All (λ places. n.0 < length places) tiles
        found-in_places = in-places w x.cell x.from n (its-transfer (AtNode n) at)

        pub found-moved_in : (tile : Array) → IsTileMoved held b' w tile → (spare' : ℕ) → spare' + 1 ≡ spare → Keeps size faults mismatches held (with_event b (Moved x.cell x.from x.to)) (has_happened rows (Moved x.cell x.from x.to)) (with_tiles_of tiles x.cell (λ places. with_tile places n (Some tile))) spare'
        found-moved_in tile given spare' left =
            let its = IfSome-at (λ (y : Transfer). IsTileOf held b y.cell y.from tile) (transfer s w) x (its-transfer x.to refl) (subst (λ (z : StandingBy eq D). IsTileMoved held z w tile) (sym same) given) in
            subst (λ (q : Place). Keeps size faults mismatches held (with_event b (Moved x.cell x.from q)) (has_happened rows (Moved x.cell x.from q)) (with_tiles_of tiles x.cell (λ places. with_tile places n (Some tile))) spare') (sym at)
            (keeps-moved_in w x.cell x.from n (its-transfer (AtNode n) at) tile its spare' left)

      pub found-moved_out : (d : DiskNo) → x.to ≡ OnDisk d → IsWrittenOut held b' w → (spare' : ℕ) → spare' + 1 ≡ spare → Keeps size faults mismatches held (with_event b (Moved x.cell x.from x.to)) (has_happened rows (Moved x.cell x.from x.to)) tiles spare'
      found-moved_out d at given spare' left =
          let its = IfSome-at (λ (y : Transfer). IsSomeAnd (extent_of b.disks.directory y.cell.0) (IsBlockCopyOf held b y.cell y.from)) (transfer s w) x (its-transfer x.to refl) (subst (λ (z : StandingBy eq D). IsWrittenOut held z w) (sym same) given) in
          subst (λ (q : Place). Keeps size faults mismatches held (with_event b (Moved x.cell x.from q)) (has_happened rows (Moved x.cell x.from q)) tiles spare') (sym at)
          (keeps-moved_out w x.cell x.from d (its-transfer (OnDisk d) at) its spare' left)

-- what is so of a program, of a worker's node and of a task's operands is so of what the code read of them
pub as_read : (P : Program → Node → List Access → Type 0) (p q : Program) (n at : Node) (t : Task) (accesses : List Access) → q ≡ p → at ≡ n → accesses ≡ (task_of q t).accesses → P p n (task_of p t).accesses → P q at accesses
as_read P p q n at t accesses program bound of_task is =
    subst (λ (x : Program). P x at accesses) (sym program)
    (subst (λ (j : Node). P p j accesses) (sym bound)
    (subst (P p n) (sym (of_task ∙ ap (λ (x : Program). (task_of x t).accesses) program)) is))
