-- What a store and a fetch of a disk leave: the same state, over disks that hold what they held.
use Rattle.sj_board.proofs.Words.{a_transfer, All, ap, area, AreGivenBack, arith, Array, AtNode, Block, block, block_bytes, block_of, Bool, Cell, Dims, dims_of, disk_of, DiskNo, DiskRefusal, Equations, Err, Extent, extent_of, Fetches, FitsSigned, has_copy, header, Holds, HoldsArray, IfSome, inl, inr, is_ok, IsBlock, IsBlockCopyOf, IsGivenBack, IsLastWritten, IsSome, IsSomeAnd, IsStored, IsTileMoved, IsTileOf, IsTransferTo, IsWrittenOut, Keeps, KeepsBlock, last_store, LendingState, length, List, Machine, None, Ok, OnDisk, OnOk, Option, option_map, Place, Program, refl, Result, Rows, run_arrays, slice_get, Some, StandingBy, State, state, Stores, subst, sym, TellsBytes, Transfer, transfer, true, w64, with_store, Worker, writes, ℕ, ℤ, ◌<◌, ◌∙◌, ◌≡◌, ◌≢◌, ◌⊎◌}
use Rattle.std.proofs.lemmas.{Bool.false≢true, List.get_or-set_other, List.get_or-set_same, List.Elements.All-get_or, List.Elements.AllZip-get_or, List.Elements.length_all_zip, Option.get_or_from_slice_get, Option.none-some, Option.same_Some, Option.slice_get_within}
use Rattle.sj_base.proofs.{Options.IfSome-from, Options.IsSomeAnd-at, Options.IsSomeAnd-from, SameIds.cell_of_number}
use Rattle.sj_core.proofs.Placing.{cells_differ, home-is}
use Rattle.sj_edge.proofs.GivenBackLemmas.{all_given_back-then}
use Rattle.sj_disk.proofs.{Returning.within-directory, Sounding.some-and, Uniting.length-block}
use Rattle.sj_board.proofs.Keeping.{copy-on_disk}

-- disks that all told still tell
pub tell-still : {D : Type 0} (size faults mismatches : D → ℕ) (held : D → Option (List ℕ)) (xs ys : List D) → AreGivenBack size faults mismatches held xs ys → All (λ x. IsSome (held x)) xs → (k : ℕ) (y : D) → slice_get ys k ≡ Some y → IsSome (held y)
tell-still {D} size faults mismatches held xs ys back all k y there =
    let R : D → D → Type 0 = IsGivenBack size faults mismatches held in
    let inside : k < length xs = omega (arith, slice_get_within ys k y there, length_all_zip R xs ys back) in
    let one = AllZip-get_or R xs ys k y y back inside in
    let was = All-get_or (λ x. IsSome (held x)) xs k y inside all in
    subst (λ (z : D). IsSome (held z)) (get_or_from_slice_get ys k y y there) (one.tells_as_before ∙ was)

-- what follows where the call ended well
when-ok : {A : Type 0} (r : Result A DiskRefusal) (P Q : Type 0) → OnOk r P → (is_ok r ≡ true → P → Q) → OnOk r Q
when-ok (Ok u) P Q h f = f refl h
when-ok (Err x) P Q h f = tt

module _ {D : Type 0} {eq : Equations} (size faults mismatches : D → ℕ) (held : D → Option (List ℕ)) (b : StandingBy eq D) (rows : Rows) (tiles : List (List (Option Array))) (spare : ℕ) (keeps : Keeps size faults mismatches held b rows tiles spare) (c : Cell) where
  abbrev p : Program
  p = b.program

  abbrev m : Machine
  m = b.machine

  abbrev s : State
  s = state b

  -- the extent of a cell that has a disk
  pub extent : (d : DiskNo) → disk_of p m c ≡ Some d → (e : Extent) × (extent_of b.disks.directory c.0 ≡ Some e) × (e.length ≡ area (dims_of p c)) × (e.disk ≡ d)
  extent d home = by_block (block_of p m c) (keeps.sound.blocks.placed c) home
    where
      by_block : (o : Option Block) → IfSome o (λ k. IsSomeAnd (extent_of b.disks.directory c.0) (IsBlock p c k)) → option_map (λ (k : Block). k.disk) o ≡ Some d → (e : Extent) × (extent_of b.disks.directory c.0 ≡ Some e) × (e.length ≡ area (dims_of p c)) × (e.disk ≡ d)
      by_block None placed is = absurd (none-some d is)
      by_block (Some k) placed is =
          let found = IsSomeAnd-at (IsBlock p c k) (extent_of b.disks.directory c.0) placed in
          (found.0, found.1, found.2.whole, found.2.disk ∙ same_Some k.disk d is)

  -- the same state over other disks, where the extents and the blocks of copies stay
  keeps-over : (new : LendingState D) → ((x : Cell) → IfSome (block_of p m x) (λ k. IsSomeAnd (extent_of new.set.directory x.0) (IsBlock p x k))) → ((x : Cell) (k : DiskNo) → has_copy p m s x (OnDisk k) ≡ true → (extent_of new.set.directory x.0 ≡ extent_of b.disks.directory x.0) × ((e : Extent) → extent_of b.disks.directory x.0 ≡ Some e → KeepsBlock held e b.disks.disks new.set.disks)) → AreGivenBack size faults mismatches held b.disks.disks new.set.disks → Keeps size faults mismatches held (record b { disks = new.set; out = new.out }) rows tiles spare
  keeps-over new placed stay back = record {
    sound = record {
      run = keeps.sound.run;
      legal = keeps.sound.legal;
      coherent = keeps.sound.coherent;
      content = keeps.sound.content;
      blocks = record {
        placed = placed;
        stored = λ x k valid. subst (λ (o : Option Extent). IsSomeAnd o (IsStored s x)) (sym (stay x k valid).0) (keeps.sound.blocks.stored x k valid);
        blocks = λ tells x k valid. (
            let found = IsSomeAnd-at (HoldsArray held b.disks.disks p s (run_arrays b) x (OnDisk k)) (extent_of b.disks.directory x.0) (keeps.sound.blocks.blocks tells x k valid) in
            IsSomeAnd-from (HoldsArray held new.set.disks p s (run_arrays b) x (OnDisk k)) (extent_of new.set.directory x.0) found.0 ((stay x k valid).0 ∙ found.1) (record {
              dims = found.2.dims;
              whole = found.2.whole;
              fits = found.2.fits;
              told = (stay x k valid).1 found.0 found.1 (block x.0 (writes s x) (run_arrays b x (OnDisk k)).elements) (length-block x.0 (writes s x) (run_arrays b x (OnDisk k)).elements ∙ ap block_bytes found.2.whole) found.2.told;
            })
            );
      };
      given_back = all_given_back-then size faults mismatches held b.opened b.disks.disks new.set.disks keeps.sound.given_back back;
    };
    rows = keeps.rows;
    tiles = keeps.tiles;
    room = keeps.room;
  }

  -- ---- a store of a cell that moves to its disk
  module _ (w : Worker) (from : Place) (d : DiskNo) (under_way : transfer s w ≡ Some (a_transfer c from (OnDisk d))) (tile : Array) (is : IsTileOf held b c from tile) (whole : length tile.elements ≡ area tile.dims) (fits : All (FitsSigned w64) tile.elements) where
    -- no block of the cell is a copy
    not_valid : (k : DiskNo) → has_copy p m s c (OnDisk k) ≡ true → ⊥
    not_valid k copy = by_source from (keeps.sound.coherent.transfers.target w (a_transfer c from (OnDisk d)) under_way)
      where
        by_source : (q : Place) → IsTransferTo m s w c q (OnDisk d) → ⊥
        by_source (AtNode n) target = false≢true (sym target.1 ∙ (copy-on_disk p m s c k copy).0)
        by_source (OnDisk e) target = false≢true target

    module _ {A : Type 0} (result : Result A DiskRefusal) (new : LendingState D) (its : Extent) (its-is : extent_of b.disks.directory c.0 ≡ Some its) (its-whole : its.length ≡ area (dims_of p c)) (of_it : Stores size faults mismatches held c.0 (writes s c) tile.elements result b.disks new.set its) where
      now : extent_of new.set.directory c.0 ≡ Some (with_store its (writes s c) (is_ok result))
      now = ap (λ (dir : List (Option Extent)). extent_of dir c.0) of_it.notes_how_it_ended ∙ get_or-set_same b.disks.directory c.0 (Some (with_store its (writes s c) (is_ok result))) None (within-directory b.disks.directory c.0 its its-is)

      other : (x : Cell) → x ≢ c → extent_of new.set.directory x.0 ≡ extent_of b.disks.directory x.0
      other x far = ap (λ (dir : List (Option Extent)). extent_of dir x.0) of_it.notes_how_it_ended ∙ get_or-set_other b.disks.directory c.0 x.0 (Some (with_store its (writes s c) (is_ok result))) None (λ e. far (cell_of_number x c e))

      apart : (x : Cell) (k : DiskNo) → has_copy p m s x (OnDisk k) ≡ true → x ≢ c
      apart x k valid e = not_valid k (ap (λ (y : Cell). has_copy p m s y (OnDisk k)) (sym e) ∙ valid)

      placed : (x : Cell) → (x ≡ c) ⊎ (x ≢ c) → IfSome (block_of p m x) (λ k. IsSomeAnd (extent_of new.set.directory x.0) (IsBlock p x k))
      placed x (inr far) = subst (λ (o : Option Extent). IfSome (block_of p m x) (λ k. IsSomeAnd o (IsBlock p x k))) (sym (other x far)) (keeps.sound.blocks.placed x)
      placed x (inl e) = subst (λ (y : Cell). IfSome (block_of p m y) (λ k. IsSomeAnd (extent_of new.set.directory y.0) (IsBlock p y k))) (sym e) (here (block_of p m c) (keeps.sound.blocks.placed c))
        where
          here : (o : Option Block) → IfSome o (λ k. IsSomeAnd (extent_of b.disks.directory c.0) (IsBlock p c k)) → IfSome o (λ k. IsSomeAnd (extent_of new.set.directory c.0) (IsBlock p c k))
          here None h = h
          here (Some k) h =
              let had = some-and (IsBlock p c k) (extent_of b.disks.directory c.0) its its-is h in
              IsSomeAnd-from (IsBlock p c k) (extent_of new.set.directory c.0) (with_store its (writes s c) (is_ok result)) now (record { disk = had.disk; position = had.position; whole = had.whole })

      pub keeps-stored : Keeps size faults mismatches held (record b { disks = new.set; out = new.out }) rows tiles spare
      keeps-stored = keeps-over new (λ x. placed x (cells_differ x c)) (λ x k valid. (other x (apart x k valid), λ e there. of_it.other_blocks_stay x.0 e (λ same. apart x k valid (cell_of_number x c same)) there)) of_it.disks_are_given_back

      pub stored-well : OnOk result (IsWrittenOut held (record b { disks = new.set; out = new.out }) w)
      stored-well = when-ok result (Holds held new.set.disks its (block c.0 (writes s c) tile.elements)) (IsWrittenOut held (record b { disks = new.set; out = new.out }) w) of_it.holds_the_block_where_it_ended_well (λ ok holds.
          IfSome-from (λ (y : Transfer). IsSomeAnd (extent_of new.set.directory y.cell.0) (IsBlockCopyOf held (record b { disks = new.set; out = new.out }) y.cell y.from)) (transfer s w) (a_transfer c from (OnDisk d)) under_way
          (IsSomeAnd-from (IsBlockCopyOf held (record b { disks = new.set; out = new.out }) c from) (extent_of new.set.directory c.0) (with_store its (writes s c) (is_ok result)) now (record {
            last = record { last = ap (λ (y : Bool). Some (last_store (writes s c) y)) ok };
            array = λ tells. (
                let same : tile ≡ run_arrays b c from = is.array tells in
                record {
                  dims = ap (λ (a : Array). a.dims) (sym same) ∙ is.dims;
                  whole = ap (λ (a : Array). length a.elements) (sym same) ∙ whole ∙ ap area is.dims ∙ sym its-whole;
                  fits = subst (λ (a : Array). All (FitsSigned w64) a.elements) same fits;
                  told = subst (λ (a : Array). Holds held new.set.disks its (block c.0 (writes s c) a.elements)) same holds;
                }
                );
          })))

  -- ---- a fetch of a cell that moves from its disk
  module _ (w : Worker) (d : DiskNo) (to : Place) (under_way : transfer s w ≡ Some (a_transfer c (OnDisk d) to)) (its : Extent) (its-is : extent_of b.disks.directory c.0 ≡ Some its) where
    valid : has_copy p m s c (OnDisk d) ≡ true
    valid = keeps.sound.coherent.transfers.source w (a_transfer c (OnDisk d) to) under_way

    pub fetch-last : IsLastWritten p m s its.disk (header c.0 (writes s c) its.length)
    fetch-last =
        let e = extent d (home-is p m c d (copy-on_disk p m s c d valid).1) in
        subst (λ (x : Extent). IsLastWritten p m s x.disk (header c.0 (writes s c) x.length)) (same_Some e.0 its (sym e.1 ∙ its-is)) (record {
          cell = c;
          copy = ap (λ (k : DiskNo). has_copy p m s c (OnDisk k)) e.3 ∙ valid;
          header = ap (header c.0 (writes s c)) e.2;
        })

    module _ {A : Type 0} (result : Result A DiskRefusal) (got : Array) (dims : got.dims ≡ dims_of p c) (new : LendingState D) (fetched : Fetches size faults mismatches held c.0 (writes s c) got.elements result b.disks new.set its) where
      same_extents : (x : Cell) → extent_of new.set.directory x.0 ≡ extent_of b.disks.directory x.0
      same_extents x = ap (λ (dir : List (Option Extent)). extent_of dir x.0) fetched.directory_stays

      pub keeps-fetched : Keeps size faults mismatches held (record b { disks = new.set; out = new.out }) rows tiles spare
      keeps-fetched = keeps-over new (λ x. subst (λ (o : Option Extent). IfSome (block_of p m x) (λ k. IsSomeAnd o (IsBlock p x k))) (sym (same_extents x)) (keeps.sound.blocks.placed x)) (λ x k valid. (same_extents x, λ e there. fetched.all_blocks_stay e)) fetched.disks_are_given_back

      pub fetched-well : (b' : StandingBy eq D) → b ≡ b' → OnOk result (IsTileMoved held b' w got)
      fetched-well b' same = when-ok result ((ys : List ℤ) → All (FitsSigned w64) ys → length ys ≡ its.length → TellsBytes held b.disks.disks its → Holds held b.disks.disks its (block c.0 (writes s c) ys) → got.elements ≡ ys) (IsTileMoved held b' w got) fetched.gives_what_was_stored (λ ok stored.
          subst (λ (z : StandingBy eq D). IsTileMoved held z w got) same
          (IfSome-from (λ (y : Transfer). IsTileOf held b y.cell y.from got) (transfer s w) (a_transfer c (OnDisk d) to) under_way (record {
            dims = dims;
            array = λ tells. (
                let has = some-and (HoldsArray held b.disks.disks p s (run_arrays b) c (OnDisk d)) (extent_of b.disks.directory c.0) its its-is (keeps.sound.blocks.blocks tells c d valid) in
                let elements = stored (run_arrays b c (OnDisk d)).elements has.fits has.whole (tell-still size faults mismatches held b.opened b.disks.disks keeps.sound.given_back tells its.disk.0) has.told in
                ap (λ (xs : List ℤ). (let a : Array = record { dims = got.dims; elements = xs } in a)) elements ∙ ap (λ (ds : Dims). (let a : Array = record { dims = ds; elements = (run_arrays b c (OnDisk d)).elements } in a)) (dims ∙ sym has.dims)
                );
          })))
