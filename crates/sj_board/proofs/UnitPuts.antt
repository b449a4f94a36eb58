-- A unit that a worker takes for its move, works on and puts back: the run holds what it held, and what was stored or fetched.
use Rattle.sj_board.proofs.Words.{a_transfer, ap, area, AreCounted, AreGivenBack, Array, AtNode, Bool, Cell, ComesFrom, dims_of, disk_of, DiskNo, DiskRefusal, Equations, Err, Extent, extent_of, false, fault_of, Fetches, has_back, has_copy, HasBlockOf, HasCause, HasFetched, HasFetchedMoved, HasItsDiskIn, HasStored, HasStoredMoved, IfErr, inl, inr, is_node, IsDiskMove, IsFetching, IsInFor, IsLaidOut, IsMovingOut, IsSome, IsSomeAnd, IsStored, IsTaken, IsTileMoved, IsTileOf, IsUnitOf, IsWorkedOn, IsWrittenOut, Keeps, last_store, LendingState, length, lent, List, map, Ok, OnDisk, OnOk, Option, Place, refl, Result, Rows, slice_set, Some, StandingBy, state, Stores, subst, sym, TakesOut, TakesUnit, Transfer, transfer, true, UnitFetches, UnitState, UnitStores, Worker, writes, ℕ, ◌∙◌, ◌≡◌}
use Rattle.sj_base.proofs.{Lists.set-slice_get, Options.IfSome-at, Options.IfSome-from, Options.IsSomeAnd-at}
use Rattle.sj_core.proofs.Placing.{home-is}
use Rattle.sj_board.proofs.{DiskCounts.fetches-cause, DiskCounts.fetches-counted, DiskCounts.stores-cause, DiskCounts.stores-counted, Keeping.copy-on_disk, Storing.extent, Storing.fetch-last, Storing.fetched-well, Storing.keeps-fetched, Storing.keeps-stored, Storing.stored-well}
use Rattle.std.proofs.lemmas.{Bool.false≢true, Option.same_Some}
use Rattle.sj_disk.proofs.Returning.{extent-stays}

-- which disks are out is no matter of what a run keeps
pub keeps-out : {D : Type 0} {eq : Equations} (size faults mismatches : D → ℕ) (held : D → Option (List ℕ)) (b : StandingBy eq D) (rows : Rows) (tiles : List (List (Option Array))) (spare : ℕ) (out : List Bool) → Keeps size faults mismatches held b rows tiles spare → Keeps size faults mismatches held (record b { out = out }) rows tiles spare
keeps-out size faults mismatches held b rows tiles spare out keeps = record {
  sound = record { run = keeps.sound.run; legal = keeps.sound.legal; coherent = keeps.sound.coherent; content = keeps.sound.content; blocks = keeps.sound.blocks; given_back = keeps.sound.given_back };
  rows = keeps.rows;
  tiles = keeps.tiles;
  room = keeps.room;
}

-- ---- a unit that nothing was done with

pub same-back : {D : Type 0} (s : LendingState D) (u : UnitState D) → IsTaken s u → has_back s u ≡ record s { out = slice_set s.out u.extent.disk.0 false }
same-back {D} s u is =
    ap (λ (ds : List D). (let l : LendingState D = record { set = record s.set { disks = ds; directory = slice_set s.set.directory u.cell.0 (Some u.extent) }; out = slice_set s.out u.extent.disk.0 false } in l)) (set-slice_get s.set.disks u.extent.disk.0 u.disk is.its_disk)
    ∙ ap (λ (es : List (Option Extent)). (let l : LendingState D = record { set = record s.set { directory = es }; out = slice_set s.out u.extent.disk.0 false } in l)) (extent-stays s.set.directory u.cell.0 u.extent is.its_extent)

module _ {D : Type 0} {eq : Equations} (size faults mismatches : D → ℕ) (held : D → Option (List ℕ)) (b : StandingBy eq D) (rows : Rows) (tiles : List (List (Option Array))) (spare : ℕ) (keeps : Keeps size faults mismatches held b rows tiles spare) where
  -- ---- the worker's move

  module _ (w : Worker) (b' : StandingBy eq D) (same : b ≡ b') (o : Option Transfer) (read : o ≡ transfer rows.state w) (x : Transfer) (found : o ≡ Some x) where
    under_way : transfer (state b) w ≡ Some x
    under_way = ap (λ (r : Rows). transfer r.state w) (sym keeps.rows) ∙ sym read ∙ found

    -- the disk of its cell is in
    pub found-in : HasItsDiskIn b' w → IsInFor (lent b) x.cell.0
    found-in is_in = IfSome-at (λ (y : Transfer). IsInFor (lent b) y.cell.0) (transfer (state b) w) x under_way (subst (λ (z : StandingBy eq D). HasItsDiskIn z w) (sym same) is_in)

    at-source : (d : DiskNo) → x.from ≡ OnDisk d → transfer (state b) w ≡ Some (a_transfer x.cell (OnDisk d) x.to)
    at-source d at = under_way ∙ ap (λ (q : Place). Some (a_transfer x.cell q x.to)) at

    at-target : (d : DiskNo) → x.to ≡ OnDisk d → transfer (state b) w ≡ Some (a_transfer x.cell x.from (OnDisk d))
    at-target d at = under_way ∙ ap (λ (q : Place). Some (a_transfer x.cell x.from q)) at

    valid-source : (d : DiskNo) → x.from ≡ OnDisk d → has_copy b.program b.machine (state b) x.cell (OnDisk d) ≡ true
    valid-source d at = keeps.sound.coherent.transfers.source w (a_transfer x.cell (OnDisk d) x.to) (at-source d at)

    home-source : (d : DiskNo) → x.from ≡ OnDisk d → disk_of b.program b.machine x.cell ≡ Some d
    home-source d at = home-is b.program b.machine x.cell d (copy-on_disk b.program b.machine (state b) x.cell d (valid-source d at)).1

    home-target : (d : DiskNo) → x.to ≡ OnDisk d → disk_of b.program b.machine x.cell ≡ Some d
    home-target d at = keeps.sound.coherent.state.blocks.aimed w (a_transfer x.cell x.from (OnDisk d)) d (at-target d at) refl

    on-disk : (q : Place) → is_node q ≡ false → (d : DiskNo) × (q ≡ OnDisk d)
    on-disk (OnDisk d) e = (d, refl)
    on-disk (AtNode n) e = absurd (false≢true (sym e))

    -- ---- a unit of it
    module _ (u : UnitState D) (is : IsUnitOf b w u) where
      its-cell : u.cell ≡ x.cell
      its-cell = IfSome-at (λ (y : Transfer). u.cell ≡ y.cell) (transfer (state b) w) x under_way is.cell

      its-extent : extent_of b.disks.directory x.cell.0 ≡ Some u.extent
      its-extent = ap (λ (q : Cell). extent_of b.disks.directory q.0) (sym its-cell) ∙ is.taken.its_extent

      its-whole : (d : DiskNo) → disk_of b.program b.machine x.cell ≡ Some d → u.extent.length ≡ area (dims_of b.program x.cell)
      its-whole d home =
          let e = extent size faults mismatches held b rows tiles spare keeps x.cell d home in
          ap (λ (k : Extent). k.length) (same_Some u.extent e.0 (sym its-extent ∙ e.1)) ∙ e.2

    -- ---- stored through a unit
    module _ (u : UnitState D) (result : Result (Unit {0}) DiskRefusal) (stored_moved : HasStoredMoved size faults mismatches held b' w u result) (d : DiskNo) (at : x.to ≡ OnDisk d) where
      stored : HasStoredMoved size faults mismatches held b w u result
      stored = subst (λ (z : StandingBy eq D). HasStoredMoved size faults mismatches held z w u result) (sym same) stored_moved

      unit-stores : UnitStores size faults mismatches held (writes (state b) x.cell) stored.array.elements result stored.before u
      unit-stores = IfSome-at (λ (y : Transfer). UnitStores size faults mismatches held (writes (state b) y.cell) stored.array.elements result stored.before u) (transfer (state b) w) x under_way stored.stores

      tile-of : IsTileOf held b x.cell x.from stored.array
      tile-of = IfSome-at (λ (y : Transfer). IsTileOf held b y.cell y.from stored.array) (transfer (state b) w) x under_way stored.is_moved

      its : extent_of b.disks.directory x.cell.0 ≡ Some stored.before.extent
      its = its-extent stored.before stored.is_its_unit

      long : stored.before.extent.length ≡ area (dims_of b.program x.cell)
      long = its-whole stored.before stored.is_its_unit d (home-target d at)

      whole : length stored.array.elements ≡ area stored.array.dims
      whole = unit-stores.fills_the_block ∙ long ∙ sym (ap area tile-of.dims)

      pub wrote-comes : ComesFrom size faults mismatches held (lent b) u
      wrote-comes = record { before = stored.before; taken = stored.is_its_unit.taken; worked = unit-stores.is_worked_on }

      module _ (new : LendingState D) (has : HasStored size faults mismatches held u (lent b) new) where
        wrote-stores : Stores size faults mismatches held x.cell.0 (writes (state b) x.cell) stored.array.elements result b.disks new.set stored.before.extent
        wrote-stores =
            subst (λ (q : Cell). Stores size faults mismatches held q.0 (writes (state b) x.cell) stored.array.elements result b.disks new.set stored.before.extent) (its-cell stored.before stored.is_its_unit)
            (has stored.before (writes (state b) x.cell) stored.array.elements result stored.is_its_unit.taken unit-stores)

        pub wrote-keeps : Keeps size faults mismatches held (record b { disks = new.set; out = new.out }) rows tiles spare
        wrote-keeps = keeps-stored size faults mismatches held b rows tiles spare keeps x.cell w x.from d (at-target d at) stored.array tile-of whole stored.fits result new stored.before.extent its long wrote-stores

        pub wrote-written : OnOk result (IsWrittenOut held (record b { disks = new.set; out = new.out }) w)
        wrote-written = stored-well size faults mismatches held b rows tiles spare keeps x.cell w x.from d (at-target d at) stored.array tile-of whole stored.fits result new stored.before.extent its long wrote-stores

        pub wrote-back : AreGivenBack size faults mismatches held b'.disks.disks new.set.disks
        wrote-back = subst (λ (z : StandingBy eq D). AreGivenBack size faults mismatches held z.disks.disks new.set.disks) same wrote-stores.disks_are_given_back

        module _ (laid : IsLaidOut (map size b.disks.disks) b.disks.taken b.disks.directory) where
          pub wrote-counted : AreCounted faults mismatches result b'.disks.disks new.set.disks
          wrote-counted = subst (λ (z : StandingBy eq D). AreCounted faults mismatches result z.disks.disks new.set.disks) same (stores-counted size faults mismatches held b rows tiles spare keeps new x.cell.0 (writes (state b) x.cell) stored.array.elements result laid stored.before.extent its wrote-stores)

          pub wrote-cause : IfErr result (λ r. HasCause faults mismatches held (record b { disks = new.set; out = new.out }) (fault_of r))
          wrote-cause = stores-cause size faults mismatches held b rows tiles spare keeps new x.cell.0 (writes (state b) x.cell) stored.array.elements result laid stored.before.extent its wrote-stores

    -- ---- fetched through a unit
    module _ (u : UnitState D) (result : Result (Unit {0}) DiskRefusal) (d : DiskNo) (at : x.from ≡ OnDisk d) where
      module _ (array : Array) (fetched_moved : HasFetchedMoved size faults mismatches held b' w u result array) where
        fetched : HasFetchedMoved size faults mismatches held b w u result array
        fetched = subst (λ (z : StandingBy eq D). HasFetchedMoved size faults mismatches held z w u result array) (sym same) fetched_moved

        unit-fetches : UnitFetches size faults mismatches held (writes (state b) x.cell) array.elements result fetched.before u
        unit-fetches = IfSome-at (λ (y : Transfer). UnitFetches size faults mismatches held (writes (state b) y.cell) array.elements result fetched.before u) (transfer (state b) w) x under_way fetched.fetches

        its-block : extent_of b.disks.directory x.cell.0 ≡ Some fetched.before.extent
        its-block = its-extent fetched.before fetched.is_its_unit

        dims-of : array.dims ≡ dims_of b.program x.cell
        dims-of = IfSome-at (λ (y : Transfer). array.dims ≡ dims_of b.program y.cell) (transfer (state b) w) x under_way fetched.dims

        pub read-comes : ComesFrom size faults mismatches held (lent b) u
        read-comes = record { before = fetched.before; taken = fetched.is_its_unit.taken; worked = unit-fetches.is_worked_on }

        module _ (new : LendingState D) (has : HasFetched size faults mismatches held u (lent b) new) where
          read-fetches : Fetches size faults mismatches held x.cell.0 (writes (state b) x.cell) array.elements result b.disks new.set fetched.before.extent
          read-fetches =
              subst (λ (q : Cell). Fetches size faults mismatches held q.0 (writes (state b) x.cell) array.elements result b.disks new.set fetched.before.extent) (its-cell fetched.before fetched.is_its_unit)
              (has fetched.before (writes (state b) x.cell) array.elements result fetched.is_its_unit.taken unit-fetches)

          pub read-keeps : Keeps size faults mismatches held (record b { disks = new.set; out = new.out }) rows tiles spare
          read-keeps = keeps-fetched size faults mismatches held b rows tiles spare keeps x.cell w d x.to (at-source d at) fetched.before.extent its-block result array dims-of new read-fetches

          pub read-tile : OnOk result (IsTileMoved held b' w array)
          read-tile = fetched-well size faults mismatches held b rows tiles spare keeps x.cell w d x.to (at-source d at) fetched.before.extent its-block result array dims-of new read-fetches b' same

          pub read-back : AreGivenBack size faults mismatches held b'.disks.disks new.set.disks
          read-back = subst (λ (z : StandingBy eq D). AreGivenBack size faults mismatches held z.disks.disks new.set.disks) same read-fetches.disks_are_given_back

          module _ (laid : IsLaidOut (map size b.disks.disks) b.disks.taken b.disks.directory) where
            pub read-counted : AreCounted faults mismatches result b'.disks.disks new.set.disks
            read-counted = subst (λ (z : StandingBy eq D). AreCounted faults mismatches result z.disks.disks new.set.disks) same (fetches-counted size faults mismatches held b rows tiles spare keeps new x.cell.0 (writes (state b) x.cell) array.elements result laid fetched.before.extent its-block read-fetches)

            pub read-cause : IfErr result (λ r. HasCause faults mismatches held (record b { disks = new.set; out = new.out }) (fault_of r))
            read-cause = fetches-cause size faults mismatches held b rows tiles spare keeps new x.cell.0 (writes (state b) x.cell) array.elements result laid fetched.before.extent its-block read-fetches (fetch-last size faults mismatches held b rows tiles spare keeps x.cell w d x.to (at-source d at) fetched.before.extent its-block)

      -- the elements that were fetched well are the move's tile, whoever asks
      pub read-tiles : (new : LendingState D) → HasFetched size faults mismatches held u (lent b) new → OnOk result ((array : Array) → HasFetchedMoved size faults mismatches held b' w u result array → IsTileMoved held b' w array)
      read-tiles new has = by_result result (λ array moved. read-tile array moved new has)
        where
          by_result : (r : Result (Unit {0}) DiskRefusal) → ((array : Array) → HasFetchedMoved size faults mismatches held b' w u result array → OnOk r (IsTileMoved held b' w array)) → OnOk r ((array : Array) → HasFetchedMoved size faults mismatches held b' w u result array → IsTileMoved held b' w array)
          by_result (Ok a) each = each
          by_result (Err a) each = tt

    some-of : (P : Transfer → Type 0) (o : Option Transfer) (y : Transfer) → o ≡ Some y → IsSomeAnd o P → P y
    some-of P o y e h = subst (λ (k : Option Transfer). IsSomeAnd k P) e h

    -- ---- a unit is taken
    module _ (moves : IsDiskMove b' w) where
      its-home : (d : DiskNo) × (disk_of b.program b.machine x.cell ≡ Some d)
      its-home = by_move moves
        where
          by_move : IsDiskMove b' w → (d : DiskNo) × (disk_of b.program b.machine x.cell ≡ Some d)
          by_move (inl out) =
              let to = on-disk x.to (some-of (λ (y : Transfer). is_node y.to ≡ false) (transfer (state b) w) x under_way (subst (λ (z : StandingBy eq D). IsMovingOut z w) (sym same) out)) in
              (to.0, home-target to.0 to.1)
          by_move (inr fetch) =
              let from = on-disk x.from (some-of (λ (y : Transfer). is_node y.from ≡ false) (transfer (state b) w) x under_way (subst (λ (z : StandingBy eq D). IsFetching z w) (sym same) fetch)) in
              (from.0, home-source from.0 from.1)

      pub take-reserved : IsSome (extent_of b.disks.directory x.cell.0)
      take-reserved =
          let e = extent size faults mismatches held b rows tiles spare keeps x.cell its-home.0 its-home.1 in
          subst (λ (o : Option Extent). IsSome o) (sym e.1) refl

      module _ (u : UnitState D) (new : LendingState D) (takes : TakesOut x.cell u (lent b) new) where
        now-is : record b { disks = new.set; out = new.out } ≡ record b { out = slice_set b.out u.extent.disk.0 true }
        now-is = ap (λ (l : LendingState D). record b { disks = l.set; out = l.out }) takes.nothing_else

        pub take-keeps : Keeps size faults mismatches held (record b { disks = new.set; out = new.out }) rows tiles spare
        take-keeps = subst (λ (z : StandingBy eq D). Keeps size faults mismatches held z rows tiles spare) (sym now-is) (keeps-out size faults mismatches held b rows tiles spare (slice_set b.out u.extent.disk.0 true) keeps)

        has-taken : TakesUnit w u b (record b { disks = new.set; out = new.out })
        has-taken = record {
          is_its_unit = record {
            taken = takes.taken;
            cell = IfSome-from (λ (y : Transfer). u.cell ≡ y.cell) (transfer (state b) w) x under_way takes.of_the_cell;
          };
          was_in = takes.was_in;
          nothing_else = now-is;
        }

        pub take-takes : TakesUnit w u b' (record b { disks = new.set; out = new.out })
        take-takes = subst (λ (z : StandingBy eq D). TakesUnit w u z (record b { disks = new.set; out = new.out })) same has-taken

        same-extent : extent_of b.disks.directory x.cell.0 ≡ Some u.extent
        same-extent =
            ap (λ (l : LendingState D). extent_of l.set.directory x.cell.0) (sym takes.nothing_else)
            ∙ ap (λ (q : Cell). extent_of new.set.directory q.0) (sym takes.of_the_cell) ∙ takes.taken.its_extent

        has-block : HasBlockOf b w u
        has-block = record {
          whole = IfSome-from (λ (y : Transfer). u.extent.length ≡ area (dims_of b.program y.cell)) (transfer (state b) w) x under_way (
              let e = extent size faults mismatches held b rows tiles spare keeps x.cell its-home.0 its-home.1 in
              ap (λ (k : Extent). k.length) (same_Some u.extent e.0 (sym same-extent ∙ e.1)) ∙ e.2
              );
          stored = IfSome-from (λ (y : Transfer). is_node y.from ≡ false → u.extent.last_store ≡ Some (last_store (writes (state b) y.cell) true)) (transfer (state b) w) x under_way (λ disk.
              let from = on-disk x.from disk in
              let found = IsSomeAnd-at (IsStored (state b) x.cell) (extent_of b.disks.directory x.cell.0) (keeps.sound.blocks.stored x.cell from.0 (valid-source from.0 from.1)) in
              subst (λ (k : Extent). k.last_store ≡ Some (last_store (writes (state b) x.cell) true)) (same_Some found.0 u.extent (sym found.1 ∙ same-extent)) found.2.last
              );
        }

        pub take-block : HasBlockOf b' w u
        take-block = subst (λ (z : StandingBy eq D). HasBlockOf z w u) same has-block

-- ---- and put back as it was

module _ {D : Type 0} {eq : Equations} (size faults mismatches : D → ℕ) (held : D → Option (List ℕ)) (b : StandingBy eq D) (rows : Rows) (tiles : List (List (Option Array))) (spare : ℕ) (keeps : Keeps size faults mismatches held b rows tiles spare) (w : Worker) (b' : StandingBy eq D) (same : b ≡ b') (u : UnitState D) (is_its : IsUnitOf b' w u) where
  is-untouched : IsUnitOf b w u
  is-untouched = subst (λ (z : StandingBy eq D). IsUnitOf z w u) (sym same) is_its

  pub untouched-comes : IsWorkedOn size faults mismatches held u u → ComesFrom size faults mismatches held (lent b) u
  untouched-comes worked = record { before = u; taken = is-untouched.taken; worked = worked }

  untouched-now : (new : LendingState D) → new ≡ has_back (lent b) u → record b { disks = new.set; out = new.out } ≡ record b { out = slice_set b.out u.extent.disk.0 false }
  untouched-now new back = ap (λ (l : LendingState D). record b { disks = l.set; out = l.out }) (back ∙ same-back (lent b) u is-untouched.taken)

  pub untouched-as : (new : LendingState D) → new ≡ has_back (lent b) u → record b { disks = new.set; out = new.out } ≡ record b' { out = slice_set b'.out u.extent.disk.0 false }
  untouched-as new back = subst (λ (z : StandingBy eq D). record b { disks = new.set; out = new.out } ≡ record z { out = slice_set z.out u.extent.disk.0 false }) same (untouched-now new back)

  pub untouched-keeps : (new : LendingState D) → new ≡ has_back (lent b) u → Keeps size faults mismatches held (record b { disks = new.set; out = new.out }) rows tiles spare
  untouched-keeps new back = subst (λ (z : StandingBy eq D). Keeps size faults mismatches held z rows tiles spare) (sym (untouched-now new back)) (keeps-out size faults mismatches held b rows tiles spare (slice_set b.out u.extent.disk.0 false) keeps)
