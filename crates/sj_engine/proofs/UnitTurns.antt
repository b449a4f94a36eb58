-- A worker takes the disk out that takes part in its transfer, and puts it back in a later turn.
use Rattle.std.proofs.Common.{◌≡◌, ℕ, ◌<◌, Bool, true, false, ◌&&◌, List, length, refl, sym, ap, ◌∙◌, subst, Option, None, Some, inl, inr}
use Rattle.std.specs.Int.{w64}
use Rattle.sj_engine.specs.Outcome.{AllDisksTell}
use Rattle.std.specs.Prelude.{All, FitsSigned, IsSomeAnd, Result, filter, is_some, option_and_then, option_map, slice_get, if◌then◌else◌}
use Rattle.std.proofs.lemmas.List.{get_or-set_same}
use Rattle.sj_base.specs.declared.ids.Cell.{Cell}
use Rattle.sj_base.specs.declared.ids.Task.{Task}
use Rattle.sj_base.specs.declared.ids.Worker.{Worker}
use Rattle.sj_base.specs.Array.{Array, area}
use Rattle.sj_core.specs.declared.progress.Transfer.{Transfer}
use Rattle.sj_core.specs.Machine.{progress, transfer, worker_state, writes, idle_row}
use Rattle.sj_core.specs.Program.{dims_of}
use Rattle.sj_disk.specs.declared.directory.Extent.{Extent}
use Rattle.sj_disk.specs.declared.refusal.DiskRefusal.{DiskRefusal}
use Rattle.sj_disk.specs.Directory.{DiskState, extent_of, last_store}
use Rattle.sj_disk.specs.Lending.{IsInFor, IsTaken}
use Rattle.sj_disk.specs.Rack.{is_out}
use Rattle.sj_disk.specs.Units.{UnitFetches, UnitState, UnitStores, unit_state}
use Rattle.sj_board.specs.Standing.{IsFetching, IsMovingOut, IsTileOf, is_node, run_arrays, state}
use Rattle.sj_board.specs.DiskUnits.{HasBlockOf, HasFetchedMoved, HasItsDiskIn, HasStoredMoved, IsDiskMove, IsUnitOf, lent}
use Rattle.sj_board.specs.Board.{BoardState, GivesUnitBack, IsBusy, empty_hand, hand_of, has_taken, released_of, transfer_of}
use Rattle.sj_board.specs.BoardRow.{BoardRow, arrays_for, is_event_of, key_of}
use Rattle.sj_board.specs.BoardSound.{IsSoundBoard}
use Rattle.sj_board.specs.Units.{OthersKeepUnits, unit_at}
use Rattle.sj_board.specs.declared.hand.Hand.{Hand}
use Rattle.sj_engine.specs.Stage.{HoldsRow, IsCarried, MovesRow, holding_hand, row_in}
use Rattle.sj_engine.specs.Stepping.{IsUnitFor}
use Rattle.sj_engine.specs.Turn.{IsTurnOf, IsWorkerOf, NothingHappens, PutsUnitBack}
use Rattle.sj_engine.proofs.OwnRows.{is-busy, row-transfer, transfer-of}
use Rattle.sj_engine.proofs.Turning.{taken-turn}
use Rattle.std.proofs.lemmas.Option.{same_Some, none-some}
use Rattle.sj_base.proofs.Options.{IfSome-at, IfSome-from, IsSomeAnd-from}
use Rattle.sj_engine.proofs.FoundBoards.{found-sound}
use Rattle.sj_board.proofs.Hands.{inside-hands}

-- the worker's row, with this hand, over these disks
abbrev row_with : {D : Type 0} → BoardState D → DiskState D → Worker → Hand → BoardRow D
row_with b disks w h = record {
  hand = h;
  unit = option_and_then (unit_at disks) h.unit;
  phase = option_map (progress (state b.run)) h.task;
  operands = option_map (arrays_for b w) h.task;
  holds = if is_some h.task then worker_state (state b.run) w else idle_row;
  carries = option_map (λ x. run_arrays b.run x.cell x.from) (if is_some h.task then transfer (state b.run) w else None);
  writes = option_map (λ x. writes (state b.run) x.cell) (if is_some h.task then transfer (state b.run) w else None);
  events = filter (is_event_of w.0) b.run.trace;
  released = released_of b w;
}

-- the count in a row is that of the transfer's cell
count-is : {D : Type 0} (b : BoardState D) (w : Worker) (tr : Transfer) (count : ℕ) → transfer_of b w ≡ Some tr → (row_in b w).writes ≡ Some count → count ≡ writes (state b.run) tr.cell
count-is b w tr count there counts = same_Some count (writes (state b.run) tr.cell) (sym counts ∙ ap (option_map (λ (k : Transfer). writes (state b.run) k.cell)) there)

-- the unit that stands there
unit-there : {D : Type 0} (b : BoardState D) (u : UnitState D) → IsTaken (lent b.run) u → unit_at b.run.disks u.cell ≡ Some u
unit-there {D} b u is =
    ap (option_and_then (λ (e : Extent). option_map (λ x. unit_state x u.cell e) (slice_get b.run.disks.disks e.disk.0))) is.its_extent
    ∙ ap (option_map (λ x. unit_state x u.cell u.extent)) is.its_disk

-- ---- a unit is taken

module _ {D : Type 0} (held : D → Option (List ℕ)) (w : Worker) (b x : BoardState D) (t : Task) (tr : Transfer) (ex : x ≡ b) (known : w.0 < b.run.program.workers) (r : MovesRow w t tr (row_in b w)) where
  under-way : transfer (state b.run) w ≡ Some tr
  under-way = transfer-of b w t (Some tr) r.hand r.transfer

  there : transfer_of b w ≡ Some tr
  there = sym (row-transfer b w) ∙ r.transfer

  pub take-busy : IsBusy x w
  take-busy = subst (λ (k : BoardState D). IsBusy k w) (sym ex) (is-busy b w known t r.hand)

  pub take-none : (hand_of x w).unit ≡ None
  take-none = ap (λ (k : BoardState D). (hand_of k w).unit) ex ∙ ap (λ (h : Hand). h.unit) r.hand

  pub take-moves : (is_node tr.from && is_node tr.to) ≡ false → IsDiskMove x.run w
  take-moves disk = subst (λ (k : BoardState D). IsDiskMove k.run w) (sym ex) (by_from (is_node tr.from) refl disk)
    where
      by_from : (f : Bool) → is_node tr.from ≡ f → (f && is_node tr.to) ≡ false → IsDiskMove b.run w
      by_from true e both = inl (IsSomeAnd-from (λ (k : Transfer). is_node k.to ≡ false) (transfer (state b.run) w) tr under-way both)
      by_from false e both = inr (IsSomeAnd-from (λ (k : Transfer). is_node k.from ≡ false) (transfer (state b.run) w) tr under-way e)

  pub take-in : IsInFor (lent b.run) tr.cell.0 → HasItsDiskIn x.run w
  take-in is = subst (λ (k : BoardState D). HasItsDiskIn k.run w) (sym ex) (IfSome-from (λ (k : Transfer). IsInFor (lent b.run) k.cell.0) (transfer (state b.run) w) tr under-way is)

  module _ (z y : BoardState D) (u : UnitState D) (size faults mismatches : D → ℕ) (ez : z ≡ b) (sound : IsSoundBoard size faults mismatches held z) (q : y ≡ has_taken x w u) (unit : IsUnitOf y.run w u) (block : HasBlockOf y.run w u) where
    abbrev here : IsSoundBoard size faults mismatches held b
    here = found-sound size faults mismatches held z b ez sound

    taken-is : y ≡ has_taken b w u
    taken-is = q ∙ ap (λ (k : BoardState D). has_taken k w u) ex

    pub took-turn : IsTurnOf faults mismatches w b y
    took-turn = taken-turn faults mismatches w b u y taken-is

    pub took-no_event : NothingHappens b y
    took-no_event = ap (λ (k : BoardState D). k.run.trace) taken-is

    abbrev inside : w.0 < length b.hands
    inside = inside-hands b.run.program (state b.run) b.hands b.fault here.inside.hands_agree w known

    row-is : row_in y w ≡ row_with b b.run.disks w (record (hand_of b w) { unit = Some u.cell })
    row-is =
        ap (λ (k : BoardState D). row_in k w) taken-is
        ∙ ap (λ (h : Hand). row_with b b.run.disks w h) (get_or-set_same b.hands w.0 (record (hand_of b w) { unit = Some u.cell }) empty_hand inside)

    now-under_way : transfer (state y.run) w ≡ Some tr
    now-under_way = ap (λ (k : BoardState D). transfer (state k.run) w) taken-is ∙ under-way

    its-cell : u.cell ≡ tr.cell
    its-cell = IfSome-at (λ (k : Transfer). u.cell ≡ k.cell) (transfer (state y.run) w) tr now-under_way unit.cell

    unit-now : unit_at b.run.disks u.cell ≡ Some u
    unit-now = sym (ap (λ (k : BoardState D). unit_at k.run.disks u.cell) taken-is) ∙ unit-there y u unit.taken

    took-row : HoldsRow w t tr u (row_in y w)
    took-row = record {
      hand = ap (λ (k : BoardRow D). k.hand) row-is ∙ ap (λ (h : Hand). record h { unit = Some u.cell }) r.hand ∙ ap (λ (c : Cell). holding_hand t c) its-cell;
      unit = ap (λ (k : BoardRow D). k.unit) row-is ∙ unit-now;
      phase = ap (λ (k : BoardRow D). k.phase) row-is ∙ r.phase;
      transfer = ap (λ (k : BoardRow D). k.holds.transfer) row-is ∙ r.transfer;
    }

    pub took-unit : (count : ℕ) → (row_in b w).writes ≡ Some count → IsUnitFor (key_of y) w t tr (row_in y w) u count
    took-unit count counts = record {
      holds = took-row;
      whole = IfSome-at (λ (k : Transfer). u.extent.length ≡ area (dims_of y.run.program k.cell)) (transfer (state y.run) w) tr now-under_way block.whole;
      counts = ap (λ (k : BoardRow D). k.writes) row-is ∙ counts;
      stored = λ disk.
          IfSome-at (λ (k : Transfer). is_node k.from ≡ false → u.extent.last_store ≡ Some (last_store (writes (state y.run) k.cell) true)) (transfer (state y.run) w) tr now-under_way block.stored disk
          ∙ ap (λ (k : BoardState D). Some (last_store (writes (state k.run) tr.cell) true)) taken-is
          ∙ ap (λ (n : ℕ). Some (last_store n true)) (sym (count-is b w tr count there counts));
    }

    pub took-carried : (a : Array) → IsCarried held (key_of b) tr (row_in b w) a → IsCarried held (key_of y) tr (row_in y w) a
    took-carried a c = record {
      dims = c.dims ∙ ap (λ (k : BoardState D). dims_of k.run.program tr.cell) (sym taken-is);
      told = λ tell. ap (λ (k : BoardRow D). k.carries) row-is ∙ c.told (subst (λ (k : BoardState D). AllDisksTell held (key_of k).opened) taken-is tell);
    }

-- ---- a unit comes back

module _ {D : Type 0} (size faults mismatches : D → ℕ) (held : D → Option (List ℕ)) (w : Worker) (b z x : BoardState D) (t : Task) (tr : Transfer) (before : UnitState D) (ez : z ≡ b) (ex : x ≡ b) (sound : IsSoundBoard size faults mismatches held z) (known : w.0 < b.run.program.workers) (r : HoldsRow w t tr before (row_in b w)) where
  abbrev put-here : IsSoundBoard size faults mismatches held b
  put-here = found-sound size faults mismatches held z b ez sound

  put-transfer : transfer (state b.run) w ≡ Some tr
  put-transfer = sym (ap (λ (h : Hand). (if is_some h.task then worker_state (state b.run) w else idle_row).transfer) r.hand) ∙ r.transfer

  put-there : transfer_of b w ≡ Some tr
  put-there = ap (λ (h : Hand). if is_some h.task then transfer (state b.run) w else None) r.hand ∙ put-transfer

  in-hand : (hand_of b w).unit ≡ Some tr.cell
  in-hand = ap (λ (h : Hand). h.unit) r.hand

  at-cell : unit_at b.run.disks tr.cell ≡ Some before
  at-cell = sym (ap (λ (h : Hand). option_and_then (unit_at b.run.disks) h.unit) r.hand) ∙ r.unit

  record Stands (u : UnitState D) : Type 0 where
    taken : IsTaken (lent b.run) u
    cell : u.cell ≡ tr.cell

  stands : Stands before
  stands = by_extent (extent_of b.run.disks.directory tr.cell.0) refl at-cell (put-here.units.in_hand_is_out w tr.cell in-hand)
    where
      by_disk : (e : Extent) → extent_of b.run.disks.directory tr.cell.0 ≡ Some e → is_out b.run.out e.disk.0 ≡ true → (o : Option D) → slice_get b.run.disks.disks e.disk.0 ≡ o → option_map (λ q. unit_state q tr.cell e) o ≡ Some before → Stands before
      by_disk e its out None has is = absurd (none-some before is)
      by_disk e its out (Some d) has is = subst Stands (same_Some (unit_state d tr.cell e) before is) (record { taken = record { its_extent = its; its_disk = has; its_disk_is_out = out }; cell = refl })

      by_extent : (o : Option Extent) → extent_of b.run.disks.directory tr.cell.0 ≡ o → option_and_then (λ (e : Extent). option_map (λ q. unit_state q tr.cell e) (slice_get b.run.disks.disks e.disk.0)) o ≡ Some before → IsSomeAnd o (λ e. is_out b.run.out e.disk.0 ≡ true) → Stands before
      by_extent None its is out = absurd out
      by_extent (Some e) its is out = by_disk e its out (slice_get b.run.disks.disks e.disk.0) refl is

  is-unit : IsUnitOf b.run w before
  is-unit = record { taken = stands.taken; cell = IfSome-from (λ (k : Transfer). before.cell ≡ k.cell) (transfer (state b.run) w) tr put-transfer stands.cell }

  pub put-unit : IsUnitOf x.run w before
  put-unit = subst (λ (k : BoardState D). IsUnitOf k.run w before) (sym ex) is-unit

  pub put-busy : IsBusy x w
  put-busy = subst (λ (k : BoardState D). IsBusy k w) (sym ex) (record { works = record { known = known; goes_on = ap (λ (h : Hand). h.has_stopped) r.hand }; task = ap (λ (h : Hand). is_some h.task) r.hand })

  pub put-held : (u : UnitState D) → u.cell ≡ before.cell → (hand_of x w).unit ≡ Some u.cell
  put-held u same = ap (λ (k : BoardState D). (hand_of k w).unit) ex ∙ in-hand ∙ ap (λ (c : Cell). Some c) (sym (same ∙ stands.cell))

  pub put-out : is_node tr.to ≡ false → IsMovingOut x.run w
  put-out disk = subst (λ (k : BoardState D). IsMovingOut k.run w) (sym ex) (IsSomeAnd-from (λ (k : Transfer). is_node k.to ≡ false) (transfer (state b.run) w) tr put-transfer disk)

  pub put-fetching : is_node tr.from ≡ false → IsFetching x.run w
  put-fetching disk = subst (λ (k : BoardState D). IsFetching k.run w) (sym ex) (IsSomeAnd-from (λ (k : Transfer). is_node k.from ≡ false) (transfer (state b.run) w) tr put-transfer disk)

  module _ {A : Type 0} (u : UnitState D) (result : Result A DiskRefusal) where
    pub put-stored : (array : Array) → IsCarried held (key_of b) tr (row_in b w) array → All (FitsSigned w64) array.elements → (count : ℕ) → (row_in b w).writes ≡ Some count → UnitStores size faults mismatches held count array.elements result before u → HasStoredMoved size faults mismatches held x.run w u result
    put-stored array carried fits count counts stores = subst (λ (k : BoardState D). HasStoredMoved size faults mismatches held k.run w u result) (sym ex) (record {
      before = before;
      is_its_unit = is-unit;
      array = array;
      is_moved = IfSome-from (λ (k : Transfer). IsTileOf held b.run k.cell k.from array) (transfer (state b.run) w) tr put-transfer (record {
        dims = carried.dims;
        array = λ tell. same_Some array (run_arrays b.run tr.cell tr.from) (sym (carried.told tell) ∙ ap (option_map (λ (k : Transfer). run_arrays b.run k.cell k.from)) put-there);
      });
      fits = fits;
      stores = IfSome-from (λ (k : Transfer). UnitStores size faults mismatches held (writes (state b.run) k.cell) array.elements result before u) (transfer (state b.run) w) tr put-transfer
          (subst (λ (n : ℕ). UnitStores size faults mismatches held n array.elements result before u) (count-is b w tr count put-there counts) stores);
    })

    pub put-fetched : (array : Array) → array.dims ≡ dims_of b.run.program tr.cell → length array.elements ≡ area array.dims → (count : ℕ) → (row_in b w).writes ≡ Some count → UnitFetches size faults mismatches held count array.elements result before u → HasFetchedMoved size faults mismatches held x.run w u result array
    put-fetched array dims whole count counts fetches = subst (λ (k : BoardState D). HasFetchedMoved size faults mismatches held k.run w u result array) (sym ex) (record {
      before = before;
      is_its_unit = is-unit;
      dims = IfSome-from (λ (k : Transfer). array.dims ≡ dims_of b.run.program k.cell) (transfer (state b.run) w) tr put-transfer dims;
      whole = whole;
      fetches = IfSome-from (λ (k : Transfer). UnitFetches size faults mismatches held (writes (state b.run) k.cell) array.elements result before u) (transfer (state b.run) w) tr put-transfer
          (subst (λ (n : ℕ). UnitFetches size faults mismatches held n array.elements result before u) (count-is b w tr count put-there counts) fetches);
    })

  -- what the put leaves
  module _ (y : BoardState D) (gives : GivesUnitBack w x y) (others : OthersKeepUnits w x y) where
    pub puts-back : PutsUnitBack w b y
    puts-back = record { back = subst (λ (k : BoardState D). GivesUnitBack w k y) ex gives; others = subst (λ (k : BoardState D). OthersKeepUnits w k y) ex others }

    abbrev put-inside : w.0 < length b.hands
    put-inside = inside-hands b.run.program (state b.run) b.hands b.fault put-here.inside.hands_agree w known

    put-row-is : row_in y w ≡ row_with b y.run.disks w (record (hand_of b w) { unit = None })
    put-row-is =
        ap (λ (k : BoardState D). row_in k w) puts-back.back
        ∙ ap (λ (h : Hand). row_with b y.run.disks w h) (get_or-set_same b.hands w.0 (record (hand_of b w) { unit = None }) empty_hand put-inside)

    pub put-moves : MovesRow w t tr (row_in y w)
    put-moves = record {
      hand = ap (λ (k : BoardRow D). k.hand) put-row-is ∙ ap (λ (h : Hand). record h { unit = None }) r.hand;
      phase = ap (λ (k : BoardRow D). k.phase) put-row-is ∙ r.phase;
      transfer = ap (λ (k : BoardRow D). k.holds.transfer) put-row-is ∙ r.transfer;
    }

    pub put-worker : IsWorkerOf y w
    put-worker = subst (λ (k : BoardState D). IsWorkerOf k w) (sym puts-back.back) known

    pub put-no_event : NothingHappens b y
    put-no_event = ap (λ (k : BoardState D). k.run.trace) puts-back.back
