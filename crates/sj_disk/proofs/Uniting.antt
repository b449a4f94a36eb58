-- What a store and a fetch leave of a unit.
use Rattle.std.proofs.Common.{◌≡◌, ℕ, ◌+◌, ◌≤◌, Bool, true, false, ℤ, List, ◌++◌, length, take, drop, slice_range, w64, refl, sym, ap, ◌∙◌, subst, append_assoc, arith, Option, Some, None, Result, Ok, Err, length-append}
use Rattle.std.specs.Prelude.{replicate, All, FitsSigned, IfErr, IsSome, IsTrue, is_ok, is_some, OnOk}
use Rattle.std.proofs.lemmas.List.{length-replicate, take-append-drop}
use Rattle.sj_base.proofs.Options.{the}
use Rattle.sj_edge.specs.Held.{Fills, GivesHeld, HoldsAnyIn, written}
use Rattle.sj_edge.proofs.Ranges.{length-slice_range, range-rest}
use Rattle.sj_disk.specs.declared.directory.LastStore.{LastStore}
use Rattle.sj_disk.specs.declared.refusal.DiskRefusal.{DiskRefusal}
use Rattle.sj_disk.specs.declared.refusal.DiskRefusal.TheVariants.{DiskFault}
use Rattle.sj_disk.specs.Block.{block, block_bytes, element_bytes, header, header_bytes}
use Rattle.sj_disk.specs.Directory.{last_store, with_store}
use Rattle.sj_disk.specs.Refusals.{is_damage, is_fault, RefusesFor}
use Rattle.sj_disk.specs.Transfers.{Looks, Writes}
use Rattle.sj_disk.specs.Units.{IsSoundUnit, IsWorkedOn, UnitFetches, UnitState, UnitStores, unit_state}
use Rattle.sj_disk.proofs.Bytes.{length-element_bytes, length-header_bytes}
use Rattle.sj_disk.proofs.Sounding.{back-same, gives-front, gives-same, gives-written, tells-still}

-- bytes that are as they were are any bytes in a range
any-same : (h : Option (List ℕ)) (at n size : ℕ) → Fills h size → at + n ≤ size → HoldsAnyIn at n h h
any-same None at n size filled within =
    let nothing : ℕ = 0 in
    let some : List ℕ = replicate n nothing in
    (some, length-replicate {A = ℕ} n nothing, refl)
any-same (Some xs) at n size filled within =
    let fits : at + n ≤ length xs = omega (arith, the (length xs ≡ size) filled) in
    let some : List ℕ = slice_range xs at (at + n) in
    let many : length some ≡ n = length-slice_range xs at n fits in
    let whole : written at some xs ≡ xs =
    append_assoc (take at xs) some (drop (at + length some) xs)
    ∙ ap (λ k. take at xs ++ (some ++ drop (at + k) xs)) many
    ∙ ap (λ ys. take at xs ++ ys) (range-rest xs at n)
    ∙ take-append-drop at xs in
    (some, many, ap Some (sym whole))

pub length-block : (c writes : ℕ) (xs : List ℤ) → length (block c writes xs) ≡ block_bytes (length xs)
length-block c writes xs = omega (arith, length-append (header_bytes (header c writes (length xs))) (element_bytes xs), length-header_bytes (header c writes (length xs)), length-element_bytes xs)

on_ok : {A E P : Type 0} (q : Result A E) → OnOk q P → IsTrue (is_ok q) → P
on_ok (Ok x) h t = h
on_ok (Err x) h t = absurd (the ⊥ (cc))

when-ok : {A E P : Type 0} (q : Result A E) → (IsTrue (is_ok q) → P) → OnOk q P
when-ok (Ok x) h = h refl
when-ok (Err x) h = tt

module _ {D : Type 0} (size faults mismatches : D → ℕ) (held : D → Option (List ℕ)) where
  pub worked-same : (u : UnitState D) → IsSoundUnit size held u → IsWorkedOn size faults mismatches held u u
  worked-same u s = record {
    cell_stays = refl;
    disk_number_stays = refl;
    position_stays = refl;
    length_stays = refl;
    disk_is_given_back = back-same size faults mismatches held u.disk;
    changes_no_byte_outside = any-same (held u.disk) u.extent.position (block_bytes u.extent.length) (size u.disk) s.filled s.inside;
  }

  -- ---- a store

  -- what was written, said as the block of the cell
  pub unit-change : {A : Type 0} (u : UnitState D) (writes : ℕ) (ys xs : List ℤ) (r : Result A DiskRefusal) (y : D) → ys ≡ xs → length xs ≡ u.extent.length → Writes size faults mismatches held u.extent.position (header_bytes (header u.cell.0 writes u.extent.length) ++ element_bytes ys) r u.disk y → Writes size faults mismatches held u.extent.position (block u.cell.0 writes xs) r u.disk y
  unit-change u writes ys xs r y same many w =
      let P : List ℕ → Type 0 = λ bs. Writes size faults mismatches held u.extent.position bs r u.disk y in
      subst P (ap (λ n. header_bytes (header u.cell.0 writes n) ++ element_bytes xs) (sym many)) (subst P (ap (λ zs. header_bytes (header u.cell.0 writes u.extent.length) ++ element_bytes zs) same) w)

  module _ {A : Type 0} (u : UnitState D) (s : IsSoundUnit size held u) (writes : ℕ) (xs : List ℤ) (many : length xs ≡ u.extent.length) (r : Result A DiskRefusal) (y : D) (w : Writes size faults mismatches held u.extent.position (block u.cell.0 writes xs) r u.disk y) where
    long : length (block u.cell.0 writes xs) ≡ block_bytes u.extent.length
    long = length-block u.cell.0 writes xs ∙ ap block_bytes many

    holds : IsTrue (is_ok r) → GivesHeld (held y) u.extent.position (block u.cell.0 writes xs)
    holds ok = gives-written (held u.disk) (held y) u.extent.position (size u.disk) (block u.cell.0 writes xs) s.filled (omega (arith, long, s.inside)) (on_ok r w.puts_the_bytes ok)

    pub sound-stored : (ok : Bool) → ok ≡ is_ok r → IsSoundUnit size held (unit_state y u.cell (with_store u.extent writes ok))
    sound-stored ok same = record {
      inside = omega (arith, s.inside, w.size_stays);
      fits = s.fits;
      filled = w.told_bytes_fill_the_size s.filled;
      headed = λ l el well.
          let last : last_store writes ok ≡ l = the (last_store writes ok ≡ l) (cc) in
          let so : IsTrue ok = subst (λ (x : LastStore). IsTrue x.ended_ok) (sym last) well in
          let there : GivesHeld (held y) u.extent.position (header_bytes (header u.cell.0 writes (length xs))) =
          gives-front (held y) u.extent.position (header_bytes (header u.cell.0 writes (length xs))) (element_bytes xs) (holds (subst IsTrue same so)) in
          subst (λ (x : LastStore). GivesHeld (held y) u.extent.position (header_bytes (header u.cell.0 x.writes u.extent.length))) last (subst (λ n. GivesHeld (held y) u.extent.position (header_bytes (header u.cell.0 writes n))) many there);
    }

    pub unit-stores : (ok : Bool) → ok ≡ is_ok r → IfErr r (λ q. q ≡ DiskFault u.extent.disk) → UnitStores size faults mismatches held writes xs r u (unit_state y u.cell (with_store u.extent writes ok))
    unit-stores ok same named = record {
      fills_the_block = many;
      writes_the_block = w;
      holds_the_block_where_it_ended_well = when-ok r holds;
      notes_how_it_ended = ap (with_store u.extent writes) same;
      refused_by_its_disk = named;
      is_worked_on = record {
        cell_stays = refl;
        disk_number_stays = refl;
        position_stays = refl;
        length_stays = refl;
        disk_is_given_back = record {
          size_stays = w.size_stays;
          tells_as_before = tells-still size faults mismatches held (held u.disk) (held y) u.extent.position (length (block u.cell.0 writes xs)) w.changes_no_byte_outside;
          faults_never_fall = w.fails_only_where_faults_rose.never_falls;
          mismatches_never_fall = omega (arith, w.mismatches_stay);
        };
        changes_no_byte_outside = subst (λ n. HoldsAnyIn u.extent.position n (held u.disk) (held y)) long w.changes_no_byte_outside;
      };
    }

  -- ---- a fetch

  module _ {A : Type 0} (u : UnitState D) (s : IsSoundUnit size held u) (writes : ℕ) (xs : List ℤ) (many : length xs ≡ u.extent.length) (last : u.extent.last_store ≡ Some (last_store writes true)) (r : Result A DiskRefusal) (y : D) (looks : Looks size faults mismatches held (is_fault r) (is_damage r) u.disk y) where
    pub unit-fetches : OnOk r (GivesHeld (held u.disk) u.extent.position (header_bytes (header u.cell.0 writes u.extent.length) ++ element_bytes xs)) → OnOk r (All (FitsSigned w64) xs) → RefusesFor u.extent.disk (header u.cell.0 writes u.extent.length) r → (IsSome (held u.disk) → GivesHeld (held u.disk) u.extent.position (header_bytes (header u.cell.0 writes u.extent.length)) → is_damage r ≡ false) → UnitFetches size faults mismatches held writes xs r u (unit_state y u.cell u.extent)
    unit-fetches gives fits refuses undamaged = record {
      looks_at_its_disk = looks;
      gives_what_is_held = when-ok r (λ ok. its-block (on_ok r gives ok));
      gives_what_was_stored = when-ok r (λ ok ys fy n tells hy. gives-same (held u.disk) u.extent.position u.cell.0 writes xs ys (many ∙ sym n) (on_ok r fits ok) fy tells (its-block (on_ok r gives ok)) hy);
      extent_stays = refl;
      refused_by_its_disk = refuses;
      undamaged_where_it_tells = λ tells. undamaged tells (s.headed (last_store writes true) last refl);
      is_worked_on = record {
        cell_stays = refl;
        disk_number_stays = refl;
        position_stays = refl;
        length_stays = refl;
        disk_is_given_back = record {
          size_stays = looks.size_stays;
          tells_as_before = ap is_some looks.told_bytes_stay;
          faults_never_fall = looks.fails_only_where_faults_rose.never_falls;
          mismatches_never_fall = looks.differs_only_where_mismatches_rose.never_falls;
        };
        changes_no_byte_outside = subst (λ h. HoldsAnyIn u.extent.position (block_bytes u.extent.length) (held u.disk) h) (sym looks.told_bytes_stay) (any-same (held u.disk) u.extent.position (block_bytes u.extent.length) (size u.disk) s.filled s.inside);
      };
    }
      where
        its-block : GivesHeld (held u.disk) u.extent.position (header_bytes (header u.cell.0 writes u.extent.length) ++ element_bytes xs) → GivesHeld (held u.disk) u.extent.position (block u.cell.0 writes xs)
        its-block h = subst (λ n. GivesHeld (held u.disk) u.extent.position (header_bytes (header u.cell.0 writes n) ++ element_bytes xs)) (sym many) h
