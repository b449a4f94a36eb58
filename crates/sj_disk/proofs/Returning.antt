-- What a set of disks is where a unit was taken out, and where it came back.
use Rattle.std.proofs.Common.{◌≡◌, ◌≢◌, ℕ, ◌+◌, ◌<◌, ◌≤◌, ◌⊎◌, inl, inr, Bool, ℤ, List, length, get_or, refl, sym, ap, ◌∙◌, subst, arith, Option, Some, None, Result, Ok, Err}
use Rattle.std.specs.Prelude.{slice_get, slice_set, IsTrue, OnOk}
use Rattle.std.proofs.lemmas.Bool.{cases_eq, cases_lt}
use Rattle.std.proofs.lemmas.List.{get_or-set_same, get_or-set_other, get_or_past, set-get_or}
use Rattle.std.proofs.lemmas.Option.{slice_get_within}
use Rattle.std.proofs.lemmas.Result.{on_ok_weaker}
use Rattle.sj_base.specs.declared.ids.Cell.{Cell}
use Rattle.sj_base.specs.declared.ids.DiskNo.{DiskNo}
use Rattle.sj_base.proofs.Options.{the}
use Rattle.sj_base.proofs.Lists.{map-places}
use Rattle.sj_edge.specs.Held.{Fills, GivesHeld, HoldsAnyIn}
use Rattle.sj_disk.specs.declared.directory.Extent.{Extent}
use Rattle.sj_disk.specs.declared.directory.LastStore.{LastStore}
use Rattle.sj_disk.specs.declared.refusal.DiskRefusal.{DiskRefusal}
use Rattle.sj_disk.specs.Block.{block, block_bytes, header, header_bytes}
use Rattle.sj_disk.specs.Calls.{Fetches, Stores}
use Rattle.sj_disk.specs.Directory.{IsLaidOut, disk_state, extent_of}
use Rattle.sj_disk.specs.Holding.{ChangesAt, CountsStay, HaveHeaders, Holds, KeepsBlock}
use Rattle.sj_disk.specs.Refusals.{is_damage, is_fault}
use Rattle.sj_disk.specs.Sound.{AreSoundDisks}
use Rattle.sj_disk.specs.Transfers.{Looks, Writes}
use Rattle.sj_disk.specs.Lending.{IsTaken, has_back, lending}
use Rattle.sj_disk.specs.Units.{IsSoundUnit, IsWorkedOn, UnitFetches, UnitState, UnitStores, unit_state}
use Rattle.sj_disk.proofs.Bytes.{length-header_bytes}
use Rattle.sj_disk.proofs.Sounding.{back-look, back-write, before, changes-set, counts-look, counts-write, each, get-set, inside-disk, inside-fits, keeps-look, keeps-range, laid-still}

same_number : (d e : DiskNo) → d.0 ≡ e.0 → d ≡ e
same_number d e h = ap (λ n. let x : DiskNo = record { 0 = n } in x) h

-- an extent in the place of itself
pub extent-stays : (directory : List (Option Extent)) (c : ℕ) (e : Extent) → extent_of directory c ≡ Some e → slice_set directory c (Some e) ≡ directory
extent-stays directory c e ee = ap (λ x. slice_set directory c x) (sym ee) ∙ set-get_or directory c None

-- a cell that has an extent stands in the directory
pub within-directory : (directory : List (Option Extent)) (c : ℕ) (e : Extent) → extent_of directory c ≡ Some e → c < length directory
within-directory directory c e ee = elim (cases_lt c (length directory)) [
  | inl lt ↦ lt
  | inr ge ↦ let past : extent_of directory c ≡ None = get_or_past directory c None ge in absurd (the ⊥ (cc))
]

module _ {D : Type 0} (size faults mismatches : D → ℕ) (held : D → Option (List ℕ)) where
  -- what stands beside the block still stands
  abbrev IsReworked : Extent → D → D → Type 0
  IsReworked e x y = (size y ≡ size x) × Fills (held y) (size y) × HoldsAnyIn e.position (block_bytes e.length) (held x) (held y)

  module _ (old new : List D) (sizes taken : List ℕ) (directory : List (Option Extent)) (c : ℕ) (e f : Extent) (ee : extent_of directory c ≡ Some e) (s : AreSoundDisks size held old sizes taken directory) (ch : ChangesAt e.disk.0 (IsReworked e) old new) (its_disk : f.disk ≡ e.disk) (its_position : f.position ≡ e.position) (its_length : f.length ≡ e.length) where
    same_size : (k : ℕ) (x y : D) → slice_get old k ≡ Some x → slice_get new k ≡ Some y → size y ≡ size x
    same_size = each (IsReworked e) (λ x y. size y ≡ size x) e.disk.0 old new ch (λ x. refl) (λ x y ex p. p.0)

    -- bytes that stand apart from the block still stand
    keeps-apart : (g : Extent) (bytes : List ℕ) → (g.disk.0 ≡ e.disk.0 → (e.position + block_bytes e.length ≤ g.position) ⊎ (g.position + length bytes ≤ e.position)) → Holds held old g bytes → Holds held new g bytes
    keeps-apart g bytes beside h y ey = elim (cases_eq g.disk.0 e.disk.0) [
      | inl same ↦
          let ey' : slice_get new e.disk.0 ≡ Some y = subst (λ k. slice_get new k ≡ Some y) same ey in
          let x = before (IsReworked e) e.disk.0 old new ch e.disk.0 y ey' in
          let ex : slice_get old g.disk.0 ≡ Some x.0 = subst (λ k. slice_get old k ≡ Some x.0) (sym same) x.1 in
          let p : IsReworked e x.0 y = ch.there x.0 y x.1 ey' in
          keeps-range (held x.0) (held y) e.position (block_bytes e.length) g.position (size x.0) bytes (s.filled e.disk.0 x.0 x.1) (inside-disk size faults mismatches held old sizes taken directory c e x.0 s ee x.1) p.2 (beside same) (h x.0 ex)
      | inr ne ↦ h y (sym (ch.others_stay g.disk.0 ne) ∙ ey)
    ]

    apart-from : (q : ℕ) (g : Extent) → q ≢ c → extent_of directory q ≡ Some g → g.disk.0 ≡ e.disk.0 → (e.position + block_bytes e.length ≤ g.position) ⊎ (g.position + block_bytes g.length ≤ e.position)
    apart-from q g ne eg same = s.laid_out.apart c q e g (λ eq. ne (sym eq)) ee eg (same_number e.disk g.disk (sym same))

    pub keeps-other : (q : ℕ) (g : Extent) → q ≢ c → extent_of directory q ≡ Some g → KeepsBlock held g old new
    keeps-other q g ne eg bytes nb h = keeps-apart g bytes (λ same. elim (apart-from q g ne eg same) [ inl after ↦ inl after | inr ahead ↦ inr (omega (arith, nb)) ]) h

    after : List (Option Extent)
    after = slice_set directory c (Some f)

    itself : (g : Extent) → extent_of after c ≡ Some g → f ≡ g
    unfolding after
    itself g eg =
        let now : extent_of after c ≡ Some f = get_or-set_same directory c (Some f) None (within-directory directory c e ee) in
        cc

    others : (q : ℕ) → q ≢ c → extent_of after q ≡ extent_of directory q
    unfolding after
    others q ne = get_or-set_other directory c q (Some f) None ne

    -- each extent lies where one lay
    was : (q : ℕ) (g : Extent) → extent_of after q ≡ Some g → (h : Extent) × (extent_of directory q ≡ Some h) × (h.disk ≡ g.disk) × (h.position ≡ g.position) × (h.length ≡ g.length)
    was q g eg = elim (cases_eq q c) [
      | inl same ↦
          let so : f ≡ g = itself g (subst (λ k. extent_of after k ≡ Some g) same eg) in
          (e, subst (λ k. extent_of directory k ≡ Some e) (sym same) ee, sym its_disk ∙ ap (λ (x : Extent). x.disk) so, sym its_position ∙ ap (λ (x : Extent). x.position) so, sym its_length ∙ ap (λ (x : Extent). x.length) so)
      | inr ne ↦ (g, sym (others q ne) ∙ eg, refl, refl, refl)
    ]

    module _ (headed : (l : LastStore) → f.last_store ≡ Some l → IsTrue l.ended_ok → Holds held new f (header_bytes (header c l.writes f.length))) where
      headers-back : HaveHeaders held new after
      headers-back q g l eg el ok = elim (cases_eq q c) [
        | inl same ↦
            let so : f ≡ g = itself g (subst (λ k. extent_of after k ≡ Some g) same eg) in
            let last : f.last_store ≡ Some l = ap (λ (x : Extent). x.last_store) so ∙ el in
            subst (λ (x : Extent). Holds held new x (header_bytes (header q l.writes x.length))) so (subst (λ k. Holds held new f (header_bytes (header k l.writes f.length))) (sym same) (headed l last ok))
        | inr ne ↦
            let eg' : extent_of directory q ≡ Some g = sym (others q ne) ∙ eg in
            keeps-apart g (header_bytes (header q l.writes g.length)) (λ same. elim (apart-from q g ne eg' same) [ inl after ↦ inl after | inr ahead ↦ inr (omega (arith, length-header_bytes (header q l.writes g.length))) ]) (s.headers q g l eg' el ok)
      ]

      pub sound-back : AreSoundDisks size held new sizes taken (slice_set directory c (Some f))
      unfolding after
      sound-back = record {
        few = omega (arith, s.few, ch.as_many);
        sized = s.sized ∙ sym (map-places size old new ch.as_many same_size);
        bounded = s.bounded;
        filled = λ k y ey.
            let x = before (IsReworked e) e.disk.0 old new ch k y ey in
            each (IsReworked e) (λ x y. Fills (held x) (size x) → Fills (held y) (size y)) e.disk.0 old new ch (λ x h. h) (λ x y ex p h. p.1) k x.0 y x.1 ey (s.filled k x.0 x.1);
        laid_out = laid-still sizes taken directory after s.laid_out was;
        headers = headers-back;
      }

  -- ---- taken out

  -- a cell's block, on its disk, is sound as a unit
  pub sound-taken : (disks : List D) (sizes taken : List ℕ) (directory : List (Option Extent)) (c : Cell) (e : Extent) (x : D) → AreSoundDisks size held disks sizes taken directory → extent_of directory c.0 ≡ Some e → slice_get disks e.disk.0 ≡ Some x → IsSoundUnit size held (unit_state x c e)
  sound-taken disks sizes taken directory c e x s ee ex = record {
    inside = inside-disk size faults mismatches held disks sizes taken directory c.0 e x s ee ex;
    fits = inside-fits size faults mismatches held disks sizes taken directory c.0 e s ee;
    filled = s.filled e.disk.0 x ex;
    headed = λ l el well. s.headers c.0 e l ee el well x ex;
  }

  -- ---- back again

  module _ (disks : List D) (sizes taken : List ℕ) (directory : List (Option Extent)) (out : List Bool) (s : AreSoundDisks size held disks sizes taken directory) (b u : UnitState D) (is : IsTaken (lending (disk_state disks taken directory) out) b) (su : IsSoundUnit size held u) (worked : IsWorkedOn size faults mismatches held b u) where
    reworked : IsReworked b.extent b.disk u.disk
    reworked = (worked.disk_is_given_back.size_stays, su.filled, worked.changes_no_byte_outside)

    at-its-place : ChangesAt b.extent.disk.0 (IsReworked b.extent) disks (slice_set disks b.extent.disk.0 u.disk)
    at-its-place = changes-set (IsReworked b.extent) disks b.extent.disk.0 b.disk u.disk is.its_disk reworked

    -- the disk stands in its place
    stands : slice_get (slice_set disks b.extent.disk.0 u.disk) b.extent.disk.0 ≡ Some u.disk
    stands = get-set disks b.extent.disk.0 u.disk (slice_get_within disks b.extent.disk.0 b.disk is.its_disk)

    is-there : (y : D) → slice_get (slice_set disks b.extent.disk.0 u.disk) b.extent.disk.0 ≡ Some y → u.disk ≡ y
    is-there y ey = let h : slice_get (slice_set disks b.extent.disk.0 u.disk) b.extent.disk.0 ≡ Some u.disk = stands in the (u.disk ≡ y) (cc)

    headed-there : (l : LastStore) → u.extent.last_store ≡ Some l → IsTrue l.ended_ok → Holds held (slice_set disks b.extent.disk.0 u.disk) u.extent (header_bytes (header b.cell.0 l.writes u.extent.length))
    headed-there l el ok y ey =
        let ey' : slice_get (slice_set disks b.extent.disk.0 u.disk) b.extent.disk.0 ≡ Some y = subst (λ (d : DiskNo). slice_get (slice_set disks b.extent.disk.0 u.disk) d.0 ≡ Some y) worked.disk_number_stays ey in
        subst (λ (c : Cell). GivesHeld (held y) u.extent.position (header_bytes (header c.0 l.writes u.extent.length))) worked.cell_stays (subst (λ x. GivesHeld (held x) u.extent.position (header_bytes (header u.cell.0 l.writes u.extent.length))) (is-there y ey') (su.headed l el ok))

    pub is-sound-back : AreSoundDisks size held (slice_set disks u.extent.disk.0 u.disk) sizes taken (slice_set directory u.cell.0 (Some u.extent))
    is-sound-back =
        let sound : AreSoundDisks size held (slice_set disks b.extent.disk.0 u.disk) sizes taken (slice_set directory b.cell.0 (Some u.extent)) =
        sound-back disks (slice_set disks b.extent.disk.0 u.disk) sizes taken directory b.cell.0 b.extent u.extent is.its_extent s at-its-place worked.disk_number_stays worked.position_stays worked.length_stays headed-there in
        subst (λ (c : Cell). AreSoundDisks size held (slice_set disks u.extent.disk.0 u.disk) sizes taken (slice_set directory c.0 (Some u.extent))) (sym worked.cell_stays) (subst (λ (d : DiskNo). AreSoundDisks size held (slice_set disks d.0 u.disk) sizes taken (slice_set directory b.cell.0 (Some u.extent))) (sym worked.disk_number_stays) sound)

    -- the set with the unit back, said by where the unit was
    placed : slice_set disks u.extent.disk.0 u.disk ≡ slice_set disks b.extent.disk.0 u.disk
    placed = ap (λ (d : DiskNo). slice_set disks d.0 u.disk) worked.disk_number_stays

    listed : slice_set directory u.cell.0 (Some u.extent) ≡ slice_set directory b.cell.0 (Some u.extent)
    listed = ap (λ (c : Cell). slice_set directory c.0 (Some u.extent)) worked.cell_stays

    others-keep : (q : ℕ) (g : Extent) → q ≢ b.cell.0 → extent_of directory q ≡ Some g → KeepsBlock held g disks (slice_set disks b.extent.disk.0 u.disk)
    others-keep = keeps-other disks (slice_set disks b.extent.disk.0 u.disk) sizes taken directory b.cell.0 b.extent u.extent is.its_extent s at-its-place worked.disk_number_stays worked.position_stays worked.length_stays

    module _ {A : Type 0} (writes : ℕ) (xs : List ℤ) (r : Result A DiskRefusal) where
      pub has-stored : UnitStores size faults mismatches held writes xs r b u → Stores size faults mismatches held b.cell.0 writes xs r (disk_state disks taken directory) (has_back (lending (disk_state disks taken directory) out) u).set b.extent
      has-stored stores =
          let ch : ChangesAt b.extent.disk.0 (Writes size faults mismatches held b.extent.position (block b.cell.0 writes xs) r) disks (slice_set disks b.extent.disk.0 u.disk) =
          changes-set (Writes size faults mismatches held b.extent.position (block b.cell.0 writes xs) r) disks b.extent.disk.0 b.disk u.disk is.its_disk stores.writes_the_block in
          let there : Stores size faults mismatches held b.cell.0 writes xs r (disk_state disks taken directory) (disk_state (slice_set disks b.extent.disk.0 u.disk) taken (slice_set directory b.cell.0 (Some u.extent))) b.extent =
          record {
            writes_the_block = ch;
            holds_the_block_where_it_ended_well = on_ok_weaker r (λ h y ey. subst (λ x. GivesHeld (held x) b.extent.position (block b.cell.0 writes xs)) (is-there y ey) h) stores.holds_the_block_where_it_ended_well;
            no_count_rose_where_it_ended_well = counts-write size faults mismatches held b.extent.disk.0 b.extent.position (block b.cell.0 writes xs) r disks (slice_set disks b.extent.disk.0 u.disk) ch;
            disks_are_given_back = back-write size faults mismatches held b.extent.disk.0 b.extent.position (block b.cell.0 writes xs) r disks (slice_set disks b.extent.disk.0 u.disk) ch;
            notes_how_it_ended = ap (λ e. slice_set directory b.cell.0 (Some e)) stores.notes_how_it_ended;
            takes_no_more = refl;
            other_blocks_stay = others-keep;
            refused_by_its_disk = stores.refused_by_its_disk;
          } in
          subst (λ ds. Stores size faults mismatches held b.cell.0 writes xs r (disk_state disks taken directory) (disk_state ds taken (slice_set directory u.cell.0 (Some u.extent))) b.extent) (sym placed) (subst (λ es. Stores size faults mismatches held b.cell.0 writes xs r (disk_state disks taken directory) (disk_state (slice_set disks b.extent.disk.0 u.disk) taken es) b.extent) (sym listed) there)

      pub has-fetched : UnitFetches size faults mismatches held writes xs r b u → Fetches size faults mismatches held b.cell.0 writes xs r (disk_state disks taken directory) (has_back (lending (disk_state disks taken directory) out) u).set b.extent
      has-fetched fetches =
          let new : List D = slice_set disks b.extent.disk.0 u.disk in
          let ch : ChangesAt b.extent.disk.0 (Looks size faults mismatches held (is_fault r) (is_damage r)) disks new =
          changes-set (Looks size faults mismatches held (is_fault r) (is_damage r)) disks b.extent.disk.0 b.disk u.disk is.its_disk fetches.looks_at_its_disk in
          let there : Fetches size faults mismatches held b.cell.0 writes xs r (disk_state disks taken directory) (disk_state new taken (slice_set directory b.cell.0 (Some u.extent))) b.extent =
          record {
            looks_at_its_disk = ch;
            all_blocks_stay = keeps-look size faults mismatches held (is_fault r) (is_damage r) b.extent.disk.0 disks new ch;
            no_count_rose_where_it_ended_well = quiet r ch;
            disks_are_given_back = back-look size faults mismatches held (is_fault r) (is_damage r) b.extent.disk.0 disks new ch;
            directory_stays = ap (λ e. slice_set directory b.cell.0 (Some e)) fetches.extent_stays ∙ extent-stays directory b.cell.0 b.extent is.its_extent;
            takes_no_more = refl;
            gives_what_is_held = on_ok_weaker r (λ h x ex. subst (λ y. GivesHeld (held y) b.extent.position (block b.cell.0 writes xs)) (was-there x ex) h) fetches.gives_what_is_held;
            gives_what_was_stored = on_ok_weaker r (λ h ys fits n tells hy. h ys fits n (tells b.disk is.its_disk) (hy b.disk is.its_disk)) fetches.gives_what_was_stored;
            refused_by_its_disk = fetches.refused_by_its_disk;
            undamaged_where_it_tells = λ tells. fetches.undamaged_where_it_tells (tells b.disk is.its_disk);
          } in
          subst (λ ds. Fetches size faults mismatches held b.cell.0 writes xs r (disk_state disks taken directory) (disk_state ds taken (slice_set directory u.cell.0 (Some u.extent))) b.extent) (sym placed) (subst (λ es. Fetches size faults mismatches held b.cell.0 writes xs r (disk_state disks taken directory) (disk_state new taken es) b.extent) (sym listed) there)
        where
          was-there : (x : D) → slice_get disks b.extent.disk.0 ≡ Some x → b.disk ≡ x
          was-there x ex = let h : slice_get disks b.extent.disk.0 ≡ Some b.disk = is.its_disk in the (b.disk ≡ x) (cc)

          quiet : (q : Result A DiskRefusal) → ChangesAt b.extent.disk.0 (Looks size faults mismatches held (is_fault q) (is_damage q)) disks (slice_set disks b.extent.disk.0 u.disk) → OnOk q (CountsStay faults mismatches disks (slice_set disks b.extent.disk.0 u.disk))
          quiet (Ok x) h = counts-look size faults mismatches held b.extent.disk.0 disks (slice_set disks b.extent.disk.0 u.disk) h
          quiet (Err x) h = tt
