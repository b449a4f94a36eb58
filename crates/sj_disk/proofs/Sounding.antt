-- What a store and a fetch leave of a set of disks.
use Rattle.std.proofs.Common.{◌≡◌, ◌≢◌, ℕ, zero, suc, ◌+◌, ◌-◌, ◌^◌, ◌<◌, ◌≤◌, ◌⊎◌, inl, inr, Bool, true, false, ℤ, List, [], ◌∷◌, ◌++◌, length, take, drop, get_or, slice_range, w64, refl, sym, ap, ◌∙◌, subst, arith, Option, Some, None, Result, Ok, Err, length-append}
use Rattle.std.specs.Prelude.{slice_get, slice_set, option_map, is_some, All, FitsSigned, IfErr, IsSome, IsSomeAnd, IsTrue, is_ok, OnOk}
use Rattle.std.proofs.Math.Seq.{take-append_seam}
use Rattle.std.proofs.lemmas.Bool.{cases_eq, cases_lt}
use Rattle.std.proofs.lemmas.List.{get_or-set_same, get_or-set_other, append_cancel_left, get_or_past, length-map, length-set, take-take}
use Rattle.std.proofs.lemmas.Option.{slice_get_within}
use Rattle.sj_base.specs.declared.ids.DiskNo.{DiskNo}
use Rattle.std.specs.List.{AllZip}
use Rattle.sj_base.proofs.Options.{the}
use Rattle.sj_base.proofs.Lists.{get_or-map_at, map-places}
use Rattle.sj_edge.specs.GivenBack.{AreGivenBack, IsGivenBack}
use Rattle.sj_edge.specs.Held.{Fills, GivesHeld, HoldsAnyIn, written}
use Rattle.sj_edge.proofs.Ranges.{slice_range-written, slice_range-written-before, slice_range-written-after}
use Rattle.sj_disk.specs.declared.directory.Extent.{Extent}
use Rattle.sj_disk.specs.declared.header.Header.{Header}
use Rattle.sj_disk.specs.declared.directory.LastStore.{LastStore}
use Rattle.sj_disk.specs.Block.{block, block_bytes, element_bytes, header, header_bytes}
use Rattle.sj_disk.specs.Calls.{Fetches, Stores}
use Rattle.sj_disk.specs.Directory.{DiskState, IsLaidOut, disk_state, extent_of, last_store, with_store}
use Rattle.sj_disk.specs.declared.refusal.DiskRefusal.{DiskRefusal}
use Rattle.sj_disk.specs.declared.refusal.DiskRefusal.TheVariants.{DiskFault}
use Rattle.sj_disk.specs.Holding.{ChangesAt, CountsStay, HaveHeaders, Holds, KeepsBlock, TellsBytes}
use Rattle.sj_disk.specs.Refusals.{is_damage, is_fault, RefusesFor}
use Rattle.sj_disk.specs.Sound.{AreSoundDisks}
use Rattle.sj_disk.specs.Transfers.{Looks, Writes}
use Rattle.sj_disk.proofs.Bytes.{element_bytes-same, length-element_bytes, length-header_bytes}

-- ---- lists

pub found : {D : Type 0} (xs : List D) (i : ℕ) → i < length xs → (x : D) × (slice_get xs i ≡ Some x)
found [] i lt = absurd (omega arith)
found (x ∷ xs) zero lt = (x, refl)
found (x ∷ xs) (suc i) lt = found xs i (omega arith)

pub get-set : {D : Type 0} (xs : List D) (i : ℕ) (y : D) → i < length xs → slice_get (slice_set xs i y) i ≡ Some y
get-set [] i y lt = absurd (omega arith)
get-set (x ∷ xs) zero y lt = refl
get-set (x ∷ xs) (suc i) y lt = get-set xs i y (omega arith)

pub get-set_other : {D : Type 0} (xs : List D) (i k : ℕ) (y : D) → k ≢ i → slice_get (slice_set xs i y) k ≡ slice_get xs k
get-set_other [] i k y ne = refl
get-set_other (x ∷ xs) zero zero y ne = absurd (ne refl)
get-set_other (x ∷ xs) zero (suc k) y ne = refl
get-set_other (x ∷ xs) (suc i) zero y ne = refl
get-set_other (x ∷ xs) (suc i) (suc k) y ne = get-set_other xs i k y (λ e. ne (ap suc e))

-- what is there is what it was said to be
pub some-and : {X : Type 0} (P : X → Type 0) (o : Option X) (x : X) → o ≡ Some x → IsSomeAnd o P → P x
some-and P None x e h = absurd (the ⊥ (cc))
some-and P (Some y) x e h = subst P (the (y ≡ x) (cc)) h

-- what is known of a cell's extent in a set's state is so of the one that was looked up in its directory
pub looked-up : {D : Type 0} (P : Extent → Type 0) (slice inner : List (Option Extent)) (c : ℕ) (e : Extent) (t : DiskState D) → slice ≡ inner → inner ≡ t.directory → extent_of slice c ≡ Some e → IsSomeAnd (extent_of t.directory c) P → (extent_of inner c ≡ Some e) × (extent_of t.directory c ≡ Some e) × P e
looked-up P slice inner c e t same view look known =
    let here : extent_of inner c ≡ Some e = ap (λ d. extent_of d c) (sym same) ∙ look in
    let there : extent_of t.directory c ≡ Some e = ap (λ d. extent_of d c) (sym view) ∙ here in
    (here, there, some-and P (extent_of t.directory c) e there known)

-- ---- one disk changed

-- a disk of the list in the place of another
pub changes-set : {D : Type 0} (P : D → D → Type 0) (xs : List D) (d : ℕ) (x y : D) → slice_get xs d ≡ Some x → P x y → ChangesAt d P xs (slice_set xs d y)
changes-set P xs d x y e p = record {
  as_many = length-set xs d y;
  others_stay = λ k ne. get-set_other xs d k y ne;
  there = λ a b ea eb.
      let same : x ≡ a = the (x ≡ a) (cc) in
      let now : slice_get (slice_set xs d y) d ≡ Some y = get-set xs d y (slice_get_within xs d x e) in
      let so : y ≡ b = the (y ≡ b) (cc) in
      subst (λ b. P a b) so (subst (λ a. P a y) same p);
}

-- what holds of each disk and its successor
pub each : {D : Type 0} (P Q : D → D → Type 0) (d : ℕ) (old new : List D) → ChangesAt d P old new → ((x : D) → Q x x) → ((x y : D) → slice_get old d ≡ Some x → P x y → Q x y) → (k : ℕ) (x y : D) → slice_get old k ≡ Some x → slice_get new k ≡ Some y → Q x y
each P Q d old new ch same changed k x y ex ey = elim (cases_eq k d) [
  | inl e ↦
      let ex' : slice_get old d ≡ Some x = subst (λ i. slice_get old i ≡ Some x) e ex in
      changed x y ex' (ch.there x y ex' (subst (λ i. slice_get new i ≡ Some y) e ey))
  | inr ne ↦
      let so : x ≡ y = let o = ch.others_stay k ne in the (x ≡ y) (cc) in
      subst (λ z. Q x z) so (same x)
]

pub zips : {D : Type 0} (Q : D → D → Type 0) (old new : List D) → length new ≡ length old → ((k : ℕ) (x y : D) → slice_get old k ≡ Some x → slice_get new k ≡ Some y → Q x y) → AllZip Q old new
zips Q [] [] n h = tt
zips Q [] (y ∷ new) n h = absurd (omega arith)
zips Q (x ∷ old) [] n h = absurd (omega arith)
zips Q (x ∷ old) (y ∷ new) n h = (h 0 x y refl refl, zips Q old new (omega arith) (λ k. h (suc k)))

-- each disk had a predecessor
pub before : {D : Type 0} (P : D → D → Type 0) (d : ℕ) (old new : List D) → ChangesAt d P old new → (k : ℕ) (y : D) → slice_get new k ≡ Some y → (x : D) × (slice_get old k ≡ Some x)
before P d old new ch k y e = found old k (omega (arith, ch.as_many, slice_get_within new k y e))

-- ---- ranges of one disk

-- bytes beside the range that was written are as they were
pub keeps-range : (a b : Option (List ℕ)) (at n i size : ℕ) (bytes : List ℕ) → Fills a size → at + n ≤ size → HoldsAnyIn at n a b → ((at + n ≤ i) ⊎ (i + length bytes ≤ at)) → GivesHeld a i bytes → GivesHeld b i bytes
keeps-range None b at n i size bytes filled within any beside held = subst (λ h. GivesHeld h i bytes) (sym any.2) tt
keeps-range (Some xs) b at n i size bytes filled within any beside held =
    let zs : List ℕ = any.0 in
    let fits : at + length zs ≤ length xs = omega (arith, any.1, the (length xs ≡ size) filled) in
    let stays : slice_range (written at zs xs) i (i + length bytes) ≡ slice_range xs i (i + length bytes) =
    elim beside [
      | inl after ↦ slice_range-written-after xs zs at i (i + length bytes) fits (omega (arith, any.1))
      | inr ahead ↦ slice_range-written-before xs zs at i (i + length bytes) fits (omega arith) ahead
    ] in
    subst (λ h. GivesHeld h i bytes) (sym any.2) (held ∙ sym stays)

-- the bytes that were written stand there
pub gives-written : (a b : Option (List ℕ)) (at size : ℕ) (bytes : List ℕ) → Fills a size → at + length bytes ≤ size → b ≡ option_map (written at bytes) a → GivesHeld b at bytes
gives-written None b at size bytes filled within e = subst (λ h. GivesHeld h at bytes) (sym e) tt
gives-written (Some xs) b at size bytes filled within e =
    subst (λ h. GivesHeld h at bytes) (sym e) (sym (slice_range-written xs bytes at (omega (arith, the (length xs ≡ size) filled))))

-- the front of bytes that stand there stands there
pub gives-front : (a : Option (List ℕ)) (at : ℕ) (bs cs : List ℕ) → GivesHeld a at (bs ++ cs) → GivesHeld a at bs
gives-front None at bs cs h = tt
gives-front (Some xs) at bs cs h =
    let n : ℕ = length bs in
    let m : ℕ = length (bs ++ cs) in
    let e : at + n - at ≡ n = omega arith in
    let f : at + m - at ≡ m = omega arith in
    let le : n ≤ m = omega (arith, length-append bs cs) in
    sym (take-append_seam bs cs) ∙ ap (take n) (h ∙ ap (λ k. take k (drop at xs)) f) ∙ take-take n m (drop at xs) le ∙ ap (λ k. take k (drop at xs)) (sym e)

-- blocks that stand in one place, with as many elements, have the same elements
pub gives-same : (a : Option (List ℕ)) (at c writes : ℕ) (xs ys : List ℤ) → length xs ≡ length ys → All (FitsSigned w64) xs → All (FitsSigned w64) ys → IsSome a → GivesHeld a at (block c writes xs) → GivesHeld a at (block c writes ys) → xs ≡ ys
gives-same None at c writes xs ys n fx fy told hx hy = absurd (the ⊥ (cc))
gives-same (Some zs) at c writes xs ys n fx fy told hx hy =
    let many : length (block c writes xs) ≡ length (block c writes ys) = omega (arith, length-append (header_bytes (header c writes (length xs))) (element_bytes xs), length-append (header_bytes (header c writes (length ys))) (element_bytes ys), length-header_bytes (header c writes (length xs)), length-header_bytes (header c writes (length ys)), length-element_bytes xs, length-element_bytes ys) in
    let same : block c writes xs ≡ block c writes ys = hx ∙ ap (λ k. slice_range zs at (at + k)) many ∙ sym hy in
    let front : block c writes xs ≡ header_bytes (header c writes (length ys)) ++ element_bytes xs = ap (λ k. header_bytes (header c writes k) ++ element_bytes xs) n in
    element_bytes-same xs ys fx fy (append_cancel_left (header_bytes (header c writes (length ys))) (element_bytes xs) (element_bytes ys) (sym front ∙ same))

-- where each extent lies where one lay before, the layout stays
pub laid-still : (sizes taken : List ℕ) (old new : List (Option Extent)) → IsLaidOut sizes taken old
    → ((q : ℕ) (f : Extent) → extent_of new q ≡ Some f → (g : Extent) × (extent_of old q ≡ Some g) × (g.disk ≡ f.disk) × (g.position ≡ f.position) × (g.length ≡ f.length))
    → IsLaidOut sizes taken new
laid-still sizes taken old new l was = record {
  as_many = l.as_many;
  within = l.within;
  on_a_disk = λ q f ef. let g = was q f ef in subst (λ (d : DiskNo). d.0 < length sizes) g.2 (l.on_a_disk q g.0 g.1);
  inside = λ q f ef.
      let g = was q f ef in
      let h : g.0.position + block_bytes g.0.length ≤ get_or taken g.0.disk.0 0 = l.inside q g.0 g.1 in
      let same : get_or taken g.0.disk.0 0 ≡ get_or taken f.disk.0 0 = ap (λ (d : DiskNo). get_or taken d.0 0) g.2 in
      omega (arith, g.3, g.4);
  apart = λ a b f g ne ef eg same.
      let x = was a f ef in
      let y = was b g eg in
      elim (l.apart a b x.0 y.0 ne x.1 y.1 (x.2 ∙ same ∙ sym y.2)) [
        | inl h ↦ inl (omega (arith, x.3, x.4, y.3, y.4))
        | inr h ↦ inr (omega (arith, x.3, x.4, y.3, y.4))
      ];
}

module _ {D : Type 0} (size faults mismatches : D → ℕ) (held : D → Option (List ℕ)) where
  pub tells-still : (a b : Option (List ℕ)) (at n : ℕ) → HoldsAnyIn at n a b → is_some b ≡ is_some a
  tells-still None b at n any = ap is_some any.2
  tells-still (Some xs) b at n any = ap is_some any.2

  pub back-same : (x : D) → IsGivenBack size faults mismatches held x x
  back-same x = record { size_stays = refl; tells_as_before = refl; faults_never_fall = omega arith; mismatches_never_fall = omega arith }

  -- ---- a look changes nothing that is held

  pub sound-look : (failed differed : Bool) (d : ℕ) (old new : List D) (sizes taken : List ℕ) (directory : List (Option Extent)) → ChangesAt d (Looks size faults mismatches held failed differed) old new → AreSoundDisks size held old sizes taken directory → AreSoundDisks size held new sizes taken directory
  sound-look failed differed d old new sizes taken directory ch s =
      let P : D → D → Type 0 = Looks size faults mismatches held failed differed in
      let same_size : (k : ℕ) (x y : D) → slice_get old k ≡ Some x → slice_get new k ≡ Some y → size y ≡ size x =
      each P (λ x y. size y ≡ size x) d old new ch (λ x. refl) (λ x y e p. p.size_stays) in
      let same_held : (k : ℕ) (x y : D) → slice_get old k ≡ Some x → slice_get new k ≡ Some y → held y ≡ held x =
      each P (λ x y. held y ≡ held x) d old new ch (λ x. refl) (λ x y e p. p.told_bytes_stay) in
      record {
        few = omega (arith, s.few, ch.as_many);
        sized = s.sized ∙ sym (map-places size old new ch.as_many same_size);
        bounded = s.bounded;
        filled = λ k y e.
            let x = before P d old new ch k y e in
            subst (λ n. Fills (held y) n) (sym (same_size k x.0 y x.1 e)) (subst (λ h. Fills h (size x.0)) (sym (same_held k x.0 y x.1 e)) (s.filled k x.0 x.1));
        laid_out = s.laid_out;
        headers = λ c f l e store ok y ey.
            let x = before P d old new ch f.disk.0 y ey in
            subst (λ h. GivesHeld h f.position (header_bytes (header c l.writes f.length))) (sym (same_held f.disk.0 x.0 y x.1 ey)) (s.headers c f l e store ok x.0 x.1);
      }

  module _ (failed differed : Bool) (d : ℕ) (old new : List D) (ch : ChangesAt d (Looks size faults mismatches held failed differed) old new) where
    pub back-look : AreGivenBack size faults mismatches held old new
    back-look = zips (IsGivenBack size faults mismatches held) old new ch.as_many (each (Looks size faults mismatches held failed differed) (IsGivenBack size faults mismatches held) d old new ch back-same (λ x y ex p. record {
      size_stays = p.size_stays;
      tells_as_before = ap is_some p.told_bytes_stay;
      faults_never_fall = p.fails_only_where_faults_rose.never_falls;
      mismatches_never_fall = p.differs_only_where_mismatches_rose.never_falls;
    }))

    pub keeps-look : (f : Extent) → KeepsBlock held f old new
    keeps-look f bytes n h y ey =
        let P : D → D → Type 0 = Looks size faults mismatches held failed differed in
        let x = before P d old new ch f.disk.0 y ey in
        let same : held y ≡ held x.0 = each P (λ x y. held y ≡ held x) d old new ch (λ x. refl) (λ x y e p. p.told_bytes_stay) f.disk.0 x.0 y x.1 ey in
        subst (λ a. GivesHeld a f.position bytes) (sym same) (h x.0 x.1)

  pub counts-look : (d : ℕ) (old new : List D) → ChangesAt d (Looks size faults mismatches held false false) old new → CountsStay faults mismatches old new
  counts-look d old new ch =
      let P : D → D → Type 0 = Looks size faults mismatches held false false in (
        map-places faults old new ch.as_many (each P (λ x y. faults y ≡ faults x) d old new ch (λ x. refl) (λ x y e p. p.a_fault_is_counted_once)),
        map-places mismatches old new ch.as_many (each P (λ x y. mismatches y ≡ mismatches x) d old new ch (λ x. refl) (λ x y e p. p.a_mismatch_is_counted_once)),
      )

  pub counts-write : {A : Type 0} (d at : ℕ) (bytes : List ℕ) (r : Result A DiskRefusal) (old new : List D) → ChangesAt d (Writes size faults mismatches held at bytes r) old new → OnOk r (CountsStay faults mismatches old new)
  counts-write d at bytes (Err e) old new ch = tt
  counts-write {A = A} d at bytes (Ok x) old new ch =
      let P : D → D → Type 0 = Writes {A = A} {E = DiskRefusal} size faults mismatches held at bytes (Ok x) in (
        map-places faults old new ch.as_many (each P (λ x y. faults y ≡ faults x) d old new ch (λ x. refl) (λ x y e p. p.a_fault_is_counted_once)),
        map-places mismatches old new ch.as_many (each P (λ x y. mismatches y ≡ mismatches x) d old new ch (λ x. refl) (λ x y e p. p.mismatches_stay)),
      )

  pub back-write : {A : Type 0} (d at : ℕ) (bytes : List ℕ) (r : Result A DiskRefusal) (old new : List D) → ChangesAt d (Writes size faults mismatches held at bytes r) old new → AreGivenBack size faults mismatches held old new
  back-write d at bytes r old new ch = zips (IsGivenBack size faults mismatches held) old new ch.as_many (each (Writes size faults mismatches held at bytes r) (IsGivenBack size faults mismatches held) d old new ch back-same (λ x y ex p. record {
    size_stays = p.size_stays;
    tells_as_before = tells-still (held x) (held y) at (length bytes) p.changes_no_byte_outside;
    faults_never_fall = p.fails_only_where_faults_rose.never_falls;
    mismatches_never_fall = omega (arith, p.mismatches_stay);
  }))

  -- ---- a store

  -- the extent of a cell lies on a disk and within it
  pub inside-disk : (disks : List D) (sizes taken : List ℕ) (directory : List (Option Extent)) (c : ℕ) (e : Extent) (x : D) → AreSoundDisks size held disks sizes taken directory → extent_of directory c ≡ Some e → slice_get disks e.disk.0 ≡ Some x → e.position + block_bytes e.length ≤ size x
  inside-disk disks sizes taken directory c e x s ee ex =
      let most : get_or sizes e.disk.0 0 ≡ size x = ap (λ ns. get_or ns e.disk.0 0) s.sized ∙ get_or-map_at size disks e.disk.0 x ex in
      omega (arith, s.laid_out.inside c e ee, s.laid_out.within e.disk.0, most)

  pub inside-fits : (disks : List D) (sizes taken : List ℕ) (directory : List (Option Extent)) (c : ℕ) (e : Extent) → AreSoundDisks size held disks sizes taken directory → extent_of directory c ≡ Some e → e.position + block_bytes e.length < 2 ^ 64
  inside-fits disks sizes taken directory c e s ee = omega (arith, s.laid_out.inside c e ee, s.laid_out.within e.disk.0, s.bounded e.disk.0)

  module _ {A : Type 0} (old new : List D) (sizes taken : List ℕ) (directory : List (Option Extent)) (c : ℕ) (e : Extent) (writes : ℕ) (xs : List ℤ) (r : Result A DiskRefusal) (ee : extent_of directory c ≡ Some e) (many : length xs ≡ e.length) (s : AreSoundDisks size held old sizes taken directory) (ch : ChangesAt e.disk.0 (Writes size faults mismatches held e.position (block c writes xs) r) old new) where
    W : D → D → Type 0
    W = Writes size faults mismatches held e.position (block c writes xs) r

    long : length (block c writes xs) ≡ block_bytes e.length
    long = omega (arith, length-append (header_bytes (header c writes (length xs))) (element_bytes xs), length-header_bytes (header c writes (length xs)), length-element_bytes xs, many)

    same_size : (k : ℕ) (x y : D) → slice_get old k ≡ Some x → slice_get new k ≡ Some y → size y ≡ size x
    unfolding W
    same_size = each W (λ x y. size y ≡ size x) e.disk.0 old new ch (λ x. refl) (λ x y ex p. p.size_stays)

    -- bytes that stand apart from the block still stand
    keeps-apart : (f : Extent) (bytes : List ℕ) → (f.disk.0 ≡ e.disk.0 → (e.position + block_bytes e.length ≤ f.position) ⊎ (f.position + length bytes ≤ e.position)) → Holds held old f bytes → Holds held new f bytes
    unfolding W long
    keeps-apart f bytes beside h y ey = elim (cases_eq f.disk.0 e.disk.0) [
      | inl same ↦
          let ey' : slice_get new e.disk.0 ≡ Some y = subst (λ k. slice_get new k ≡ Some y) same ey in
          let x = before W e.disk.0 old new ch e.disk.0 y ey' in
          let ex : slice_get old f.disk.0 ≡ Some x.0 = subst (λ k. slice_get old k ≡ Some x.0) (sym same) x.1 in
          let p : W x.0 y = ch.there x.0 y x.1 ey' in
          let within : e.position + length (block c writes xs) ≤ size x.0 = omega (arith, long, inside-disk old sizes taken directory c e x.0 s ee x.1) in
          let apart : (e.position + length (block c writes xs) ≤ f.position) ⊎ (f.position + length bytes ≤ e.position) =
          elim (beside same) [ inl after ↦ inl (omega (arith, long)) | inr ahead ↦ inr ahead ] in
          keeps-range (held x.0) (held y) e.position (length (block c writes xs)) f.position (size x.0) bytes (s.filled e.disk.0 x.0 x.1) within p.changes_no_byte_outside apart (h x.0 ex)
      | inr ne ↦ h y (sym (ch.others_stay f.disk.0 ne) ∙ ey)
    ]

    same_disk : (f : Extent) → f.disk.0 ≡ e.disk.0 → e.disk ≡ f.disk
    same_disk f h = ap (λ n. let d : DiskNo = record { 0 = n } in d) (sym h)

    pub keeps-other : (q : ℕ) (f : Extent) → q ≢ c → extent_of directory q ≡ Some f → KeepsBlock held f old new
    keeps-other q f ne ef bytes nb h = keeps-apart f bytes (λ same. elim (s.laid_out.apart c q e f (λ eq. ne (sym eq)) ee ef (same_disk f same)) [ inl after ↦ inl after | inr ahead ↦ inr (omega (arith, nb)) ]) h

    after : List (Option Extent)
    after = slice_set directory c (Some (with_store e writes (is_ok r)))

    known : c < length directory
    known = elim (cases_lt c (length directory)) [
      | inl lt ↦ lt
      | inr ge ↦ let past : extent_of directory c ≡ None = get_or_past directory c None ge in absurd (the ⊥ (cc))
    ]

    -- the extent of the cell is the same but for its last store
    itself : (f : Extent) → extent_of after c ≡ Some f → f ≡ with_store e writes (is_ok r)
    unfolding after
    itself f ef =
        let now : extent_of after c ≡ Some (with_store e writes (is_ok r)) = get_or-set_same directory c (Some (with_store e writes (is_ok r))) None known in
        cc

    others : (q : ℕ) → q ≢ c → extent_of after q ≡ extent_of directory q
    unfolding after
    others q ne = get_or-set_other directory c q (Some (with_store e writes (is_ok r))) None ne

    was : (q : ℕ) (f : Extent) → extent_of after q ≡ Some f → (g : Extent) × (extent_of directory q ≡ Some g) × (g.disk ≡ f.disk) × (g.position ≡ f.position) × (g.length ≡ f.length)
    was q f ef = elim (cases_eq q c) [
      | inl same ↦
          let so : f ≡ with_store e writes (is_ok r) = itself f (subst (λ k. extent_of after k ≡ Some f) same ef) in
          (e, subst (λ k. extent_of directory k ≡ Some e) (sym same) ee, ap (λ (x : Extent). x.disk) (sym so), ap (λ (x : Extent). x.position) (sym so), ap (λ (x : Extent). x.length) (sym so))
      | inr ne ↦ (f, sym (others q ne) ∙ ef, refl, refl, refl)
    ]

    put-held : (x y : D) → IsTrue (is_ok r) → W x y → held y ≡ option_map (written e.position (block c writes xs)) (held x)
    unfolding W
    put-held x y ok p = on_ok r ok p.puts_the_bytes
      where
        on_ok : {P : Type 0} (q : Result A DiskRefusal) → IsTrue (is_ok q) → OnOk q P → P
        on_ok (Ok x) t h = h
        on_ok (Err x) t h = absurd (the ⊥ (cc))

    -- a store that ended well left the block there
    pub holds-stored : IsTrue (is_ok r) → Holds held new e (block c writes xs)
    unfolding W long
    holds-stored ok y ey =
        let x = before W e.disk.0 old new ch e.disk.0 y ey in
        let within : e.position + length (block c writes xs) ≤ size x.0 = omega (arith, long, inside-disk old sizes taken directory c e x.0 s ee x.1) in
        gives-written (held x.0) (held y) e.position (size x.0) (block c writes xs) (s.filled e.disk.0 x.0 x.1) within (put-held x.0 y ok (ch.there x.0 y x.1 ey))

    headers-store : HaveHeaders held new after
    headers-store q f l ef el ok = elim (cases_eq q c) [
      | inl same ↦
          let so : f ≡ with_store e writes (is_ok r) = itself f (subst (λ k. extent_of after k ≡ Some f) same ef) in
          let last : l ≡ last_store writes (is_ok r) = let h : f.last_store ≡ Some (last_store writes (is_ok r)) = ap (λ (x : Extent). x.last_store) so in the (l ≡ last_store writes (is_ok r)) (cc) in
          let well : IsTrue (is_ok r) = subst (λ (x : LastStore). IsTrue x.ended_ok) last ok in
          let there : Holds held new e (header_bytes (header c writes (length xs))) = λ y ey. gives-front (held y) e.position (header_bytes (header c writes (length xs))) (element_bytes xs) (holds-stored well y ey) in
          let named : Holds held new e (header_bytes (header q l.writes f.length)) = subst (λ (h : Header). Holds held new e (header_bytes h)) (the (header c writes (length xs) ≡ header q l.writes f.length) (
          ap (λ k. header k writes (length xs)) (sym same) ∙ ap (λ (x : LastStore). header q x.writes (length xs)) (sym last) ∙ ap (header q l.writes) (many ∙ ap (λ (x : Extent). x.length) (sym so)))) there in
          subst (λ (x : Extent). Holds held new x (header_bytes (header q l.writes f.length))) (the (with_store e writes (is_ok r) ≡ f) (sym so)) named
      | inr ne ↦
          let ef' : extent_of directory q ≡ Some f = sym (others q ne) ∙ ef in
          keeps-apart f (header_bytes (header q l.writes f.length)) (λ same. elim (s.laid_out.apart c q e f (λ eq. ne (sym eq)) ee ef' (same_disk f same)) [ inl after ↦ inl after | inr ahead ↦ inr (omega (arith, length-header_bytes (header q l.writes f.length))) ]) (s.headers q f l ef' el ok)
    ]

    pub sound-store : AreSoundDisks size held new sizes taken (slice_set directory c (Some (with_store e writes (is_ok r))))
    unfolding W after
    sound-store = record {
      few = omega (arith, s.few, ch.as_many);
      sized = s.sized ∙ sym (map-places size old new ch.as_many same_size);
      bounded = s.bounded;
      filled = λ k y ey.
          let x = before W e.disk.0 old new ch k y ey in
          each W (λ x y. Fills (held x) (size x) → Fills (held y) (size y)) e.disk.0 old new ch (λ x h. h) (λ x y ex p h. subst (λ n. Fills (held y) n) (sym p.size_stays) (subst (λ n. Fills (held y) n) p.size_stays (p.told_bytes_fill_the_size h))) k x.0 y x.1 ey (s.filled k x.0 x.1);
      laid_out = laid-still sizes taken directory after s.laid_out was;
      headers = headers-store;
    }

    pub stored : (ok : Bool) → ok ≡ is_ok r → IfErr r (λ q. q ≡ DiskFault e.disk) → Stores size faults mismatches held c writes xs r (disk_state old taken directory) (disk_state new taken (slice_set directory c (Some (with_store e writes ok)))) e
    unfolding W
    stored ok same named = record {
      writes_the_block = ch;
      holds_the_block_where_it_ended_well = when-ok r holds-stored;
      no_count_rose_where_it_ended_well = counts-write e.disk.0 e.position (block c writes xs) r old new ch;
      disks_are_given_back = back-write e.disk.0 e.position (block c writes xs) r old new ch;
      notes_how_it_ended = ap (λ b. slice_set directory c (Some (with_store e writes b))) same;
      takes_no_more = refl;
      other_blocks_stay = keeps-other;
      refused_by_its_disk = named;
    }
      where
        when-ok : {P : Type 0} (q : Result A DiskRefusal) → (IsTrue (is_ok q) → P) → OnOk q P
        when-ok (Ok x) h = h refl
        when-ok (Err x) h = tt

  -- what was written, said as the block of the cell
  pub store-change : {A E : Type 0} (old new : List D) (c : ℕ) (e : Extent) (writes : ℕ) (ys xs : List ℤ) (r : Result A E) → ys ≡ xs → length xs ≡ e.length → ChangesAt e.disk.0 (Writes size faults mismatches held e.position (header_bytes (header c writes e.length) ++ element_bytes ys) r) old new → ChangesAt e.disk.0 (Writes size faults mismatches held e.position (block c writes xs) r) old new
  store-change old new c e writes ys xs r same many ch =
      let P : List ℕ → Type 0 = λ bs. ChangesAt e.disk.0 (Writes size faults mismatches held e.position bs r) old new in
      subst P (ap (λ n. header_bytes (header c writes n) ++ element_bytes xs) (sym many)) (subst P (ap (λ zs. header_bytes (header c writes e.length) ++ element_bytes zs) same) ch)

  -- ---- a fetch

  module _ {A : Type 0} (old new : List D) (sizes taken : List ℕ) (directory : List (Option Extent)) (c : ℕ) (e : Extent) (writes : ℕ) (xs : List ℤ) (r : Result A DiskRefusal) (ee : extent_of directory c ≡ Some e) (many : length xs ≡ e.length) (last : e.last_store ≡ Some (last_store writes true)) (s : AreSoundDisks size held old sizes taken directory) (ch : ChangesAt e.disk.0 (Looks size faults mismatches held (is_fault r) (is_damage r)) old new) (gives : OnOk r (Holds held old e (header_bytes (header c writes e.length) ++ element_bytes xs))) (refuses : RefusesFor e.disk (header c writes e.length) r) (undamaged : TellsBytes held old e → Holds held old e (header_bytes (header c writes e.length)) → is_damage r ≡ false) where
    its-block : Holds held old e (header_bytes (header c writes e.length) ++ element_bytes xs) → Holds held old e (block c writes xs)
    its-block h = subst (λ n. Holds held old e (header_bytes (header c writes n) ++ element_bytes xs)) (sym many) h

    -- two blocks that stand there, of one length, have the same elements
    same-elements : (ys : List ℤ) → All (FitsSigned w64) xs → All (FitsSigned w64) ys → length ys ≡ e.length → TellsBytes held old e → Holds held old e (block c writes ys) → Holds held old e (block c writes xs) → xs ≡ ys
    same-elements ys fx fy n tells hy hx =
        let x = found old e.disk.0 (omega (arith, s.laid_out.on_a_disk c e ee, ap length s.sized, length-map old size)) in
        gives-same (held x.0) e.position c writes xs ys (many ∙ sym n) fx fy (tells x.0 x.1) (hx x.0 x.1) (hy x.0 x.1)

    pub fetched : OnOk r (All (FitsSigned w64) xs) → Fetches size faults mismatches held c writes xs r (disk_state old taken directory) (disk_state new taken directory) e
    fetched fits = record {
      looks_at_its_disk = ch;
      all_blocks_stay = keeps-look (is_fault r) (is_damage r) e.disk.0 old new ch;
      no_count_rose_where_it_ended_well = quiet r ch;
      disks_are_given_back = back-look (is_fault r) (is_damage r) e.disk.0 old new ch;
      directory_stays = refl;
      takes_no_more = refl;
      gives_what_is_held = on-ok r its-block gives;
      gives_what_was_stored = both r (λ h f ys fy n tells hy. same-elements ys f fy n tells hy (its-block h)) gives fits;
      refused_by_its_disk = refuses;
      undamaged_where_it_tells = λ tells. undamaged tells (s.headers c e (last_store writes true) ee last refl);
    }
      where
        on-ok : (q : Result A DiskRefusal) {P Q : Type 0} → (P → Q) → OnOk q P → OnOk q Q
        on-ok (Ok x) f h = f h
        on-ok (Err x) f h = tt

        quiet : (q : Result A DiskRefusal) → ChangesAt e.disk.0 (Looks size faults mismatches held (is_fault q) (is_damage q)) old new → OnOk q (CountsStay faults mismatches old new)
        quiet (Ok x) h = counts-look e.disk.0 old new h
        quiet (Err x) h = tt

        both : (q : Result A DiskRefusal) {P Q R : Type 0} → (P → Q → R) → OnOk q P → OnOk q Q → OnOk q R
        both (Ok x) f h k = f h k
        both (Err x) f h k = tt
