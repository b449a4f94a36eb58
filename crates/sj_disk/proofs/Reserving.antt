-- What making a set of disks and giving a cell its block leave.
use Rattle.std.proofs.Common.{◌≡◌, ◌≢◌, ℕ, zero, suc, ◌+◌, ◌^◌, ◌<◌, ◌≤◌, ◌⊎◌, inl, inr, List, [], ◌∷◌, ◌++◌, length, get_or, take, map, refl, sym, ap, ◌∙◌, subst, arith, Option, Some, None, replicate}
use Rattle.std.specs.Prelude.{slice_get, slice_set}
use Rattle.std.proofs.lemmas.Option.{slice_get_read}
use Rattle.sj_edge.specs.Held.{Fills}
use Rattle.std.proofs.lemmas.Bool.{cases_eq, cases_lt}
use Rattle.std.proofs.lemmas.List.{get_or-set_same, get_or-set_other, length-set, length-replicate, length-map, map-append, take_more}
use Rattle.sj_base.specs.declared.ids.DiskNo.{DiskNo}
use Rattle.sj_base.proofs.Options.{the}
use Rattle.sj_base.proofs.FirstFit.{first_fit-room}
use Rattle.sj_disk.specs.declared.directory.Extent.{Extent}
use Rattle.sj_disk.specs.Block.{block_bytes}
use Rattle.sj_disk.specs.Calls.{Reserves}
use Rattle.sj_disk.specs.Directory.{IsLaidOut, disk_state, extent_at, extent_of, first_fit}
use Rattle.sj_disk.specs.Sound.{AreFilled, AreSoundDisks}

-- ---- the first that fits

abbrev pub disk-number : ℕ → DiskNo
disk-number d = record { 0 = d }

abbrev pub none-of : ℕ → List ℕ
none-of n = replicate {A = ℕ} n 0

module _ {D : Type 0} (size : D → ℕ) (held : D → Option (List ℕ)) where
  -- ---- sizes, one more

  pub sizes-more : (xs : List D) (i : ℕ) (x : D) (ns ms : List ℕ) → i < length xs → x ≡ get_or xs i x → ns ≡ map size (take i xs) → ms ≡ ns ++ size x ∷ [] → ms ≡ map size (take (i + 1) xs)
  sizes-more xs i x ns ms lt e before more =
      more
      ∙ ap (λ ys. ys ++ size x ∷ []) before
      ∙ sym (map-append size (take i xs) (x ∷ []))
      ∙ ap (λ z. map size (take i xs ++ z ∷ [])) e
      ∙ ap (map size) (sym (take_more xs i x lt))

  pub filled-more : (xs : List D) (i : ℕ) (x : D) → i < length xs → x ≡ get_or xs i x → Fills (held x) (size x) → ((k : ℕ) (y : D) → k < i → slice_get xs k ≡ Some y → Fills (held y) (size y)) → (k : ℕ) (y : D) → k < i + 1 → slice_get xs k ≡ Some y → Fills (held y) (size y)
  filled-more xs i x lt e filled before k y le ey = elim (cases_lt k i) [
    | inl below ↦ before k y below ey
    | inr at ↦
        let same : k ≡ i = omega arith in
        let found : slice_get xs i ≡ Some x = slice_get_read xs (length xs) i x refl lt e in
        let so : x ≡ y = let ey' : slice_get xs i ≡ Some y = subst (λ j. slice_get xs j ≡ Some y) same ey in the (x ≡ y) (cc) in
        subst (λ z. Fills (held z) (size z)) so filled
  ]

  pub bounded-more : (ns ms : List ℕ) (n : ℕ) → n < 2 ^ 64 → ms ≡ ns ++ n ∷ [] → ((k : ℕ) → get_or ns k 0 < 2 ^ 64) → (k : ℕ) → get_or ms k 0 < 2 ^ 64
  bounded-more ns ms n fits e before k = rw e (one ns k before)
    where
      one : (xs : List ℕ) (j : ℕ) → ((k : ℕ) → get_or xs k 0 < 2 ^ 64) → get_or (xs ++ n ∷ []) j 0 < 2 ^ 64
      one [] zero h = fits
      one [] (suc j) h = omega arith
      one (x ∷ xs) zero h = h 0
      one (x ∷ xs) (suc j) h = one xs j (λ k. h (suc k))

  none-there : (c : ℕ) (e : Extent) → extent_of [] c ≡ Some e → ⊥
  none-there c e h = cc

  pub sound-made : (disks : List D) (sizes : List ℕ) → length disks ≤ 16 → sizes ≡ map size disks → ((k : ℕ) → get_or sizes k 0 < 2 ^ 64) → AreFilled size held disks → AreSoundDisks size held disks sizes (none-of (length disks)) []
  sound-made disks sizes few sized bounded filled = record {
    few = few;
    sized = sized;
    bounded = bounded;
    filled = filled;
    laid_out = record {
      as_many = length-replicate {A = ℕ} (length disks) nothing ∙ sym (ap length sized ∙ length-map disks size);
      within = λ d. omega (arith, none-taken (length disks) d nothing refl);
      on_a_disk = λ c e h. absurd (none-there c e h);
      inside = λ c e h. absurd (none-there c e h);
      apart = λ b c e f ne h g. absurd (none-there b e h);
    };
    headers = λ c e s h. absurd (none-there c e h);
  }
    where
      nothing : ℕ
      nothing = 0

      none-taken : (n d z : ℕ) → z ≡ 0 → get_or (replicate n z) d 0 ≡ 0
      none-taken zero d z e = refl
      none-taken (suc n) zero z e = e
      none-taken (suc n) (suc d) z e = none-taken n d z e

  module _ (disks : List D) (sizes taken : List ℕ) (directory after : List (Option Extent)) (c n d : ℕ) (s : AreSoundDisks size held disks sizes taken directory) (first : first_fit sizes taken (block_bytes n) ≡ Some d) (gives : extent_of after c ≡ Some (extent_at d (get_or taken d 0) n)) (others : (q : ℕ) → q ≢ c → extent_of after q ≡ extent_of directory q) where
    more : List ℕ
    more = slice_set taken d (get_or taken d 0 + block_bytes n)

    room : (d < length sizes) × (get_or taken d 0 + block_bytes n ≤ get_or sizes d 0)
    room = first_fit-room sizes taken (block_bytes n) d s.laid_out.as_many first

    here : get_or more d 0 ≡ get_or taken d 0 + block_bytes n
    unfolding more
    here = get_or-set_same taken d (get_or taken d 0 + block_bytes n) 0 (omega (arith, room.0, s.laid_out.as_many))

    elsewhere : (k : ℕ) → k ≢ d → get_or more k 0 ≡ get_or taken k 0
    unfolding more
    elsewhere k ne = get_or-set_other taken d k (get_or taken d 0 + block_bytes n) 0 ne

    grows : (k : ℕ) → get_or taken k 0 ≤ get_or more k 0
    grows k = elim (cases_eq k d) [
      | inl e ↦ subst (λ i. get_or taken i 0 ≤ get_or more i 0) (sym e) (omega (arith, here))
      | inr ne ↦ omega (arith, elsewhere k ne)
    ]

    itself : (f : Extent) → extent_of after c ≡ Some f → f ≡ extent_at d (get_or taken d 0) n
    itself f ef = cc

    -- an extent is the new one, or was there
    Which : ℕ → Extent → Type 0
    Which q f = ((q ≡ c) × (f ≡ extent_at d (get_or taken d 0) n)) ⊎ ((q ≢ c) × (extent_of directory q ≡ Some f))

    which : (q : ℕ) (f : Extent) → extent_of after q ≡ Some f → Which q f
    unfolding Which
    which q f ef = elim (cases_eq q c) [
      | inl e ↦ inl (e, itself f (subst (λ k. extent_of after k ≡ Some f) e ef))
      | inr ne ↦ inr (ne, sym (others q ne) ∙ ef)
    ]

    -- one that was there ends before what was taken of its disk
    behind : (f g : Extent) (q : ℕ) → f ≡ extent_at d (get_or taken d 0) n → extent_of directory q ≡ Some g → g.disk ≡ f.disk → g.position + block_bytes g.length ≤ f.position
    behind f g q e eg same =
        let at : get_or taken g.disk.0 0 ≡ f.position = ap (λ (x : DiskNo). get_or taken x.0 0) same ∙ ap (λ (x : Extent). get_or taken x.disk.0 0) e ∙ sym (ap (λ (x : Extent). x.position) e) in
        omega (arith, s.laid_out.inside q g eg, at)

    many : length more ≡ length sizes
    unfolding more
    many = length-set taken d (get_or taken d 0 + block_bytes n) ∙ s.laid_out.as_many

    laid : IsLaidOut sizes more after
    unfolding Which
    laid = record {
      as_many = many;
      within = λ k. elim (cases_eq k d) [
        | inl e ↦ subst (λ i. get_or more i 0 ≤ get_or sizes i 0) (sym e) (omega (arith, here, room.1))
        | inr ne ↦ omega (arith, elsewhere k ne, s.laid_out.within k)
      ];
      on_a_disk = λ q f ef. elim (which q f ef) [
        | inl new ↦ subst (λ (x : Extent). x.disk.0 < length sizes) (sym new.1) room.0
        | inr old ↦ s.laid_out.on_a_disk q f old.1
      ];
      inside = λ q f ef. elim (which q f ef) [
        | inl new ↦ subst (λ (x : Extent). x.position + block_bytes x.length ≤ get_or more x.disk.0 0) (sym new.1) (omega (arith, here))
        | inr old ↦ omega (arith, s.laid_out.inside q f old.1, grows f.disk.0)
      ];
      apart = λ a b f g ne ef eg same. elim (which a f ef) [
        | inl new ↦ elim (which b g eg) [
          | inl too ↦ absurd (ne (new.0 ∙ sym too.0))
          | inr old ↦ inr (behind f g b new.1 old.1 (sym same))
        ]
        | inr old ↦ elim (which b g eg) [
          | inl new ↦ inl (behind g f a new.1 old.1 same)
          | inr too ↦ s.laid_out.apart a b f g ne old.1 too.1 same
        ]
      ];
    }

    pub sound-reserve : AreSoundDisks size held disks sizes (slice_set taken d (get_or taken d 0 + block_bytes n)) after
    unfolding more Which
    sound-reserve = record {
      few = s.few;
      sized = s.sized;
      bounded = s.bounded;
      filled = s.filled;
      laid_out = laid;
      headers = λ q f l ef el ok. elim (which q f ef) [
        | inl new ↦
            let none : f.last_store ≡ None = ap (λ (x : Extent). x.last_store) new.1 in
            absurd (the ⊥ (cc))
        | inr old ↦ s.headers q f l old.1 el ok
      ];
    }

    pub reserved : Reserves size c n (disk-number d) (disk_state disks taken directory) (disk_state disks (slice_set taken d (get_or taken d 0 + block_bytes n)) after)
    reserved = record {
      on_the_first_that_fits = ap (λ ns. first_fit ns taken (block_bytes n)) (sym s.sized) ∙ first;
      behind_what_is_taken = gives;
      takes_its_bytes = refl;
      other_extents_stay = others;
      disks_stay = refl;
    }
