-- Where blocks lie: each cell's on one of the machine's disks, if all fit there.
use Rattle.sj_core.proofs.Words.{[], All, ap, arith, Block, Cell, cell_block_bytes, CellInfo, disk_of, DiskNo, first_fit, HasSwapFor, is_some, length, List, Machine, None, Option, option_and_then, option_map, place, place_after, Program, refl, set, slice_get, slice_index_or, Some, subst, true, zip, ℕ, ◌+◌, ◌<◌, ◌∷◌, ◌≡◌}
use Rattle.std.proofs.lemmas.{Bool.false≢true, List.Elements.All-cons, List.Elements.All-nil, List.Quantifiers.position-Some, Option.get_or_from_slice_get, Option.slice_get-get_or, Option.slice_get_within, Slice.Zip.length-zip}

-- as many blocks as cells, each on a disk that there is
abbrev ArePlaced : List ℕ → List CellInfo → List Block → Type 0
ArePlaced sizes cells blocks = (length blocks ≡ length cells) × All (λ b. b.disk.0 < length sizes) blocks

placed : (sizes taken : List ℕ) (cells : List CellInfo) (blocks : List Block) → place_after sizes taken cells ≡ Some blocks → ArePlaced sizes cells blocks
placed sizes taken [] blocks e = subst (ArePlaced sizes []) (let f : [] ≡ blocks = cc in f) (refl, All-nil (λ b. b.disk.0 < length sizes))
placed sizes taken (c ∷ cells) blocks e = by_disk (first_fit sizes taken (cell_block_bytes c)) refl e (λ taken' bs later. placed sizes taken' cells bs later)
  where
    all : (d : ℕ) → d < length sizes → (rest : Option (List Block)) → ((bs : List Block) → rest ≡ Some bs → ArePlaced sizes cells bs) → option_map (λ bs. (record { disk = record { 0 = d }; position = slice_index_or taken d 0 }) ∷ bs) rest ≡ Some blocks → ArePlaced sizes (c ∷ cells) blocks
    all d fits x rest e = search (arith, ArePlaced, All-cons)

    by_disk : (o : Option ℕ) → first_fit sizes taken (cell_block_bytes c) ≡ o → elim o as (λ _. Option (List Block)) [
      | None ↦ None
      | Some d ↦ option_map (λ bs. (record { disk = record { 0 = d }; position = slice_index_or taken d 0 }) ∷ bs) (place_after sizes (set taken d (slice_index_or taken d 0 + cell_block_bytes c)) cells)
    ] ≡ Some blocks → ((taken' : List ℕ) (bs : List Block) → place_after sizes taken' cells ≡ Some bs → ArePlaced sizes cells bs) → ArePlaced sizes (c ∷ cells) blocks
    by_disk None f e rest = absurd (let g : ◌≡◌ {A = Option (List Block)} None (Some blocks) = e in cc)
    by_disk (Some d) f e rest =
        let first = position-Some _ (zip sizes taken) d (0, 0) f in
        all d (omega (arith, first.0, length-zip sizes taken)) (place_after sizes (set taken d (slice_index_or taken d 0 + cell_block_bytes c)) cells) (rest (set taken d (slice_index_or taken d 0 + cell_block_bytes c))) e

module _ (p : Program) (m : Machine) (c : Cell) where
  abbrev disk_in : Option (List Block) → Option DiskNo
  disk_in o = option_map (λ b. b.disk) (option_and_then (λ blocks. slice_get blocks c.0) o)

  pub has-disk : HasSwapFor p m → c.0 < length p.cells → (d : DiskNo) × (disk_of p m c ≡ Some d)
  has-disk swap inside = by_blocks (place p m.disks) refl swap.blocks_fit
    where
      by_blocks : (o : Option (List Block)) → place p m.disks ≡ o → is_some o ≡ true → (d : DiskNo) × (disk_in o ≡ Some d)
      by_blocks None e fits = absurd (false≢true fits)
      by_blocks (Some blocks) e fits =
          let all = placed m.disks _ p.cells blocks e in
          let none : Block = record { disk = record { 0 = 0 }; position = 0 } in
          (_, ap (λ (o : Option Block). option_map (λ b. b.disk) o) (slice_get-get_or blocks c.0 none (omega (arith, inside, all.0))))

  pub disk-within : (d : DiskNo) → disk_of p m c ≡ Some d → d.0 < length m.disks
  disk-within d is = by_blocks (place p m.disks) refl is
    where
      by_blocks : (o : Option (List Block)) → place p m.disks ≡ o → disk_in o ≡ Some d → d.0 < length m.disks
      by_blocks None e is = absurd (let f : ◌≡◌ {A = Option DiskNo} None (Some d) = is in cc)
      by_blocks (Some blocks) e is = by_block (slice_get blocks c.0) refl is
        where
          by_block : (o : Option Block) → slice_get blocks c.0 ≡ o → option_map (λ (b : Block). b.disk) o ≡ Some d → d.0 < length m.disks
          by_block None g is = absurd (let f : ◌≡◌ {A = Option DiskNo} None (Some d) = is in cc)
          by_block (Some b) g is =
              let same : b.disk ≡ d = cc in
              subst (λ (k : DiskNo). k.0 < length m.disks) same (subst (λ (k : Block). k.disk.0 < length m.disks) (get_or_from_slice_get blocks c.0 b b g) ((placed m.disks _ p.cells blocks e).1 c.0 b (slice_get_within blocks c.0 b g)))
