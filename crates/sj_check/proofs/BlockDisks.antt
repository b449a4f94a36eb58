-- The disks of blocks, one cell after another.
use Rattle.sj_check.proofs.Words.{[], ap, AreHomes, Block, cell_block_bytes, CellInfo, DiskNo, drop, drop-cons, first_fit, get_or, length, List, Machine, map, None, Option, option_and_then, option_map, place, place_after, Program, refl, slice_get, slice_set, Some, suc, sym, unwrap_or, ℕ, ◌++◌, ◌+◌, ◌<◌, ◌∙◌, ◌∷◌, ◌≡◌, ◌≤◌}
use Rattle.std.proofs.lemmas.{List.append-nil, List.drop_all, Option.slice_get-map}

-- the disks of the blocks of these cells, behind what is taken
abbrev pub disks_after : List ℕ → List ℕ → List CellInfo → Option (List DiskNo)
disks_after sizes taken cells = option_map (map (λ b. b.disk)) (place_after sizes taken cells)

-- these disks come first
abbrev pub behind : List DiskNo → Option (List DiskNo) → Option (List DiskNo)
behind homes more = option_map (λ ds. homes ++ ds) more

abbrev with_first : List ℕ → List ℕ → ℕ → List CellInfo → Option ℕ → Option (List DiskNo)
with_first sizes taken need more o = option_map (map (λ b. b.disk)) (elim o [
  | None ↦ None
  | Some d ↦ option_map (λ blocks. (record { disk = record { 0 = d }; position = get_or taken d 0 }) ∷ blocks) (place_after sizes (slice_set taken d (get_or taken d 0 + need)) more)
])

module _ (sizes taken : List ℕ) (homes : List DiskNo) (cells : List CellInfo) (i need : ℕ) where
  next : (x : CellInfo) → i < length cells → need ≡ cell_block_bytes (get_or cells i x) → behind homes (disks_after sizes taken (drop i cells)) ≡ behind homes (with_first sizes taken need (drop (suc i) cells) (first_fit sizes taken need))
  next x inside bytes =
      ap (λ cs. behind homes (disks_after sizes taken cs)) (drop-cons cells i x inside)
      ∙ ap (λ k. behind homes (with_first sizes taken k (drop (suc i) cells) (first_fit sizes taken k))) (sym bytes)

  -- it fits nowhere
  pub homes-none : (x : CellInfo) → i < length cells → need ≡ cell_block_bytes (get_or cells i x) → first_fit sizes taken need ≡ None → behind homes (disks_after sizes taken (drop i cells)) ≡ None
  homes-none x inside bytes fails = next x inside bytes ∙ ap (λ o. behind homes (with_first sizes taken need (drop (suc i) cells) o)) fails

-- the disk of each cell
pub homes-each : (p : Program) (m : Machine) (homes : List DiskNo) → homes ≡ unwrap_or (option_map (map (λ b. b.disk)) (place p m.disks)) [] → AreHomes p m homes
homes-each p m homes are = record { each = λ c. ap (λ (ds : List DiskNo). slice_get ds c.0) are ∙ by_place (place p m.disks) c.0 }
  where
    by_place : (o : Option (List Block)) (n : ℕ) → slice_get (unwrap_or (option_map (map (λ b. b.disk)) o) []) n ≡ option_map (λ b. b.disk) (option_and_then (λ blocks. slice_get blocks n) o)
    by_place None n = refl
    by_place (Some blocks) n = slice_get-map (λ (b : Block). b.disk) blocks n

-- at the end all have theirs
pub homes-all : (sizes taken : List ℕ) (homes : List DiskNo) (cells : List CellInfo) (i : ℕ) (all : Option (List DiskNo)) → length cells ≤ i → behind homes (disks_after sizes taken (drop i cells)) ≡ all → homes ≡ unwrap_or all []
homes-all sizes taken homes cells i all past are =
    sym (append-nil homes) ∙ ap (λ (o : Option (List DiskNo)). unwrap_or o []) (sym (ap (λ cs. behind homes (disks_after sizes taken cs)) (drop_all i cells past)) ∙ are)
