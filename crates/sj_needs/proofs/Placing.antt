-- The first disk that has room for a block, and the places of the blocks behind it.
use Rattle.std.proofs.Common.{◌≡◌, ℕ, ◌+◌, List, [], ◌∷◌, map, replicate, length, get_or, refl, ap, Option, Some, None}
use Rattle.std.specs.Prelude.{slice_set, option_map}
use Rattle.sj_base.specs.declared.program.CellInfo.{CellInfo}
use Rattle.sj_core.specs.Needs.{Block, cell_block_bytes, place_after}

-- the places of all blocks, where the first one's disk is this
abbrev with_first : List ℕ → List ℕ → CellInfo → List CellInfo → Option ℕ → Option (List Block)
with_first sizes taken c cs o = elim o [
  | None ↦ None
  | Some d ↦ option_map (λ blocks. (record { disk = record { 0 = d }; position = get_or taken d 0 }) ∷ blocks) (place_after sizes (slice_set taken d (get_or taken d 0 + cell_block_bytes c)) cs)
]

-- at first nothing is taken of any disk
pub none-taken : (sizes : List ℕ) → replicate {A = ℕ} (length sizes) 0 ≡ map (λ n. 0) sizes
none-taken [] = refl
none-taken (n ∷ sizes) = ap (λ ns. 0 ∷ ns) (none-taken sizes)
