-- A board that was found as another one, which is sound.
use Rattle.std.proofs.Common.{◌≡◌, ℕ, List, Option, subst}
use Rattle.sj_board.specs.Board.{BoardState}
use Rattle.sj_board.specs.BoardSound.{IsSoundBoard}

pub found-sound : {D : Type 0} (size faults mismatches : D → ℕ) (held : D → Option (List ℕ)) (z b : BoardState D) → z ≡ b → IsSoundBoard size faults mismatches held z → IsSoundBoard size faults mismatches held b
found-sound {D} size faults mismatches held z b ez sound = subst (λ (k : BoardState D). IsSoundBoard size faults mismatches held k) ez sound
