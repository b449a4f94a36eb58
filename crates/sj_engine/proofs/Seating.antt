-- The seats of a run: as they are dealt, and what a board tells when all of them have stopped.
use Rattle.std.proofs.Common.{◌≡◌, ℕ, ◌+◌, ◌<◌, ◌∙◌, Option, Some, None, List, ap, arith, inl, inr, refl, subst, sym}
use Rattle.std.specs.Prelude.{IsSomeAnd}
use Rattle.std.specs.List.{slice_index_or}
use Rattle.std.proofs.lemmas.Bool.{cases_lt}
use Rattle.std.proofs.lemmas.List.{get_or-replicate, get_or_past, length-replicate}
use Rattle.std.proofs.lemmas.List.Elements.{Contains-get_or}
use Rattle.std.proofs.lemmas.List.FromFn.{get_or-map-range_with_len, length-map-range_with_len}
use Rattle.sj_base.specs.declared.ids.Worker.{Worker}
use Rattle.sj_base.specs.declared.program.Program.{Program}
use Rattle.sj_desk.specs.Seats.{DeskFacts, HasEachNumber, SeatFacts, new_seat, new_seats}
use Rattle.sj_board.specs.Board.{BoardState, empty_hand, hand_in}
use Rattle.sj_board.specs.BoardRow.{BoardRow, row_of_number}
use Rattle.sj_board.specs.Preparing.{first_hands}
use Rattle.sj_board.specs.declared.hand.Hand.{Hand}
use Rattle.sj_engine.specs.Run.{AreAt}
use Rattle.sj_engine.specs.Stage.{IsAt, IsFreeRow, IsStoppedRow, row_in}
use Rattle.sj_engine.specs.declared.noted_board.NotedBoard.{NotedBoard}
use Rattle.sj_base.specs.Ids.{worker}

module _ {D : Type 0} (desk : DeskFacts (NotedBoard D)) where
  -- ---- as they are dealt

  free-hand : (p : Program) → desk.opening.board.hands ≡ first_hands p → (w : Worker) → hand_in desk.opening.board.hands w ≡ empty_hand
  free-hand p e w = ap (λ (hands : List Hand). hand_in hands w) e ∙ elim (cases_lt w.0 p.workers) [
    | inl inside ↦ get_or-replicate p.workers w.0 empty_hand empty_hand inside
    | inr past ↦ get_or_past (first_hands p) w.0 empty_hand (let l = length-replicate p.workers empty_hand in omega (arith, l, past))
  ]

  pub dealt-free : (p : Program) → desk.opening.board.hands ≡ first_hands p → (seats : List (SeatFacts (NotedBoard D))) → seats ≡ new_seats desk → AreAt desk IsFreeRow seats
  dealt-free p e seats dealt = subst (AreAt desk IsFreeRow) (sym dealt) (record {
    count = length-map-range_with_len (new_seat desk) 0 desk.seats;
    each = λ k d inside. subst (IsAt desk (worker k) IsFreeRow) (sym (get_or-map-range_with_len (new_seat desk) 0 desk.seats k k d inside (let n : 0 + k ≡ k = omega arith in n))) (record {
      waiting = (refl, refl);
      number = refl;
      row = free-hand p e (worker k);
    });
  })

  -- ---- when each left such a row

  module _ (P : BoardRow D → Type 0) (seats : List (SeatFacts (NotedBoard D))) (at : AreAt desk P seats) where
    pub each-number : HasEachNumber desk seats
    each-number n below = (slice_index_or seats n (new_seat desk 0), Contains-get_or seats n (new_seat desk 0) (subst (λ (k : ℕ). n < k) (sym at.count) below), (at.each n (new_seat desk 0) below).number)

  -- ---- when all have stopped

  pub row-stopped : (b : BoardState D) (k : ℕ) (o : Option (NotedBoard D)) → IsSomeAnd o (λ left. IsStoppedRow (row_in left.board (worker k))) → IsSomeAnd o (λ left. row_of_number b k ≡ row_of_number left.board k) → IsStoppedRow (row_of_number b k)
  row-stopped b k None stopped same = absurd stopped
  row-stopped b k (Some left) stopped same = ap (λ (r : BoardRow D). r.hand) same ∙ stopped
