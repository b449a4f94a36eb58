-- A worker's turn at the desk: what it finds, and what it leaves.
use Rattle.std.proofs.Common.{◌≡◌, ◌≢◌, ℕ, ◌<◌, ◌++◌, List, length, sym, ap, ◌∙◌, subst, Option, None, Some}
use Rattle.std.specs.Prelude.{IsSomeAnd}
use Rattle.std.proofs.lemmas.List.{append_assoc}
use Rattle.sj_base.specs.declared.ids.Worker.{Worker}
use Rattle.sj_base.specs.declared.trace.Event.{Event}
use Rattle.sj_base.specs.Array.{Array}
use Rattle.sj_core.specs.declared.progress.Transfer.{Transfer}
use Rattle.sj_desk.specs.declared.view.Heard.{Heard}
use Rattle.sj_desk.specs.Seats.{DeskFacts, HasRowLeft, KeepsOtherRows, SeatFacts, hearing}
use Rattle.sj_board.specs.Board.{BoardState}
use Rattle.sj_board.specs.BoardSound.{IsSoundBoard}
use Rattle.sj_board.specs.BoardRow.{BoardKey, BoardRow, key_of, row_of_number}
use Rattle.sj_engine.specs.Noted.{IsNotedSound, noted_key, noted_row}
use Rattle.sj_engine.specs.Stage.{BeginsWith, GoesOn, HasLeft, IsAt, IsCarried, row_in}
use Rattle.sj_engine.specs.Turn.{IsTurnOf, MayLeave}
use Rattle.sj_engine.proofs.Turning.{shared-sound}
use Rattle.sj_engine.specs.declared.noted_board.NotedBoard.{NotedBoard}

-- a seat that has heard the bell is as it was
pub heard-number : {T : Type 0} (bell : ℕ) (s t : SeatFacts T) (o : Option Heard) → IsSomeAnd o (λ k. (k.bell ≡ bell) × (t ≡ hearing s (Some k))) → t.number ≡ s.number
heard-number bell s t None h = absurd h
heard-number bell s t (Some k) h = ap (λ x. x.number) h.1

pub heard-found : {T : Type 0} (bell : ℕ) (s t : SeatFacts T) (o : Option Heard) → IsSomeAnd o (λ k. (k.bell ≡ bell) × (t ≡ hearing s (Some k))) → t.found ≡ s.found
heard-found bell s t None h = absurd h
heard-found bell s t (Some k) h = ap (λ x. x.found) h.1

module _ {D : Type 0} {desk : DeskFacts (NotedBoard D)} {w : Worker} where
  -- ---- what is found

  row-found : (P : BoardRow D → Type 0) (s : SeatFacts (NotedBoard D)) (b : NotedBoard D)
      → IsAt desk w P s → HasRowLeft noted_row b s → P (row_in b.board w)
  row-found P s b at own = by_left s.left at.row own
    where
      by_left : (o : Option (NotedBoard D)) → IsSomeAnd o (λ k. P (row_in k.board w))
          → IsSomeAnd o (λ k. noted_row b s.number ≡ noted_row k s.number) → P (row_in b.board w)
      by_left None h e = absurd h
      by_left (Some k) h e = subst P (sym (subst (λ n. noted_row b n ≡ noted_row k n) at.number e)) h

  -- the tile is the one that the transfer carries by the row that is found
  pub carried-found : {held : D → Option (List ℕ)} {x : Transfer} {a : Array} {s : SeatFacts (NotedBoard D)} (b : NotedBoard D)
      → IsAt desk w (λ r. IsCarried held (key_of desk.opening.board) x r a) s → HasRowLeft noted_row b s → noted_key b ≡ noted_key desk.opening
      → IsCarried held (key_of b.board) x (row_in b.board w) a
  carried-found {held} {x} {a} {s} b at own key =
      subst (λ (k : BoardKey D). IsCarried held k x (row_in b.board w) a) (sym key) (row-found (λ r. IsCarried held (key_of desk.opening.board) x r a) s b at own)

  -- what is so of the row and the key that the seat left is so of those that are found
  pub found-by : (P : BoardKey D → BoardRow D → Type 0) {s : SeatFacts (NotedBoard D)} (b : NotedBoard D)
      → IsAt desk w (P (key_of desk.opening.board)) s → HasRowLeft noted_row b s → noted_key b ≡ noted_key desk.opening → P (key_of b.board) (row_in b.board w)
  found-by P {s} b at own key = subst (λ (k : BoardKey D). P k (row_in b.board w)) (sym key) (row-found (P (key_of desk.opening.board)) s b at own)

  -- what follows of the row that the seat left
  pub at-map : (P Q : BoardRow D → Type 0) {s : SeatFacts (NotedBoard D)} → ((r : BoardRow D) → P r → Q r) → IsAt desk w P s → IsAt desk w Q s
  at-map P Q {s} f at = record { waiting = at.waiting; number = at.number; row = by_left s.left at.row }
    where
      by_left : (o : Option (NotedBoard D)) → IsSomeAnd o (λ k. P (row_in k.board w)) → IsSomeAnd o (λ k. Q (row_in k.board w))
      by_left None h = h
      by_left (Some k) h = f (row_in k.board w) h

  pub at-both : (P P' Q : BoardRow D → Type 0) {s : SeatFacts (NotedBoard D)} → ((r : BoardRow D) → P r → P' r → Q r) → IsAt desk w P s → IsAt desk w P' s → IsAt desk w Q s
  at-both P P' Q {s} f at at' = record { waiting = at.waiting; number = at.number; row = by_left s.left at.row at'.row }
    where
      by_left : (o : Option (NotedBoard D)) → IsSomeAnd o (λ k. P (row_in k.board w)) → IsSomeAnd o (λ k. P' (row_in k.board w)) → IsSomeAnd o (λ k. Q (row_in k.board w))
      by_left None h h' = h
      by_left (Some k) h h' = f (row_in k.board w) h h'

  -- ---- what is left

  -- the worker's events go on
  pub goes-on : {P : BoardRow D → Type 0} {faults mismatches : D → ℕ} {b : NotedBoard D} {s t : SeatFacts (NotedBoard D)} (found : NotedBoard D)
      → IsAt desk w P s → HasRowLeft noted_row found s → IsTurnOf faults mismatches w found.board b.board → HasLeft desk w b t → GoesOn w s t
  goes-on {P} {faults} {mismatches} {b} {s} {t} found at own turn l first begun =
      subst (λ (o : Option (NotedBoard D)). IsSomeAnd o (λ k. BeginsWith (row_in k.board w).events first)) (sym l.left) (by_left s.left own begun)
    where
      by_left : (o : Option (NotedBoard D)) → IsSomeAnd o (λ k. noted_row found s.number ≡ noted_row k s.number)
          → IsSomeAnd o (λ k. BeginsWith (row_in k.board w).events first) → BeginsWith (row_in b.board w).events first
      by_left None e h = absurd h
      by_left (Some k) e h =
          let same : row_in found.board w ≡ row_in k.board w = subst (λ n. noted_row found n ≡ noted_row k n) at.number e in
          let before = ap (λ (l : List Event). l ++ turn.events.0) (ap (λ (r : BoardRow D). r.events) same ∙ h.1) in
          (h.0 ++ turn.events.0, turn.events.1 ∙ before ∙ append_assoc first h.0 turn.events.0)

-- where the turn in which the seat found a board may end with that one, the rows of all others are as they were found
pub other-rows : {D : Type 0} (size faults mismatches : D → ℕ) (held : D → Option (List ℕ)) (desk : DeskFacts (NotedBoard D)) (w : Worker)
    (b c : NotedBoard D) (s : SeatFacts (NotedBoard D))
    → s.number ≡ w.0 → IsSomeAnd s.found (MayLeave size faults mismatches held desk w b) → c.board ≡ b.board → KeepsOtherRows noted_row desk s c
other-rows {D} size faults mismatches held desk w b c s number may e = by_found s.found may
  where
    by_found : (o : Option (NotedBoard D)) → IsSomeAnd o (MayLeave size faults mismatches held desk w b)
        → IsSomeAnd o (λ found. (n : ℕ) → n < desk.seats → n ≢ s.number → noted_row c n ≡ noted_row found n)
    by_found None h = absurd h
    by_found (Some found) h =
        λ n inside other. ap (λ (k : BoardState D). row_of_number k n) e ∙ h.turn.others n (λ same. other (same ∙ sym number))

-- what is left is sound, where the notes are as many as were found
pub noted-sound : {D : Type 0} (size faults mismatches : D → ℕ) (held : D → Option (List ℕ)) (desk : DeskFacts (NotedBoard D)) (w : Worker) (b c : NotedBoard D) (o : Option (NotedBoard D))
    → IsSomeAnd o (MayLeave size faults mismatches held desk w b) → c.board ≡ b.board → length c.sleepers ≡ length b.sleepers → IsSoundBoard size faults mismatches held c.board
    → IsNotedSound size faults mismatches held c
noted-sound size faults mismatches held desk w b c None may e many sound = absurd may
noted-sound {D} size faults mismatches held desk w b c (Some found) may e many sound =
    let turn = subst (λ (x : BoardState D). IsTurnOf faults mismatches w found.board x) (sym e) may.turn in
    record {
      board = shared-sound size faults mismatches held w found.board c.board may.sound turn sound;
      staffed = many ∙ ap length may.notes ∙ may.staffed ∙ ap (λ (k : BoardKey D). k.program.workers) (sym turn.key);
    }

-- the worker has a place for its note
pub noted-inside : {D : Type 0} (size faults mismatches : D → ℕ) (held : D → Option (List ℕ)) (desk : DeskFacts (NotedBoard D)) (w : Worker) (b : NotedBoard D) (o : Option (NotedBoard D))
    → IsSomeAnd o (MayLeave size faults mismatches held desk w b) → w.0 < length b.sleepers
noted-inside size faults mismatches held desk w b None may = absurd may
noted-inside size faults mismatches held desk w b (Some found) may = subst (λ n. w.0 < n) (sym (ap length may.notes ∙ may.staffed)) may.known
