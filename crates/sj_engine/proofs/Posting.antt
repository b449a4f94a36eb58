-- Where the workers of a run are: none is lost between the list of seats and that of posts.
use Rattle.std.proofs.Common.{◌≡◌, ℕ, ◌<◌, ◌++◌, ◌∷◌, [], ◌∙◌, Some, List, ap, arith, inl, inr, length, refl, subst, sym}
use Rattle.std.specs.Prelude.{All, Contains, IsSomeAnd}
use Rattle.std.specs.List.{slice_index_or}
use Rattle.std.specs.Option.{option_to_list}
use Rattle.std.proofs.lemmas.List.{map-append}
use Rattle.std.proofs.lemmas.List.Elements.{All-contains, All-from_get_or, Contains-append_cases, Contains-append_left, Contains-append_right, Contains-get_or}
use Rattle.sj_core.proofs.Dependencies.{map-from}
use Rattle.sj_core.proofs.Readiness.{Contains-map}
use Rattle.sj_desk.specs.Seats.{DeskFacts, HasEachNumber, HasRowLeft, IsWaiting, SeatFacts, new_seat}
use Rattle.sj_board.specs.Board.{empty_hand}
use Rattle.sj_board.specs.BoardRow.{BoardRow, row_of_number}
use Rattle.sj_board.specs.declared.hand.Hand.{Hand}
use Rattle.sj_engine.specs.Member.{IsSeatOf}
use Rattle.sj_engine.specs.Noted.{noted_row}
use Rattle.sj_engine.specs.Posts.{HasEachWorker, number_of, numbers_of_posts, numbers_of_seats}
use Rattle.sj_engine.specs.Run.{AllStopped, AreAt}
use Rattle.sj_engine.specs.Stage.{IsStoppedRow, stopped_hand}
use Rattle.sj_engine.specs.declared.posts.Post.{Post}
use Rattle.sj_engine.proofs.Seating.{each-number, row-stopped}
use Rattle.sj_engine.specs.declared.noted_board.NotedBoard.{NotedBoard}

-- the last element of one list goes behind another, before or behind
to-second : {X : Type 0} (xs ys : List X) (a n : X) → Contains ((xs ++ a ∷ []) ++ ys) n → Contains (xs ++ (ys ++ a ∷ [])) n
to-second xs ys a n h = elim (Contains-append_cases (xs ++ a ∷ []) ys n h) [
  | inl first ↦ elim (Contains-append_cases xs (a ∷ []) n first) [
    | inl front ↦ Contains-append_left xs (ys ++ a ∷ []) n front
    | inr last ↦ Contains-append_right xs (ys ++ a ∷ []) n (Contains-append_right ys (a ∷ []) n last)
  ]
  | inr second ↦ Contains-append_right xs (ys ++ a ∷ []) n (Contains-append_left ys (a ∷ []) n second)
]

to-first : {X : Type 0} (xs ys : List X) (a n : X) → Contains (xs ++ (ys ++ a ∷ [])) n → Contains ((xs ++ a ∷ []) ++ ys) n
to-first xs ys a n h = elim (Contains-append_cases xs (ys ++ a ∷ []) n h) [
  | inl front ↦ Contains-append_left (xs ++ a ∷ []) ys n (Contains-append_left xs (a ∷ []) n front)
  | inr second ↦ elim (Contains-append_cases ys (a ∷ []) n second) [
    | inl among ↦ Contains-append_right (xs ++ a ∷ []) ys n among
    | inr last ↦ Contains-append_left (xs ++ a ∷ []) ys n (Contains-append_right xs (a ∷ []) n last)
  ]
]

module _ {D : Type 0} (desk : DeskFacts (NotedBoard D)) where
  -- a seat becomes a post
  pub each-posted : (old new : List (SeatFacts (NotedBoard D))) (seat : SeatFacts (NotedBoard D)) (posts : List (Post D)) (post : Post D)
      → old ≡ new ++ option_to_list (Some seat) → number_of post ≡ seat.number
      → HasEachWorker desk old posts → HasEachWorker desk new (posts ++ post ∷ [])
  each-posted old new seat posts post e same each n below =
      let seats : numbers_of_seats old ≡ numbers_of_seats new ++ seat.number ∷ [] = ap numbers_of_seats e ∙ map-append (λ (s : SeatFacts (NotedBoard D)). s.number) new (seat ∷ []) in
      let after : numbers_of_posts (posts ++ post ∷ []) ≡ numbers_of_posts posts ++ seat.number ∷ [] = map-append number_of posts (post ∷ []) ∙ ap (λ (k : ℕ). numbers_of_posts posts ++ k ∷ []) same in
      subst (λ (l : List ℕ). Contains (numbers_of_seats new ++ l) n) (sym after)
      (to-second (numbers_of_seats new) (numbers_of_posts posts) seat.number n (subst (λ (l : List ℕ). Contains (l ++ numbers_of_posts posts) n) seats (each n below)))

  -- a post becomes a seat
  pub each-called_in : (seats : List (SeatFacts (NotedBoard D))) (seat : SeatFacts (NotedBoard D)) (old new : List (Post D)) (post : Post D)
      → old ≡ new ++ option_to_list (Some post) → seat.number ≡ number_of post
      → HasEachWorker desk seats old → HasEachWorker desk (seats ++ seat ∷ []) new
  each-called_in seats seat old new post e same each n below =
      let before : numbers_of_posts old ≡ numbers_of_posts new ++ number_of post ∷ [] = ap numbers_of_posts e ∙ map-append number_of new (post ∷ []) in
      let after : numbers_of_seats (seats ++ seat ∷ []) ≡ numbers_of_seats seats ++ number_of post ∷ [] =
      map-append (λ (s : SeatFacts (NotedBoard D)). s.number) seats (seat ∷ []) ∙ ap (λ (k : ℕ). numbers_of_seats seats ++ k ∷ []) same in
      subst (λ (l : List ℕ). Contains (l ++ numbers_of_posts new) n) (sym after)
      (to-first (numbers_of_seats seats) (numbers_of_posts new) (number_of post) n (subst (λ (l : List ℕ). Contains (numbers_of_seats seats ++ l) n) before (each n below)))

  -- the posts are others of the same workers
  pub each-same : (seats : List (SeatFacts (NotedBoard D))) (old new : List (Post D)) → numbers_of_posts new ≡ numbers_of_posts old
      → HasEachWorker desk seats old → HasEachWorker desk seats new
  each-same seats old new same each n below = subst (λ (l : List ℕ). Contains (numbers_of_seats seats ++ l) n) (sym same) (each n below)

  -- ---- the seats as they are dealt, and as they come back

  pub seats-of : (P : BoardRow D → Type 0) (seats : List (SeatFacts (NotedBoard D))) → AreAt desk P seats → All (IsSeatOf desk P) seats
  seats-of P seats at = All-from_get_or (IsSeatOf desk P) seats (new_seat desk 0) (λ i inside.
      let below : i < desk.seats = subst (λ (n : ℕ). i < n) at.count inside in
      let its = at.each i (new_seat desk 0) below in
      let same : (slice_index_or seats i (new_seat desk 0)).number ≡ i = its.number in
      record {
        known = subst (λ (n : ℕ). n < desk.seats) (sym same) below;
        row = record { waiting = its.waiting; number = refl; row = subst (λ (n : ℕ). IsSomeAnd (slice_index_or seats i (new_seat desk 0)).left (λ b. P (row_of_number b.board n))) (sym same) its.row };
      })

  pub each-seated : (P : BoardRow D → Type 0) (seats : List (SeatFacts (NotedBoard D))) (posts : List (Post D)) → AreAt desk P seats → HasEachWorker desk seats posts
  each-seated P seats posts at n below =
      let s = each-number desk P seats at n below in
      Contains-append_left (numbers_of_seats seats) (numbers_of_posts posts) n
      (subst (λ (k : ℕ). Contains (numbers_of_seats seats) k) s.2 (Contains-map (λ (t : SeatFacts (NotedBoard D)). t.number) seats s.0 s.1))

  pub numbers-back : (seats : List (SeatFacts (NotedBoard D))) → HasEachWorker desk seats [] → HasEachNumber desk seats
  numbers-back seats each n below = elim (Contains-append_cases (numbers_of_seats seats) [] n (each n below)) [
    | inl among ↦ map-from (λ (t : SeatFacts (NotedBoard D)). t.number) seats n among
    | inr none ↦ absurd (let inside = none.1 in omega (arith, inside))
  ]

  pub waiting-back : (P : BoardRow D → Type 0) (seats : List (SeatFacts (NotedBoard D))) → All (IsSeatOf desk P) seats → All (IsWaiting desk) seats
  waiting-back P seats all = All-from_get_or (IsWaiting desk) seats (new_seat desk 0) (λ i inside. (All-contains (IsSeatOf desk P) seats (slice_index_or seats i (new_seat desk 0)) all (Contains-get_or seats i (new_seat desk 0) inside)).row.waiting)

  pub stopped-back : (v : NotedBoard D) (seats : List (SeatFacts (NotedBoard D))) → HasEachWorker desk seats [] → All (IsSeatOf desk IsStoppedRow) seats → length v.board.hands ≡ desk.seats → All (HasRowLeft noted_row v) seats → AllStopped v.board.hands
  stopped-back v seats each all staffed rows = All-from_get_or (λ (h : Hand). h ≡ stopped_hand) v.board.hands empty_hand (λ i inside.
      let below : i < desk.seats = subst (λ (n : ℕ). i < n) staffed inside in
      let its = numbers-back seats each i below in
      let row = (All-contains (IsSeatOf desk IsStoppedRow) seats its.0 all its.1).row.row in
      let left = All-contains (HasRowLeft noted_row v) seats its.0 rows its.1 in
      subst (λ (n : ℕ). (row_of_number v.board n).hand ≡ stopped_hand) its.2 (row-stopped desk v.board its.0.number its.0.left row left))
