-- The passes of the workers that have no post yet, beside their seats.
use Rattle.std.proofs.Common.{◌≡◌, ◌∙◌, ◌++◌, ◌<◌, ◌∷◌, [], ℕ, suc, Option, None, Some, List, ap, arith, length, refl, slice_index_or, subst, sym}
use Rattle.std.specs.List.{AllZip}
use Rattle.std.specs.Option.{option_to_list}
use Rattle.std.proofs.lemmas.List.Elements.{All-get_or}
use Rattle.sj_base.specs.declared.mode.Policy.{Policy}
use Rattle.sj_desk.specs.Seats.{DeskFacts, SeatFacts}
use Rattle.sj_steal.specs.Facts.{PassFacts, SharedFacts}
use Rattle.sj_board.specs.BoardRow.{BoardRow}
use Rattle.sj_engine.specs.Ready.{ArePasses, ArePassesFor, ArePassesOf, GetsReadyBy, IsPassBy}
use Rattle.sj_engine.specs.Run.{AreAt}
use Rattle.sj_engine.specs.declared.noted_board.NotedBoard.{NotedBoard}

-- two lists of which each has something behind are alike where the lists before are, and so are these two
zip-last : {X Y : Type 0} (P : X → Y → Type 0) (xs : List X) (x : X) (ys : List Y) (y : Y) → AllZip P (xs ++ x ∷ []) (ys ++ y ∷ []) → AllZip P xs ys × P x y
zip-last P [] x [] y (here, rest) = (tt, here)
zip-last P [] x (k ∷ []) y (here, rest) = absurd rest
zip-last P [] x (k ∷ l ∷ ys) y (here, rest) = absurd rest
zip-last P (k ∷ []) x [] y (here, rest) = absurd rest
zip-last P (k ∷ l ∷ xs) x [] y (here, rest) = absurd rest
zip-last P (k ∷ xs) x (l ∷ ys) y (here, rest) = let (before, last) = zip-last P xs x ys y rest in ((here, before), last)

zip-none : {X Y : Type 0} (P : X → Y → Type 0) (xs : List X) (x : X) → AllZip P (xs ++ x ∷ []) [] → ⊥
zip-none P [] x none = none
zip-none P (k ∷ xs) x none = none

module _ {D : Type 0} (desk : DeskFacts (NotedBoard D)) (queues : Option SharedFacts) (seats seats' : List (SeatFacts (NotedBoard D))) (seat : SeatFacts (NotedBoard D)) (passes passes' : List PassFacts) (pass : Option PassFacts)
    (fewer : seats ≡ seats' ++ seat ∷ []) (popped : passes ≡ passes' ++ option_to_list pass) (none : pass ≡ None → passes ≡ []) (are : ArePassesFor desk queues seats passes) where
  abbrev policy : Policy
  policy = desk.opening.board.run.machine.policy

  left-with : (o : Option PassFacts) → pass ≡ o → passes ≡ passes' ++ option_to_list o
  left-with o e = popped ∙ ap (λ (x : Option PassFacts). passes' ++ option_to_list x) e

  -- the last pass is that of the last seat, and the others are those of the other seats
  both : (q : Option SharedFacts) (o : Option PassFacts) → pass ≡ o → GetsReadyBy q policy → ArePassesOf q seats passes → ArePassesOf q seats' passes' × IsPassBy q policy seat.number o
  both None None e by empty = (no-more passes' (sym (left-with None e) ∙ empty), by)
    where
      no-more : (ps : List PassFacts) → ps ++ [] ≡ [] → ps ≡ []
      no-more [] k = refl
      no-more (p ∷ ps) k = absurd (cc)
  both None (Some p) e by empty = absurd (some-more passes' (sym (left-with (Some p) e) ∙ empty))
    where
      some-more : (ps : List PassFacts) → ps ++ p ∷ [] ≡ [] → ⊥
      some-more [] k = absurd (cc)
      some-more (l ∷ ps) k = absurd (cc)
  both (Some shared) None e by each =
      let P = λ (s : SeatFacts (NotedBoard D)) (k : PassFacts). (k.shared ≡ shared) × (k.number ≡ s.number) in
      absurd (zip-none P seats' seat (subst (λ (ss : List (SeatFacts (NotedBoard D))). AllZip P ss []) fewer (subst (AllZip P seats) (none e) each)))
  both (Some shared) (Some p) e by each =
      let P = λ (s : SeatFacts (NotedBoard D)) (k : PassFacts). (k.shared ≡ shared) × (k.number ≡ s.number) in
      let h = zip-last P seats' seat passes' p (subst (λ (ss : List (SeatFacts (NotedBoard D))). AllZip P ss (passes' ++ p ∷ [])) fewer (subst (AllZip P seats) (left-with (Some p) e) each)) in
      (h.0, (by, h.1.0, h.1.1))

  pub passes-left : ArePassesFor desk queues seats' passes'
  passes-left = record { policy = are.policy; each = (both queues pass refl are.policy are.each).0 }

  pub last-pass : IsPassBy queues policy seat.number pass
  last-pass = (both queues pass refl are.policy are.each).1

-- ---- as they are dealt

zip-places : {X Y : Type 0} (P : X → Y → Type 0) (xs : List X) (ys : List Y) → length ys ≡ length xs → ((i : ℕ) → i < length xs → (d : X) (e : Y) → P (slice_index_or xs i d) (slice_index_or ys i e)) → AllZip P xs ys
zip-places P [] [] long each = tt
zip-places P [] (y ∷ ys) long each = absurd (omega (arith, long))
zip-places P (x ∷ xs) [] long each = absurd (omega (arith, long))
zip-places P (x ∷ xs) (y ∷ ys) long each = (each 0 (omega arith) x y, zip-places P xs ys (omega (arith, long)) (λ i l d e. each (suc i) (omega (arith, l)) d e))

-- all passes are those of all seats
pub all-passes : {D : Type 0} (desk : DeskFacts (NotedBoard D)) (Q : BoardRow D → Type 0) (seats : List (SeatFacts (NotedBoard D))) → AreAt desk Q seats → (queues : Option SharedFacts) (passes : List PassFacts) → GetsReadyBy queues desk.opening.board.run.machine.policy → ArePasses queues desk.seats passes → ArePassesFor desk queues seats passes
all-passes {D} desk Q seats at queues passes by are = record { policy = by; each = by_queues queues are }
  where
    by_queues : (q : Option SharedFacts) → ArePasses q desk.seats passes → ArePassesOf q seats passes
    by_queues None none = none
    by_queues (Some shared) (workers, all) = zip-places (λ (s : SeatFacts (NotedBoard D)) (p : PassFacts). (p.shared ≡ shared) × (p.number ≡ s.number)) seats passes (all.count ∙ workers ∙ sym at.count) (λ i l d e.
        let seated : i < desk.seats = subst (λ (n : ℕ). i < n) at.count l in
        let staffed : i < shared.workers = subst (λ (n : ℕ). i < n) (sym workers) seated in
        let inside : i < length passes = subst (λ (n : ℕ). i < n) (sym all.count) staffed in
        (All-get_or (λ (p : PassFacts). p.shared ≡ shared) passes i e inside all.of, all.numbers i e staffed ∙ sym (at.each i d seated).number))
