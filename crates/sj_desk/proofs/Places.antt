-- Seats that stand at the places of their numbers, as callers keep them.
use Rattle.std.proofs.Common.{◌≡◌, ℕ, zero, suc, ◌<◌, List, [], ◌∷◌, ◌++◌, append-nil, take, drop, length, get_or, sym, ap, ◌∙◌, refl, subst, arith}
use Rattle.std.proofs.lemmas.List.FromFn.{length-map-range_with_len, get_or-map-range_with_len}
use Rattle.std.proofs.lemmas.List.Elements.{Contains-get_or}
use Rattle.sj_desk.specs.Seats.{DeskFacts, SeatFacts, new_seat, new_seats, HasEachNumber, IsWaiting, AreInPlace}

module _ {T : Type 0} (desk : DeskFacts T) where
  new_at : (k : ℕ) (d : SeatFacts T) → k < desk.seats → get_or (new_seats desk) k d ≡ new_seat desk k
  new_at k d below = get_or-map-range_with_len (new_seat desk) 0 desk.seats k k d below (omega arith)

  pub new_in_place : (seats : List (SeatFacts T)) → seats ≡ new_seats desk → AreInPlace desk seats
  new_in_place seats e = subst (AreInPlace desk) (sym e) (record {
    count = length-map-range_with_len (new_seat desk) 0 desk.seats;
    waiting = λ k d within. subst (IsWaiting desk) (sym (new_at k d (omega (arith, length-map-range_with_len (new_seat desk) 0 desk.seats)))) (refl, refl);
    numbers = λ k d below. ap (λ (s : SeatFacts T). s.number) (new_at k d below);
  })

  pub each_number : (seats : List (SeatFacts T)) → AreInPlace desk seats → HasEachNumber desk seats
  each_number seats h = λ n below.
      let d = new_seat desk n in
      (get_or seats n d, Contains-get_or seats n d (omega (arith, h.count)), h.numbers n d below)

module _ {X : Type 0} where
  drop_all : (n : ℕ) (xs : List X) → n ≡ length xs → drop n xs ≡ []
  drop_all zero [] e = refl
  drop_all zero (x ∷ xs) e = absurd (omega arith)
  drop_all (suc n) [] e = absurd (omega arith)
  drop_all (suc n) (x ∷ xs) e = drop_all n xs (omega arith)

  take_all : (n : ℕ) (xs : List X) → n ≡ length xs → take n xs ≡ xs
  take_all zero [] e = refl
  take_all zero (x ∷ xs) e = absurd (omega arith)
  take_all (suc n) [] e = absurd (omega arith)
  take_all (suc n) (x ∷ xs) e = ap (λ l. x ∷ l) (take_all n xs (omega arith))

  -- the items of a `Vec` that was lent as a slice, and came back as xs
  pub lent_back : (n : ℕ) (xs ys : List X) → n ≡ length ys → length xs ≡ length ys → take n (xs ++ drop (length xs) ys) ≡ xs
  lent_back n xs ys whole same =
      ap (λ l. take n (xs ++ l)) (drop_all (length xs) ys same) ∙ ap (take n) (append-nil xs) ∙ take_all n xs (omega arith)
