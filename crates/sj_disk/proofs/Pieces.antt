-- Elements that are written or read in pieces.
use Rattle.std.proofs.Common.{◌≡◌, ℕ, ◌+◌, ◌-◌, ◌*◌, ◌≤◌, ℤ, List, ◌++◌, length, take, drop, slice_range, length-append, sym, ap, ◌∙◌, subst, arith, w64, Option, Result, Ok, length-drop, length-take}
use Rattle.std.specs.Prelude.{All, FitsSigned, IsErr}
use Rattle.std.proofs.lemmas.List.Elements.{All-append}
use Rattle.std.proofs.lemmas.List.{length-take-le}
use Rattle.std.proofs.lemmas.Slice.{take-put_mid}
use borrow.Rule.Slice.PartMut.{put_mid}
use Rattle.sj_edge.specs.Held.{Fills, GivesHeld}
use Rattle.sj_disk.specs.Block.{element_bytes}
use Rattle.sj_disk.specs.Transfers.{Writes}
use Rattle.sj_disk.proofs.Bytes.{element_bytes-append, element_bytes-more, element_bytes-rest, length-element_bytes}
use Rattle.sj_disk.proofs.Transferring.{gives-then, writes-then, writes-wider}

length-front : (xs : List ℤ) (n : ℕ) → n ≤ length xs → length (element_bytes (take n xs)) ≡ 8 * n
length-front xs n le = length-element_bytes (take n xs) ∙ ap (λ k. 8 * k) (length-take-le n xs le)

-- a piece in the place of another of its length
pub ends-piece : (xs ys : List ℤ) (start stop : ℕ) → start ≤ stop → stop ≤ length xs → length ys ≡ length (slice_range xs start stop) → stop ≡ start + length ys
ends-piece xs ys start stop order inside same = omega (arith, length-take (stop - start) (drop start xs), length-drop start xs)

-- and the list still reaches to its end
pub reaches-piece : (xs ys : List ℤ) (start stop k : ℕ) → start ≤ length xs → stop ≡ start + length ys → stop ≤ length (put_mid start k xs ys)
reaches-piece xs ys start stop k inside end =
    let taken : length (take stop (put_mid start k xs ys)) ≡ length (take start xs ++ ys) = ap length (take-put_mid start k xs ys stop end inside) in
    omega (arith, length-take stop (put_mid start k xs ys), length-append (take start xs) ys, length-take-le start xs inside)

module _ {D : Type 0} (size faults mismatches : D → ℕ) (held : D → Option (List ℕ)) where
  -- a piece more is written
  pub writes-piece : {A B E F : Type 0} (at n : ℕ) (xs : List ℤ) (start stop : ℕ) (x : A) (r : Result B F) (a b c : D) → Fills (held a) (size a) → at + 8 * length xs ≤ size a → start ≤ stop → stop ≤ length xs → n ≡ at + 8 * start → Writes {A = A} {E = E} size faults mismatches held at (element_bytes (take start xs)) (Ok x) a b → Writes size faults mismatches held n (element_bytes (slice_range xs start stop)) r b c → Writes size faults mismatches held at (element_bytes (take stop xs)) r a c
  writes-piece at n xs start stop x r a b c filled within order inside there first second =
      let front : List ℕ = element_bytes (take start xs) in
      let piece : List ℕ = element_bytes (slice_range xs start stop) in
      let whole : front ++ piece ≡ element_bytes (take stop xs) = element_bytes-more xs start stop order in
      let long : length front ≡ 8 * start = length-front xs start (omega arith) in
      let all : length (element_bytes (take stop xs)) ≡ 8 * stop = length-front xs stop inside in
      let sum : length (front ++ piece) ≡ 8 * stop = ap length whole ∙ all in
      let fits : at + length front + length piece ≤ size a = omega (arith, length-append front piece) in
      let moved : Writes size faults mismatches held (at + length front) piece r b c =
      subst (λ k. Writes size faults mismatches held k piece r b c) (there ∙ ap (λ k. at + k) (sym long)) second in
      subst (λ bs. Writes size faults mismatches held at bs r a c) whole (writes-then size faults mismatches held at front piece x r a b c filled fits first moved)

  -- a piece failed, and with it the whole
  pub writes-short : {A B E F : Type 0} (at : ℕ) (xs : List ℤ) (stop : ℕ) (r : Result A E) (q : Result B F) (a b : D) → IsErr r → IsErr q → Fills (held a) (size a) → at + 8 * length xs ≤ size a → stop ≤ length xs → Writes size faults mismatches held at (element_bytes (take stop xs)) r a b → Writes size faults mismatches held at (element_bytes xs) q a b
  writes-short at xs stop r q a b bad worse filled within inside w =
      let front : List ℕ = element_bytes (take stop xs) in
      let rest : List ℕ = element_bytes (drop stop xs) in
      let long : length front ≡ 8 * stop = length-front xs stop inside in
      let more : length rest ≡ 8 * (length xs - stop) = length-element_bytes (drop stop xs) ∙ ap (λ k. 8 * k) (length-drop stop xs) in
      let fits : at + length front + length rest ≤ size a = omega arith in
      subst (λ bs. Writes size faults mismatches held at bs q a b) (element_bytes-rest xs stop) (writes-wider size faults mismatches held at front rest r q a b bad worse filled fits w)

-- a piece more is read
pub gives-piece : (h : Option (List ℕ)) (at n : ℕ) (xs ys : List ℤ) (start stop k : ℕ) → start ≤ length xs → stop ≡ start + length ys → n ≡ at + 8 * start → GivesHeld h at (element_bytes (take start xs)) → GivesHeld h n (element_bytes ys) → GivesHeld h at (element_bytes (take stop (put_mid start k xs ys)))
gives-piece h at n xs ys start stop k inside end there first second =
    let front : List ℕ = element_bytes (take start xs) in
    let long : length front ≡ 8 * start = length-front xs start inside in
    let moved : GivesHeld h (at + length front) (element_bytes ys) = subst (λ m. GivesHeld h m (element_bytes ys)) (there ∙ ap (λ m. at + m) (sym long)) second in
    let whole : element_bytes (take stop (put_mid start k xs ys)) ≡ front ++ element_bytes ys = ap element_bytes (take-put_mid start k xs ys stop end inside) ∙ element_bytes-append (take start xs) ys in
    subst (λ bs. GivesHeld h at bs) (sym whole) (gives-then h at front (element_bytes ys) first moved)

pub fits-piece : (xs ys : List ℤ) (start stop k : ℕ) → start ≤ length xs → stop ≡ start + length ys → All (FitsSigned w64) (take start xs) → All (FitsSigned w64) ys → All (FitsSigned w64) (take stop (put_mid start k xs ys))
fits-piece xs ys start stop k inside end first second = rw (take-put_mid start k xs ys stop end inside) (All-append (FitsSigned w64) (take start xs) ys first second)
