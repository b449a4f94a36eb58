-- The bytes of headers and elements: how many there are, and that they say what they are of.
use Rattle.std.proofs.Common.{◌≡◌, ℕ, suc, ◌+◌, ◌-◌, ◌*◌, ◌^◌, ◌<◌, ◌≤◌, inl, inr, ℤ, List, [], ◌∷◌, ◌++◌, length, take, drop, get_or, slice_range, refl, sym, ap, ◌∙◌, subst, append_assoc, arith, Fits, w8, w64, of_z, to_z, length-append, length-take, length-drop}
use Rattle.std.specs.Prelude.{All, FitsSigned}
use Rattle.std.specs.Int.{from_le_bytes}
use Rattle.std.proofs.Math.Facts.{Fits-lt-pow, Fits-of_lt, sfits_to_z}
use Rattle.std.proofs.Math.Seq.{take-add, take-append_seam}
use Rattle.std.proofs.lemmas.Bool.{cases_lt}
use Rattle.std.proofs.lemmas.Grind.{flat_map-append}
use Rattle.std.proofs.lemmas.Int.{of_z-to_z, to_z-of_z}
use Rattle.std.proofs.lemmas.List.{append_cancel_left, drop_all, drop-drop, get_or-drop, get_or-take, get_or_past, take-append-drop, append-nil}
use Rattle.std.proofs.lemmas.Nat.{from_le_bytes-to_le_bytes_8, le_bytes_8}
use Rattle.sj_base.proofs.Numbers.{of_z-below}
use Rattle.byteorder.specs.Endian.{little_number, IsReadBy}
use Rattle.sj_edge.proofs.Ranges.{range-rest}
use Rattle.sj_disk.specs.declared.header.Header.{Header}
use Rattle.sj_disk.specs.Block.{word, header_bytes, element_bytes}

-- ---- how many

pub length-word : (n : ℕ) → length (word n) ≡ 8
unfolding word
length-word n = refl

pub length-header_bytes : (h : Header) → length (header_bytes h) ≡ 24
unfolding header_bytes
length-header_bytes h = omega (arith, length-append (word h.cell ++ word h.writes) (word h.length), length-append (word h.cell) (word h.writes), length-word h.cell, length-word h.writes, length-word h.length)

pub length-element_bytes : (xs : List ℤ) → length (element_bytes xs) ≡ 8 * length xs
unfolding element_bytes
length-element_bytes [] = refl
length-element_bytes (x ∷ xs) = omega (arith, length-append (word (of_z w64 x)) (element_bytes xs), length-word (of_z w64 x), length-element_bytes xs)

pub element_bytes-none : element_bytes [] ≡ []
unfolding element_bytes
element_bytes-none = refl

pub element_bytes-append : (xs ys : List ℤ) → element_bytes (xs ++ ys) ≡ element_bytes xs ++ element_bytes ys
unfolding element_bytes
element_bytes-append xs ys = flat_map-append (λ z. word (of_z w64 z)) xs ys

-- ---- the bytes of a number that was read are those that it was read from

-- each item is a byte
abbrev AreBytes : List ℕ → Type 0
AreBytes xs = (i : ℕ) → Fits w8 (get_or xs i 0)

byte : (n : ℕ) → Fits w8 n → n < 256
byte n h = Fits-lt-pow {w = w8} h

zero_fits : Fits w8 0
zero_fits = Fits-of_lt {w = w8} (omega arith)

pub fits-take : (n : ℕ) (xs : List ℕ) → AreBytes xs → AreBytes (take n xs)
fits-take n xs fits i = elim (cases_lt i n) [
  | inl lt ↦ rw (get_or-take n xs i 0 lt) (fits i)
  | inr ge ↦ rw (get_or_past (take n xs) i 0 (omega (arith, length-take n xs))) zero_fits
]

pub fits-drop : (n : ℕ) (xs : List ℕ) → AreBytes xs → AreBytes (drop n xs)
fits-drop n xs fits i = rw (get_or-drop n xs i 0) (fits (n + i))

pub fits-range : (xs : List ℕ) (at n : ℕ) → AreBytes xs → AreBytes (slice_range xs at (at + n))
fits-range xs at n fits = fits-take (at + n - at) (drop at xs) (fits-drop at xs fits)

little_is : (xs : List ℕ) → little_number 8 xs ≡ from_le_bytes w64 xs
little_is xs = omega arith

pub word-little : (xs : List ℕ) → length xs ≡ 8 → AreBytes xs → word (little_number 8 xs) ≡ xs
unfolding word
word-little xs n fits = le_bytes_8 xs (little_number 8 xs) n (λ i. byte _ (fits i)) (little_is xs)

little-front : (xs : List ℕ) → little_number 8 (take 8 xs) ≡ little_number 8 xs
little-front xs =
    let e : (i : ℕ) → i < 8 → get_or (take 8 xs) i 0 ≡ get_or xs i 0 = λ i lt. get_or-take 8 xs i 0 lt in
    omega (arith, e 0 (omega arith), e 1 (omega arith), e 2 (omega arith), e 3 (omega arith), e 4 (omega arith), e 5 (omega arith), e 6 (omega arith), e 7 (omega arith))

little-small : (xs : List ℕ) → AreBytes xs → little_number 8 xs < 2 ^ 64
little-small xs fits =
    let b : (i : ℕ) → get_or xs i 0 < 256 = λ i. byte _ (fits i) in
    omega (arith, b 0, b 1, b 2, b 3, b 4, b 5, b 6, b 7)

word-front : (xs : List ℕ) → 8 ≤ length xs → AreBytes xs → word (little_number 8 xs) ≡ take 8 xs
word-front xs long fits =
    ap word (sym (little-front xs)) ∙ word-little (take 8 xs) (omega (arith, length-take 8 xs)) (fits-take 8 xs fits)

pub three_words : (xs a b c : List ℕ) → length xs ≡ 24 → a ≡ slice_range xs 0 8 → b ≡ slice_range xs 8 16 → c ≡ slice_range xs 16 24 → (a ++ b) ++ c ≡ xs
three_words xs a b c n ea eb ec =
    let last : c ≡ drop 16 xs =
    ec ∙ sym (append-nil (slice_range xs 16 24)) ∙ ap (λ ys. slice_range xs 16 24 ++ ys) (sym (drop_all 24 xs (omega arith))) ∙ range-rest xs 16 8 in
    append_assoc a b c
    ∙ ap (λ ys. ys ++ (b ++ c)) ea
    ∙ ap (λ ys. slice_range xs 0 8 ++ ys) (ap (λ ys. ys ++ c) eb ∙ ap (λ ys. slice_range xs 8 16 ++ ys) last ∙ range-rest xs 8 8)
    ∙ range-rest xs 0 8

pub decoded : (src : List ℕ) (dst : List ℤ) → length src ≡ 8 * length dst → AreBytes src → IsReadBy (λ ys. to_z w64 (little_number 8 ys)) 8 src dst → element_bytes dst ≡ src
unfolding element_bytes
decoded [] [] n fits h = refl
decoded (b ∷ bs) [] n fits h = absurd (omega arith)
decoded src (z ∷ zs) n fits h =
    let long : 8 ≤ length src = omega arith in
    let number : ℕ = little_number 8 src in
    let first : word (of_z w64 z) ≡ take 8 src =
    ap (λ x. word (of_z w64 x)) (h z 0 (omega arith)) ∙ ap word (of_z-to_z w64 number (little-small src fits)) ∙ word-front src long fits in
    let rest : element_bytes zs ≡ drop 8 src =
    decoded (drop 8 src) zs (omega (arith, length-drop 8 src)) (fits-drop 8 src fits) (λ d k lt. h d (suc k) (omega arith) ∙ ap (λ ys. to_z w64 (little_number 8 ys)) (ap (λ m. drop m src) (the (8 * suc k ≡ 8 + 8 * k) (omega arith)) ∙ sym (drop-drop (8 * k) 8 src))) in
    ap (λ ys. ys ++ element_bytes zs) first ∙ ap (λ ys. take 8 src ++ ys) rest ∙ take-append-drop 8 src
  where
    the : (X : Type 0) → X → X
    the X x = x

pub decoded-fits : (src : List ℕ) (dst : List ℤ) → AreBytes src → IsReadBy (λ ys. to_z w64 (little_number 8 ys)) 8 src dst → All (FitsSigned w64) dst
decoded-fits src dst fits h k d lt =
    let small : little_number 8 (drop (8 * k) src) < 2 ^ 64 = little-small (drop (8 * k) src) (fits-drop (8 * k) src fits) in
    subst (FitsSigned w64) (sym (h d k lt)) (sfits_to_z {w = w64} (Fits-of_lt {w = w64} small))

-- ---- elements in pieces

pub element_bytes-more : (xs : List ℤ) (start stop : ℕ) → start ≤ stop → element_bytes (take start xs) ++ element_bytes (slice_range xs start stop) ≡ element_bytes (take stop xs)
element_bytes-more xs start stop order =
    let e : start + (stop - start) ≡ stop = omega arith in
    sym (element_bytes-append (take start xs) (slice_range xs start stop))
    ∙ ap element_bytes (sym (take-add start (stop - start) xs) ∙ ap (λ n. take n xs) e)

pub element_bytes-rest : (xs : List ℤ) (n : ℕ) → element_bytes (take n xs) ++ element_bytes (drop n xs) ≡ element_bytes xs
element_bytes-rest xs n = sym (element_bytes-append (take n xs) (drop n xs)) ∙ ap element_bytes (take-append-drop n xs)

-- ---- bytes say what they are of

word-same : (m n : ℕ) → m < 2 ^ 64 → n < 2 ^ 64 → word m ≡ word n → m ≡ n
unfolding word
word-same m n hm hn e = sym (from_le_bytes-to_le_bytes_8 m hm) ∙ ap (from_le_bytes w64) e ∙ from_le_bytes-to_le_bytes_8 n hn

pub element_bytes-same : (xs ys : List ℤ) → All (FitsSigned w64) xs → All (FitsSigned w64) ys → element_bytes xs ≡ element_bytes ys → xs ≡ ys
unfolding element_bytes
element_bytes-same [] [] fx fy e = refl
element_bytes-same [] (y ∷ ys) fx fy e = absurd (omega (arith, ap length e, length-append (word (of_z w64 y)) (element_bytes ys), length-word (of_z w64 y)))
element_bytes-same (x ∷ xs) [] fx fy e = absurd (omega (arith, ap length e, length-append (word (of_z w64 x)) (element_bytes xs), length-word (of_z w64 x)))
element_bytes-same (x ∷ xs) (y ∷ ys) fx fy e =
    let a : List ℕ = word (of_z w64 x) in
    let b : List ℕ = word (of_z w64 y) in
    let n : length a ≡ length b = length-word (of_z w64 x) ∙ sym (length-word (of_z w64 y)) in
    let first : a ≡ b = sym (take-append_seam a (element_bytes xs)) ∙ ap (take (length a)) e ∙ ap (λ k. take k (b ++ element_bytes ys)) n ∙ take-append_seam b (element_bytes ys) in
    let bits : of_z w64 x ≡ of_z w64 y = word-same (of_z w64 x) (of_z w64 y) (of_z-below x (fx 0 x (omega arith))) (of_z-below y (fy 0 y (omega arith))) first in
    let head : x ≡ y = sym (to_z-of_z w64 x (fx 0 x (omega arith))) ∙ ap (to_z w64) bits ∙ to_z-of_z w64 y (fy 0 y (omega arith)) in
    let rest : element_bytes xs ≡ element_bytes ys = append_cancel_left b (element_bytes xs) (element_bytes ys) (ap (λ w. w ++ element_bytes xs) (sym first) ∙ e) in
    ap (λ z. z ∷ xs) head ∙ ap (λ zs. y ∷ zs) (element_bytes-same xs ys (λ k d lt. fx (suc k) d (omega arith)) (λ k d lt. fy (suc k) d (omega arith)) rest)
