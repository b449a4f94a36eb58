-- Matrices that a loop rewrites one row after another.
use Rattle.std.proofs.Common.{◌≡◌, ℕ, ◌+◌, ◌-◌, ◌*◌, ◌/◌, ◌%◌, ◌<◌, ◌≤◌, length, List, ◌++◌, take, drop, ℤ, pos, arith, ◌∙◌, sym, ap, refl, ⊎_elim}
use Rattle.std.proofs.lemmas.List.{get_or_append_left, get_or-append_right, get_or-take, get_or-drop, length-take-le, length-take, length-drop}
use Rattle.std.proofs.lemmas.List.FromFn.{fill_by_all}
use Rattle.std.proofs.lemmas.Nat.{mul-add-lt, div-mul-add, mod-mul-add, div-add-mod', div_below, mod_below}
use Rattle.std.proofs.Math.Nat.{mul_comm}
use Rattle.std.proofs.lemmas.Bool.{cases_lt}
use borrow.Rule.Slice.PartMut.{put_mid}
use Rattle.sj_base.specs.Array.{at, grid}
use Rattle.sj_base.proofs.Numbers.{some_factor}

-- ---- a list whose part from a on, k long, was written anew

pub at_before : (a k : ℕ) (xs ys : List ℤ) (p : ℕ) → p < a → a ≤ length xs → at (put_mid a k xs ys) p ≡ at xs p
at_before a k xs ys p below fits =
    let long : length (take a xs) ≡ a = length-take-le a xs fits in
    get_or_append_left (take a xs) (ys ++ drop k (drop a xs)) (pos 0) p (omega arith) ∙ get_or-take a xs p (pos 0) below

pub at_part : (a k : ℕ) (xs ys : List ℤ) (j : ℕ) → j < length ys → a ≤ length xs → at (put_mid a k xs ys) (a + j) ≡ at ys j
at_part a k xs ys j below fits =
    let long : length (take a xs) ≡ a = length-take-le a xs fits in
    get_or-append_right (take a xs) (ys ++ drop k (drop a xs)) a (a + j) (pos 0) long (omega arith)
    ∙ ap (at (ys ++ drop k (drop a xs))) (omega arith)
    ∙ get_or_append_left ys (drop k (drop a xs)) (pos 0) j below

pub at_behind : (a k : ℕ) (xs ys : List ℤ) (p : ℕ) → a + k ≤ p → length ys ≡ k → a ≤ length xs → at (put_mid a k xs ys) p ≡ at xs p
at_behind a k xs ys p above same fits =
    let long : length (take a xs) ≡ a = length-take-le a xs fits in
    get_or-append_right (take a xs) (ys ++ drop k (drop a xs)) a p (pos 0) long (omega arith)
    ∙ get_or-append_right ys (drop k (drop a xs)) k (p - a) (pos 0) same (omega arith)
    ∙ get_or-drop k (drop a xs) (p - a - k) (pos 0)
    ∙ get_or-drop a xs (k + (p - a - k)) (pos 0)
    ∙ ap (at xs) (omega arith)

-- an element of a part
pub at_slice : (s k : ℕ) (xs : List ℤ) (j : ℕ) → j < k → at (take k (drop s xs)) j ≡ at xs (s + j)
at_slice s k xs j h = get_or-take k (drop s xs) j (pos 0) h ∙ get_or-drop s xs j (pos 0)

pub length_slice : (s e n : ℕ) (xs : List ℤ) → e - s ≡ n → s + n ≤ length xs → length (take (e - s) (drop s xs)) ≡ n
length_slice s e n xs wide fits = rw (length-take, length-drop) (omega arith)

-- ---- rows

pub place_below : (q i n j : ℕ) → q < i → j < n → q * n + j < i * n
place_below q i n j h k = omega (arith, mul-add-lt q n j i h k, mul_comm n i)

-- the value of g at the place of row i and column j
pub at_place : (g : ℕ → ℕ → ℤ) (n i j : ℕ) → j < n → g ((i * n + j) / n) ((i * n + j) % n) ≡ g i j
at_place g n i j h = ap (λ r. g r ((i * n + j) % n)) (div-mul-add i n j h) ∙ ap (g i) (mod-mul-add i n j h)

-- the first i rows of n elements hold g, and the others what they held
pub record HasRows (g : ℕ → ℕ → ℤ) (n : ℕ) (old xs : List ℤ) (i : ℕ) : Type 0 where
  pub done : (p : ℕ) → p < i * n → at xs p ≡ g (p / n) (p % n)
  pub rest : (p : ℕ) → i * n ≤ p → at xs p ≡ at old p

pub rows_none : (g : ℕ → ℕ → ℤ) (n : ℕ) (old : List ℤ) → HasRows g n old old 0
rows_none g n old = record { done = λ p below. absurd (omega arith); rest = λ p above. refl }

row_here : (g : ℕ → ℕ → ℤ) (n i a k : ℕ) (xs ys : List ℤ) → a ≡ i * n → i * n + n ≤ length xs → length ys ≡ n → ((j : ℕ) → j < n → at ys j ≡ g i j) → (p : ℕ) → i * n ≤ p → p < i * n + n → at (put_mid a k xs ys) p ≡ g (p / n) (p % n)
row_here g n i a k xs ys start fits same here p low high =
    let inside : p - i * n < n = omega arith in
    let there : a + (p - i * n) ≡ p = omega arith in
    let place : i * n + (p - i * n) ≡ p = omega arith in
    ap (at (put_mid a k xs ys)) (sym there)
    ∙ at_part a k xs ys (p - i * n) (omega arith) (omega arith)
    ∙ here (p - i * n) inside
    ∙ sym (at_place g n i (p - i * n) inside)
    ∙ ap (λ q. g (q / n) (q % n)) place

-- row i was written from a on, k long
pub rows_more : (g : ℕ → ℕ → ℤ) (n i a k : ℕ) (old xs ys : List ℤ) → a ≡ i * n → k ≡ n → i * n + n ≤ length xs → length ys ≡ n → ((j : ℕ) → j < n → at ys j ≡ g i j) → HasRows g n old xs i → HasRows g n old (put_mid a k xs ys) (i + 1)
rows_more g n i a k old xs ys start wide fits same here rows = record {
  done = λ p below.
      ⊎_elim (λ h. at_before a k xs ys p (omega arith) (omega arith) ∙ rows.done p h) (λ h. row_here g n i a k xs ys start fits same here p h (omega arith)) (cases_lt p (i * n));
  rest = λ p above. at_behind a k xs ys p (omega arith) (omega arith) (omega arith) ∙ rows.rest p (omega arith);
}

-- an element of a row that is done, and of one that isn't
pub row_done : (g : ℕ → ℕ → ℤ) (n i : ℕ) (old xs : List ℤ) → HasRows g n old xs i → (q j : ℕ) → q < i → j < n → at xs (q * n + j) ≡ g q j
row_done g n i old xs rows q j above inside =
    rows.done (q * n + j) (place_below q i n j above inside) ∙ at_place g n q j inside

pub row_rest : (g : ℕ → ℕ → ℤ) (n i : ℕ) (old xs : List ℤ) → HasRows g n old xs i → (j : ℕ) → at xs (i * n + j) ≡ at old (i * n + j)
row_rest g n i old xs rows j = rows.rest (i * n + j) (omega arith)

-- ---- a whole matrix

-- a list of m rows of n elements, known by row and column
pub grid_by_rows : (g : ℕ → ℕ → ℤ) (m n : ℕ) (xs : List ℤ) → length xs ≡ m * n → ((i j : ℕ) → i < m → j < n → at xs (i * n + j) ≡ g i j) → xs ≡ (grid (record { rows = m; cols = n }) g).elements
grid_by_rows g m n xs long h =
    fill_by_all (λ p. g (p / n) (p % n)) xs (m * n) (pos 0) long (λ p below.
    let wide : 0 < n = some_factor m n p below in
    ap (at xs) (sym (div-add-mod' p n)) ∙ h (p / n) (p % n) (div_below p n m wide below) (mod_below p n wide))

pub rows_all : (g : ℕ → ℕ → ℤ) (m n : ℕ) (old xs : List ℤ) → length xs ≡ m * n → HasRows g n old xs m → xs ≡ (grid (record { rows = m; cols = n }) g).elements
rows_all g m n old xs long rows = fill_by_all (λ p. g (p / n) (p % n)) xs (m * n) (pos 0) long rows.done
