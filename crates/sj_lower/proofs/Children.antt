-- The tasks of the runtime's own codelets, one child after another.
use Rattle.sj_lower.proofs.Words.{[], access, ap, area, arith, array, Cell, cells_from, child, children_count, children_of, Dims, Fits, get_or, inl, inr, length, Line, List, Load, load_row, Lowered, map, own_task, part_len, Parts, places, pos, range_with_len, Rect, sym, undivided, W, window, ℕ, ℤ, ◌%◌, ◌*◌, ◌++◌, ◌+◌, ◌/◌, ◌<◌, ◌∙◌, ◌∷◌, ◌≡◌}
use Rattle.std.proofs.lemmas.{Bool.cases_lt, List.same_lists, List.FromFn.get_or-map-range_with_len, List.FromFn.length-map-range_with_len, Nat.div-add-mod', Nat.mul-le}
use Rattle.sj_base.proofs.Tables.{table_from_items}
use Rattle.sj_plan.proofs.{Lists.pushed_more, Tiling.part_first-all}
use Rattle.sj_lower.proofs.Places.{place_at, length-places, number-place_at, places-by_number}

-- what f gives of the first n children, by their numbers
abbrev pub first_children : {X : Type 0} → (ℕ × ℕ → X) → Parts → ℕ → List X
first_children f p n = map (λ k. f (place_at p k)) (range_with_len 0 n)

listed : {X : Type 0} (f : ℕ × ℕ → X) (p : Parts) → map f (places p) ≡ first_children f p (children_count p)
listed f p =
    let g = λ (k : ℕ). f (place_at p k) in
    same_lists (map f (places p)) (first_children f p (children_count p)) (length-places f p ∙ sym (length-map-range_with_len g 0 (children_count p))) (λ k d here.
    let inside : k < p.r * p.c = omega (arith, here, length-places f p) in
    places-by_number f p k d inside ∙ sym (get_or-map-range_with_len g 0 (children_count p) k k d inside (omega arith)))

-- one child more
pub child-pushed : {X : Type 0} (f : ℕ × ℕ → X) (p : Parts) (start now next : List X) (x : X) (n : ℕ) → now ≡ start ++ first_children f p n → next ≡ now ++ x ∷ [] → x ≡ f (place_at p n) → next ≡ start ++ first_children f p (n + 1)
child-pushed f p start now next x n e g h = pushed_more (λ k. f (place_at p k)) start now next x n e g h

-- all of them
pub all-pushed : {X : Type 0} (f : ℕ × ℕ → X) (p : Parts) (start now : List X) (n : ℕ) → n ≡ children_count p → now ≡ start ++ first_children f p n → now ≡ start ++ map f (places p)
all-pushed f p start now n last e = e ∙ ap (λ m. start ++ first_children f p m) last ∙ ap (λ xs. start ++ xs) (sym (listed f p))

-- the rectangle and the cell of the child of a number
pub rect-at : (d : Dims) (p : Parts) (rects : List Rect) (k : ℕ) (blank : Rect) → rects ≡ children_of d p → k < children_count p → get_or rects k blank ≡ child d p (place_at p k)
rect-at d p rects k blank e lt = ap (λ xs. get_or xs k blank) e ∙ places-by_number (child d p) p k blank lt

pub cell-at : (first : ℕ) (p : Parts) (k : ℕ) → let c : Cell = record { 0 = first + k } in c ≡ cells_from first p (place_at p k)
cell-at first p k = ap (λ n. let c : Cell = record { 0 = first + n } in c) (sym (number-place_at p k))

pub length-children : (d : Dims) (p : Parts) → length (children_of d p) ≡ children_count p
length-children d p = length-places (child d p) p

-- ---- a root of one child

one_factor : (r c : ℕ) → 0 < r → 0 < c → r * c ≡ 1 → r ≡ 1
one_factor r c some_r some_c e = elim (cases_lt r 2) as (λ _. r ≡ 1) [
  | inl few ↦ omega arith
  | inr many ↦ (let h = mul-le 2 1 r c many some_c in absurd (omega arith))
]

turned : (r c : ℕ) → r * c ≡ 1 → c * r ≡ 1
turned r c e = omega arith

one_child : (p : Parts) (d : Dims) → Fits p d → p.r * p.c ≡ 1 → p ≡ undivided
one_child p d fits e =
    let r = one_factor p.r p.c fits.some_rows fits.some_cols e in
    let c = one_factor p.c p.r fits.some_cols fits.some_rows (turned p.r p.c e) in
    λ i. record { r = r i; c = c i }

-- one part of n items has them all
part-whole : (n : ℕ) → part_len n 1 0 ≡ n
part-whole n = let e : 0 + part_len n 1 0 ≡ n = part_first-all n 1 (omega arith) in omega (arith, e)

child-whole : (d : Dims) → let r : Rect = record { row = 0; col = 0; rows = d.rows; cols = d.cols } in child d undivided (0, 0) ≡ r
child-whole d = λ i. record { row = 0; col = 0; rows = part-whole d.rows i; cols = part-whole d.cols i }

window-whole : (d : Dims) (xs : List ℤ) → length xs ≡ area d → let r : Rect = record { row = 0; col = 0; rows = d.rows; cols = d.cols } in (window (array d xs) r).elements ≡ xs
window-whole d xs long =
    sym (table_from_items (pos 0) d (λ i j. get_or xs ((0 + i) * d.cols + (0 + j)) (pos 0)) xs long (λ k lt.
    ap (λ n. get_or xs n (pos 0)) (sym (div-add-mod' k d.cols) ∙ there (k / d.cols) d.cols (k % d.cols))))
  where
    there : (i c j : ℕ) → i * c + j ≡ (0 + i) * c + (0 + j)
    there i c j = omega arith

-- the load of a root that is one child has all elements
pub one-load : (xs : List ℤ) (d : Dims) (p : Parts) (first : ℕ) (line : Line) → Fits p d → p.r * p.c ≡ 1 → length xs ≡ area d → let c : Cell = record { 0 = first } in map (λ place. load_row xs d (child d p place) (cells_from first p place) line) (places p) ≡ own_task Load xs (access W c ∷ []) line ∷ []
one-load xs d p first line fits one long =
    let mk : ℕ → Cell = λ n. record { 0 = n } in
    let whole : Rect = record { row = 0; col = 0; rows = d.rows; cols = d.cols } in
    let f : Parts → ℕ × ℕ → Lowered = λ p place. load_row xs d (child d p place) (cells_from first p place) line in
    listed (f p) p ∙ ap (first_children (f p) p) one ∙ ap (λ (q : Parts). f q (place_at q 0) ∷ []) (one_child p d fits one)
    ∙ ap (λ (r : Rect). load_row xs d r (mk (first + 0)) line ∷ []) (child-whole d)
    ∙ ap (λ ys. own_task Load ys (access W (mk (first + 0)) ∷ []) line ∷ []) (window-whole d xs long)
    ∙ ap (λ n. own_task Load xs (access W (mk n) ∷ []) line ∷ []) (let e : first + 0 ≡ first = omega arith in e)
