-- Products panel by panel.
use Rattle.std.proofs.Common.{◌≡◌, ℕ, ◌+◌, ◌-◌, ◌*◌, ◌/◌, ◌%◌, ◌<◌, ◌≤◌, zero, suc, Bool, true, false, cond, nat_lt, ℤ, pos, ◌+ℤ◌, ◌*ℤ◌, List, [], ◌∷◌, ◌++◌, length, get_or, take, drop, min, w64, to_z, of_z, FitsSigned, sym, ap, subst, ◌∙◌, ⊎_elim, arith}
use Rattle.std.specs.List.{between}
use Rattle.std.proofs.lemmas.Int.{ints, int_wrap_fits, int_wrap-add_left, to_z-of_z}
use Rattle.std.proofs.lemmas.List.{length-take, length-drop, length-append, get_or-take, get_or-drop, get_or_append_left, get_or-append_right, take_at, drop_at, drop_all, drop-drop, append-nil}
use Rattle.std.proofs.lemmas.List.Edits.{get_or-between, length-between}
use Rattle.std.proofs.lemmas.Nat.{mod_below, mul-add-lt}
use Rattle.std.proofs.lemmas.Bool.{cases_lt}
use Rattle.std.proofs.lemmas.Bool.Decides.{nat_tests}
use borrow.Rule.Slice.PartMut.{put_mid}
use Rattle.sj_base.specs.Array.{at}
use Rattle.sj_codelet.specs.Ring.{wrap, sum_below}
use Rattle.sj_base.specs.Window.{is_within}
use Rattle.sj_codelet.specs.Listing.{listing}
use Rattle.sj_codelet.proofs.Integers.{int_add-zero}
use Rattle.sj_codelet.proofs.Sums.{same_sum, sum_below_more}
use Rattle.sj_codelet.proofs.Filling.{begun, listing_from_elements, at-listing, length-listing, same_listing}
use Rattle.sj_kernels.proofs.Places.{passed_start}
use Rattle.sj_kernels.specs.declared.product.Span.{Span}
use Rattle.sj_kernels.specs.declared.product.Sums.{Sums}
use Rattle.sj_kernels.specs.Panels.{column_sum, panel_element, terms, with_terms, with_terms_within, row_within}
use Rattle.sj_kernels.specs.Rows.{row_product}
use Rattle.sj_kernels.specs.declared.product.Sides.{Sides}
use Rattle.sj_codelet.proofs.Rows.{grid_at, listing-add}

-- a column's sum before the first term, begun at an element that was read
pub column_none : (n j : ℕ) (a b : List ℤ) (start : ℤ) → FitsSigned w64 start → to_z w64 (of_z w64 start) ≡ column_sum n a b j 0 start
column_none n j a b start fits = to_z-of_z w64 start fits ∙ sym (ap (λ (z : ℤ). wrap z) (int_add-zero start) ∙ int_wrap_fits w64 start fits)

-- one term more
added : (n j l : ℕ) (a b : List ℤ) (start t z : ℤ) → z ≡ at a l *ℤ at b (l * n + j) → t ≡ column_sum n a b j l start → wrap (t +ℤ z) ≡ column_sum n a b j (l + 1) start
added n j l a b start t z term e =
    let f = λ (q : ℕ). at a q *ℤ at b (q * n + j) in
    ap (λ (y : ℤ). wrap (t +ℤ y)) term ∙ ap (λ (y : ℤ). wrap (y +ℤ f l)) e ∙ int_wrap-add_left w64 (start +ℤ sum_below l f) (f l)
    ∙ ap (λ (y : ℤ). wrap y) (omega (arith, ints, sum_below_more l f))

-- one term more, from elements that were read
pub column_more : (n j l p : ℕ) (a b : List ℤ) (start t v : ℤ) → v ≡ wrap (t +ℤ (to_z w64 (of_z w64 (at a l)) *ℤ to_z w64 (of_z w64 (at b p)))) → t ≡ column_sum n a b j l start → p ≡ l * n + j → FitsSigned w64 (at a l) → FitsSigned w64 (at b p) → to_z w64 (of_z w64 v) ≡ column_sum n a b j (l + 1) start
column_more n j l p a b start t v h e place fa fb =
    let x = to_z w64 (of_z w64 (at a l)) in
    let y = to_z w64 (of_z w64 (at b p)) in
    let term : x *ℤ y ≡ at a l *ℤ at b (l * n + j) = ap (λ (z : ℤ). z *ℤ y) (to_z-of_z w64 (at a l) fa) ∙ ap (λ (z : ℤ). at a l *ℤ z) (to_z-of_z w64 (at b p) fb ∙ ap (λ (q : ℕ). at b q) place) in
    passed_start v (t +ℤ (x *ℤ y)) h ∙ added n j l a b start t (x *ℤ y) term e

-- the first l terms of a row in three columns from j on, begun at the elements of c
abbrev pub are_sums : ℕ → List ℤ → List ℤ → ℕ → ℕ → List ℤ → Sums → Type 0
are_sums n a b j l c s = record {
  left : s.left ≡ column_sum n a b j l (at c 0);
  middle : s.middle ≡ column_sum n a b (j + 1) l (at c 1);
  right : s.right ≡ column_sum n a b (j + 2) l (at c 2);
}

-- what one term more makes of three sums
abbrev pub have_term : Sums → ℤ → List ℤ → ℕ → Sums → Type 0
have_term s x b p t = record {
  left : t.left ≡ wrap (s.left +ℤ (x *ℤ at b p));
  middle : t.middle ≡ wrap (s.middle +ℤ (x *ℤ at b (p + 1)));
  right : t.right ≡ wrap (s.right +ℤ (x *ℤ at b (p + 2)));
}

-- one term more in each of three columns
pub sums_more : (n j l p : ℕ) (a b c : List ℤ) (s t : Sums) (x : ℤ) → have_term s x b p t → x ≡ at a l → p ≡ l * n + j → are_sums n a b j l c s → are_sums n a b j (l + 1) c t
sums_more n j l p a b c s t x new read place old =
    let term = λ (q r : ℕ) (e : q ≡ r). ap (λ (z : ℤ). z *ℤ at b q) read ∙ ap (λ (k : ℕ). at a l *ℤ at b k) e in
    record {
      left = new.left ∙ added n j l a b (at c 0) s.left (x *ℤ at b p) (term p (l * n + j) place) old.left;
      middle = new.middle ∙ added n (j + 1) l a b (at c 1) s.middle (x *ℤ at b (p + 1)) (term (p + 1) (l * n + (j + 1)) (omega (arith, place))) old.middle;
      right = new.right ∙ added n (j + 2) l a b (at c 2) s.right (x *ℤ at b (p + 2)) (term (p + 2) (l * n + (j + 2)) (omega (arith, place))) old.right;
    }

-- the same of as many terms
pub sums_of : (n j l k : ℕ) (a b c : List ℤ) (s t : Sums) → t ≡ s → l ≡ k → are_sums n a b j l c s → are_sums n a b j k c t
sums_of n j l k a b c s t same e old = subst (λ (u : Sums). are_sums n a b j k c u) (sym same) (subst (λ (q : ℕ). are_sums n a b j q c s) e old)

-- the sum over all terms
pub column_all : (n j l k : ℕ) (a b : List ℤ) (start t : ℤ) → t ≡ column_sum n a b j l start → l ≡ k → t ≡ column_sum n a b j k start
column_all n j l k a b start t e h = e ∙ ap (λ (q : ℕ). column_sum n a b j q start) h

three : (f : ℕ → ℤ) (v w x : ℤ) → v ≡ f 0 → w ≡ f 1 → x ≡ f 2 → v ∷ w ∷ x ∷ [] ≡ listing 3 f
unfolding listing
three f v w x ev ew ex = cc

-- three columns side by side, as they are written
pub block_is : (n j : ℕ) (a b c : List ℤ) (s : Sums) → are_sums n a b j (length a) c s
    → to_z w64 (of_z w64 s.left) ∷ to_z w64 (of_z w64 s.middle) ∷ to_z w64 (of_z w64 s.right) ∷ [] ≡ listing 3 (λ q. column_sum n a b (j + q) (length a) (at c q))
block_is n j a b c s e =
    let written = λ (p q : ℕ) (v : ℤ) (h : v ≡ column_sum n a b p (length a) (at c q)). passed_start v (at c q +ℤ sum_below (length a) (λ k. at a k *ℤ at b (k * n + p))) h in
    let first : j ≡ j + 0 = omega arith in
    three (λ q. column_sum n a b (j + q) (length a) (at c q)) (to_z w64 (of_z w64 s.left)) (to_z w64 (of_z w64 s.middle)) (to_z w64 (of_z w64 s.right))
    (written j 0 s.left e.left ∙ ap (λ (p : ℕ). column_sum n a b p (length a) (at c 0)) first)
    (written (j + 1) 1 s.middle e.middle) (written (j + 2) 2 s.right e.right)

two : (f : ℕ → ℤ) (v w : ℤ) → v ≡ f 0 → w ≡ f 1 → v ∷ w ∷ [] ≡ listing 2 f
unfolding listing
two f v w ev ew = cc

-- two columns side by side
pub pair_is : (n j l : ℕ) (a b c : List ℤ) (v w : ℤ) → l ≡ length a
    → v ≡ column_sum n a b j l (at c 0) → w ≡ column_sum n a b (j + 1) l (at c 1)
    → v ∷ w ∷ [] ≡ listing 2 (λ q. column_sum n a b (j + q) (length a) (at c q))
pair_is n j l a b c v w h ev ew =
    let whole = λ (q : ℕ) (p : ℕ). ap (λ (k : ℕ). column_sum n a b p k (at c q)) h in
    let first : j ≡ j + 0 = omega arith in
    two (λ q. column_sum n a b (j + q) (length a) (at c q)) v w
    (ev ∙ whole 0 j ∙ ap (λ (p : ℕ). column_sum n a b p (length a) (at c 0)) first)
    (ew ∙ whole 1 (j + 1))

-- a row whose last part is written at one go
pub last_part : (j w k : ℕ) (f : ℕ → ℤ) (ys zs row : List ℤ) → k ≡ w → j + w ≡ length ys → zs ≡ begun j f ys → row ≡ listing w (λ p. f (j + p)) → put_mid j k zs row ≡ listing (length ys) f
unfolding begun
last_part j w k f ys zs row same long e r =
    let front = take_at (listing j f) (drop j ys) j (length-listing j f) in
    let back = drop_at (listing j f) (drop j ys) j (length-listing j f) in
    let past : length ys ≤ j + w = omega arith in
    ap (λ (q : ℕ). put_mid j q zs row) same
    ∙ ap (λ (ws : List ℤ). put_mid j w ws row) e
    ∙ ap (λ (ws : List ℤ). ws ++ (row ++ drop w (drop j (listing j f ++ drop j ys)))) front
    ∙ ap (λ (ws : List ℤ). listing j f ++ (row ++ drop w ws)) back
    ∙ ap (λ (ws : List ℤ). listing j f ++ (row ++ ws)) (drop-drop w j ys ∙ drop_all (j + w) ys past)
    ∙ ap (λ (ws : List ℤ). listing j f ++ ws) (append-nil row ∙ r)
    ∙ sym (listing-add j w f)
    ∙ ap (λ (q : ℕ). listing q f) long

-- an element of that part, which hasn't been written yet
pub at-last_part : (j m : ℕ) (f : ℕ → ℤ) (ys zs : List ℤ) (p : ℕ) → zs ≡ begun j f ys → j + p < m → m ≡ length ys → get_or (between j m zs) p (pos 0) ≡ get_or ys (j + p) (pos 0)
unfolding begun
at-last_part j m f ys zs p e h long =
    get_or-between zs j m p (pos 0) h
    ∙ ap (λ (ws : List ℤ). get_or ws (j + p) (pos 0)) e
    ∙ get_or-append_right (listing j f) (drop j ys) j (j + p) (pos 0) (length-listing j f) (omega arith)
    ∙ get_or-drop j ys (j + p - j) (pos 0)
    ∙ ap (λ (q : ℕ). get_or ys q (pos 0)) (omega arith)

-- what a call makes of an element that was read
pub column_of : (n j l : ℕ) (a b : List ℤ) (start s v : ℤ) → v ≡ column_sum n a b j l s → s ≡ start → to_z w64 (of_z w64 v) ≡ column_sum n a b j l start
column_of n j l a b start s v h e =
    passed_start v (s +ℤ sum_below l (λ q. at a q *ℤ at b (q * n + j))) h ∙ ap (λ (z : ℤ). column_sum n a b j l z) e

-- a row of a part
pub part_row : (n l s k : ℕ) (columns : Span) (b row : List ℤ) → row ≡ between s k b → s ≡ l * n + columns.first → k ≡ s + columns.len → k ≤ length b → row ≡ listing columns.len (λ j. panel_element n columns b (l * columns.len + j))
part_row n l s k columns b row e start end fits =
    let w = columns.len in
    let long : length row ≡ w = ap (λ (xs : List ℤ). length xs) e ∙ length-between b s k fits ∙ omega arith in
    listing_from_elements w (λ j. panel_element n columns b (l * w + j)) row long (λ j lt.
    ap (λ (xs : List ℤ). get_or xs j (pos 0)) e ∙ get_or-between b s k j (pos 0) (omega arith)
    ∙ ap (λ (q : ℕ). at b q) (let same : s + j ≡ l * n + columns.first + j = omega arith in same)
    ∙ sym (grid_at w (λ r q. at b (r * n + columns.first + q)) l j lt))

pub sum_below_add : (m n : ℕ) (f : ℕ → ℤ) → sum_below m f +ℤ sum_below n (λ q. f (m + q)) ≡ sum_below (m + n) f
sum_below_add m zero f = int_add-zero (sum_below m f) ∙ (let e : m ≡ m + zero = omega arith in ap (λ (q : ℕ). sum_below q f) e)
sum_below_add m (suc n) f =
    let rest = sum_below_add m n f in
    let next = sum_below_more (m + n) f in
    let e : m + n + 1 ≡ m + suc n = omega arith in
    omega (arith, ints, rest, next, ap (λ (q : ℕ). sum_below q f) e)

-- a row of which a part is new
pub new_part : (n from w k : ℕ) (row part : List ℤ) (g : ℕ → ℤ) → length row ≡ n → from + w ≤ n → k ≡ w → part ≡ listing w g
    → put_mid from k row part ≡ listing n (λ j. cond (is_within j from w) (g (j - from)) (at row j))
new_part n from w k row part g len fits same e =
    let front = take from row in
    let back = drop k (drop from row) in
    let F = λ (j : ℕ). cond (is_within j from w) (g (j - from)) (at row j) in
    let lf : length front ≡ from = length-take from row ∙ omega arith in
    let lp : length part ≡ w = ap (λ (xs : List ℤ). length xs) e ∙ length-listing w g in
    let lb : length back ≡ n - from - k = length-drop k (drop from row) ∙ omega (arith, length-drop from row) in
    let all : length (front ++ (part ++ back)) ≡ n = omega (arith, length-append front (part ++ back), length-append part back) in
    let outside : (j : ℕ) → is_within j from w ≡ false → F j ≡ at row j = λ j no. ap (λ (b : Bool). cond b (g (j - from)) (at row j)) no in
    let inside : (j : ℕ) → is_within j from w ≡ true → F j ≡ g (j - from) = λ j yes. ap (λ (b : Bool). cond b (g (j - from)) (at row j)) yes in
    let here : (j : ℕ) → j < n → get_or (front ++ (part ++ back)) j (pos 0) ≡ F j =
    λ j l. ⊎_elim
    (λ low. let no : is_within j from w ≡ false = grind (arith, nat_tests) in
    get_or_append_left front (part ++ back) (pos 0) j (omega arith) ∙ get_or-take from row j (pos 0) low ∙ sym (outside j no))
    (λ up. ⊎_elim
    (λ mid. let yes : is_within j from w ≡ true = grind (arith, nat_tests) in
    get_or-append_right front (part ++ back) from j (pos 0) lf up
    ∙ get_or_append_left part back (pos 0) (j - from) (omega arith)
    ∙ ap (λ (xs : List ℤ). get_or xs (j - from) (pos 0)) e ∙ at-listing w g (j - from) (pos 0) (omega arith)
    ∙ sym (inside j yes))
    (λ high. let no : is_within j from w ≡ false = grind (arith, nat_tests) in
    get_or-append_right front (part ++ back) from j (pos 0) lf up
    ∙ get_or-append_right part back w (j - from) (pos 0) lp (omega arith)
    ∙ get_or-drop k (drop from row) (j - from - w) (pos 0)
    ∙ get_or-drop from row (k + (j - from - w)) (pos 0)
    ∙ ap (λ (q : ℕ). get_or row q (pos 0)) (omega arith)
    ∙ sym (outside j no))
    (cases_lt j (from + w)))
    (cases_lt j from) in
    listing_from_elements n F (front ++ (part ++ back)) all here

-- within the part, positions count from its start
same_choice : (from w j : ℕ) (f : ℕ → ℤ) (z : ℤ) → cond (is_within j from w) (f (from + (j - from))) z ≡ cond (is_within j from w) (f j) z
same_choice from w j f z =
    ⊎_elim
    (λ low. let no : is_within j from w ≡ false = grind (arith, nat_tests) in
    ap (λ (b : Bool). cond b (f (from + (j - from))) z) no ∙ sym (ap (λ (b : Bool). cond b (f j) z) no))
    (λ up. let same : from + (j - from) ≡ j = omega arith in ap (λ (q : ℕ). cond (is_within j from w) (f q) z) same)
    (cases_lt j from)

-- the same where the part is a row's product
pub row_part : (n to k : ℕ) (columns : Span) (a b row seg part : List ℤ) → length row ≡ n → columns.first + columns.len ≤ n → to ≡ columns.first + columns.len → k ≡ columns.len
    → seg ≡ between columns.first to row → part ≡ listing (length seg) (row_product (length seg) a b seg) → put_mid columns.first k row part ≡ listing n (row_within columns a b row)
row_part n to k columns a b row seg part len fits end same es e =
    let from = columns.first in
    let w = columns.len in
    let ls : length seg ≡ w = ap (λ (xs : List ℤ). length xs) es ∙ length-between row from to (omega arith) ∙ omega arith in
    let g = λ (q : ℕ). column_sum w a b q (length a) (at row (from + q)) in
    let new : part ≡ listing w g =
    e ∙ ap (λ (q : ℕ). listing q (row_product q a b seg)) ls
    ∙ same_listing w (row_product w a b seg) g (λ q h. ap (λ (z : ℤ). column_sum w a b q (length a) z) (ap (λ (xs : List ℤ). at xs q) es ∙ get_or-between row from to q (pos 0) (omega arith))) in
    new_part n from w k row part g len fits same new
    ∙ same_listing n (λ j. cond (is_within j from w) (g (j - from)) (at row j)) (row_within columns a b row) (λ j h. same_choice from w j (λ q. column_sum w a b (j - from) (length a) (at row q)) (at row j))

-- an element of a row with a panel's terms, in the whole matrix
pub within_is : (columns rows : Span) (sides : Sides) (i j s e : ℕ) (a b c r ai : List ℤ) → j < sides.n → at r j ≡ at c (i * sides.n + j)
    → s ≡ i * sides.k + rows.first → e ≡ s + rows.len → e ≤ length a → ai ≡ between s e a
    → row_within columns ai b r j ≡ with_terms_within columns sides rows a b c (i * sides.n + j)
within_is columns rows sides i j s e a b c r ai h read start end fits es =
    let w = columns.len in
    let q = j - columns.first in
    let z = at c (i * sides.n + j) in
    let G = λ (t : ℕ) (u : ℕ). cond (is_within u columns.first w) (wrap (z +ℤ terms sides rows w a b t (u - columns.first))) z in
    let la : length ai ≡ rows.len = ap (λ (xs : List ℤ). length xs) es ∙ length-between a s e fits ∙ omega arith in
    let f = λ (l : ℕ). at ai l *ℤ at b (l * w + q) in
    let g = λ (l : ℕ). at a (i * sides.k + rows.first + l) *ℤ at b (l * w + q) in
    let sums : sum_below (length ai) f ≡ sum_below rows.len g =
    ap (λ (n : ℕ). sum_below n f) la
    ∙ same_sum rows.len f g (λ l lt. ap (λ (y : ℤ). y *ℤ at b (l * w + q)) (ap (λ (xs : List ℤ). at xs l) es ∙ get_or-between a s e l (pos 0) (omega arith) ∙ ap (λ (p : ℕ). at a p) (let same : s + l ≡ i * sides.k + rows.first + l = omega arith in same))) in
    ap (λ (y : ℤ). cond (is_within j columns.first w) (wrap (y +ℤ sum_below (length ai) f)) y) read
    ∙ ap (λ (y : ℤ). cond (is_within j columns.first w) (wrap (z +ℤ y)) z) sums
    ∙ sym (grid_at sides.n G i j h)

-- a tile as wide as the panel
pub whole_width : (sides : Sides) (rows : Span) (a b c : List ℤ) (p : ℕ) → p < sides.m * sides.n → with_terms_within (record { first = 0; len = sides.n }) sides rows a b c p ≡ with_terms sides rows a b c p
whole_width sides rows a b c p h =
    let n = sides.n in
    let some : 0 < n = grind arith in
    let below = mod_below p n some in
    let yes : is_within (p % n) 0 n ≡ true = grind (arith, nat_tests) in
    let same : p % n - 0 ≡ p % n = omega arith in
    ap (λ (t : Bool). cond t (wrap (at c p +ℤ terms sides rows n a b (p / n) (p % n - 0))) (at c p)) yes
    ∙ ap (λ (q : ℕ). wrap (at c p +ℤ terms sides rows n a b (p / n) q)) same

-- the terms from a tile are those from the panel
tile_terms : (sides : Sides) (rows columns : Span) (a panel tile : List ℤ) (i j : ℕ) → columns.first ≤ j → j < columns.first + columns.len
    → tile ≡ listing (rows.len * columns.len) (panel_element sides.n columns panel) → terms sides rows columns.len a tile i (j - columns.first) ≡ terms sides rows sides.n a panel i j
tile_terms sides rows columns a panel tile i j low high e =
    let w = columns.len in
    let q = j - columns.first in
    let x = λ (l : ℕ). at a (i * sides.k + rows.first + l) in
    same_sum rows.len (λ l. x l *ℤ at tile (l * w + q)) (λ l. x l *ℤ at panel (l * sides.n + j)) (λ l h.
    let place : l * sides.n + columns.first + q ≡ l * sides.n + j = omega arith in
    ap (λ (z : ℤ). x l *ℤ z)
    (ap (λ (xs : List ℤ). at xs (l * w + q)) e ∙ at-listing (rows.len * w) (panel_element sides.n columns panel) (l * w + q) (pos 0) (omega (arith, mul-add-lt l w q rows.len h (let in_width : q < w = omega arith in in_width)))
    ∙ grid_at w (λ r u. at panel (r * sides.n + columns.first + u)) l q (omega arith) ∙ ap (λ (p : ℕ). at panel p) place))

-- one tile more
pub tile_more : (sides : Sides) (rows columns : Span) (a panel tile c zs : List ℤ) (t p : ℕ) → p < sides.m * sides.n → columns.first ≡ t * 64 → columns.len ≡ min (sides.n - columns.first) 64
    → tile ≡ listing (rows.len * columns.len) (panel_element sides.n columns panel)
    → at zs p ≡ cond (nat_lt (p % sides.n) (t * 64)) (with_terms sides rows a panel c p) (at c p)
    → with_terms_within columns sides rows a tile zs p ≡ cond (nat_lt (p % sides.n) ((t + 1) * 64)) (with_terms sides rows a panel c p) (at c p)
tile_more sides rows columns a panel tile c zs t p h first len e read =
    let n = sides.n in
    let j = p % n in
    let new = with_terms sides rows a panel c p in
    let some : 0 < n = grind arith in
    let below : j < n = mod_below p n some in
    let within = λ (b : Bool). cond b (wrap (at zs p +ℤ terms sides rows columns.len a tile (p / n) (j - columns.first))) (at zs p) in
    let done = λ (b : Bool). cond b new (at c p) in
    ⊎_elim
    (λ low. let no : is_within j columns.first columns.len ≡ false = grind (arith, nat_tests) in
    let before : nat_lt j (t * 64) ≡ true = grind (arith, nat_tests) in
    let after : nat_lt j ((t + 1) * 64) ≡ true = grind (arith, nat_tests) in
    ap within no ∙ read ∙ ap done before ∙ sym (ap done after))
    (λ up. let before : nat_lt j (t * 64) ≡ false = grind (arith, nat_tests) in
    ⊎_elim
    (λ mid. let yes : is_within j columns.first columns.len ≡ true = grind (arith, nat_tests) in
    let after : nat_lt j ((t + 1) * 64) ≡ true = grind (arith, nat_tests) in
    ap within yes ∙ ap (λ (z : ℤ). wrap (z +ℤ terms sides rows columns.len a tile (p / n) (j - columns.first))) (read ∙ ap done before)
    ∙ ap (λ (z : ℤ). wrap (at c p +ℤ z)) (tile_terms sides rows columns a panel tile (p / n) j up mid e) ∙ sym (ap done after))
    (λ high. let no : is_within j columns.first columns.len ≡ false = grind (arith, nat_tests) in
    let past : (t + 1) * 64 ≤ j = omega arith in
    let after : nat_lt j ((t + 1) * 64) ≡ false = grind (arith, nat_tests) in
    ap within no ∙ read ∙ ap done before ∙ sym (ap done after))
    (cases_lt j (columns.first + columns.len)))
    (cases_lt j columns.first)

-- one panel more
pub panel_more : (sides : Sides) (rows : Span) (a b panel c zs : List ℤ) (from to q : ℕ) → q < sides.m * sides.n → from ≡ rows.first * sides.n → to ≡ from + rows.len * sides.n → panel ≡ between from to b
    → at zs q ≡ wrap (at c q +ℤ sum_below rows.first (λ l. at a (q / sides.n * sides.k + l) *ℤ at b (l * sides.n + q % sides.n)))
    → with_terms sides rows a panel zs q ≡ wrap (at c q +ℤ sum_below (rows.first + rows.len) (λ l. at a (q / sides.n * sides.k + l) *ℤ at b (l * sides.n + q % sides.n)))
panel_more sides rows a b panel c zs from to q h start end e read =
    let n = sides.n in
    let i = q / n in
    let j = q % n in
    let f = λ (l : ℕ). at a (i * sides.k + l) *ℤ at b (l * n + j) in
    let some : 0 < n = grind arith in
    let below : j < n = mod_below q n some in
    let T = sum_below rows.len (λ l. f (rows.first + l)) in
    let same : terms sides rows n a panel i j ≡ T =
    same_sum rows.len (λ l. at a (i * sides.k + rows.first + l) *ℤ at panel (l * n + j)) (λ l. f (rows.first + l)) (λ l lt.
    let inside : l * n + j < rows.len * n = omega (arith, mul-add-lt l n j rows.len lt below) in
    let place : from + (l * n + j) ≡ (rows.first + l) * n + j = omega arith in
    let left : i * sides.k + rows.first + l ≡ i * sides.k + (rows.first + l) = omega arith in
    ap (λ (p : ℕ). at a p *ℤ at panel (l * n + j)) left
    ∙ ap (λ (z : ℤ). at a (i * sides.k + (rows.first + l)) *ℤ z) (ap (λ (xs : List ℤ). at xs (l * n + j)) e ∙ get_or-between b from to (l * n + j) (pos 0) (omega arith) ∙ ap (λ (p : ℕ). at b p) place)) in
    ap (λ (z : ℤ). wrap (at zs q +ℤ z)) same ∙ ap (λ (z : ℤ). wrap (z +ℤ T)) read
    ∙ int_wrap-add_left w64 (at c q +ℤ sum_below rows.first f) T
    ∙ ap (λ (z : ℤ). wrap z) (omega (arith, ints, sum_below_add rows.first rows.len f))
