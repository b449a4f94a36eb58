-- Arrays that a loop fills row by row.
use Rattle.std.proofs.Common.{◌≡◌, ℕ, ◌+◌, ◌-◌, ◌*◌, ◌/◌, ◌%◌, ◌<◌, ◌≤◌, ℤ, pos, List, ◌++◌, length, get_or, drop, take, sym, ap, ◌∙◌, ⊎_elim, arith}
use Rattle.std.specs.List.{between}
use Rattle.std.proofs.lemmas.List.{length-append, get_or_append_left, get_or-append_right, append_assoc, take_at, drop_at, drop-drop}
use Rattle.std.proofs.lemmas.List.Edits.{get_or-between, length-between}
use Rattle.std.proofs.lemmas.Nat.{div-mul-add, mod-mul-add}
use Rattle.std.proofs.lemmas.Bool.{cases_lt}
use borrow.Rule.Slice.PartMut.{put_mid}
use Rattle.sj_base.specs.Array.{grid}
use Rattle.sj_codelet.specs.Equations.{matrix}
use Rattle.sj_codelet.specs.Listing.{listing}
use Rattle.sj_codelet.proofs.Filling.{begun, begun_none, begun_all, listing_from_elements, same_listing, length-listing, at-listing}

pub listing-add : (m n : ℕ) (f : ℕ → ℤ) → listing (m + n) f ≡ listing m f ++ listing n (λ k. f (m + k))
listing-add m n f =
    let xs = listing m f in
    let ys = listing n (λ k. f (m + k)) in
    let here : (k : ℕ) → k < m + n → get_or (xs ++ ys) k (pos 0) ≡ f k =
    λ k h. ⊎_elim
    (λ l. get_or_append_left xs ys (pos 0) k (omega (arith, length-listing m f)) ∙ at-listing m f k (pos 0) l)
    (λ g. get_or-append_right xs ys m k (pos 0) (length-listing m f) g ∙ at-listing n (λ j. f (m + j)) (k - m) (pos 0) (omega arith) ∙ ap f (omega arith))
    (cases_lt k m) in
    sym (listing_from_elements (m + n) f (xs ++ ys) (length-append xs ys ∙ omega (arith, length-listing m f, length-listing n (λ k. f (m + k)))) here)

-- one row more
pub begun_row : (i n k : ℕ) (f : ℕ → ℤ) (ys zs row : List ℤ) → k ≡ n → zs ≡ begun (i * n) f ys → row ≡ listing n (λ j. f (i * n + j)) → put_mid (i * n) k zs row ≡ begun ((i + 1) * n) f ys
unfolding begun
begun_row i n k f ys zs row same e r =
    let m = i * n in
    let front = take_at (listing m f) (drop m ys) m (length-listing m f) in
    let back = drop_at (listing m f) (drop m ys) m (length-listing m f) in
    let next : m + n ≡ (i + 1) * n = omega arith in
    ap (λ (q : ℕ). put_mid m q zs row) same
    ∙ ap (λ (ws : List ℤ). put_mid m n ws row) e
    ∙ ap (λ (ws : List ℤ). ws ++ (row ++ drop n (drop m (listing m f ++ drop m ys)))) front
    ∙ ap (λ (ws : List ℤ). listing m f ++ (row ++ drop n ws)) back
    ∙ ap (λ (ws : List ℤ). listing m f ++ (row ++ ws)) (drop-drop n m ys)
    ∙ sym (append_assoc (listing m f) row (drop (m + n) ys))
    ∙ ap (λ (ws : List ℤ). (listing m f ++ ws) ++ drop (m + n) ys) r
    ∙ ap (λ (ws : List ℤ). ws ++ drop (m + n) ys) (sym (listing-add m n f))
    ∙ ap (λ (q : ℕ). listing q f ++ drop q ys) next

-- a row that hasn't been written yet
pub row-begun : (i n : ℕ) (f : ℕ → ℤ) (ys zs : List ℤ) → zs ≡ begun (i * n) f ys → between (i * n) (i * n + n) zs ≡ between (i * n) (i * n + n) ys
unfolding begun
row-begun i n f ys zs e =
    let m = i * n in
    ap (λ (ws : List ℤ). between m (m + n) ws) e
    ∙ ap (λ (ws : List ℤ). take (m + n - m) ws) (drop_at (listing m f) (drop m ys) m (length-listing m f))

pub at-row : (i n : ℕ) (xs : List ℤ) (j : ℕ) → j < n → get_or (between (i * n) (i * n + n) xs) j (pos 0) ≡ get_or xs (i * n + j) (pos 0)
at-row i n xs j h = get_or-between xs (i * n) (i * n + n) j (pos 0) (omega arith)

-- the element of a grid by its row and column
pub grid_at : (n : ℕ) (f : ℕ → ℕ → ℤ) (i j : ℕ) → j < n → f ((i * n + j) / n) ((i * n + j) % n) ≡ f i j
grid_at n f i j h =
    ap (λ (k : ℕ). f k ((i * n + j) % n)) (div-mul-add i n j h) ∙ ap (λ (k : ℕ). f i k) (mod-mul-add i n j h)

pub begun_no_row : (n : ℕ) (f : ℕ → ℤ) (ys : List ℤ) → ys ≡ begun (0 * n) f ys
begun_no_row n f ys = let z : 0 ≡ 0 * n = omega arith in begun_none f ys ∙ ap (λ (k : ℕ). begun k f ys) z

-- what a loop over all rows has made
pub grid_from_begun : (m n i : ℕ) (f : ℕ → ℕ → ℤ) (ys zs : List ℤ) → length ys ≡ m * n → m ≤ i → i ≤ m → zs ≡ begun (i * n) (λ p. f (p / n) (p % n)) ys → zs ≡ (grid (matrix m n ys).dims f).elements
unfolding listing
grid_from_begun m n i f ys zs h low high e =
    let whole : i ≡ m = omega arith in
    e ∙ ap (λ (k : ℕ). begun (k * n) (λ p. f (p / n) (p % n)) ys) whole ∙ begun_all (m * n) (λ p. f (p / n) (p % n)) ys (omega arith)

-- an element of a row that hasn't been written yet
pub at-row_begun : (i n : ℕ) (f : ℕ → ℤ) (ys zs : List ℤ) (j : ℕ) → zs ≡ begun (i * n) f ys → j < n → get_or (between (i * n) (i * n + n) zs) j (pos 0) ≡ get_or ys (i * n + j) (pos 0)
at-row_begun i n f ys zs j e h = ap (λ (ws : List ℤ). get_or ws j (pos 0)) (row-begun i n f ys zs e) ∙ at-row i n ys j h

pub length-row : (i n : ℕ) (xs : List ℤ) → i * n + n ≤ length xs → length (between (i * n) (i * n + n) xs) ≡ n
length-row i n xs h = length-between xs (i * n) (i * n + n) h ∙ omega arith

-- a row that a call made from its own length
pub row_from_listing : (i n k : ℕ) (f : ℕ → ℕ → ℤ) (g : ℕ → ℤ) (row : List ℤ) → k ≡ n → row ≡ listing k g → ((j : ℕ) → j < n → g j ≡ f i j) → row ≡ listing n (λ j. f ((i * n + j) / n) ((i * n + j) % n))
row_from_listing i n k f g row same e h =
    e ∙ ap (λ (q : ℕ). listing q g) same ∙ same_listing n g (λ j. f ((i * n + j) / n) ((i * n + j) % n)) (λ j l. h j l ∙ sym (grid_at n f i j l))
