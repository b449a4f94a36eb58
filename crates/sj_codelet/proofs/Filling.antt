-- Lists that a loop fills from the front: the first elements are new, the others old.
use Rattle.std.proofs.Common.{◌≡◌, ℕ, ◌+◌, ◌*◌, ◌<◌, ◌≤◌, ℤ, pos, List, [], ◌∷◌, ◌++◌, map, length, get_or, set, drop, refl, sym, ap, ◌∙◌, arith}
use Rattle.std.specs.List.{range_with_len}
use Rattle.std.proofs.lemmas.List.{append-nil, drop_all, same_lists, get_or_at, get_or_default, set_at, drop_more, append_assoc}
use Rattle.std.proofs.lemmas.List.FromFn.{length-map-range_with_len, get_or-map-range_with_len, map-range_with_len_more}
use Rattle.sj_base.specs.Array.{each, area}
use Rattle.sj_codelet.specs.Equations.{vector}
use Rattle.sj_codelet.specs.Listing.{listing}

-- ys with its first i elements replaced by f 0, .., f (i - 1)
unfoldable pub begun : ℕ → (ℕ → ℤ) → List ℤ → List ℤ
begun i f ys = listing i f ++ drop i ys

pub length-listing : (n : ℕ) (f : ℕ → ℤ) → length (listing n f) ≡ n
unfolding listing
length-listing n f = length-map-range_with_len f 0 n

pub at-listing : (n : ℕ) (f : ℕ → ℤ) (k : ℕ) (d : ℤ) → k < n → get_or (listing n f) k d ≡ f k
unfolding listing
at-listing n f k d h = get_or-map-range_with_len f 0 n k k d h (omega arith)

-- a list is the listing of its elements
pub listing_from_elements : (n : ℕ) (f : ℕ → ℤ) (xs : List ℤ) → length xs ≡ n → ((k : ℕ) → k < n → get_or xs k (pos 0) ≡ f k) → xs ≡ listing n f
listing_from_elements n f xs e h =
    same_lists xs (listing n f) (e ∙ sym (length-listing n f)) (λ k d l. let b : k < n = omega arith in get_or_default xs k d (pos 0) l ∙ h k b ∙ sym (at-listing n f k d b))

pub same_listing : (n : ℕ) (f g : ℕ → ℤ) → ((k : ℕ) → k < n → f k ≡ g k) → listing n f ≡ listing n g
same_listing n f g h =
    listing_from_elements n g (listing n f) (length-listing n f) (λ k l. at-listing n f k (pos 0) l ∙ h k l)

pub begun_none : (f : ℕ → ℤ) (ys : List ℤ) → ys ≡ begun 0 f ys
unfolding listing begun
begun_none f ys = refl

pub begun_all : (i : ℕ) (f : ℕ → ℤ) (ys : List ℤ) → length ys ≤ i → begun i f ys ≡ listing i f
unfolding begun
begun_all i f ys h = rw (drop_all i ys h) (append-nil (listing i f))

pub at-begun : (i : ℕ) (f : ℕ → ℤ) (ys : List ℤ) (d : ℤ) → i < length ys → get_or (begun i f ys) i d ≡ get_or ys i d
unfolding begun
at-begun i f ys d h = ap (λ zs. get_or (listing i f ++ zs) i d) (drop_more ys i d h) ∙ get_or_at (listing i f) (get_or ys i d) (drop (i + 1) ys) d i (length-listing i f)

pub begun_more : (i : ℕ) (f : ℕ → ℤ) (ys : List ℤ) → i < length ys → set (begun i f ys) i (f i) ≡ begun (i + 1) f ys
unfolding listing begun
begun_more i f ys h =
    ap (λ zs. set (listing i f ++ zs) i (f i)) (drop_more ys i (pos 0) h)
    ∙ set_at (listing i f) (get_or ys i (pos 0)) (drop (i + 1) ys) (f i) i (length-listing i f)
    ∙ sym (append_assoc (listing i f) (f i ∷ []) (drop (i + 1) ys))
    ∙ ap (λ zs. zs ++ drop (i + 1) ys) (sym (map-range_with_len_more f 0 i i (omega arith)))

-- what a loop over all of ys has made
pub each_from_begun : (i : ℕ) (f : ℕ → ℤ) (ys zs : List ℤ) → length ys ≤ i → i ≤ length ys → zs ≡ begun i f ys → zs ≡ (each (vector ys).dims f).elements
unfolding listing
each_from_begun i f ys zs h k e =
    let n : i ≡ 1 * length ys = omega arith in
    e ∙ begun_all i f ys h ∙ ap (λ m. map f (range_with_len 0 m)) n

-- one element more
pub begun_step : (i : ℕ) (f : ℕ → ℤ) (ys zs : List ℤ) (v : ℤ) → zs ≡ begun i f ys → i < length ys → (get_or zs i (pos 0) ≡ get_or ys i (pos 0) → v ≡ f i) → set zs i v ≡ begun (i + 1) f ys
begun_step i f ys zs v e h known =
    let read = ap (λ ws. get_or ws i (pos 0)) e ∙ at-begun i f ys (pos 0) h in
    ap (λ ws. set ws i v) e ∙ ap (λ w. set (begun i f ys) i w) (known read) ∙ begun_more i f ys h

-- what stands past the part that a loop has written
pub begun_read : (i : ℕ) (f : ℕ → ℤ) (ys zs : List ℤ) → zs ≡ begun i f ys → i < length ys → get_or zs i (pos 0) ≡ get_or ys i (pos 0)
begun_read i f ys zs e h = ap (λ ws. get_or ws i (pos 0)) e ∙ at-begun i f ys (pos 0) h

-- one element that was written whole
pub single_from_set : (ys : List ℤ) (f : ℕ → ℤ) (v : ℤ) → length ys ≡ 1 → v ≡ f 0 → set ys 0 v ≡ (each (vector ys).dims f).elements
single_from_set ys f v h e =
    each_from_begun 1 f ys (set ys 0 v) (omega arith) (omega arith) (begun_step 0 f ys ys v (begun_none f ys) (omega arith) (λ _. e))

pub each_listing : (ys : List ℤ) (f : ℕ → ℤ) → (each (vector ys).dims f).elements ≡ listing (length ys) f
unfolding listing
each_listing ys f = let n : area (vector ys).dims ≡ length ys = omega arith in ap (λ m. map f (range_with_len 0 m)) n

pub listing_from_begun : (i : ℕ) (f : ℕ → ℤ) (ys zs : List ℤ) → length ys ≤ i → i ≤ length ys → zs ≡ begun i f ys → zs ≡ listing (length ys) f
listing_from_begun i f ys zs h k e = let n : i ≡ length ys = omega arith in e ∙ begun_all i f ys h ∙ ap (λ m. listing m f) n
