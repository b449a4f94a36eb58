-- A matrix that is transposed some columns at a time.
use Rattle.std.proofs.Common.{◌≡◌, ℕ, ◌+◌, ◌-◌, ◌*◌, ◌%◌, ◌<◌, ◌≤◌, Bool, true, false, cond, nat_lt, ℤ, pos, List, length, sym, ap, ◌∙◌, ⊎_elim, arith}
use Rattle.std.specs.List.{between}
use Rattle.std.proofs.lemmas.List.Edits.{get_or-between}
use Rattle.std.proofs.lemmas.Nat.{mul-add-lt}
use Rattle.std.proofs.lemmas.Bool.{cases_lt}
use Rattle.std.proofs.lemmas.Bool.Decides.{nat_tests}
use borrow.Rule.Slice.PartMut.{put_mid}
use Rattle.sj_base.specs.Array.{at}
use Rattle.sj_base.specs.Window.{is_within}
use Rattle.sj_codelet.specs.Listing.{listing}
use Rattle.sj_codelet.proofs.Filling.{begun, same_listing, at-listing}
use Rattle.sj_codelet.proofs.Rows.{grid_at, at-row_begun, length-row}
use Rattle.sj_kernels.specs.Turned.{turned, turned_within}
use Rattle.sj_kernels.proofs.Panels.{new_part}

-- a choice whose first value matters only within
choose_within : (from w j : ℕ) (x y z : ℤ) → (from ≤ j → j < from + w → x ≡ y) → cond (is_within j from w) x z ≡ cond (is_within j from w) y z
choose_within from w j x y z same =
    let outside : is_within j from w ≡ false → cond (is_within j from w) x z ≡ cond (is_within j from w) y z =
    λ no. ap (λ (b : Bool). cond b x z) no ∙ sym (ap (λ (b : Bool). cond b y z) no) in
    ⊎_elim
    (λ low. let no : is_within j from w ≡ false = grind (arith, nat_tests) in outside no)
    (λ up. ⊎_elim
    (λ mid. ap (λ (q : ℤ). cond (is_within j from w) q z) (same up mid))
    (λ high. let no : is_within j from w ≡ false = grind (arith, nat_tests) in outside no)
    (cases_lt j (from + w)))
    (cases_lt j from)

-- a row of the transposed matrix of which a part is new
pub turned_row : (first len m n j s e k : ℕ) (a b zs rows part : List ℤ) → j * m + m ≤ length zs → first + len ≤ m → j < n → k ≡ len → s ≡ first * n → e ≡ s + len * n → e ≤ length a → rows ≡ between s e a
    → zs ≡ begun (j * m) (turned_within first len m n a b) b → part ≡ listing len (λ q. at rows (q * n + j))
    → put_mid first k (between (j * m) (j * m + m) zs) part ≡ listing m (λ i. turned_within first len m n a b (j * m + i))
turned_row first len m n j s e k a b zs rows part room fits below same start end long er ez ep =
    let row = between (j * m) (j * m + m) zs in
    let F = turned_within first len m n a b in
    let g = λ (q : ℕ). at rows (q * n + j) in
    new_part m first len k row part g (length-row j m zs room) fits same ep
    ∙ same_listing m (λ i. cond (is_within i first len) (g (i - first)) (at row i)) (λ i. F (j * m + i)) (λ i h.
    let old = at b (j * m + i) in
    ap (λ (z : ℤ). cond (is_within i first len) (g (i - first)) z) (at-row_begun j m F b zs i ez h)
    ∙ choose_within first len i (g (i - first)) (at a (i * n + j)) old (λ up mid.
    let q = i - first in
    let within : q < len = omega arith in
    let inside : s + (q * n + j) < e = omega (arith, mul-add-lt q n j len within below) in
    let back : q + first ≡ i = omega arith in
    let place : s + (q * n + j) ≡ i * n + j = omega (arith, ap (λ (r : ℕ). r * n) back) in
    ap (λ (xs : List ℤ). at xs (q * n + j)) er ∙ get_or-between a s e (q * n + j) (pos 0) (omega arith) ∙ ap (λ (p : ℕ). at a p) place)
    ∙ sym (grid_at m (λ r c. cond (is_within c first len) (at a (c * n + r)) old) j i h))

-- some columns more
pub turned_more : (first len done m n p : ℕ) (a b zs : List ℤ) → done ≡ first + len → at zs p ≡ cond (nat_lt (p % m) first) (turned m n a p) (at b p) → turned_within first len m n a zs p ≡ cond (nat_lt (p % m) done) (turned m n a p) (at b p)
turned_more first len done m n p a b zs e read =
    let j = p % m in
    let new = turned m n a p in
    let within = λ (t : Bool). cond t new (at zs p) in
    let choice = λ (t : Bool). cond t new (at b p) in
    ⊎_elim
    (λ low. let no : is_within j first len ≡ false = grind (arith, nat_tests) in
    let before : nat_lt j first ≡ true = grind (arith, nat_tests) in
    let after : nat_lt j done ≡ true = grind (arith, nat_tests) in
    ap within no ∙ read ∙ ap choice before ∙ sym (ap choice after))
    (λ up. let before : nat_lt j first ≡ false = grind (arith, nat_tests) in
    ⊎_elim
    (λ mid. let yes : is_within j first len ≡ true = grind (arith, nat_tests) in
    let after : nat_lt j done ≡ true = grind (arith, nat_tests) in
    ap within yes ∙ sym (ap choice after))
    (λ high. let no : is_within j first len ≡ false = grind (arith, nat_tests) in
    let after : nat_lt j done ≡ false = grind (arith, nat_tests) in
    ap within no ∙ read ∙ ap choice before ∙ sym (ap choice after))
    (cases_lt j (first + len)))
    (cases_lt j first)

-- the whole after some columns more
pub turned_step : (first len done m n k : ℕ) (a b zs new : List ℤ) → k ≡ length b → done ≡ first + len → zs ≡ listing (length b) (λ p. cond (nat_lt (p % m) first) (turned m n a p) (at b p))
    → new ≡ listing k (turned_within first len m n a zs) → new ≡ listing (length b) (λ p. cond (nat_lt (p % m) done) (turned m n a p) (at b p))
turned_step first len done m n k a b zs new same sum e h =
    let F = λ (q : ℕ) (p : ℕ). cond (nat_lt (p % m) q) (turned m n a p) (at b p) in
    h ∙ ap (λ (q : ℕ). listing q (turned_within first len m n a zs)) same
    ∙ same_listing (length b) (turned_within first len m n a zs) (F done) (λ p l.
    turned_more first len done m n p a b zs sum (ap (λ (xs : List ℤ). at xs p) e ∙ at-listing (length b) (F first) p (pos 0) l))
