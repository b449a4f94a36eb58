-- A matrix in three parts: the rows above row k, row k, and the rows below.
use Rattle.std.proofs.Common.{◌≡◌, ℕ, ◌+◌, ◌-◌, ◌*◌, ◌<◌, length, List, ◌++◌, take, drop, ℤ, pos, arith, ◌∙◌, sym, ap, refl, ⊎_elim, add-mul}
use Rattle.std.specs.Int.{int_min}
use Rattle.std.proofs.lemmas.List.{get_or_append_left, get_or-append_right, get_or-take, get_or-drop, length-append, length-take, length-drop}
use Rattle.std.proofs.Math.Nat.{one-mul}
use Rattle.std.proofs.lemmas.Bool.{cases_order}
use Rattle.sj_base.specs.Array.{at, grid}
use Rattle.sj_codelet.specs.MinPlus.{plus}
use Rattle.sj_codelet.specs.Equations.{matrix}
use Rattle.sj_minplus.specs.Turns.{diagonal_turn, column_turn}
use Rattle.sj_minplus.proofs.Matrices.{place_below, grid_by_rows}

product_of_sum : (k q m : ℕ) → (k + 1 + q) * m ≡ k * m + m + q * m
product_of_sum k q m = rw (add-mul (k + 1) q m, add-mul k 1 m, one-mul m) refl

product_of_all : (n k m : ℕ) → k < n → n * m ≡ k * m + m + (n - k - 1) * m
product_of_all n k m h =
    let whole : n ≡ k + 1 + (n - k - 1) = omega arith in
    ap (λ x. x * m) whole ∙ product_of_sum k (n - k - 1) m

-- the place of row k + 1 + i
place_behind : (k i m j : ℕ) → (k + 1 + i) * m + j ≡ k * m + (m + (i * m + j))
place_behind k i m j = rw (product_of_sum k i m) (omega arith)

-- ---- the parts that a matrix was split into

pub record IsSplit (n k m : ℕ) (xs above through below : List ℤ) : Type 0 where
  pub inside : k < n
  pub above_long : length above ≡ k * m
  pub through_long : length through ≡ m
  pub below_long : length below ≡ (n - k - 1) * m
  pub above_at : (p : ℕ) → p < k * m → at above p ≡ at xs p
  pub through_at : (j : ℕ) → j < m → at through j ≡ at xs (k * m + j)
  pub below_at : (p : ℕ) → at below p ≡ at xs (k * m + (m + p))

pub split_parts : (n k m : ℕ) (xs above rest through below : List ℤ) → k < n → length xs ≡ n * m → above ≡ take (k * m) xs → rest ≡ drop (k * m) xs → through ≡ take m rest → below ≡ drop m rest → IsSplit n k m xs above through below
split_parts n k m xs above rest through below h long a r t b =
    let whole = product_of_all n k m h in
    let rest_is = ap length r ∙ length-drop (k * m) xs in
    record {
      inside = h;
      above_long = ap length a ∙ length-take (k * m) xs ∙ omega arith;
      through_long = ap length t ∙ length-take m rest ∙ omega arith;
      below_long = ap length b ∙ length-drop m rest ∙ omega arith;
      above_at = λ p l. ap (λ ys. at ys p) a ∙ get_or-take (k * m) xs p (pos 0) l;
      through_at = λ j l. ap (λ ys. at ys j) t ∙ get_or-take m rest j (pos 0) l ∙ ap (λ ys. at ys j) r ∙ get_or-drop (k * m) xs j (pos 0);
      below_at = λ p. ap (λ ys. at ys p) b ∙ get_or-drop m rest p (pos 0) ∙ ap (λ ys. at ys (m + p)) r ∙ get_or-drop (k * m) xs (m + p) (pos 0);
    }

-- ---- a matrix that is joined of three parts

pub record IsParted (g : ℕ → ℕ → ℤ) (n k m : ℕ) (above through below : List ℤ) : Type 0 where
  pub inside : k < n
  pub above_long : length above ≡ k * m
  pub through_long : length through ≡ m
  pub below_long : length below ≡ (n - k - 1) * m
  pub above_is : (i j : ℕ) → i < k → j < m → at above (i * m + j) ≡ g i j
  pub through_is : (j : ℕ) → j < m → at through j ≡ g k j
  pub below_is : (i j : ℕ) → i < n - k - 1 → j < m → at below (i * m + j) ≡ g (k + 1 + i) j

second_part : (xs ys zs : List ℤ) (l j : ℕ) → length xs ≡ l → j < length ys → at (xs ++ (ys ++ zs)) (l + j) ≡ at ys j
second_part xs ys zs l j e h =
    get_or-append_right xs (ys ++ zs) l (l + j) (pos 0) e (omega arith)
    ∙ ap (at (ys ++ zs)) (omega arith)
    ∙ get_or_append_left ys zs (pos 0) j h

third_part : (xs ys zs : List ℤ) (l m p : ℕ) → length xs ≡ l → length ys ≡ m → at (xs ++ (ys ++ zs)) (l + (m + p)) ≡ at zs p
third_part xs ys zs l m p e h =
    get_or-append_right xs (ys ++ zs) l (l + (m + p)) (pos 0) e (omega arith)
    ∙ ap (at (ys ++ zs)) (omega arith)
    ∙ get_or-append_right ys zs m (m + p) (pos 0) h (omega arith)
    ∙ ap (at zs) (omega arith)

parted_at : (g : ℕ → ℕ → ℤ) (n k m : ℕ) (xs ys zs : List ℤ) → IsParted g n k m xs ys zs → (i j : ℕ) → i < n → j < m → at (xs ++ (ys ++ zs)) (i * m + j) ≡ g i j
parted_at g n k m xs ys zs p i j h l =
    ⊎_elim (λ e. rw e (second_part xs ys zs (k * m) j p.above_long (omega arith) ∙ p.through_is j l)) (λ o.
    ⊎_elim (λ b. let place = place_below i k m j b l in get_or_append_left xs (ys ++ zs) (pos 0) (i * m + j) (omega arith) ∙ p.above_is i j b l) (λ b.
    let q : k + 1 + (i - k - 1) ≡ i = omega arith in
    ap (λ r. at (xs ++ (ys ++ zs)) (r * m + j)) (sym q)
    ∙ ap (at (xs ++ (ys ++ zs))) (place_behind k (i - k - 1) m j)
    ∙ third_part xs ys zs (k * m) m ((i - k - 1) * m + j) p.above_long p.through_long
    ∙ p.below_is (i - k - 1) j (omega arith) l
    ∙ ap (λ r. g r j) q) o) (cases_order i k)

pub join_parts : (g : ℕ → ℕ → ℤ) (n k m : ℕ) (xs ys zs : List ℤ) → IsParted g n k m xs ys zs → xs ++ (ys ++ zs) ≡ (grid (record { rows = n; cols = m }) g).elements
join_parts g n k m xs ys zs p =
    let whole = product_of_all n k m p.inside in
    let long : length (xs ++ (ys ++ zs)) ≡ n * m = rw (length-append xs (ys ++ zs), length-append ys zs) (omega arith) in
    grid_by_rows g n m (xs ++ (ys ++ zs)) long (parted_at g n k m xs ys zs p)

-- ---- a turn, part by part

pub turn_parts : (n k m : ℕ) (via : ℕ → ℤ) (old above through below xs ys zs : List ℤ) → IsSplit n k m old above through below → length xs ≡ length above → length ys ≡ length through → length zs ≡ length below → ((i j : ℕ) → i < k → j < length through → at xs (i * length through + j) ≡ int_min (at above (i * length through + j)) (plus (via i) (at through j))) → ((j : ℕ) → j < length through → at ys j ≡ int_min (at through j) (plus (via k) (at through j))) → ((i j : ℕ) → i < n - k - 1 → j < length through → at zs (i * length through + j) ≡ int_min (at below (i * length through + j)) (plus (via (k + 1 + i)) (at through j))) → xs ++ (ys ++ zs) ≡ (grid (record { rows = n; cols = m }) (λ i j. int_min (at old (i * m + j)) (plus (via i) (at old (k * m + j))))).elements
turn_parts n k m via old above through below xs ys zs s x y z up here down =
    let wide = s.through_long in
    join_parts (λ i j. int_min (at old (i * m + j)) (plus (via i) (at old (k * m + j)))) n k m xs ys zs (record {
      inside = s.inside;
      above_long = x ∙ s.above_long;
      through_long = y ∙ s.through_long;
      below_long = z ∙ s.below_long;
      above_is = λ i j h l.
          let e = rw s.through_long at (up i j h (omega arith)) in
          let a = s.above_at (i * m + j) (place_below i k m j h l) in
          let t = s.through_at j l in cc;
      through_is = λ j l.
          let e = here j (omega arith) in
          let t = s.through_at j l in cc;
      below_is = λ i j h l.
          let e = rw s.through_long at (down i j h (omega arith)) in
          let b = s.below_at (i * m + j) ∙ ap (at old) (sym (place_behind k i m j)) in
          let t = s.through_at j l in cc;
    })

-- the turn of a diagonal block: each row goes by its own element in column k
pub diagonal_parts : (n k : ℕ) (old above through below xs ys zs : List ℤ) → IsSplit n k n old above through below → length xs ≡ length above → length ys ≡ length through → length zs ≡ length below → ((i j : ℕ) → i < k → j < length through → at xs (i * length through + j) ≡ int_min (at above (i * length through + j)) (plus (at above (i * length through + k)) (at through j))) → ((j : ℕ) → j < length through → at ys j ≡ int_min (at through j) (plus (at through k) (at through j))) → ((i j : ℕ) → i < n - k - 1 → j < length through → at zs (i * length through + j) ≡ int_min (at below (i * length through + j)) (plus (at below (i * length through + k)) (at through j))) → xs ++ (ys ++ zs) ≡ (diagonal_turn k (matrix n n old)).elements
diagonal_parts n k old above through below xs ys zs s x y z up here down =
    turn_parts n k n (λ i. at old (i * n + k)) old above through below xs ys zs s x y z (λ i j h l.
    let v : at above (i * length through + k) ≡ at old (i * n + k) = rw s.through_long (s.above_at (i * n + k) (place_below i k n k h s.inside)) in
    up i j h l
    ∙ ap (λ w. int_min (at above (i * length through + j)) (plus w (at through j))) v) (λ j l. here j l ∙ ap (λ w. int_min (at through j) (plus w (at through j))) (s.through_at k s.inside)) (λ i j h l.
    let v : at below (i * length through + k) ≡ at old ((k + 1 + i) * n + k) =
    rw s.through_long (s.below_at (i * n + k) ∙ ap (at old) (sym (place_behind k i n k))) in
    down i j h l
    ∙ ap (λ w. int_min (at below (i * length through + j)) (plus w (at through j))) v)

-- the turn of a block in the column: `through` is row k of d
pub column_rows : (m n k : ℕ) (d old through xs : List ℤ) → length xs ≡ m * n → length through ≡ n → ((j : ℕ) → j < n → at through j ≡ at d (k * n + j)) → ((i j : ℕ) → i < m → j < length through → at xs (i * length through + j) ≡ int_min (at old (i * length through + j)) (plus (at old (i * length through + k)) (at through j))) → xs ≡ (column_turn (matrix n n d) k (matrix m n old)).elements
column_rows m n k d old through xs long wide row_is all =
    grid_by_rows (λ i j. int_min (at old (i * n + j)) (plus (at old (i * n + k)) (at d (k * n + j)))) m n xs long (λ i j h l.
    let e = rw wide at (all i j h (omega arith)) in
    let t = row_is j l in cc)
