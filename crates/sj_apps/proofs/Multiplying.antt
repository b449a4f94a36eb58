-- The product by tiles is the product.
use Rattle.std.proofs.Common.{◌≡◌, ℕ, zero, suc, ◌+◌, ◌-◌, ◌*◌, ◌<◌, ◌≤◌, Bool, true, false, cond, ◌&&◌, Option, Some, None, List, [], ◌∷◌, ◌++◌, ℤ, pos, negsuc, ◌+ℤ◌, ◌*ℤ◌, ◌%◌, w64, refl, sym, ap, subst, ◌∙◌, arith, add-one}
use Rattle.std.specs.Prelude.{nat_lt}
use Rattle.std.specs.List.{AllByRecursion}
use Rattle.std.proofs.lemmas.Bool.{le-ltb, lt-ltb}
use Rattle.std.proofs.lemmas.Bool.Decides.{nat_tests}
use Rattle.std.proofs.lemmas.Int.{int_wrap-add_left, ints}
use Rattle.sj_base.specs.Array.{Array, element, grid}
use Rattle.sj_base.specs.Window.{is_within}
use Rattle.sj_codelet.specs.Equations.{gemm as multiplied, product as exact}
use Rattle.sj_codelet.specs.Ring.{sum_below, wrap}
use Rattle.sj_codelet.proofs.Elements.{element-grid, same_grid}
use Rattle.sj_codelet.proofs.Integers.{int_add-zero, int_zero-add}
use Rattle.sj_codelet.proofs.Sums.{same_sum}
use Rattle.sj_plan.specs.Interval.{part_first, part_len}
use Rattle.sj_plan.specs.Rect.{rect_dims, holds}
use Rattle.sj_plan.proofs.Lists.{each-flat_map, each-map, each-of}
use Rattle.sj_plan.proofs.Tiling.{part_first-all}
use Rattle.sj_plan.proofs.Windows.{HasElement-from_true}
use Rattle.sj_meaning.specs.declared.job.Kind.TheVariants.{Matrix}
use Rattle.sj_meaning.specs.Meaning.{Printed, apply, root_array, found_by, printed}
use Rattle.sj_meaning.specs.State.{RootState, JobState, root_of, start}
use Rattle.sj_apps.specs.Generated.{IsSize, factors, first_line, gemm_act, gemms, gemms_at, gemms_in_row, name_C, part_count, product_statements, square, upto}
use Rattle.sj_apps.specs.Product.{counted_matrix, factor_A, factor_B, matrix_product}
use Rattle.sj_apps.proofs.Starting.{counting, cut-from, factors-are, multiplied as factored}
use Rattle.sj_apps.proofs.Tiling.{AreMatrices, IsSilent, gemm-run, printed-last, rect, root, root-array, run, run-each, run-range, tile, with_tile}

-- ---- sums in parts

add_assoc : (a b c : ℤ) → (a +ℤ b) +ℤ c ≡ a +ℤ (b +ℤ c)
add_assoc a b c = omega (arith, ints)

-- ---- matrices up to wrapping

-- the factors are a and b, and C has these numbers, wrapped
record Reached (n p : ℕ) (a b : ℕ → ℕ → ℤ) (T : JobState) (t : ℕ → ℕ → ℤ) : Type 0 where
  c : ℕ → ℕ → ℤ
  are : AreMatrices n p T a b c
  is : (i j : ℕ) → i < n → j < n → c i j ≡ wrap (t i j)

reached-same : (n p : ℕ) (a b : ℕ → ℕ → ℤ) (T : JobState) (t u : ℕ → ℕ → ℤ) → ((i j : ℕ) → i < n → j < n → t i j ≡ u i j) → Reached n p a b T t → Reached n p a b T u
reached-same n p a b T t u h r = record { c = r.c; are = r.are; is = λ i j hi hj. r.is i j hi hj ∙ ap wrap (h i j hi hj) }

-- the terms of a product
abbrev terms : (ℕ → ℕ → ℤ) → (ℕ → ℕ → ℤ) → ℕ → ℕ → ℕ → ℤ
terms a b i j l = a i l *ℤ b l j

-- what is added in a tile
abbrev in_tile : ℕ → ℕ → ℕ × ℕ → ℕ → ℕ → ℤ → ℤ
in_tile n p place i j s = cond (holds (rect n p place) i j) s (pos 0)

back : (m i : ℕ) → m ≤ i → m + (i - m) ≡ i
back m i h = omega arith

module _ (n p : ℕ) (a b : ℕ → ℕ → ℤ) where
  -- the part of the product that one task adds
  abbrev part_sum : ℕ → ℕ → ℕ → ℤ
  part_sum k i j = sum_below (part_len n p k) (λ l. terms a b i j (part_first n p k + l))

  gemm-element : (i0 j0 k : ℕ) (c t : ℕ → ℕ → ℤ) → i0 < p → j0 < p → k < p → ((i j : ℕ) → i < n → j < n → c i j ≡ wrap (t i j)) → (i j : ℕ) → i < n → j < n → (h : Bool) → holds (rect n p (i0, j0)) i j ≡ h
      → cond h (element (multiplied (tile n p a (i0, k)) (tile n p b (k, j0)) (tile n p c (i0, j0))) (i - (rect n p (i0, j0)).row) (j - (rect n p (i0, j0)).col)) (c i j) ≡ wrap (t i j +ℤ cond h (part_sum k i j) (pos 0))
  gemm-element i0 j0 k c t h0 h1 hk is i j hi hj false e = is i j hi hj ∙ ap wrap (sym (int_add-zero (t i j)))
  gemm-element i0 j0 k c t h0 h1 hk is i j hi hj true e =
      let r = rect n p (i0, j0) in
      let inside = HasElement-from_true r i j e in
      let i' = i - r.row in
      let j' = j - r.col in
      let li : i' < r.rows = omega (arith, inside.0.0, inside.0.1) in
      let lj : j' < r.cols = omega (arith, inside.1.0, inside.1.1) in
      let bi : r.row + i' ≡ i = back r.row i inside.0.0 in
      let bj : r.col + j' ≡ j = back r.col j inside.1.0 in
      let ta = tile n p a (i0, k) in
      let tb = tile n p b (k, j0) in
      let tc = tile n p c (i0, j0) in
      let own : element tc i' j' ≡ wrap (t i j) = element-grid (rect_dims r) (λ i j. c (r.row + i) (r.col + j)) i' j' li lj ∙ (λ x. c (bi x) (bj x)) ∙ is i j hi hj in
      let sums : exact ta tb i' j' ≡ part_sum k i j = same_sum (part_len n p k) (λ l. element ta i' l *ℤ element tb l j') (λ l. terms a b i j (part_first n p k + l)) (λ l hl x.
      (element-grid (rect_dims (rect n p (i0, k))) (λ i j. a (r.row + i) (part_first n p k + j)) i' l li hl ∙ (λ y. a (bi y) (part_first n p k + l))) x
      *ℤ (element-grid (rect_dims (rect n p (k, j0))) (λ i j. b (part_first n p k + i) (r.col + j)) l j' hl lj ∙ (λ y. b (part_first n p k + l) (bj y))) x) in
      element-grid (rect_dims r) (λ i j. wrap (element tc i j +ℤ exact ta tb i j)) i' j' li lj
      ∙ (λ x. wrap (own x +ℤ sums x)) ∙ int_wrap-add_left w64 (t i j) (part_sum k i j)

  gemm-reached : (i j k : ℕ) (T : JobState) (t : ℕ → ℕ → ℤ) → i < p → j < p → k < p → Reached n p a b T t → Reached n p a b (apply (gemm_act i j k) T) (λ x y. t x y +ℤ in_tile n p (i, j) x y (part_sum k x y))
  gemm-reached i j k T t hi hj hk r = record {
    c = with_tile n p (i, j) (multiplied (tile n p a (i, k)) (tile n p b (k, j)) (tile n p r.c (i, j))) r.c;
    are = (gemm-run n p i j k T a b r.c hi hj hk r.are).are;
    is = λ x y hx hy. gemm-element i j k r.c t hi hj hk r.is x y hx hy (holds (rect n p (i, j)) x y) refl;
  }

  -- the first terms of a product's element
  abbrev first_sum : ℕ → ℕ → ℕ → ℤ
  first_sum m i j = sum_below m (terms a b i j)

  -- the first m terms, and the next ones
  first-next : (m len i j : ℕ) → first_sum m i j +ℤ sum_below len (λ l. terms a b i j (m + l)) ≡ first_sum (m + len) i j
  first-next m zero i j = let e : m ≡ m + 0 = omega arith in int_add-zero (first_sum m i j) ∙ ap (λ n. first_sum n i j) e
  first-next m (suc len) i j =
      let e : suc (m + len) ≡ m + suc len = omega arith in
      sym (add_assoc (first_sum m i j) (sum_below len (λ l. terms a b i j (m + l))) (terms a b i j (m + len)))
      ∙ ap (λ (s : ℤ). s +ℤ terms a b i j (m + len)) (first-next m len i j) ∙ ap (λ n. first_sum n i j) e

  first-more : (k i j : ℕ) → first_sum (part_first n p k) i j +ℤ part_sum k i j ≡ first_sum (part_first n p (k + 1)) i j
  first-more k i j =
      first-next (part_first n p k) (part_len n p k) i j ∙ ap (λ m. first_sum (part_first n p m) i j) (sym (add-one k))

  in_tile-more : (h : Bool) (t x y z : ℤ) → x +ℤ y ≡ z → (t +ℤ cond h x (pos 0)) +ℤ cond h y (pos 0) ≡ t +ℤ cond h z (pos 0)
  in_tile-more true t x y z e = add_assoc t x y ∙ ap (λ (s : ℤ). t +ℤ s) e
  in_tile-more false t x y z e = add_assoc t (pos 0) (pos 0)

  in_tile-none : (h : Bool) (t : ℤ) → t ≡ t +ℤ cond h (pos 0) (pos 0)
  in_tile-none true t = sym (int_add-zero t)
  in_tile-none false t = sym (int_add-zero t)

  tile-reached : (some : 0 < p) (i j : ℕ) (T : JobState) (t : ℕ → ℕ → ℤ) → i < p → j < p → Reached n p a b T t → Reached n p a b (run (gemms_at p i j) T) (λ x y. t x y +ℤ in_tile n p (i, j) x y (first_sum n x y))
  tile-reached some i j T t hi hj r =
      let P : ℕ → JobState → Type 0 = λ k T. Reached n p a b T (λ x y. t x y +ℤ in_tile n p (i, j) x y (first_sum (part_first n p k) x y)) in
      let before = reached-same n p a b T t (λ x y. t x y +ℤ in_tile n p (i, j) x y (first_sum 0 x y)) (λ x y hx hy. in_tile-none (holds (rect n p (i, j)) x y) (t x y)) r in
      let end = run-each P (gemm_act i j) p T before (λ k T hk now.
      reached-same n p a b (apply (gemm_act i j k) T) (λ x y. (t x y +ℤ in_tile n p (i, j) x y (first_sum (part_first n p k) x y)) +ℤ in_tile n p (i, j) x y (part_sum k x y)) (λ x y. t x y +ℤ in_tile n p (i, j) x y (first_sum (part_first n p (k + 1)) x y))
      (λ x y hx hy. in_tile-more (holds (rect n p (i, j)) x y) (t x y) (first_sum (part_first n p k) x y) (part_sum k x y) (first_sum (part_first n p (k + 1)) x y) (first-more k x y))
      (gemm-reached i j k T (λ x y. t x y +ℤ in_tile n p (i, j) x y (first_sum (part_first n p k) x y)) hi hj hk now)) in
      subst (λ m. Reached n p a b (run (gemms_at p i j) T) (λ x y. t x y +ℤ in_tile n p (i, j) x y (first_sum m x y))) (part_first-all n p some) end

  -- what is added left of a column, in the rows of a part
  two_parts : (r : Bool) (x first len : ℕ) (t s : ℤ) → (t +ℤ cond (r && nat_lt x first) s (pos 0)) +ℤ cond (r && is_within x first len) s (pos 0) ≡ t +ℤ cond (r && nat_lt x (first + len)) s (pos 0)
  two_parts false x first len t s = add_assoc t (pos 0) (pos 0)
  two_parts true x first len t s = by_tests (nat_lt x first) (is_within x first len) (nat_lt x (first + len)) (one_part x first len)
    where
      IsOne : Bool → Bool → Bool → Type 0
      IsOne u v w = cond u 1 0 + cond v 1 0 ≡ cond w 1 0

      one_part : (x first len : ℕ) → cond (nat_lt x first) 1 0 + cond (is_within x first len) 1 0 ≡ cond (nat_lt x (first + len)) 1 0
      one_part x first len = grind (arith, nat_tests)

      by_tests : (u v w : Bool) → cond u 1 0 + cond v 1 0 ≡ cond w 1 0 → (t +ℤ cond u s (pos 0)) +ℤ cond v s (pos 0) ≡ t +ℤ cond w s (pos 0)
      by_tests true true true e = absurd (omega arith)
      by_tests true true false e = absurd (omega arith)
      by_tests true false true e = int_add-zero (t +ℤ s)
      by_tests true false false e = absurd (omega arith)
      by_tests false true true e = ap (λ (z : ℤ). z +ℤ s) (int_add-zero t)
      by_tests false true false e = absurd (omega arith)
      by_tests false false true e = absurd (omega arith)
      by_tests false false false e = add_assoc t (pos 0) (pos 0)

  abbrev in_row : ℕ → ℕ → Bool
  in_row i x = is_within x (part_first n p i) (part_len n p i)

  row-reached : (some : 0 < p) (i : ℕ) (T : JobState) (t : ℕ → ℕ → ℤ) → i < p → Reached n p a b T t → Reached n p a b (run (gemms_in_row p i) T) (λ x y. t x y +ℤ cond (in_row i x) (first_sum n x y) (pos 0))
  row-reached some i T t hi r =
      let part : ℕ → ℕ → ℕ → ℤ = λ j x y. cond (in_row i x && nat_lt y (part_first n p j)) (first_sum n x y) (pos 0) in
      let P : ℕ → JobState → Type 0 = λ j T. Reached n p a b T (λ x y. t x y +ℤ part j x y) in
      let before = reached-same n p a b T t (λ x y. t x y +ℤ part 0 x y) (λ x y hx hy. none_left (in_row i x) y (first_sum n x y) (t x y)) r in
      let end = run-range P (gemms_at p i) p T before (λ j T hj now.
      reached-same n p a b (run (gemms_at p i j) T) (λ x y. (t x y +ℤ part j x y) +ℤ in_tile n p (i, j) x y (first_sum n x y)) (λ x y. t x y +ℤ part (j + 1) x y)
      (λ x y hx hy. two_parts (in_row i x) y (part_first n p j) (part_len n p j) (t x y) (first_sum n x y) ∙ ap (λ m. t x y +ℤ part m x y) (sym (add-one j)))
      (tile-reached some i j T (λ x y. t x y +ℤ part j x y) hi hj now)) in
      reached-same n p a b (run (gemms_in_row p i) T) (λ x y. t x y +ℤ part p x y) (λ x y. t x y +ℤ cond (in_row i x) (first_sum n x y) (pos 0)) (λ x y hx hy.
      ap (λ m. t x y +ℤ cond (in_row i x && nat_lt y m) (first_sum n x y) (pos 0)) (part_first-all n p some)
      ∙ ap (λ w. t x y +ℤ cond (in_row i x && w) (first_sum n x y) (pos 0)) (lt-ltb y n hy) ∙ and_true (in_row i x) (t x y) (first_sum n x y)) end
    where
      none_left : (r : Bool) (y : ℕ) (s t : ℤ) → t ≡ t +ℤ cond (r && nat_lt y 0) s (pos 0)
      none_left false y s t = sym (int_add-zero t)
      none_left true y s t = sym (ap (λ w. t +ℤ cond w s (pos 0)) (le-ltb y 0 (omega arith)) ∙ int_add-zero t)

      and_true : (r : Bool) (t s : ℤ) → t +ℤ cond (r && true) s (pos 0) ≡ t +ℤ cond r s (pos 0)
      and_true true t s = refl
      and_true false t s = refl

  all-reached : (some : 0 < p) (T : JobState) (t : ℕ → ℕ → ℤ) → Reached n p a b T t → Reached n p a b (run (gemms p) T) (λ x y. t x y +ℤ first_sum n x y)
  all-reached some T t r =
      let part : ℕ → ℕ → ℕ → ℤ = λ i x y. cond (true && nat_lt x (part_first n p i)) (first_sum n x y) (pos 0) in
      let P : ℕ → JobState → Type 0 = λ i T. Reached n p a b T (λ x y. t x y +ℤ part i x y) in
      let before = reached-same n p a b T t (λ x y. t x y +ℤ part 0 x y) (λ x y hx hy. none_above x (first_sum n x y) (t x y)) r in
      let end = run-range P (gemms_in_row p) p T before (λ i T hi now.
      reached-same n p a b (run (gemms_in_row p i) T) (λ x y. (t x y +ℤ part i x y) +ℤ cond (in_row i x) (first_sum n x y) (pos 0)) (λ x y. t x y +ℤ part (i + 1) x y)
      (λ x y hx hy. two_parts true x (part_first n p i) (part_len n p i) (t x y) (first_sum n x y) ∙ ap (λ m. t x y +ℤ part m x y) (sym (add-one i)))
      (row-reached some i T (λ x y. t x y +ℤ part i x y) hi now)) in
      reached-same n p a b (run (gemms p) T) (λ x y. t x y +ℤ part p x y) (λ x y. t x y +ℤ first_sum n x y) (λ x y hx hy.
      ap (λ m. t x y +ℤ cond (true && nat_lt x m) (first_sum n x y) (pos 0)) (part_first-all n p some)
      ∙ ap (λ w. t x y +ℤ cond (true && w) (first_sum n x y) (pos 0)) (lt-ltb x n hx)) end
    where
      none_above : (x : ℕ) (s t : ℤ) → t ≡ t +ℤ cond (true && nat_lt x 0) s (pos 0)
      none_above x s t = sym (ap (λ w. t +ℤ cond w s (pos 0)) (le-ltb x 0 (omega arith)) ∙ int_add-zero t)

-- ---- what is printed

found-matrix : (n p : ℕ) (S : JobState) (name : List ℕ) (f : ℕ → ℕ → ℤ) → root_of S name ≡ Some (root n p f) → found_by S name ≡ record { name = name; kind = Matrix; array = grid (square n) f } ∷ []
found-matrix n p S name f is =
    ap (λ (o : Option RootState). elim o as (λ _. List Printed) [ None ↦ [] | Some r ↦ record { name = name; kind = r.kind; array = root_array r } ∷ [] ]) is
    ∙ ap (λ (a : Array). record { name = name; kind = Matrix; array = a } ∷ []) (root-array n p f)

gemms-silent : (p : ℕ) → AllByRecursion IsSilent (gemms p)
gemms-silent p =
    let ks = upto p in
    each-flat_map IsSilent (gemms_in_row p) ks (each-of (λ i. AllByRecursion IsSilent (gemms_in_row p i)) (λ i.
    each-flat_map IsSilent (gemms_at p i) ks (each-of (λ j. AllByRecursion IsSilent (gemms_at p i j)) (λ j.
    each-map IsSilent (gemm_act i j) ks (each-of (λ k. IsSilent (gemm_act i j k)) (λ k S. refl) ks)) ks)) ks)

-- an element of a factor
factor-element : (n : ℕ) (first step : ℤ) (i j : ℕ) → i < n → j < n → element (counted_matrix n first step) i j ≡ counting n first step i j
factor-element n first step i j hi hj = element-grid (square n) (counting n first step) i j hi hj

nothing : (x : ℕ) → pos 0 +ℤ (pos 0 *ℤ pos x) ≡ pos 0
nothing x = omega (arith, ints)

-- the statements of the product print one matrix: the product of the factors
pub product-printed : (n tile seed : ℕ) → IsSize n tile seed → printed (product_statements n tile seed) ≡ record { name = name_C; kind = Matrix; array = matrix_product n (factor_A n seed) (factor_B n) } ∷ []
product-printed n tile seed size =
    let p = part_count n tile in
    let h = cut-from n tile seed size in
    let some : 0 < p = omega (arith, h.parts) in
    let S = factored n p seed in
    let a = counting n (pos (seed % 100)) (pos 1) in
    let b = counting n (pos 5) (negsuc 1) in
    let first : Reached n p a b S (λ i j. pos 0 +ℤ (pos 0 *ℤ pos (i * n + j))) = record { c = counting n (pos 0) (pos 0); are = factors-are n p seed; is = λ i j hi hj. refl } in
    let end = all-reached n p a b some S (λ i j. pos 0 +ℤ (pos 0 *ℤ pos (i * n + j))) first in
    let acts = factors n p seed ++ gemms p in
    let silent : AllByRecursion IsSilent acts = ((λ S. refl), ((λ S. refl), ((λ S. refl), gemms-silent p))) in
    let elements : grid (square n) end.c ≡ matrix_product n (factor_A n seed) (factor_B n) =
    same_grid (square n) end.c (λ i j. wrap (sum_below n (λ k. element (factor_A n seed) i k *ℤ element (factor_B n) k j))) (λ i j hi hj.
    end.is i j hi hj ∙ ap (λ (s : ℤ). wrap (s +ℤ sum_below n (terms a b i j))) (nothing (i * n + j)) ∙ ap wrap (int_zero-add (sum_below n (terms a b i j)))
    ∙ ap wrap (same_sum n (terms a b i j) (λ k. element (factor_A n seed) i k *ℤ element (factor_B n) k j) (λ k hk x. sym (factor-element n (pos (seed % 100)) (pos 1) i k hi hk) x *ℤ sym (factor-element n (pos 5) (negsuc 1) k j hk hj) x))) in
    printed-last acts name_C start first_line silent
    ∙ ap (λ (ps : List Printed). ps ++ []) (found-matrix n p (run (gemms p) S) name_C end.c end.are.third ∙ ap (λ (x : Array). record { name = name_C; kind = Matrix; array = x } ∷ []) elements)
