-- Why the ring codelets meet the laws of a set: each adds a sum that doesn't depend on the old elements.
use Rattle.std.specs.Prelude.{◌≡◌, ℕ, ◌+◌, ◌/◌, ◌%◌, ◌<◌, true, false, ◌&&◌, IsTrue, ℤ, pos, ◌+ℤ◌, ◌*ℤ◌, List, [], ◌∷◌, ◌++◌, length, refl, FitsSigned}
use Rattle.std.specs.Int.{w64}
use Rattle.std.proofs.Common.{sym, ap, ◌∙◌, arith}
use Rattle.std.proofs.lemmas.Int.{ints, int_wrap_fits, int_wrap-add_left, int_wrap-add_right, int_wrap-mul_right}
use Rattle.std.proofs.lemmas.List.{get_or_append_left, get_or_at}
use Rattle.std.proofs.lemmas.List.Elements.{All-get_or}
use Rattle.std.proofs.lemmas.Nat.{div-add-mod'}
use Rattle.std.proofs.lemmas.Bool.{false≢true, and_parts}
use Rattle.sj_base.specs.declared.tile.Dims.{Dims}
use Rattle.sj_base.specs.declared.mode.Reduction.{Reduction}
use Rattle.sj_base.specs.declared.mode.Reduction.TheVariants.{Plus, Least}
use Rattle.sj_base.specs.Array.{Array, array, area, at, element, each, zeros}
use Rattle.sj_codelet.specs.declared.kernel.Kernel.{Kernel}
use Rattle.sj_codelet.specs.declared.kernel.Kernel.TheVariants.{Scale, Add, Axpy, Gemm, GemmThree, Dot, Sum}
use Rattle.sj_codelet.specs.Ring.{wrap, sum_below}
use Rattle.sj_codelet.specs.Equations.{scale, add, axpy, gemm, gemm3, product, dot, sum}
use Rattle.sj_codelet.specs.Kernel.{formals_of, operand, commutes_of, contributes_of, has_reduction, out}
use Rattle.sj_codelet.specs.Laws.{IsTile, result_of, DoCommute, DoesContribute, IsReduction}
use Rattle.sj_codelet.proofs.Integers.{int_mul_comm, int_mul_assoc, int_add-zero, int_zero-add}
use Rattle.sj_codelet.proofs.Elements.{at-each, same_each, element-zeros}
use Rattle.sj_codelet.proofs.Filling.{listing_from_elements}
use Rattle.sj_codelet.specs.Listing.{listing}
use Rattle.sj_codelet.proofs.Operands.{operands_before}
use Rattle.sj_kernels.specs.Has.{ring_has}

-- v with f added to it, position by position
abbrev plus_each : (ℕ → ℤ) → Array → Array
plus_each f v = each v.dims (λ p. wrap (at v.elements p +ℤ f p))

two_sums : (v : Array) (f g : ℕ → ℤ) → plus_each g (plus_each f v) ≡ each v.dims (λ p. wrap ((at v.elements p +ℤ f p) +ℤ g p))
two_sums v f g = same_each v.dims (λ p. wrap (at (plus_each f v).elements p +ℤ g p)) (λ p. wrap ((at v.elements p +ℤ f p) +ℤ g p)) (λ p l.
    ap (λ (z : ℤ). wrap (z +ℤ g p)) (at-each v.dims (λ q. wrap (at v.elements q +ℤ f q)) p l) ∙ int_wrap-add_left w64 (at v.elements p +ℤ f p) (g p))

plus_swap : (v : Array) (f g : ℕ → ℤ) → plus_each g (plus_each f v) ≡ plus_each f (plus_each g v)
plus_swap v f g =
    two_sums v f g
    ∙ same_each v.dims (λ p. wrap ((at v.elements p +ℤ f p) +ℤ g p)) (λ p. wrap ((at v.elements p +ℤ g p) +ℤ f p)) (λ p l. ap (λ (z : ℤ). wrap z) (omega (arith, ints)))
    ∙ sym (two_sums v g f)

plus_through_unit : (v : Array) (f : ℕ → ℤ) → plus_each f v ≡ add (plus_each f (zeros v.dims)) v
plus_through_unit v f = same_each v.dims (λ p. wrap (at v.elements p +ℤ f p)) (λ p. wrap (at v.elements p +ℤ at (plus_each f (zeros v.dims)).elements p)) (λ p l.
    let u : at (plus_each f (zeros v.dims)).elements p ≡ wrap (f p) =
    at-each v.dims (λ q. wrap (at (zeros v.dims).elements q +ℤ f q)) p l ∙ ap (λ (z : ℤ). wrap (z +ℤ f p)) (element-zeros v.dims p l) ∙ ap (λ (z : ℤ). wrap z) (int_zero-add (f p)) in
    sym (int_wrap-add_right w64 (at v.elements p) (f p)) ∙ ap (λ (z : ℤ). wrap (at v.elements p +ℤ z)) (sym u))

-- what a codelet adds, from its arguments, its first operands and the dimensions of the last
abbrev added : Kernel → List ℤ → List Array → Dims → ℕ → ℤ
added Add args before d p = at (operand before 0).elements p
added Axpy args before d p = at args 0 *ℤ at (operand before 0).elements p
added Gemm args before d p = product (operand before 0) (operand before 1) (p / d.cols) (p % d.cols)
added GemmThree args before d p =
    sum_below (operand before 1).dims.cols (λ l. product (operand before 0) (operand before 1) (p / d.cols) l *ℤ element (operand before 2) l (p % d.cols))
added Dot args before d p = sum_below (area (operand before 0).dims) (λ q. at (operand before 0).elements q *ℤ at (operand before 1).elements q)
added Sum args before d p = sum_below (area (operand before 0).dims) (at (operand before 0).elements)
added _ args before d p = pos 0

front : (before : List Array) (v : Array) (i : ℕ) → i < length before → operand (before ++ v ∷ []) i ≡ operand before i
front before v i l = get_or_append_left before (v ∷ []) (array (record { rows = 0; cols = 0 }) []) i l

back : (before : List Array) (v : Array) (i : ℕ) → length before ≡ i → operand (before ++ v ∷ []) i ≡ v
back before v i l = get_or_at before v [] (array (record { rows = 0; cols = 0 }) []) i l

-- the element at a position, by its row and column
placed : (v : Array) (f : ℕ → ℤ) → each v.dims (λ p. wrap (element v (p / v.dims.cols) (p % v.dims.cols) +ℤ f p)) ≡ plus_each f v
placed v f = same_each v.dims (λ p. wrap (element v (p / v.dims.cols) (p % v.dims.cols) +ℤ f p)) (λ p. wrap (at v.elements p +ℤ f p)) (λ p l.
    ap (λ (q : ℕ). wrap (at v.elements q +ℤ f p)) (div-add-mod' p v.dims.cols))

-- a contributing codelet of the ring is such a sum
adds : (k : Kernel) (args : List ℤ) (before : List Array) (v : Array) → contributes_of k Plus ≡ true → length before + 1 ≡ length (formals_of k) → result_of out k args before v ≡ plus_each (added k args before v.dims) v
adds Add args before v c l =
    ap (λ (a : Array). add a (operand (before ++ v ∷ []) 1)) (front before v 0 (omega arith)) ∙ ap (λ (a : Array). add (operand before 0) a) (back before v 1 (omega arith))
adds Axpy args before v c l =
    ap (λ (a : Array). axpy (at args 0) a (operand (before ++ v ∷ []) 1)) (front before v 0 (omega arith)) ∙ ap (λ (a : Array). axpy (at args 0) (operand before 0) a) (back before v 1 (omega arith))
adds Gemm args before v c l =
    ap (λ (a : Array). gemm a (operand (before ++ v ∷ []) 1) (operand (before ++ v ∷ []) 2)) (front before v 0 (omega arith))
    ∙ ap (λ (a : Array). gemm (operand before 0) a (operand (before ++ v ∷ []) 2)) (front before v 1 (omega arith))
    ∙ ap (λ (a : Array). gemm (operand before 0) (operand before 1) a) (back before v 2 (omega arith))
    ∙ placed v (added Gemm args before v.dims)
adds GemmThree args before v c l =
    ap (λ (a : Array). gemm3 a (operand (before ++ v ∷ []) 1) (operand (before ++ v ∷ []) 2) (operand (before ++ v ∷ []) 4)) (front before v 0 (omega arith))
    ∙ ap (λ (a : Array). gemm3 (operand before 0) a (operand (before ++ v ∷ []) 2) (operand (before ++ v ∷ []) 4)) (front before v 1 (omega arith))
    ∙ ap (λ (a : Array). gemm3 (operand before 0) (operand before 1) a (operand (before ++ v ∷ []) 4)) (front before v 2 (omega arith))
    ∙ ap (λ (a : Array). gemm3 (operand before 0) (operand before 1) (operand before 2) a) (back before v 4 (omega arith))
    ∙ placed v (added GemmThree args before v.dims)
adds Dot args before v c l =
    ap (λ (a : Array). dot a (operand (before ++ v ∷ []) 1) (operand (before ++ v ∷ []) 2)) (front before v 0 (omega arith))
    ∙ ap (λ (a : Array). dot (operand before 0) a (operand (before ++ v ∷ []) 2)) (front before v 1 (omega arith))
    ∙ ap (λ (a : Array). dot (operand before 0) (operand before 1) a) (back before v 2 (omega arith))
adds Sum args before v c l =
    ap (λ (a : Array). sum a (operand (before ++ v ∷ []) 1)) (front before v 0 (omega arith)) ∙ ap (λ (a : Array). sum (operand before 0) a) (back before v 1 (omega arith))
adds k args before v c l = cc

pub sums_commute : (k : Kernel) → contributes_of k Plus ≡ true → DoCommute out k
sums_commute k c = record {
  either_order = λ args args' before before' v call call'.
      let n = operands_before k args before v call in
      let n' = operands_before k args' before' v call' in
      let f = added k args before v.dims in
      let g = added k args' before' v.dims in
      ap (λ (a : Array). result_of out k args' before' a) (adds k args before v c n)
      ∙ adds k args' before' (plus_each f v) c n'
      ∙ plus_swap v f g
      ∙ sym (adds k args before (plus_each g v) c n)
      ∙ sym (ap (λ (a : Array). result_of out k args before a) (adds k args' before' v c n'));
}

pub sums_contribute : (k : Kernel) → contributes_of k Plus ≡ true → DoesContribute out k Plus
sums_contribute k c = record {
  through_unit = λ args before v call.
      let n = operands_before k args before v call in
      adds k args before v c n
      ∙ plus_through_unit v (added k args before v.dims)
      ∙ sym (ap (λ (u : Array). add u v) (adds k args before (zeros v.dims) c n));
}

scale_swap : (a b : ℤ) (v : Array) → scale b (scale a v) ≡ scale a (scale b v)
scale_swap a b v =
    let twice : (a b : ℤ) (p : ℕ) → p < area v.dims → wrap (b *ℤ at (scale a v).elements p) ≡ wrap (b *ℤ (a *ℤ at v.elements p)) =
    λ a b p l. ap (λ (z : ℤ). wrap (b *ℤ z)) (at-each v.dims (λ q. wrap (a *ℤ at v.elements q)) p l) ∙ int_wrap-mul_right w64 b (a *ℤ at v.elements p) in
    same_each v.dims (λ p. wrap (b *ℤ at (scale a v).elements p)) (λ p. wrap (a *ℤ at (scale b v).elements p)) (λ p l.
    let x = at v.elements p in
    twice a b p l
    ∙ ap (λ (z : ℤ). wrap z) (sym (int_mul_assoc b a x) ∙ ap (λ (z : ℤ). z *ℤ x) (int_mul_comm b a) ∙ int_mul_assoc a b x)
    ∙ sym (twice b a p l))

pub scales_commute : DoCommute out Scale
scales_commute = record {
  either_order = λ args args' before before' v call call'.
      let n = operands_before Scale args before v call in
      let n' = operands_before Scale args' before' v call' in
      let one : (w : Array) → result_of out Scale args before w ≡ scale (at args 0) w = λ w. ap (λ (a : Array). scale (at args 0) a) (back before w 0 (omega arith)) in
      let two : (w : Array) → result_of out Scale args' before' w ≡ scale (at args' 0) w = λ w. ap (λ (a : Array). scale (at args' 0) a) (back before' w 0 (omega arith)) in
      two (result_of out Scale args before v) ∙ ap (λ (a : Array). scale (at args' 0) a) (one v)
      ∙ scale_swap (at args 0) (at args' 0) v
      ∙ sym (one (result_of out Scale args' before' v) ∙ ap (λ (a : Array). scale (at args 0) a) (two v));
}

unit_adds_nothing : (v : Array) → IsTile v → add (zeros v.dims) v ≡ v
unfolding listing
unit_adds_nothing v t =
    let f = λ (p : ℕ). wrap (at v.elements p +ℤ at (zeros v.dims).elements p) in
    let same : v.elements ≡ listing (area v.dims) f =
    listing_from_elements (area v.dims) f v.elements t.whole (λ p l.
    let fits = All-get_or (FitsSigned w64) v.elements p (pos 0) (omega (arith, t.whole)) t.in_range in
    sym (ap (λ (z : ℤ). wrap (at v.elements p +ℤ z)) (element-zeros v.dims p l) ∙ ap (λ (z : ℤ). wrap z) (int_add-zero (at v.elements p)) ∙ int_wrap_fits w64 (at v.elements p) fits)) in
    sym (ap (λ (xs : List ℤ). array v.dims xs) same)

-- sums of arrays are a reduction
pub plus_reduces : IsReduction out Plus
plus_reduces = record {
  associative = λ u v w tu tv tw du dv.
      let inner : (p : ℕ) → p < area w.dims → at (add u v).elements p ≡ wrap (at v.elements p +ℤ at u.elements p) =
      λ p l. at-each v.dims (λ q. wrap (at v.elements q +ℤ at u.elements q)) p (omega (arith, ap (λ (d : Dims). area d) dv)) in
      let outer : (p : ℕ) → p < area w.dims → at (add v w).elements p ≡ wrap (at w.elements p +ℤ at v.elements p) =
      λ p l. at-each w.dims (λ q. wrap (at w.elements q +ℤ at v.elements q)) p l in
      same_each w.dims (λ p. wrap (at w.elements p +ℤ at (add u v).elements p)) (λ p. wrap (at (add v w).elements p +ℤ at u.elements p)) (λ p l.
      let x = at u.elements p in
      let y = at v.elements p in
      let z = at w.elements p in
      ap (λ (t : ℤ). wrap (z +ℤ t)) (inner p l) ∙ int_wrap-add_right w64 z (y +ℤ x)
      ∙ ap (λ (t : ℤ). wrap t) (omega (arith, ints))
      ∙ sym (ap (λ (t : ℤ). wrap (t +ℤ x)) (outer p l) ∙ int_wrap-add_left w64 (z +ℤ y) x));
  commutative = λ u v tu tv d.
      same_each v.dims (λ p. wrap (at v.elements p +ℤ at u.elements p)) (λ p. wrap (at u.elements p +ℤ at v.elements p)) (λ p l. ap (λ (t : ℤ). wrap t) (omega (arith, ints)))
      ∙ ap (λ (e : Dims). each e (λ p. wrap (at u.elements p +ℤ at v.elements p))) (sym d);
  unit = λ v t. unit_adds_nothing v t;
}

-- of a codelet of the set
pub ring_commuting : (k : Kernel) → IsTrue (ring_has k && commutes_of k) → DoCommute out k
ring_commuting Scale h = scales_commute
ring_commuting Add h = sums_commute Add refl
ring_commuting Axpy h = sums_commute Axpy refl
ring_commuting Gemm h = sums_commute Gemm refl
ring_commuting GemmThree h = sums_commute GemmThree refl
ring_commuting Dot h = sums_commute Dot refl
ring_commuting Sum h = sums_commute Sum refl
ring_commuting k h = absurd (false≢true h)

pub ring_contributing : (k : Kernel) (by : Reduction) → IsTrue (ring_has k && contributes_of k by && has_reduction ring_has by) → DoesContribute out k by
ring_contributing k Plus h = sums_contribute k (and_parts (ring_has k) (contributes_of k Plus) (and_parts (ring_has k && contributes_of k Plus) true h).0).1
ring_contributing k Least h = absurd (false≢true (and_parts (ring_has k && contributes_of k Least) false h).1)

pub ring_reducing : (by : Reduction) → IsTrue (has_reduction ring_has by) → IsReduction out by
ring_reducing Plus h = plus_reduces
ring_reducing Least h = absurd (false≢true h)
