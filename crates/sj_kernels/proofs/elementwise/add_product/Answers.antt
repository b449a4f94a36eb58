use Rattle.std.proofs.Common.{◌≡◌, ℕ, ◌+◌, ◌*◌, ◌/◌, ℤ, ◌+ℤ◌, ◌*ℤ◌, length, refl, ap, ◌∙◌, rules, arith, w64, to_z, of_z}
use Rattle.std.specs.List.{between}
use Rattle.std.proofs.lemmas.Int.{to_z-of_z}
use Rattle.sj_base.specs.Array.{at}
use Rattle.sj_codelet.specs.Ring.{wrap}
use Rattle.sj_codelet.specs.Equations.{vector, axpy}
use Rattle.sj_codelet.proofs.Filling.{begun, begun_step, same_listing, each_from_begun}
use Rattle.sj_codelet.proofs.Rows.{begun_no_row, begun_row, at-row, at-row_begun}
use Rattle.sj_kernels.proofs.Groups.{sum_of}
use Rattle.sj_kernels.proofs.elementwise.add_product.Goals as goal

-- the new element at a position
new : ℤ → (ℕ → ℤ) → (ℕ → ℤ) → ℕ → ℤ
new a x y p = wrap (y p +ℤ (to_z w64 (of_z w64 a) *ℤ x p))

pub loop-q-init : goal.loop-q-init
loop-q-init c = begun_no_row 8 _ c.args.y.now

pub loop-q-preserved : goal.loop-q-preserved
unfolding new
loop-q-preserved c =
    let a = c.args in
    let q = c.loop-q.q in
    let s = to_z w64 (of_z w64 a.a) in
    let f = new a.a (at a.x.now) (at a.y.now) in
    begun_row q 8 _ f a.y.now c.loop-q.y c.axpy_eight.new.y (omega arith) c.loop-q.invariant
    (c.axpy_eight.ensures ∙ same_listing 8 _ (λ p. f (q * 8 + p)) (λ p h.
    ap (λ (z : ℤ). wrap (z +ℤ (s *ℤ at (between (q * 8) (q * 8 + 8) a.x.now) p))) (at-row_begun q 8 f a.y.now c.loop-q.y p c.loop-q.invariant h)
    ∙ ap (λ (z : ℤ). wrap (at a.y.now (q * 8 + p) +ℤ (s *ℤ z))) (at-row q 8 a.x.now p h)))

pub loop-j-init : goal.loop-j-init
unfolding new
loop-j-init c =
    let a = c.args in
    let here : c.loop-q.q * 8 ≡ length a.y.now / 8 * 8 = omega arith in
    c.loop-q.invariant ∙ ap (λ (k : ℕ). begun k (new a.a (at a.x.now) (at a.y.now)) a.y.now) here

pub loop-j-preserved : goal.loop-j-preserved
unfolding new
loop-j-preserved c =
    let a = c.args in
    begun_step c.loop-j.j (new a.a (at a.x.now) (at a.y.now)) a.y.now c.loop-j.y _ c.loop-j.invariant (omega arith) (λ read.
    sum_of (at a.y.now c.loop-j.j) (to_z w64 (of_z w64 a.a)) (at a.x.now c.loop-j.j) _ _ _ c.with_product.result c.with_product.ensures (ap (λ (z : ℤ). to_z w64 (of_z w64 z)) read ∙ to_z-of_z w64 (at a.y.now c.loop-j.j) (search rules)) refl (to_z-of_z w64 (at a.x.now c.loop-j.j) (search rules)))

pub returns : goal.returns
unfolding new
returns c =
    let a = c.args in
    each_from_begun c.loop-j.j (new a.a (at a.x.now) (at a.y.now)) a.y.now c.loop-j.y (omega arith) (omega arith) c.loop-j.invariant
    ∙ ap (λ (z : ℤ). (axpy z (vector a.x.now) (vector a.y.now)).elements) (to_z-of_z w64 a.a c.ranges.a)
