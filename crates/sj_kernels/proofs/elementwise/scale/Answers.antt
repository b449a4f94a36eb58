use Rattle.std.proofs.Common.{◌≡◌, ℕ, ◌+◌, ◌*◌, ◌/◌, ℤ, ◌*ℤ◌, length, refl, ap, ◌∙◌, rules, arith, w64, to_z, of_z}
use Rattle.std.proofs.lemmas.Int.{wraps, to_z-of_z}
use Rattle.sj_base.specs.Array.{at}
use Rattle.sj_codelet.specs.Ring.{wrap}
use Rattle.sj_codelet.specs.Equations.{vector, scale}
use Rattle.sj_codelet.proofs.Filling.{begun, begun_step, same_listing, each_from_begun}
use Rattle.sj_codelet.proofs.Rows.{begun_no_row, begun_row, at-row_begun}
use Rattle.sj_kernels.proofs.Groups.{product_of}
use Rattle.sj_kernels.proofs.elementwise.scale.Goals as goal

-- the new element at a position
new : ℤ → (ℕ → ℤ) → ℕ → ℤ
new a x p = wrap (to_z w64 (of_z w64 a) *ℤ x p)

pub loop-q-init : goal.loop-q-init
loop-q-init c = begun_no_row 8 _ c.args.x.now

pub loop-q-preserved : goal.loop-q-preserved
unfolding new
loop-q-preserved c =
    let a = c.args in
    let q = c.loop-q.q in
    let f = new a.a (at a.x.now) in
    begun_row q 8 _ f a.x.now c.loop-q.x c.scale_eight.new.x (omega arith) c.loop-q.invariant
    (c.scale_eight.ensures ∙ same_listing 8 _ (λ p. f (q * 8 + p)) (λ p h. ap (λ (z : ℤ). wrap (to_z w64 (of_z w64 a.a) *ℤ z)) (at-row_begun q 8 f a.x.now c.loop-q.x p c.loop-q.invariant h)))

pub loop-j-init : goal.loop-j-init
unfolding new
loop-j-init c =
    let a = c.args in
    let here : c.loop-q.q * 8 ≡ length a.x.now / 8 * 8 = omega arith in
    c.loop-q.invariant ∙ ap (λ (k : ℕ). begun k (new a.a (at a.x.now)) a.x.now) here

pub loop-j-preserved : goal.loop-j-preserved
unfolding new
loop-j-preserved c =
    let a = c.args in
    begun_step c.loop-j.j (new a.a (at a.x.now)) a.x.now c.loop-j.x _ c.loop-j.invariant (omega arith) (λ read. product_of (to_z w64 (of_z w64 a.a)) (at a.x.now c.loop-j.j) _ _ c.wrapped_product.result c.wrapped_product.ensures refl (rw read (search (rules, wraps))))

pub returns : goal.returns
unfolding new
returns c =
    let a = c.args in
    each_from_begun c.loop-j.j (new a.a (at a.x.now)) a.x.now c.loop-j.x (omega arith) (omega arith) c.loop-j.invariant
    ∙ ap (λ (z : ℤ). (scale z (vector a.x.now)).elements) (to_z-of_z w64 a.a c.ranges.a)
