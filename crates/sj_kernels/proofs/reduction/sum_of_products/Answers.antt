use Rattle.std.proofs.Common.{◌≡◌, ℕ, ◌+◌, ◌*◌, ◌/◌, ◌*ℤ◌, length, refl, ap, ◌∙◌, arith, rules, w64}
use Rattle.std.proofs.lemmas.Int.{to_z-of_z}
use Rattle.sj_base.specs.Array.{at}
use Rattle.sj_codelet.specs.Ring.{wrap, sum_below}
use Rattle.sj_kernels.proofs.Groups.{products_more}
use Rattle.sj_kernels.proofs.reduction.sum_of_products.Goals as goal

pub loop-q-preserved : goal.loop-q-preserved
loop-q-preserved c =
    let x = at c.args.x.now in
    let y = at c.args.y.now in
    let i = c.loop-q.q * 4 in
    let one = products_more x y i (i + 1) _ _ _ c.with_product-total.result c.with_product-total.ensures c.loop-q.invariant (to_z-of_z w64 (x i) (search rules)) (to_z-of_z w64 (y i) (search rules)) refl in
    let two = products_more x y (i + 1) (i + 2) _ _ _ c.with_product-total-in-loop-q.result c.with_product-total-in-loop-q.ensures one (to_z-of_z w64 (x (i + 1)) (search rules)) (to_z-of_z w64 (y (i + 1)) (search rules)) (omega arith) in
    let three = products_more x y (i + 2) (i + 3) _ _ _ c.with_product-total-in-loop-q-2.result c.with_product-total-in-loop-q-2.ensures two (to_z-of_z w64 (x (i + 2)) (search rules)) (to_z-of_z w64 (y (i + 2)) (search rules)) (omega arith) in
    products_more x y (i + 3) ((c.loop-q.q + 1) * 4) _ _ _ c.with_product-total-in-loop-q-3.result c.with_product-total-in-loop-q-3.ensures three (to_z-of_z w64 (x (i + 3)) (search rules)) (to_z-of_z w64 (y (i + 3)) (search rules)) (omega arith)

pub loop-i-init : goal.loop-i-init
loop-i-init c =
    let here : c.loop-q.q * 4 ≡ length c.args.x.now / 4 * 4 = omega arith in
    c.loop-q.invariant ∙ ap (λ (k : ℕ). wrap (sum_below k (λ q. at c.args.x.now q *ℤ at c.args.y.now q))) here

pub loop-i-preserved : goal.loop-i-preserved
loop-i-preserved c =
    let x = at c.args.x.now in
    let y = at c.args.y.now in
    let i = c.loop-i.i in
    products_more x y i (i + 1) _ _ _ c.with_product-total-in-loop-i.result c.with_product-total-in-loop-i.ensures c.loop-i.invariant (to_z-of_z w64 (x i) (search rules)) (to_z-of_z w64 (y i) (search rules)) refl
