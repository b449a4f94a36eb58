use Rattle.std.proofs.Common.{◌≡◌, ◌+◌, ◌*◌, ℤ, length, rules, refl, sym, ap, ◌∙◌, w64, to_z, of_z, arith}
use Rattle.std.proofs.lemmas.Int.{to_z-of_z}
use Rattle.sj_kernels.specs.Panels.{column_sum}
use Rattle.sj_kernels.proofs.Panels.{column_none, column_more, column_all}
use Rattle.sj_kernels.proofs.product.column.Goals as goal

pub loop-l-init : goal.loop-l-init
loop-l-init c =
    let a = c.args in
    column_none a.n a.j a.a.now a.b.now a.start c.ranges.start ∙ ap (λ (z : ℤ). column_sum a.n a.a.now a.b.now a.j 0 z) (sym (to_z-of_z w64 a.start c.ranges.start))

pub loop-l-preserved : goal.loop-l-preserved
loop-l-preserved c =
    let a = c.args in
    column_more a.n a.j c.loop-l.l (c.loop-l.l * a.n + a.j) a.a.now a.b.now (to_z w64 (of_z w64 a.start)) (to_z w64 c.loop-l.total-bits) _ c.with_product-total.ensures c.loop-l.invariant refl (search rules) (search rules)

pub returns : goal.returns
returns c =
    let a = c.args in
    let all : c.loop-l.l ≡ length a.a.now = omega arith in
    column_all a.n a.j c.loop-l.l (length a.a.now) a.a.now a.b.now _ _ c.loop-l.invariant all
    ∙ ap (λ (z : ℤ). column_sum a.n a.a.now a.b.now a.j (length a.a.now) z) (to_z-of_z w64 a.start c.ranges.start)
