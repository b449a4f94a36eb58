use Rattle.std.proofs.Common.{◌≡◌, ◌+ℤ◌, ◌*ℤ◌, ◌∙◌, rules, w64, to_z, of_z}
use Rattle.std.proofs.lemmas.Int.{to_z-of_z}
use Rattle.sj_base.specs.Array.{at}
use Rattle.sj_codelet.specs.Ring.{wrap}
use Rattle.sj_kernels.proofs.Groups.{eight, sum_of}
use Rattle.sj_kernels.proofs.elementwise.axpy_eight.Goals as goal

pub returns : goal.returns
returns c =
    let known : to_z w64 (of_z w64 c.args.a) ≡ c.args.a = to_z-of_z w64 c.args.a c.ranges.a in
    c.copy_from_slice.ensures.after ∙ eight (λ q. wrap (at c.args.y.now q +ℤ (c.args.a *ℤ at c.args.x.now q))) _ _ _ _ _ _ _ _
    (sum_of (at c.args.y.now 0) c.args.a (at c.args.x.now 0) _ _ _ c.with_product.result c.with_product.ensures (to_z-of_z w64 (at c.args.y.now 0) (search rules)) known (to_z-of_z w64 (at c.args.x.now 0) (search rules)))
    (sum_of (at c.args.y.now 1) c.args.a (at c.args.x.now 1) _ _ _ c.with_product-2.result c.with_product-2.ensures (to_z-of_z w64 (at c.args.y.now 1) (search rules)) known (to_z-of_z w64 (at c.args.x.now 1) (search rules)))
    (sum_of (at c.args.y.now 2) c.args.a (at c.args.x.now 2) _ _ _ c.with_product-3.result c.with_product-3.ensures (to_z-of_z w64 (at c.args.y.now 2) (search rules)) known (to_z-of_z w64 (at c.args.x.now 2) (search rules)))
    (sum_of (at c.args.y.now 3) c.args.a (at c.args.x.now 3) _ _ _ c.with_product-4.result c.with_product-4.ensures (to_z-of_z w64 (at c.args.y.now 3) (search rules)) known (to_z-of_z w64 (at c.args.x.now 3) (search rules)))
    (sum_of (at c.args.y.now 4) c.args.a (at c.args.x.now 4) _ _ _ c.with_product-5.result c.with_product-5.ensures (to_z-of_z w64 (at c.args.y.now 4) (search rules)) known (to_z-of_z w64 (at c.args.x.now 4) (search rules)))
    (sum_of (at c.args.y.now 5) c.args.a (at c.args.x.now 5) _ _ _ c.with_product-6.result c.with_product-6.ensures (to_z-of_z w64 (at c.args.y.now 5) (search rules)) known (to_z-of_z w64 (at c.args.x.now 5) (search rules)))
    (sum_of (at c.args.y.now 6) c.args.a (at c.args.x.now 6) _ _ _ c.with_product-7.result c.with_product-7.ensures (to_z-of_z w64 (at c.args.y.now 6) (search rules)) known (to_z-of_z w64 (at c.args.x.now 6) (search rules)))
    (sum_of (at c.args.y.now 7) c.args.a (at c.args.x.now 7) _ _ _ c.with_product-8.result c.with_product-8.ensures (to_z-of_z w64 (at c.args.y.now 7) (search rules)) known (to_z-of_z w64 (at c.args.x.now 7) (search rules)))
