use Rattle.std.proofs.Common.{◌≡◌, ◌*ℤ◌, ◌∙◌, rules, w64, to_z, of_z}
use Rattle.std.proofs.lemmas.Int.{to_z-of_z}
use Rattle.sj_base.specs.Array.{at}
use Rattle.sj_codelet.specs.Ring.{wrap}
use Rattle.sj_kernels.proofs.Groups.{eight, product_of}
use Rattle.sj_kernels.proofs.elementwise.scale_eight.Goals as goal

pub returns : goal.returns
returns c =
    let known : to_z w64 (of_z w64 c.args.a) ≡ c.args.a = to_z-of_z w64 c.args.a c.ranges.a in
    c.copy_from_slice.ensures.after ∙ eight (λ q. wrap (c.args.a *ℤ at c.args.x.now q)) _ _ _ _ _ _ _ _
    (product_of c.args.a (at c.args.x.now 0) _ _ c.wrapped_product.result c.wrapped_product.ensures known (to_z-of_z w64 (at c.args.x.now 0) (search rules)))
    (product_of c.args.a (at c.args.x.now 1) _ _ c.wrapped_product-2.result c.wrapped_product-2.ensures known (to_z-of_z w64 (at c.args.x.now 1) (search rules)))
    (product_of c.args.a (at c.args.x.now 2) _ _ c.wrapped_product-3.result c.wrapped_product-3.ensures known (to_z-of_z w64 (at c.args.x.now 2) (search rules)))
    (product_of c.args.a (at c.args.x.now 3) _ _ c.wrapped_product-4.result c.wrapped_product-4.ensures known (to_z-of_z w64 (at c.args.x.now 3) (search rules)))
    (product_of c.args.a (at c.args.x.now 4) _ _ c.wrapped_product-5.result c.wrapped_product-5.ensures known (to_z-of_z w64 (at c.args.x.now 4) (search rules)))
    (product_of c.args.a (at c.args.x.now 5) _ _ c.wrapped_product-6.result c.wrapped_product-6.ensures known (to_z-of_z w64 (at c.args.x.now 5) (search rules)))
    (product_of c.args.a (at c.args.x.now 6) _ _ c.wrapped_product-7.result c.wrapped_product-7.ensures known (to_z-of_z w64 (at c.args.x.now 6) (search rules)))
    (product_of c.args.a (at c.args.x.now 7) _ _ c.wrapped_product-8.result c.wrapped_product-8.ensures known (to_z-of_z w64 (at c.args.x.now 7) (search rules)))
