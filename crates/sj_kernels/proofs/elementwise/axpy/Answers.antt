use Rattle.std.proofs.Common.{ℤ, ap, ◌∙◌, w64}
use Rattle.std.proofs.lemmas.Int.{to_z-of_z}
use Rattle.sj_codelet.specs.Equations.{vector, axpy}
use Rattle.sj_kernels.proofs.elementwise.axpy.Goals as goal

pub returns : goal.returns
returns c =
    c.add_product.ensures ∙ ap (λ (z : ℤ). (axpy z (vector c.args.x.now) (vector c.args.y.now)).elements) (to_z-of_z w64 c.args.a c.ranges.a)
