use Rattle.std.proofs.Common.{◌≡◌, ℕ, ◌+◌, ◌*◌, length, arith, refl}
use Rattle.std.proofs.lemmas.Int.{to_z-of_z}
use Rattle.std.specs.Int.{int_min}
use Rattle.sj_base.specs.Array.{at}
use Rattle.sj_codelet.specs.MinPlus.{plus}
use Rattle.sj_minplus.proofs.Matrices.{at_slice}
use Rattle.sj_minplus.proofs.Products.{least_step}
use Rattle.sj_minplus.proofs.product.relax_by_any.Goals as goal

pub loop-l-preserved : goal.loop-l-preserved
loop-l-preserved c = λ j below.
    let sum = λ (q : ℕ). plus (at c.args.a.now q) (at c.args.b.now (q * length c.args.c.now + j)) in
    let e : at c.relax.new.row j ≡ int_min (at c.loop-l.c j) (sum c.loop-l.l) = grind (arith, to_z-of_z, at_slice, c.relax.ensures j) in
    least_step sum c.loop-l.l (at c.args.c.now j) (at c.loop-l.c j) (sum c.loop-l.l) (at c.relax.new.row j) (c.loop-l.invariant j below) e refl
