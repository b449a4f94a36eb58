use Rattle.std.proofs.Common.{◌≡◌, ◌+◌, ◌-◌, ◌*◌, ◌≤◌, length, arith, refl, ◌∙◌, take, drop}
use Rattle.std.proofs.lemmas.Grind.{rows}
use Rattle.sj_codelet.specs.Equations.{matrix}
use Rattle.sj_minplus.specs.Matrix.{least_entry}
use Rattle.sj_minplus.proofs.Products.{same_least}
use Rattle.sj_minplus.proofs.Matrices.{rows_more, row_rest, rows_all, length_slice, at_slice}
use Rattle.sj_minplus.proofs.product.mingemm.Goals as goal

pub loop-i-preserved : goal.loop-i-preserved
loop-i-preserved c =
    let k = c.args.k in
    let n = c.args.n in
    let i = c.loop-i.i in
    let fits : i * n + n ≤ length c.loop-i.c = grind (arith, rows) in
    let fits_a : i * k + k ≤ length c.args.a.now = grind (arith, rows) in
    let long : length (take (i * n + n - i * n) (drop (i * n) c.loop-i.c)) ≡ n = length_slice (i * n) (i * n + n) n c.loop-i.c (omega arith) fits in
    let long_a : length (take (i * k + k - i * k) (drop (i * k) c.args.a.now)) ≡ k = length_slice (i * k) (i * k + k) k c.args.a.now (omega arith) fits_a in
    rows_more (least_entry (matrix c.args.m k c.args.a.now) (matrix k n c.args.b.now) (matrix c.args.m n c.args.c.now)) n i (i * n) (i * n + n - i * n) c.args.c.now c.loop-i.c c.relax_by_all.new.c refl (omega arith) fits (c.relax_by_all.auto.c ∙ long) (λ j below. c.relax_by_all.ensures j (omega arith) ∙ same_least _ _ _ _ _ _ long_a (at_slice (i * n) (i * n + n - i * n) c.loop-i.c j (omega arith) ∙ row_rest _ _ _ _ _ c.loop-i.invariant j) (λ q h. rw (at_slice (i * k) (i * k + k - i * k) c.args.a.now q (omega arith), long) refl)) c.loop-i.invariant

pub returns : goal.returns
returns c =
    let e : c.loop-i.i ≡ c.args.m = omega arith in
    rows_all (least_entry (matrix c.args.m c.args.k c.args.a.now) (matrix c.args.k c.args.n c.args.b.now) (matrix c.args.m c.args.n c.args.c.now)) c.args.m c.args.n c.args.c.now c.loop-i.c (omega arith) (rw (← e) c.loop-i.invariant)
