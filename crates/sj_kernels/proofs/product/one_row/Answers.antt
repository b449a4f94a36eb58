use Rattle.std.proofs.Common.{◌≡◌, ℕ, ◌+◌, ◌*◌, ℤ, pos, ◌+ℤ◌, ◌*ℤ◌, length, get_or, w64, FitsSigned, ap, ◌∙◌, arith, rules}
use Rattle.std.specs.List.{between}
use Rattle.std.proofs.lemmas.Int.{to_z-of_z}
use Rattle.sj_codelet.specs.Equations.{vector, axpy}
use Rattle.sj_base.specs.Array.{at}
use Rattle.sj_codelet.specs.Ring.{wrap}
use Rattle.sj_codelet.specs.Listing.{listing}
use Rattle.sj_codelet.proofs.Filling.{each_listing}
use Rattle.sj_codelet.proofs.Rows.{at-row}
use Rattle.sj_kernels.proofs.Products.{row_none, row_more}
use Rattle.sj_kernels.proofs.product.one_row.Goals as goal

pub loop-l-init : goal.loop-l-init
loop-l-init c = row_none c.args.c.now (λ j q. at c.args.a.now q *ℤ at c.args.b.now (q * length c.args.c.now + j)) c.read_all.ensures

pub loop-l-preserved : goal.loop-l-preserved
loop-l-preserved c =
    let n = length c.args.c.now in
    let l = c.loop-l.l in
    let row = between (l * n) (l * n + n) c.args.b.now in
    let f = λ (j : ℕ) (q : ℕ). at c.args.a.now q *ℤ at c.args.b.now (q * n + j) in
    let g = λ (p : ℕ). wrap (at c.loop-l.c p +ℤ (at c.args.a.now l *ℤ at row p)) in
    let len : length c.loop-l.c ≡ n = omega arith in
    let fits : FitsSigned w64 (get_or c.args.a.now l (pos 0)) = search rules in
    c.axpy.ensures
    ∙ ap (λ (s : ℤ). (axpy s (vector row) (vector c.loop-l.c)).elements) (to_z-of_z w64 (at c.args.a.now l) fits)
    ∙ each_listing c.loop-l.c g
    ∙ ap (λ (k : ℕ). listing k g) len
    ∙ row_more n l c.args.c.now c.loop-l.c f g c.loop-l.invariant (λ j s. ap (λ (z : ℤ). wrap (at c.loop-l.c j +ℤ (at c.args.a.now l *ℤ z))) (at-row l n c.args.b.now j s))
