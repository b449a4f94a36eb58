use Rattle.std.proofs.Common.{◌≡◌, ℕ, ℤ, pos, ◌+ℤ◌, ◌*ℤ◌, length, sym, ap, ◌∙◌, arith}
use Rattle.std.proofs.lemmas.Int.{ints}
use Rattle.sj_base.specs.Array.{at}
use Rattle.sj_codelet.specs.Ring.{wrap}
use Rattle.sj_codelet.proofs.Filling.{each_listing, same_listing}
use Rattle.sj_kernels.proofs.elementwise.add.Goals as goal

pub returns : goal.returns
returns c =
    let xs = c.args.x.now in
    let ys = c.args.y.now in
    let once = λ (p : ℕ). wrap (at ys p +ℤ (pos 1 *ℤ at xs p)) in
    let sums = λ (p : ℕ). wrap (at ys p +ℤ at xs p) in
    c.add_product.ensures ∙ each_listing ys once
    ∙ same_listing (length ys) once sums (λ p h. let one : pos 1 *ℤ at xs p ≡ at xs p = omega (arith, ints) in ap (λ (z : ℤ). wrap (at ys p +ℤ z)) one)
    ∙ sym (each_listing ys sums)
