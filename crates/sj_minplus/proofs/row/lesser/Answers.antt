use Rattle.std.proofs.Common.{rules, ◌≡◌, ap, ◌∙◌, ◌-ℤ◌, ◌+ℤ◌, FitsSigned, arith}
use Rattle.std.specs.Int.{w64, int_min}
use Rattle.std.proofs.lemmas.Int.{to_z-of_z}
use Rattle.sj_codelet.specs.MinPlus.{plus}
use Rattle.sj_minplus.specs.LeastLaws.{below_inf}
use Rattle.sj_minplus.proofs.Lowered.{left_lesser, left_fits, left_of}
use Rattle.sj_minplus.proofs.row.lesser.Goals as goal

pub returns : goal.returns
returns c =
    let top = below_inf c.args.x c.ranges.x in
    let fits = left_fits c.args.x c.args.via c.args.y c.requires.x top c.requires.via.start (below_inf c.args.via c.ranges.via) c.requires.y.start in
    let e = left_lesser c.args.x c.args.via c.args.y top c.requires.via c.requires.y in
    let left : FitsSigned w64 (c.args.x -ℤ c.args.via) = left_of c.args.x c.args.via c.requires.x top c.requires.via.start (below_inf c.args.via c.ranges.via) in
    let near : c.min.result ≡ int_min c.args.y (c.args.x -ℤ c.args.via) = grind (arith, to_z-of_z, c.min.ensures.value) in
    let whole : FitsSigned w64 (c.min.result +ℤ c.args.via) = rw near fits in
    let sum : c.min.result +ℤ c.args.via ≡ int_min c.args.x (plus c.args.via c.args.y) = ap (λ z. z +ℤ c.args.via) near ∙ e in
    search (rules, to_z-of_z, sum)
