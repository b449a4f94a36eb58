use Rattle.std.proofs.Common.{◌≡◌, ◌*◌}
use Rattle.sj_codelet.proofs.Filling.{begun}
use Rattle.sj_kernels.specs.Panels.{with_terms_within}
use Rattle.sj_kernels.proofs.product.add_tile.Given as goal

abbrev pub invariant-loop-pair : goal.invariant-loop-pair
invariant-loop-pair l =
    l.c ≡ begun (l.pair * (2 * l.sides.n)) (with_terms_within l.fn.columns l.sides l.rows l.a l.tile l.fn.c) l.fn.c
