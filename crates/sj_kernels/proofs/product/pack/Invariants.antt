use Rattle.std.proofs.Common.{◌≡◌, ◌*◌}
use Rattle.sj_codelet.proofs.Filling.{begun}
use Rattle.sj_kernels.specs.Panels.{panel_element}
use Rattle.sj_kernels.proofs.product.pack.Given as goal

abbrev pub invariant-loop-l : goal.invariant-loop-l
invariant-loop-l l = l.tile ≡ begun (l.l * l.w) (panel_element l.n l.columns l.matrix) l.initial.tile
