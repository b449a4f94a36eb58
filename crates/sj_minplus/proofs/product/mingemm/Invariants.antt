use Rattle.sj_codelet.specs.Equations.{matrix}
use Rattle.sj_minplus.specs.Matrix.{least_entry}
use Rattle.sj_minplus.proofs.Matrices.{HasRows}
use Rattle.sj_minplus.proofs.product.mingemm.Given as goal

abbrev pub invariant-loop-i : goal.invariant-loop-i
invariant-loop-i l = HasRows (least_entry (matrix l.fn.m l.k l.a) (matrix l.k l.n l.b) (matrix l.fn.m l.n l.initial.c)) l.n l.initial.c l.c l.i
