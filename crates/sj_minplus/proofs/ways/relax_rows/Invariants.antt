use Rattle.std.proofs.Common.{◌+◌, ◌*◌, length}
use Rattle.std.specs.Int.{int_min}
use Rattle.sj_base.specs.Array.{at}
use Rattle.sj_codelet.specs.MinPlus.{plus}
use Rattle.sj_minplus.proofs.Matrices.{HasRows}
use Rattle.sj_minplus.proofs.ways.relax_rows.Given as goal

abbrev pub invariant-loop-i : goal.invariant-loop-i
invariant-loop-i l = HasRows (λ i j. int_min (at l.initial.a (i * length l.through + j)) (plus (at l.initial.a (i * length l.through + l.k)) (at l.through j))) (length l.through) l.initial.a l.a l.i
