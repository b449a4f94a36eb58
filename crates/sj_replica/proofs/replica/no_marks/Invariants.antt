use Rattle.std.proofs.Common.{◌≡◌, replicate}
use Rattle.sj_replica.specs.declared.mark.Mark.TheVariants.{Invalid}
use Rattle.sj_replica.proofs.replica.no_marks.Given as goal

abbrev pub invariant-loop-i : goal.invariant-loop-i
invariant-loop-i l = l.marks.items ≡ replicate l._i Invalid
