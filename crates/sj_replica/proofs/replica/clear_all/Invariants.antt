use Rattle.std.proofs.Common.{◌≡◌, ◌++◌, drop, map, take}
use Rattle.sj_replica.specs.declared.mark.Mark.TheVariants.{Invalid}
use Rattle.sj_replica.proofs.replica.clear_all.Given as goal

abbrev pub invariant-loop-i : goal.invariant-loop-i
invariant-loop-i l = l.marks ≡ map (λ x. Invalid) (take l.i l.fn.marks) ++ drop l.i l.fn.marks
