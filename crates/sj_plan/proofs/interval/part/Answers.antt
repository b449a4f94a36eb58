use Rattle.sj_plan.proofs.Splitting.{part_is, longer_len, shorter_len}
use Rattle.sj_plan.proofs.interval.part.Goals as goal
use Rattle.sj_plan.proofs.interval.part.Goals.{then-k-longer, else-k-longer}

pub returns-clause-part : goal.returns-clause-part
returns-clause-part c =
    part_is c.args.items c.args.parts c.args.k _ _ c.min.ensures (elim c.if-k-longer.branch [
      | then-k-longer w ↦ longer_len c.args.items c.args.parts c.args.k _ w.if-k-longer.true w.len-is
      | else-k-longer w ↦ shorter_len c.args.items c.args.parts c.args.k _ w.if-k-longer.false w.len-is
    ])
