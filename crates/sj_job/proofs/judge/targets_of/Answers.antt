use Rattle.std.proofs.Common.{◌∙◌, sym, ap, option_map, ◌++◌, ◌+◌, drop, arith}
use Rattle.sj_job.specs.Form.{each_some}
use Rattle.sj_job.specs.Names.{target_in}
use Rattle.sj_job.proofs.Each.{each_more_at, each_none_at}
use Rattle.sj_job.proofs.judge.targets_of.Goals as goal

pub returns-in-None : goal.returns-in-None
returns-in-None c =
    sym c.loop-n.invariant
    ∙ each_none_at (target_in c.args.names.now) c.args.operands.now c.loop-n.n c.index-operands-n.result c.loop-n.targets (omega arith) (ap (target_in c.args.names.now) (sym c.index-operands-n.is) ∙ sym c.target_of.ensures ∙ c.in-None.is)

pub loop-n-preserved : goal.loop-n-preserved
loop-n-preserved c =
    ap (λ vs. option_map (λ rest. vs ++ rest) (each_some (target_in c.args.names.now) (drop (c.loop-n.n + 1) c.args.operands.now))) c.in_ok-push-in-Some.ensures.ok
    ∙ sym (each_more_at (target_in c.args.names.now) c.args.operands.now c.loop-n.n c.index-operands-n.result c.in-Some.target c.loop-n.targets (omega arith) (ap (target_in c.args.names.now) (sym c.index-operands-n.is) ∙ sym c.target_of.ensures ∙ c.in-Some.is))
    ∙ c.loop-n.invariant
