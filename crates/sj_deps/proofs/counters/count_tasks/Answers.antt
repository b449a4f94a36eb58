use Rattle.std.proofs.Common.{◌∙◌, ap, map, arith, length}
use Rattle.std.proofs.lemmas.List.{take_all}
use Rattle.sj_deps.proofs.counters.count_tasks.Goals as goal

pub returns : goal.returns
returns c = c.loop-list.invariant ∙ ap (map (λ ts. length ts)) (take_all c.loop-list.list-index c.args.tasks.now (omega arith))
