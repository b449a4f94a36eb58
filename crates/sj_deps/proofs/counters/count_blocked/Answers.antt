use Rattle.std.proofs.Common.{◌∙◌, ap, map, arith}
use Rattle.std.proofs.lemmas.List.{take_all}
use Rattle.sj_deps.specs.Counts.{blocked}
use Rattle.sj_deps.proofs.counters.count_blocked.Goals as goal

pub returns : goal.returns
returns c = c.loop-list.invariant ∙ ap (map (blocked c.args.waits.now)) (take_all c.loop-list.list-index c.args.parties.now (omega arith))
