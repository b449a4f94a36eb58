use Rattle.sj_deps.proofs.Appending.{on_ok}
use Rattle.sj_deps.proofs.Entering.{Entering-opened, Entering-joined}
use Rattle.sj_deps.proofs.entry.contribute.Goals as goal

pub returns-in-Some-clause-entered : goal.returns-in-Some-clause-entered
returns-in-Some-clause-entered c = on_ok c.join.result _ _ (λ joins P us deps task workers uses entering. Entering-joined P deps c.args.t task us c.args.entered.now entering c.args.first c.args.count workers uses c.requires.some c.requires.begun c.in-Some.party c.in-Some.ensures c.join.new.entered joins) c.join.ensures.joins

pub returns-in-None-clause-entered : goal.returns-in-None-clause-entered
returns-in-None-clause-entered c = on_ok c.open.result _ _ (λ opens P us deps task workers uses entering. Entering-opened P deps c.args.t task us c.args.entered.now entering c.args.first c.args.count workers uses c.open.new.entered opens) c.open.ensures.opens
