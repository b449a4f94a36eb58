use Rattle.std.proofs.Common.{rules, ◌≡◌, []}
use Rattle.sj_engine.proofs.Numbers.{puts-released}
use Rattle.sj_engine.proofs.Sources.{source-shared}
use Rattle.sj_engine.proofs.workplace.Workplace.end_and_deal.Goals as goal

pub returns-clause-ready : goal.returns-clause-ready
returns-clause-ready g c = c.deal.ensures.ready

pub returns-clause-released : goal.returns-clause-released
returns-clause-released g c = λ other.
    let empty : c.clear.new.self.items ≡ [] = search rules in
    let same : c.deref.result.now ≡ c.finish.new.released.items = search rules in
    puts-released c.args.t c.args.self.now.worker c.args.seat.now.facts c.finish.new.seat.facts c.deal.new.seat.facts c.args.ready.now c.deal.new.ready c.clear.new.self.items c.finish.new.released.items c.deref.result.now
    empty same (c.finish.ensures.released other) c.deal.ensures.fault (c.deal.ensures.dealt (source-shared _ _ c.args.ready.now c.requires.ready other))
