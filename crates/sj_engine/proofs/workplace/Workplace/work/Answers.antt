use Rattle.std.proofs.Common.{rules}
use Rattle.sj_engine.proofs.Sources.{stays-then}
use Rattle.sj_engine.proofs.workplace.Workplace.work.Goals as goal

pub look-stage-requires-clause-ready : goal.look-stage-requires-clause-ready
look-stage-requires-clause-ready g c κs within = c.loop.invariant.ready.whose _ _ c.requires.ready

pub loop-preserved : goal.loop-preserved
loop-preserved g c = record {
  can = search rules;
  ends = search rules;
  row = search rules;
  heard = search rules;
  outside = search rules;
  ready = stays-then c.args.ready.now c.loop.ready c.look-stage.new.ready c.loop.invariant.ready c.look-stage.ensures.ready;
  events = search rules;
}
