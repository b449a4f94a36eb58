use Rattle.sj_engine.proofs.Sources.{stays-then}
use Rattle.sj_engine.proofs.workplace.Workplace.look.Goals as goal

pub carry_out-requires-clause-ready : goal.carry_out-requires-clause-ready
carry_out-requires-clause-ready g c κs within = c.pick.ensures.ready.whose _ _ c.requires.ready

pub returns-in-Task-clause-ready : goal.returns-in-Task-clause-ready
returns-in-Task-clause-ready g c = stays-then c.args.ready.now c.pick.new.ready c.carry_out.new.ready c.pick.ensures.ready c.carry_out.ensures.ready
