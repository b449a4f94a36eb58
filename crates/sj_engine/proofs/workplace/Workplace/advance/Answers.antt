use Rattle.sj_engine.proofs.workplace.Workplace.advance.Goals as goal

pub returns-in-Moves-clause-events : goal.returns-in-Moves-clause-events
returns-in-Moves-clause-events g c = λ first begun. c.arrive.ensures.events first (c.step.ensures.events first begun)

pub returns-in-Writes-clause-events : goal.returns-in-Writes-clause-events
returns-in-Writes-clause-events g c = λ first begun. c.store.ensures.events first (c.step.ensures.events first begun)
