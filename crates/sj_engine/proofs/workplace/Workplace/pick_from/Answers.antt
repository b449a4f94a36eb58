use Rattle.std.proofs.Common.{◌∙◌, sym}
use Rattle.std.proofs.lemmas.Bool.{false≢true}
use Rattle.sj_engine.proofs.ClaimTurns.{picks-or-fails}
use Rattle.sj_engine.proofs.Sources.{source-other, source-pass, source-prio}
use Rattle.sj_engine.proofs.workplace.Workplace.pick_from.Goals as goal

pub pick_queued-requires-clause-queues : goal.pick_queued-requires-clause-queues
pick_queued-requires-clause-queues g c = source-other _ _ _ c.requires.ready (sym c.is_shared.ensures ∙ c.if-is_shared.true)

pub pick_queued-requires-clause-of : goal.pick_queued-requires-clause-of
pick_queued-requires-clause-of g c = source-pass _ _ _ c.requires.ready

pub pick-requires-clause-by_urgency : goal.pick-requires-clause-by_urgency
pick-requires-clause-by_urgency g c = source-prio _ _ _ c.requires.ready (λ e. false≢true (sym c.if-is_shared.false ∙ c.is_shared.ensures ∙ e))

pub returns-clause-event : goal.returns-clause-event
returns-clause-event g c = picks-or-fails c.args.self.now.worker c.args.board.now c.pick.new.self c.pick.result c.pick.ensures.event
