use Rattle.sj_machine.proofs.{Refusing.found-waits, Results.if-ok}
use Rattle.sj_machine.proofs.rows.Rows.claim_plan_knowing.Goals as goal

pub returns-clause-can : goal.returns-clause-can
returns-clause-can c = if-ok c.answer_to_claim.result _ _ c.answer_to_claim.ensures (λ found answer. answer.can)

pub returns-clause-plan : goal.returns-clause-plan
returns-clause-plan c = if-ok c.answer_to_claim.result _ _ c.answer_to_claim.ensures (λ found answer. answer.plan)

pub returns-clause-why : goal.returns-clause-why
returns-clause-why c = if-ok c.answer_to_claim.result _ _ c.answer_to_claim.ensures (λ found answer. answer.why)

pub returns-clause-another : goal.returns-clause-another
returns-clause-another c = if-ok c.answer_to_claim.result _ _ c.answer_to_claim.ensures (λ found answer. found-waits _ _ _ c.is_sound.ensures c.args.t c.args.w c.requires.may found answer.why)
