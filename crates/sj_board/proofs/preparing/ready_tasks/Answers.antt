use Rattle.sj_board.proofs.Words.{arith}
use Rattle.sj_board.proofs.Prepared.{ready-all}
use Rattle.sj_board.proofs.preparing.ready_tasks.Goals as goal

pub returns-clause-each : goal.returns-clause-each
returns-clause-each c = ready-all _ _ _ _ (omega (arith, c.requires, c.loop-i-test.false)) c.loop-i.invariant
