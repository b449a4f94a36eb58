use Rattle.std.proofs.Common.{◌<◌, arith, subst}
use Rattle.sj_base.specs.declared.program.Program.{Program}
use Rattle.board_tests.proofs.scenes.releases_of_one.Goals as goal

pub release-requires-clause-free : goal.release-requires-clause-free
release-requires-clause-free g c = c.in_ok-board.ensures.free (record { 0 = 0 }) (subst (λ (p : Program). 0 < p.workers) c.program.ensures (omega (arith, c.if-program-lt1.false)))

pub release-requires-clause-taken : goal.release-requires-clause-taken
release-requires-clause-taken g c = c.in_ok-board.ensures.taken (record { 0 = 0 })
