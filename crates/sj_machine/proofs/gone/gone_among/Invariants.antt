use Rattle.sj_machine.proofs.Words.{AreGoneIn}
use Rattle.sj_machine.proofs.gone.gone_among.Given as goal

abbrev pub invariant-loop-i : goal.invariant-loop-i
invariant-loop-i l = AreGoneIn l.cells l.n l.w l.victims l.i
