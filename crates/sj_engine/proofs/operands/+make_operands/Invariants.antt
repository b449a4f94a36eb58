use Rattle.std.proofs.Common.{length}
use Rattle.sj_engine.proofs.operands.+make_operands.Given as goal

abbrev pub decreases-make_operands : goal.decreases-make_operands
decreases-make_operands l = length l.accesses.now
