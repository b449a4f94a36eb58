use Rattle.std.proofs.Common.{◌≡◌, map, take}
use Rattle.sj_job.specs.Names.{operand_by}
use Rattle.sj_job.proofs.judge.operands_of.Given as goal

-- the operands of the targets so far
abbrev pub invariant-loop-target : goal.invariant-loop-target
invariant-loop-target l = l.operands ≡ map operand_by (take l.target-index l.targets)
