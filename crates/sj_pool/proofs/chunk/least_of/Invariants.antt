use Rattle.std.proofs.Common.{take}
use Rattle.sj_pool.specs.Root.{IsLeastBytes}
use Rattle.sj_pool.proofs.chunk.least_of.Given as goal

abbrev pub invariant-loop-i : goal.invariant-loop-i
invariant-loop-i l = IsLeastBytes l.least l.fn.bytes (take l.i l.entries)
