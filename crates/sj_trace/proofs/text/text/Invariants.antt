use Rattle.std.proofs.Common.{take}
use Rattle.sj_trace.specs.Reading.{IsTextOf}
use Rattle.sj_trace.proofs.text.text.Given as goal

abbrev pub invariant-loop-i : goal.invariant-loop-i
invariant-loop-i l = IsTextOf l.text.items (take l.i l.trace.events)
