use Rattle.std.proofs.Common.{take}
use Rattle.sj_apps.specs.Summary.{AreTallied}
use Rattle.sj_apps.proofs.summary.SummaryTally.of.Given as goal

-- the elements gone through are tallied
abbrev pub invariant-loop-element : goal.invariant-loop-element
invariant-loop-element l = AreTallied (take l.element-index l.elements) l.tally.infs l.tally.sum l.tally.lowest l.tally.highest
