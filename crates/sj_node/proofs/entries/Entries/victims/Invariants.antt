use Rattle.std.proofs.Common.{map, length}
use Rattle.sj_node.specs.Entries.{as_entry}
use Rattle.sj_node.proofs.Choosing.{IsSearch}
use Rattle.sj_node.proofs.entries.Entries.victims.Given as goal

abbrev pub invariant-loop-lacking : goal.invariant-loop-lacking
invariant-loop-lacking l = IsSearch l.held l.free l.need l.self.order (map as_entry l.rest) l.found.items l.lacking

abbrev pub decreases-loop-lacking : goal.decreases-loop-lacking
decreases-loop-lacking l = length l.rest
