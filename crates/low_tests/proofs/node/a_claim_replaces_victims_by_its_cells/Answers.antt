use Rattle.std.proofs.Common.{refl}
use Rattle.std.specs.List.{IsDistinct}
use Rattle.low_tests.proofs.node.a_claim_replaces_victims_by_its_cells.Goals as goal

pub admit-requires-clause-cells_differ : goal.admit-requires-clause-cells_differ
unfolding IsDistinct
admit-requires-clause-cells_differ g c = ((refl, tt), (tt, tt))
