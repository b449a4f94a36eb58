use Rattle.std.proofs.Common.{◌≡◌, ◌++◌, take}
use Rattle.std.specs.List.{flat_map}
use Rattle.sj_show.specs.Program.{line_of_delivery}
use Rattle.sj_show.proofs.program.write_deliveries.Given as goal

abbrev pub invariant-loop-delivery : goal.invariant-loop-delivery
invariant-loop-delivery l = l.text.items ≡ l.initial.text.items ++ flat_map line_of_delivery (take l.delivery-index l.deliveries)
