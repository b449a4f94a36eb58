use Rattle.std.proofs.Common.{◌≡◌, drop, map}
use Rattle.sj_plan.specs.Window.{gathered}
use Rattle.sj_top.specs.Gathering.{array_found, part_by}
use Rattle.sj_top.proofs.gathering.put_in_place.Given as goal

-- the other deliveries, put in their places of what there is, make the whole
abbrev pub invariant-loop-delivery : goal.invariant-loop-delivery
invariant-loop-delivery l = record {
  dims : l.tile.dims ≡ l.initial.tile.dims;
  rest : gathered l.tile (map (part_by (array_found l.handed)) (drop l.delivery-index l.deliveries)) ≡ gathered l.initial.tile (map (part_by (array_found l.handed)) l.deliveries);
}
