use Rattle.std.proofs.Common.{◌≡◌, map, max}
use Rattle.std.specs.Prelude.{fold}
use Rattle.std.specs.List.{range_with_len}
use Rattle.sj_base.specs.declared.ids.Worker.{Worker}
use Rattle.sj_core.specs.Needs.{node_of, node_size}
use Rattle.sj_needs.proofs.room.room.Given as goal

abbrev pub invariant-loop-w : goal.invariant-loop-w
invariant-loop-w l = l.most ≡ fold (λ most (w : Worker). max most (node_size l.machine (node_of l.machine w))) 0 (map (λ n. record { 0 = n }) (range_with_len 0 l.w))
