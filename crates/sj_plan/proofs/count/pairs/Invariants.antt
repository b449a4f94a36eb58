use Rattle.std.proofs.Common.{◌≡◌, ◌*◌, ◌≤◌}
use Rattle.std.specs.List.{range_with_len, sum_by}
use Rattle.sj_plan.specs.Interval.{meeting, part}
use Rattle.sj_plan.proofs.count.pairs.Given as goal

-- the pairs of the parts before part k
abbrev pub invariant-loop-k : goal.invariant-loop-k
invariant-loop-k l =
    (l.pairs ≡ sum_by (λ k. meeting l.items l.old (part l.items l.new k)) (range_with_len 0 l.k)) × (l.pairs ≤ 4096 * l.k)
