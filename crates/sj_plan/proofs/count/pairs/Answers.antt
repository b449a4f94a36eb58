use Rattle.std.proofs.Common.{◌≡◌, ◌∙◌, ap, subst, arith}
use Rattle.std.specs.List.{range_with_len, sum_by}
use Rattle.sj_plan.specs.declared.interval.Interval.{Interval}
use Rattle.sj_plan.specs.Interval.{meeting, part}
use Rattle.sj_plan.proofs.Counting.{meeting_is, one_part_more}
use Rattle.sj_plan.proofs.Overlapping.{AreOverlapping}
use Rattle.sj_plan.proofs.count.pairs.Goals as goal

pub loop-k-preserved : goal.loop-k-preserved
loop-k-preserved c =
    let a = c.args in
    let v = c.parts_overlapping.result in
    let exactly = subst (λ (w : Interval). AreOverlapping a.items a.old w v) c.part.ensures.part c.parts_overlapping.ensures.exactly in
    let here = meeting_is a.items a.old (part a.items a.new c.loop-k.k) v exactly c.parts_overlapping.ensures.in_parts in
    (one_part_more (λ k. meeting a.items a.old (part a.items a.new k)) c.loop-k.pairs v.len c.loop-k.k c.loop-k.invariant.0 here, omega (arith, c.loop-k.invariant.1, c.parts_overlapping.ensures.in_parts, c.requires.few_old))

pub returns-clause-count : goal.returns-clause-count
returns-clause-count c =
    let last : c.loop-k.k ≡ c.args.new = omega arith in
    c.loop-k.invariant.0 ∙ ap (λ n. sum_by (λ k. meeting c.args.items c.args.old (part c.args.items c.args.new k)) (range_with_len 0 n)) last
