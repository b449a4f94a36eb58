use Rattle.std.proofs.Common.{◌+◌, ◌-◌, arith}
use Rattle.sj_plan.proofs.Splitting.{holders-ordered, overlap_from_between, between_from_overlap}
use Rattle.sj_plan.proofs.interval.parts_overlapping.Goals as goal

pub overflow_sub-result : goal.overflow_sub-result
overflow_sub-result c =
    let ordered = holders-ordered c.args.items c.args.parts c.args.of.first (c.args.of.first + (c.args.of.len - 1)) _ _ (omega arith) c.part_holding-first.ensures.holds c.part_holding-last.ensures.holds in
    omega arith

pub returns-clause-exactly : goal.returns-clause-exactly
returns-clause-exactly c = λ k below.
    let first = c.part_holding-first in
    let last = c.part_holding-last in (
      λ lies. overlap_from_between c.args.items c.args.parts first.result last.result k c.args.of c.requires.some_parts c.requires.none_empty c.requires.not_empty first.ensures.holds last.ensures.holds (omega arith) (omega arith),
      λ meets.
          let between = between_from_overlap c.args.items c.args.parts first.result last.result k c.args.of c.requires.not_empty first.ensures.holds last.ensures.holds meets in
          (between.0, omega arith),
    )
