use Rattle.std.proofs.Common.{◌≡◌, ◌+◌, ◌++◌, ◌∷◌, [], ◌∙◌, sym, ap, subst, arith}
use Rattle.std.specs.List.{range_with_len}
use Rattle.std.proofs.lemmas.List.{append-nil}
use Rattle.sj_plan.specs.declared.interval.Interval.{Interval}
use Rattle.sj_plan.proofs.Lists.{appended_more}
use Rattle.sj_plan.proofs.Overlapping.{AreOverlapping, from_row, from_row-append, from_row-one, from_row-before, from_row-after}
use Rattle.sj_plan.proofs.paste.push_between.Goals as goal

pub loop-l-init : goal.loop-l-init
loop-l-init c =
    let a = c.args in
    let exactly = subst (λ (w : Interval). AreOverlapping a.dims.cols a.old.c w c.parts_overlapping-overlapping.result) c.part-cols.ensures.part c.parts_overlapping-overlapping.ensures.exactly in
    sym (ap (λ ys. a.found.now.items ++ ys) (from_row-before a.dims a.old a.new a.k a.to c.parts_overlapping-overlapping.result exactly c.parts_overlapping-overlapping.ensures.in_parts) ∙ append-nil a.found.now.items)

pub loop-l-preserved : goal.loop-l-preserved
loop-l-preserved c =
    let a = c.args in
    let exactly = subst (λ (w : Interval). AreOverlapping a.dims.cols a.old.c w c.parts_overlapping-overlapping.result) c.part-cols.ensures.part c.parts_overlapping-overlapping.ensures.exactly in
    let inside = c.parts_overlapping-overlapping.ensures.in_parts in
    let below = c.loop-l-test.true in
    let from = c.loop-l.auto.l in
    let meets = (exactly c.loop-l.l (omega arith)).0 (from, below) in
    appended_more (from_row a.dims a.old a.new a.k a.to) (from_row-append a.dims a.old a.new a.k a.to) a.found.now.items c.loop-l.found.items _ c.loop-l.l c.loop-l.invariant (c.in_ok-push.ensures.items ∙ ap (λ y. c.loop-l.found.items ++ y ∷ []) c.between.ensures ∙ ap (λ ys. c.loop-l.found.items ++ ys) (sym (from_row-one a.dims a.old a.new a.k a.to c.loop-l.l c.requires.overlapping meets)))

pub returns : goal.returns
returns c =
    let a = c.args in
    let v = c.parts_overlapping-overlapping.result in
    let exactly = subst (λ (w : Interval). AreOverlapping a.dims.cols a.old.c w v) c.part-cols.ensures.part c.parts_overlapping-overlapping.ensures.exactly in
    let last : c.loop-l.l ≡ v.first + v.len = omega arith in
    c.loop-l.invariant ∙ ap (λ ys. a.found.now.items ++ ys) (ap (λ n. from_row a.dims a.old a.new a.k a.to (range_with_len 0 n)) last ∙ sym (from_row-after a.dims a.old a.new a.k a.to v exactly c.parts_overlapping-overlapping.ensures.in_parts))
