use Rattle.std.proofs.Common.{◌≡◌, ◌+◌, ◌++◌, ◌∙◌, sym, ap, subst, arith}
use Rattle.std.specs.List.{range_with_len}
use Rattle.std.proofs.lemmas.List.{append-nil}
use Rattle.sj_plan.specs.declared.interval.Interval.{Interval}
use Rattle.sj_plan.proofs.Lists.{appended_more}
use Rattle.sj_plan.proofs.Overlapping.{AreOverlapping, from_rows, from_rows-append, from_rows-one, from_rows-before, from_rows-after}
use Rattle.sj_plan.proofs.paste.push_to.Goals as goal

pub loop-k-init : goal.loop-k-init
loop-k-init c =
    let a = c.args in
    let exactly = subst (λ (w : Interval). AreOverlapping a.dims.rows a.old.r w c.parts_overlapping-overlapping.result) c.part-rows.ensures.part c.parts_overlapping-overlapping.ensures.exactly in
    sym (ap (λ ys. a.found.now.items ++ ys) (from_rows-before a.dims a.old a.new a.to c.parts_overlapping-overlapping.result exactly c.parts_overlapping-overlapping.ensures.in_parts) ∙ append-nil a.found.now.items)

pub loop-k-preserved : goal.loop-k-preserved
loop-k-preserved c =
    let a = c.args in
    appended_more (from_rows a.dims a.old a.new a.to) (from_rows-append a.dims a.old a.new a.to) a.found.now.items c.loop-k.found.items _ c.loop-k.k c.loop-k.invariant (c.in_ok-push_between.ensures ∙ ap (λ ys. c.loop-k.found.items ++ ys) (sym (from_rows-one a.dims a.old a.new a.to c.loop-k.k)))

pub returns : goal.returns
returns c =
    let a = c.args in
    let v = c.parts_overlapping-overlapping.result in
    let exactly = subst (λ (w : Interval). AreOverlapping a.dims.rows a.old.r w v) c.part-rows.ensures.part c.parts_overlapping-overlapping.ensures.exactly in
    let last : c.loop-k.k ≡ v.first + v.len = omega arith in
    c.loop-k.invariant ∙ ap (λ ys. a.found.now.items ++ ys) (ap (λ n. from_rows a.dims a.old a.new a.to (range_with_len 0 n)) last ∙ sym (from_rows-after a.dims a.old a.new a.to v exactly c.parts_overlapping-overlapping.ensures.in_parts))
