use Rattle.std.proofs.Common.{◌↔◌, ◌++◌, [], ◌∙◌, List, ap, subst, arith}
use Rattle.std.specs.List.{All, Any}
use Rattle.sj_plan.specs.declared.paste.Paste.{Paste}
use Rattle.sj_plan.specs.Rect.{Overlap, child}
use Rattle.sj_plan.specs.Paste.{BeginEachOnce, IsPasteBetween, Joins, Repartition}
use Rattle.sj_plan.proofs.Lists.{appended_more}
use Rattle.sj_plan.proofs.Overlapping.{all_rows, to_rows, to_rows-append, to_rows-one}
use Rattle.sj_plan.proofs.Repartitioning.{pastes_of-begin, pastes_of-between, pastes_of-exactly, pastes_of-repartition}
use Rattle.sj_plan.proofs.paste.pastes.Goals as goal

pub loop-i-preserved : goal.loop-i-preserved
loop-i-preserved c =
    let a = c.args in
    appended_more (to_rows a.dims a.old a.new) (to_rows-append a.dims a.old a.new) [] c.loop-i.found.items _ c.loop-i.i c.loop-i.invariant (c.in_ok-push_to_row.ensures ∙ ap (λ ys. c.loop-i.found.items ++ ys) (to_rows-one a.dims a.old a.new c.loop-i.i))

pub returns-clause-repartition : goal.returns-clause-repartition
returns-clause-repartition c =
    let a = c.args in
    let all = all_rows a.dims a.old a.new c.of.result c.loop-i.found.items c.loop-i.i c.of.ensures c.loop-i.invariant (omega arith) in
    subst (λ (ps : List Paste). Repartition a.dims a.old a.new ps) all (pastes_of-repartition a.dims a.old a.new c.requires.old_plan c.requires.new_plan)

pub returns-clause-fit : goal.returns-clause-fit
returns-clause-fit c =
    let a = c.args in
    let all = all_rows a.dims a.old a.new c.of.result c.loop-i.found.items c.loop-i.i c.of.ensures c.loop-i.invariant (omega arith) in
    subst (λ (ps : List Paste). All (IsPasteBetween a.dims a.old a.new) ps) all (pastes_of-between a.dims a.old a.new)

pub returns-clause-exactly : goal.returns-clause-exactly
returns-clause-exactly c = λ from to in_old in_new.
    let a = c.args in
    let all = all_rows a.dims a.old a.new c.of.result c.loop-i.found.items c.loop-i.i c.of.ensures c.loop-i.invariant (omega arith) in
    subst (λ (ps : List Paste). Any (Joins from to) ps ↔ Overlap (child a.dims a.old from) (child a.dims a.new to)) all (pastes_of-exactly a.dims a.old a.new from to in_old in_new)

pub returns-clause-begin : goal.returns-clause-begin
returns-clause-begin c =
    let a = c.args in
    let all = all_rows a.dims a.old a.new c.of.result c.loop-i.found.items c.loop-i.i c.of.ensures c.loop-i.invariant (omega arith) in
    subst (λ (ps : List Paste). BeginEachOnce a.new ps) all (pastes_of-begin a.dims a.old a.new c.requires.old_plan c.requires.new_plan)
