use Rattle.std.proofs.Common.{List, arith, subst}
use Rattle.sj_plan.specs.declared.rect.Rect.{Rect}
use Rattle.sj_plan.specs.Pieces.{AreInOrder, IsTiling}
use Rattle.sj_plan.specs.Window.{Reassemble}
use Rattle.sj_plan.specs.Rect.{child, children_of}
use Rattle.sj_plan.proofs.Lists.{grid_more}
use Rattle.sj_plan.proofs.Gathering.{tiling-reassembles}
use Rattle.sj_plan.proofs.Tiling.{all_children, children_of-tiling, children_of-order}
use Rattle.sj_plan.proofs.children.children.Goals as goal

pub loop-i-preserved : goal.loop-i-preserved
loop-i-preserved c =
    grid_more (child c.args.dims c.args.parts) c.args.parts.c c.loop-i.i c.loop-i.rects.items _ c.loop-i.invariant c.in_ok-push_row.ensures

pub returns-clause-tile : goal.returns-clause-tile
returns-clause-tile c =
    let all = all_children c.args.dims c.args.parts c.of.result c.loop-i.rects.items c.loop-i.i c.of.ensures c.loop-i.invariant (omega arith) in
    subst (λ (rects : List Rect). IsTiling c.args.dims rects) all (children_of-tiling c.args.dims c.args.parts c.requires.plan)

pub returns-clause-reassemble : goal.returns-clause-reassemble
returns-clause-reassemble c =
    let all = all_children c.args.dims c.args.parts c.of.result c.loop-i.rects.items c.loop-i.i c.of.ensures c.loop-i.invariant (omega arith) in
    subst (λ (rects : List Rect). Reassemble c.args.dims rects) all (tiling-reassembles c.args.dims (children_of c.args.dims c.args.parts) (children_of-tiling c.args.dims c.args.parts c.requires.plan))

pub returns-clause-order : goal.returns-clause-order
returns-clause-order c =
    let all = all_children c.args.dims c.args.parts c.of.result c.loop-i.rects.items c.loop-i.i c.of.ensures c.loop-i.invariant (omega arith) in
    subst AreInOrder all (children_of-order c.args.dims c.args.parts)
