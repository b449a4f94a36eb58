use Rattle.std.proofs.Common.{◌≡◌, ◌∙◌, ap, arith}
use Rattle.sj_base.specs.Array.{Array, element}
use Rattle.sj_plan.specs.Window.{window}
use Rattle.sj_base.proofs.Pasting.{pasted_none}
use Rattle.sj_plan.specs.Rect.{rect_dims, place_of}
use Rattle.sj_plan.proofs.Windows.{gathered_more, written_back, window-with_window, element-with_window, written-outside}
use Rattle.sj_plan.proofs.tiles.gather.Goals as goal

pub loop-k-init : goal.loop-k-init
loop-k-init c =
    c.elements_mut-elements.ensures.elements ∙ pasted_none c.args.child.now (0, 0) (rect_dims c.args.rect) c.args.into.now (place_of c.args.rect) c.dims-across.ensures.whole

pub loop-k-preserved : goal.loop-k-preserved
loop-k-preserved c =
    gathered_more c.args.into.now c.args.rect c.args.child.now c.loop-k.k c.loop-k.elements c.copy_from_slice.new.self c.dims-across.result c.elements-from.result.now c.requires.within c.elements-from.ensures.whole c.requires.dims c.dims-across.ensures.dims c.elements-from.ensures.elements c.loop-k-test.true c.loop-k.invariant c.copy_from_slice.ensures.after

pub returns-clause-child_there : goal.returns-clause-child_there
returns-clause-child_there c =
    let a = c.args.into.now in
    let r = c.args.rect in
    let b = c.args.child.now in
    let last : c.loop-k.k ≡ r.rows = omega arith in
    ap (λ (x : Array). window x r) (written_back a r b c.loop-k.elements c.loop-k.k c.dims-across.ensures.whole last c.loop-k.invariant) ∙ window-with_window a r b c.requires.within c.elements-from.ensures.whole c.requires.dims

pub returns-clause-others_stay : goal.returns-clause-others_stay
returns-clause-others_stay c = λ i j in_rows in_cols outside.
    let a = c.args.into.now in
    let r = c.args.rect in
    let b = c.args.child.now in
    let last : c.loop-k.k ≡ r.rows = omega arith in
    ap (λ (x : Array). element x i j) (written_back a r b c.loop-k.elements c.loop-k.k c.dims-across.ensures.whole last c.loop-k.invariant) ∙ element-with_window a r b i j in_rows in_cols ∙ written-outside a r b i j outside
