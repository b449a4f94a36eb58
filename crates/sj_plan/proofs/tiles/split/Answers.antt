use Rattle.std.proofs.Common.{◌≡◌, ◌+◌, ◌*◌, ◌∙◌, length, ap, arith}
use Rattle.sj_base.specs.Array.{Array, element}
use Rattle.sj_plan.proofs.Windows.{window_more, window_all, element-window, length-rows}
use Rattle.sj_plan.proofs.tiles.split.Goals as goal

pub loop-i-preserved : goal.loop-i-preserved
loop-i-preserved c =
    window_more c.args.tile.now c.args.rect c.loop-i.i c.loop-i.taken.items _ c.dims-dims.result c.elements-elements.result.now c.requires c.elements-elements.ensures.whole c.dims-dims.ensures.dims c.elements-elements.ensures.elements c.loop-i-test.true c.loop-i.invariant c.in_ok-extend_from_slice.ensures.items

pub of-requires : goal.of-requires
of-requires c =
    let a = c.args.tile.now in
    let r = c.args.rect in
    let last : c.loop-i.i ≡ r.rows = omega arith in
    ap length c.loop-i.invariant ∙ length-rows (λ i j. element a (r.row + i) (r.col + j)) r.cols 0 c.loop-i.i ∙ ap (λ n. n * r.cols) last

pub returns-clause-elements : goal.returns-clause-elements
returns-clause-elements c = λ i j in_rows in_cols.
    let last : c.loop-i.i ≡ c.args.rect.rows = omega arith in
    ap (λ (x : Array). element x i j) (c.of.ensures ∙ window_all c.args.tile.now c.args.rect c.loop-i.i c.loop-i.taken.items last c.loop-i.invariant) ∙ element-window c.args.tile.now c.args.rect i j in_rows in_cols

pub returns-clause-window : goal.returns-clause-window
returns-clause-window c =
    let last : c.loop-i.i ≡ c.args.rect.rows = omega arith in
    c.of.ensures ∙ window_all c.args.tile.now c.args.rect c.loop-i.i c.loop-i.taken.items last c.loop-i.invariant
