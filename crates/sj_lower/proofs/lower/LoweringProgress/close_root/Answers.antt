use Rattle.sj_lower.proofs.Words.{active_at, all_closed, arith, Cell, cells_by, cells_from, List, Prepares, subst, ◌+◌}
use Rattle.sj_lower.proofs.{Children.cell-at, Children.first_children, Preparing.has-at, Preparing.is-over, Preparing.none-over, Steps.active-is, Steps.cells-are-by, Steps.child-more, Steps.closes-more, Steps.empty-closes, Steps.over-closes}
use Rattle.sj_lower.proofs.lower.LoweringProgress.close_root.Goals as goal

pub returns-then-is_some : goal.returns-then-is_some
returns-then-is_some c = over-closes c.args.self.now c.args.line (cells_by (active_at c.args.self.now.lowerer.actives.items c.args.root.0)) (is-over c.args.self.now.over c.is_some.result c.is_some.ensures c.if-is_some.true)

pub returns-then-is_empty : goal.returns-then-is_empty
returns-then-is_empty c = empty-closes c.args.self.now c.args.line (cells_by (active_at c.args.self.now.lowerer.actives.items c.args.root.0)) (none-over c.args.self.now.over c.is_some.result c.is_some.ensures c.if-is_some.false) (c.is_empty.ensures.0 c.if-is_empty.true)

pub close-requires : goal.close-requires
close-requires c = record { at = has-at c.args.self.now c.loop-k.self c.args.line (all_closed c.args.self.now.workers (first_children (cells_from c.placed-placed.result.first c.placed-placed.result.parts) c.placed-placed.result.parts c.loop-k.k)) c.loop-k.invariant c.requires.at }

pub loop-k-preserved : goal.loop-k-preserved
loop-k-preserved c =
    let p = c.placed-placed.result.parts in
    let f = cells_from c.placed-placed.result.first p in
    closes-more c.args.self.now c.loop-k.self c.close.new.self c.args.line (first_children f p c.loop-k.k) (first_children f p (c.loop-k.k + 1)) _ (child-more f p c.loop-k.k _ (cell-at c.placed-placed.result.first p c.loop-k.k)) c.loop-k.invariant c.in_ok-close.ensures

pub returns : goal.returns
returns c =
    let g = c.args.self.now in
    let a = c.index.result.now in
    let is = active-is g c.args.root.0 a c.requires.root c.index.ensures in
    subst (λ (cs : List Cell). Prepares g c.loop-k.self c.args.line (all_closed g.workers cs))
    (cells-are-by a (active_at g.lowerer.actives.items c.args.root.0) c.placed-placed.result.first c.placed-placed.result.parts c.loop-k.k is c.placed-placed.ensures.parts c.placed-placed.ensures.first (omega (arith, c.loop-k.auto.k-end, c.loop-k-test.false)))
    c.loop-k.invariant
