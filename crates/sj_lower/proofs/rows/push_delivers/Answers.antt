use Rattle.sj_lower.proofs.Words.{ap, arith, Cell, cells_from, deliver_row, ℕ, ◌∙◌}
use Rattle.sj_lower.proofs.Children.{child-pushed, all-pushed, cell-at}
use Rattle.sj_lower.proofs.rows.push_delivers.Goals as goal

pub loop-k-preserved : goal.loop-k-preserved
loop-k-preserved c =
    let p = c.args.placed.parts in
    let first = c.args.placed.first in
    child-pushed (λ (place : ℕ × ℕ). deliver_row (cells_from first p place) c.args.line) p c.args.tasks.now.items c.loop-k.tasks.items _ _ c.loop-k.k c.loop-k.invariant c.in_ok-push.ensures.items
    (c.in_ok-deliver_row.ensures ∙ ap (λ (x : Cell). deliver_row x c.args.line) (cell-at first p c.loop-k.k))

pub returns : goal.returns
returns c =
    let p = c.args.placed.parts in
    all-pushed (λ (place : ℕ × ℕ). deliver_row (cells_from c.args.placed.first p place) c.args.line) p c.args.tasks.now.items c.loop-k.tasks.items c.loop-k.k (omega (arith, c.loop-k.auto.k-end, c.loop-k-test.false)) c.loop-k.invariant
