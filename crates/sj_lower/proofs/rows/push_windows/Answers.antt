use Rattle.sj_lower.proofs.Words.{ap, arith, Cell, cells_from, child, children_of, length, load_row, Rect, rules, ℕ, ◌+◌, ◌∙◌, ◌≡◌}
use Rattle.sj_lower.proofs.{Children.all-pushed, Children.cell-at, Children.child-pushed, Children.length-children, Children.rect-at, Places.place_at}
use Rattle.sj_lower.proofs.rows.push_windows.Goals as goal

pub bounds-items-k : goal.bounds-items-k
bounds-items-k c =
    let listed : c.items.result.now ≡ children_of c.args.whole.now.dims c.args.placed.parts = search rules in
    omega (arith, c.loop-k-test.true, ap length listed, length-children c.args.whole.now.dims c.args.placed.parts)

pub loop-k-preserved : goal.loop-k-preserved
loop-k-preserved c =
    let p = c.args.placed.parts in
    let first = c.args.placed.first in
    let a = c.args.whole.now in
    let listed : c.items.result.now ≡ children_of a.dims p = search rules in
    let mk : ℕ → Cell = λ n. record { 0 = n } in
    child-pushed (λ (place : ℕ × ℕ). load_row a.elements a.dims (child a.dims p place) (cells_from first p place) c.args.line) p c.args.tasks.now.items c.loop-k.tasks.items _ _ c.loop-k.k c.loop-k.invariant c.in_ok-push.ensures.items
    (c.in_ok-load_row.ensures
    ∙ ap (λ (r : Rect). load_row a.elements a.dims r (mk (first + c.loop-k.k)) c.args.line) (rect-at a.dims p c.items.result.now c.loop-k.k _ listed c.loop-k-test.true)
    ∙ ap (λ (x : Cell). load_row a.elements a.dims (child a.dims p (place_at p c.loop-k.k)) x c.args.line) (cell-at first p c.loop-k.k))

pub returns : goal.returns
returns c =
    let p = c.args.placed.parts in
    let a = c.args.whole.now in
    all-pushed (λ (place : ℕ × ℕ). load_row a.elements a.dims (child a.dims p place) (cells_from c.args.placed.first p place) c.args.line) p c.args.tasks.now.items c.loop-k.tasks.items c.loop-k.k (omega (arith, c.loop-k.auto.k-end, c.loop-k-test.false)) c.loop-k.invariant
