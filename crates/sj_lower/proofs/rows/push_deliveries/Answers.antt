use Rattle.sj_lower.proofs.Words.{a_delivery, ap, arith, child, children_of, Delivery, length, place_of, Rect, rules, sym, ℕ, ◌+◌, ◌∙◌, ◌≡◌}
use Rattle.sj_lower.proofs.{Children.all-pushed, Children.child-pushed, Children.length-children, Children.rect-at, Places.number-place_at, Places.place_at}
use Rattle.sj_lower.proofs.rows.push_deliveries.Goals as goal

pub bounds-items-k : goal.bounds-items-k
bounds-items-k c =
    let listed : c.items.result.now ≡ children_of c.args.dims c.args.parts = search rules in
    omega (arith, c.loop-k-test.true, ap length listed, length-children c.args.dims c.args.parts)

pub loop-k-preserved : goal.loop-k-preserved
loop-k-preserved c =
    let p = c.args.parts in
    let k = c.loop-k.k in
    let listed : c.items.result.now ≡ children_of c.args.dims p = search rules in
    let mk : ℕ → Rect → Delivery = λ n r. record { task = record { 0 = c.args.task + n }; root = c.args.root; place = place_of r; print = c.args.print } in
    child-pushed (a_delivery c.args.task c.args.root c.args.dims p c.args.print) p c.args.deliveries.now.items c.loop-k.deliveries.items _ _ k c.loop-k.invariant c.in_ok-push.ensures.items
    (ap (mk k) (rect-at c.args.dims p c.items.result.now k _ listed c.loop-k-test.true) ∙ ap (λ n. mk n (child c.args.dims p (place_at p k))) (sym (number-place_at p k)))

pub returns : goal.returns
returns c =
    all-pushed (a_delivery c.args.task c.args.root c.args.dims c.args.parts c.args.print) c.args.parts c.args.deliveries.now.items c.loop-k.deliveries.items c.loop-k.k (omega (arith, c.loop-k.auto.k-end, c.loop-k-test.false)) c.loop-k.invariant
