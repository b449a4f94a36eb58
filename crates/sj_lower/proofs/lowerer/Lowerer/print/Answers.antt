use Rattle.sj_lower.proofs.Words.{a_delivery, Active, active_at, ap, arith, cells_from, children_count, deliver_row, Dims, Fits, IsSmallPlan, length, length-append, map, most, Parts, places, refl, RootInfo, subst, sym, ℕ, ◌++◌, ◌+◌, ◌∙◌, ◌≡◌, ◌≤◌}
use Rattle.sj_lower.proofs.{Following.at-default, Following.does-print, Following.fits-plan, Following.many-delivered, Following.print-known, Places.length-places}
use Rattle.sj_lower.proofs.lowerer.Lowerer.print.Goals as goal

pub overflow_cast-task : goal.overflow_cast-task
overflow_cast-task c = omega (arith, c.len-task.ensures, c.requires.few c.requires.next.state c.requires.next.lowering c.requires.next.lowering.cells c.requires.next.next)

pub push_delivers-requires-clause-plan : goal.push_delivers-requires-clause-plan
push_delivers-requires-clause-plan c =
    let n = c.requires.next in
    let k = print-known c.args.roots.now c.args.self.now n.state n.lowering c.args.root n.next in
    let l = c.args.self.now in
    let is : c.index.result.now ≡ active_at l.actives.items c.args.root.0 = c.index.ensures ∙ at-default l.actives.items c.args.root.0 c.index.result.now (omega (arith, n.next.placed, n.next.follows.actives.counted)) in
    subst IsSmallPlan (sym (c.placed-placed.ensures.parts ∙ ap (λ (a : Active). a.tracked.parts) is ∙ k.active.tracks.parts)) (fits-plan k.root.parts k.root.dims k.active.tracks.fits)

pub push_delivers-requires-clause-cells : goal.push_delivers-requires-clause-cells
push_delivers-requires-clause-cells c =
    let n = c.requires.next in
    let l = c.args.self.now in
    let k = print-known c.args.roots.now l n.state n.lowering c.args.root n.next in
    let is : c.index.result.now ≡ active_at l.actives.items c.args.root.0 = c.index.ensures ∙ at-default l.actives.items c.args.root.0 c.index.result.now (omega (arith, n.next.placed, n.next.follows.actives.counted)) in
    let first = c.placed-placed.ensures.first ∙ ap (λ (a : Active). a.first) is in
    let parts = c.placed-placed.ensures.parts ∙ ap (λ (a : Active). a.tracked.parts) is ∙ k.active.tracks.parts in
    subst (λ (p : Parts). c.placed-placed.result.first + children_count p ≤ most) (sym parts) (omega (arith, first, k.active.room))

pub push_deliveries-requires-clause-plan : goal.push_deliveries-requires-clause-plan
push_deliveries-requires-clause-plan c =
    let n = c.requires.next in
    let l = c.args.self.now in
    let k = print-known c.args.roots.now l n.state n.lowering c.args.root n.next in
    let is : c.index.result.now ≡ active_at l.actives.items c.args.root.0 = c.index.ensures ∙ at-default l.actives.items c.args.root.0 c.index.result.now (omega (arith, n.next.placed, n.next.follows.actives.counted)) in
    let parts = c.placed-placed.ensures.parts ∙ ap (λ (a : Active). a.tracked.parts) is ∙ k.active.tracks.parts in
    subst (λ (p : Parts). Fits p c.info.result.dims) (sym parts) (subst (λ (d : Dims). Fits k.root.parts d) (k.active.dims ∙ ap (λ (x : RootInfo). x.dims) (sym c.info.ensures)) k.active.tracks.fits)

pub push_deliveries-requires-clause-tasks : goal.push_deliveries-requires-clause-tasks
push_deliveries-requires-clause-tasks c =
    let n = c.requires.next in
    let l = c.args.self.now in
    let is : c.index.result.now ≡ active_at l.actives.items c.args.root.0 = c.index.ensures ∙ at-default l.actives.items c.args.root.0 c.index.result.now (omega (arith, n.next.placed, n.next.follows.actives.counted)) in
    let parts = c.placed-placed.ensures.parts ∙ ap (λ (a : Active). a.tracked.parts) is in
    omega (arith, c.len-task.ensures, c.requires.few n.state n.lowering n.lowering.cells n.next, many-delivered c.args.roots.now l n.state n.lowering c.args.root c.args.line n.next, ap children_count parts)

pub overflow_add-self : goal.overflow_add-self
overflow_add-self c = omega (arith, c.requires.prints, c.requires.few c.requires.next.state c.requires.next.lowering c.requires.next.lowering.cells c.requires.next.next)

pub returns-clause-does : goal.returns-clause-does
returns-clause-does c =
    let n = c.requires.next in
    let l = c.args.self.now in
    let is : c.index.result.now ≡ active_at l.actives.items c.args.root.0 = c.index.ensures ∙ at-default l.actives.items c.args.root.0 c.index.result.now (omega (arith, n.next.placed, n.next.follows.actives.counted)) in
    let first = c.placed-placed.ensures.first ∙ ap (λ (a : Active). a.first) is in
    let parts = c.placed-placed.ensures.parts ∙ ap (λ (a : Active). a.tracked.parts) is in
    let number : c.len-task.result ≡ length l.tasks.items = omega (arith, c.len-task.ensures, l.tasks.ok) in
    does-print c.args.roots.now l _ c.args.root c.args.line
    (c.in_ok-push_delivers.ensures ∙ (λ k. l.tasks.items ++ map (λ place. deliver_row (cells_from (first k) (parts k) place) c.args.line) (places (parts k))))
    (c.in_ok-push_deliveries.ensures ∙ (λ k. l.deliveries.items ++ map (a_delivery (number k) c.args.root (c.info.ensures k).dims (parts k) l.prints) (places (parts k)))) refl refl refl

pub returns-clause-prints : goal.returns-clause-prints
returns-clause-prints c =
    let P = c.placed-placed.result in
    let n = c.requires.next in
    let l = c.args.self.now in
    let k = print-known c.args.roots.now l n.state n.lowering c.args.root n.next in
    let is : c.index.result.now ≡ active_at l.actives.items c.args.root.0 = c.index.ensures ∙ at-default l.actives.items c.args.root.0 c.index.result.now (omega (arith, n.next.placed, n.next.follows.actives.counted)) in
    let plan = subst IsSmallPlan (sym (c.placed-placed.ensures.parts ∙ ap (λ (a : Active). a.tracked.parts) is ∙ k.active.tracks.parts)) (fits-plan k.root.parts k.root.dims k.active.tracks.fits) in
    let row = λ (place : ℕ × ℕ). deliver_row (cells_from P.first P.parts place) c.args.line in
    omega (arith, c.requires.prints, c.args.self.now.tasks.ok, c.push_delivers.new.tasks.ok, ap length c.in_ok-push_delivers.ensures, length-append c.args.self.now.tasks.items (map row (places P.parts)), length-places row P.parts, plan.some)
