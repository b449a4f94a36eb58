use Rattle.sj_lower.proofs.Words.{[], access, ap, Cell, codelet_of, Load, Lowered, rules, sym, task_by, W, ◌++◌, ◌∙◌, ◌∷◌, ◌≡◌}
use Rattle.sj_lower.proofs.Children.{one-load}
use Rattle.sj_lower.proofs.rows.push_loads.Goals as goal

pub returns-then-placed-eq1 : goal.returns-then-placed-eq1
returns-then-placed-eq1 c =
    let values : c.into_items-args.result.items ≡ c.args.values = search rules in
    let cell : Cell = record { 0 = c.args.placed.first } in
    c.in_ok-push.ensures.items
    ∙ ap (λ (t : Lowered). c.args.tasks.now.items ++ t ∷ []) (c.in_ok-task_on.ensures ∙ ap (λ zs. task_by (codelet_of Load) zs (access W cell ∷ []) c.args.line) values)
    ∙ ap (λ ts. c.args.tasks.now.items ++ ts) (sym (one-load c.args.values c.args.dims c.args.placed.parts c.args.placed.first c.args.line c.requires.plan c.if-placed-eq1.true c.requires.values))
