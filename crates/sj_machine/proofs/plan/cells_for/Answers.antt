use Rattle.sj_machine.proofs.Words.{Access, All, ap, CanWorkOn, length, List, subst, sym, worked_among, ◌∙◌, ◌≤◌}
use Rattle.sj_machine.proofs.plan.cells_for.Goals as goal

pub worked_cells-requires-clause-can : goal.worked_cells-requires-clause-can
worked_cells-requires-clause-can c = subst (λ (xs : List Access). All (CanWorkOn c.args.program.now c.args.w) xs) (sym c.accesses_of.ensures) c.requires.can

pub worked_cells-requires-clause-few : goal.worked_cells-requires-clause-few
worked_cells-requires-clause-few c = subst (λ (xs : List Access). length xs ≤ 5) (sym c.accesses_of.ensures) c.requires.task.few

pub returns : goal.returns
returns c = c.worked_cells.ensures ∙ ap (worked_among c.args.program.now c.args.w) c.accesses_of.ensures
