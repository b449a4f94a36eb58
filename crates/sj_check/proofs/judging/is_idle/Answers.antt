use Rattle.sj_check.proofs.Words.{ap, is_task_of, not, sym, ◌∙◌}
use Rattle.sj_check.proofs.Tasks.{last-tells, never-claimed}
use Rattle.sj_check.proofs.judging.is_idle.Goals as goal

pub returns-in-Some : goal.returns-in-Some
returns-in-Some c =
    let r = c.args.rows.now in
    ap not (c.is_task_of.ensures ∙ ap (is_task_of c.args.w) c.progress_of.ensures) ∙ sym (last-tells r.program r.state c.args.tasks.now c.requires c.args.w c.in-Some.t (sym c.last_task.ensures ∙ c.in-Some.is))

pub returns-in-None : goal.returns-in-None
returns-in-None c =
    let r = c.args.rows.now in
    sym (never-claimed r.program r.state c.args.tasks.now c.requires c.args.w (sym c.last_task.ensures ∙ c.in-None.is))
