use Rattle.sj_check.proofs.Words.{Claimed, progress, Some, subst, sym, Task, ◌∙◌, ◌≡◌}
use Rattle.std.proofs.lemmas.{Bool.false≢true, Option.none-some}
use Rattle.sj_check.proofs.Legality.{comes-for}
use Rattle.sj_check.proofs.judging.may_move_in.Goals as goal

pub may_bring-requires-clause-claimed : goal.may_bring-requires-clause-claimed
may_bring-requires-clause-claimed c =
    let r = c.args.rows.now in
    let own = comes-for r.program r.machine r.state c.is_sound.ensures.coherent c.args.tasks.now c.requires.tasks c.args.cell c.args.n c.in-Coming.w (sym c.mark.ensures ∙ c.in-Coming.is) in
    subst (λ (u : Task). progress r.state u ≡ Claimed c.in-Coming.w) (let both : Some own.0 ≡ Some c.in-Some.t = sym own.1 ∙ sym c.last_task.ensures ∙ c.in-Some.is in cc) own.2

pub returns-in-None : goal.returns-in-None
returns-in-None c =
    let r = c.args.rows.now in
    let own = comes-for r.program r.machine r.state c.is_sound.ensures.coherent c.args.tasks.now c.requires.tasks c.args.cell c.args.n c.in-Coming.w (sym c.mark.ensures ∙ c.in-Coming.is) in
    (λ h. absurd (false≢true h), λ can. absurd (none-some own.0 (sym c.in-None.is ∙ c.last_task.ensures ∙ own.1)))
