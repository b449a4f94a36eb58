use Rattle.std.proofs.Common.{◌≡◌, ◌∙◌, ap, sym, subst, true}
use Rattle.std.specs.List.{list_all}
use Rattle.std.proofs.lemmas.Result.{IfErr-weaker}
use Rattle.sj_job.specs.declared.form.Form.TheVariants as form
use Rattle.sj_job.specs.Names.{scope_in}
use Rattle.sj_job.specs.Reason.{Objects}
use Rattle.sj_job.specs.Sentence.{are_counts, is_numbered_priority, is_numbered_task}
use Rattle.sj_job.specs.Word.{is_integer}
use Rattle.sj_job.proofs.Submitting.{all_numbered, done_whole, weaker_ok}
use Rattle.sj_job.proofs.submit.task_line_of.Goals as goal

pub returns-clause-numbered : goal.returns-clause-numbered
returns-clause-numbered g c =
    let t = c.args.form.now in
    let indexes = rw c.in-Some.is at c.in_ok-indexes.ensures in
    let counted = ap (list_all (λ o. are_counts o.child)) (sym c.items.ensures) ∙ indexes.0 in
    let numbered : is_numbered_task t ≡ true = all_numbered (list_all is_integer t.args) (list_all (λ o. are_counts o.child) t.operands) (is_numbered_priority t.priority) c.requires.integers counted c.requires.number in
    weaker_ok c.judge_task.result (λ task _. numbered) c.judge_task.ensures.ok

pub returns-clause-err : goal.returns-clause-err
returns-clause-err g c =
    let t = c.args.form.now in
    let indexes = rw c.in-Some.is at c.in_ok-indexes.ensures in
    let counted = ap (list_all (λ o. are_counts o.child)) (sym c.items.ensures) ∙ indexes.0 in
    let numbered : is_numbered_task t ≡ true = all_numbered (list_all is_integer t.args) (list_all (λ o. are_counts o.child) t.operands) (is_numbered_priority t.priority) c.requires.integers counted c.requires.number in
    IfErr-weaker c.judge_task.result _ _ (λ e h. subst (λ r. Objects e r) (sym (done_whole g.C.Codelets.has (scope_in c.args.names.now) (form.Task t) numbered)) h) c.judge_task.ensures.err
