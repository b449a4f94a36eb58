use Rattle.std.proofs.Common.{rules, ◌≡◌, ◌++◌, ◌∙◌, ap, map, w32, to_z, of_z, FitsSigned}
use Rattle.std.proofs.lemmas.Int.{to_z-of_z}
use Rattle.sj_job.specs.Grammar.{operand_word, priority_words}
use Rattle.sj_meaning.specs.View.{operand_seen}
use Rattle.sj_codelet.specs.Kernel.{codelet_of}
use Rattle.sj_show.specs.Words.{codelet_name, spaced, word_with}
use Rattle.sj_text.specs.Forms.{operand_form, priority_form}
use Rattle.sj_text.proofs.Words.{task-told}
use Rattle.sj_text.proofs.task.write_task.Goals as goal

pub returns : goal.returns
returns c = λ active a.
    let task = c.args.task.now in
    let roots = c.args.roots.now in
    let called = c.in_ok-write_codelet.ensures ∙ ap (λ id. c.extend_from_slice.new.self.items ++ word_with (codelet_name id) c.items.result.now) c.id.ensures.id
    ∙ ap (λ zs. c.extend_from_slice.new.self.items ++ word_with (codelet_name (codelet_of task.kernel)) zs) c.items.ensures in
    let operated = c.in_ok-write_operands.ensures active a ∙ ap (λ os. c.write_codelet.new.text.items ++ spaced (map operand_word (map (operand_form active) (map (operand_seen roots) os)))) c.items-2.ensures in
    let fits : FitsSigned w32 task.priority = search rules in
    let same : to_z w32 (of_z w32 task.priority) ≡ task.priority = to_z-of_z _ _ fits in
    let urged = c.in_ok-write_priority.ensures ∙ ap (λ z. c.write_operands.new.text.items ++ spaced (priority_words (priority_form z))) same in
    task-told c.args.text.now.items (word_with (codelet_name (codelet_of task.kernel)) task.args) _ _ _ _ _
    (map operand_word (map (operand_form active) (map (operand_seen roots) task.operands))) (priority_words (priority_form task.priority))
    c.in_ok-extend_from_slice.ensures.items called operated urged c.in_ok-push.ensures.items
