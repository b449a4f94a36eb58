use Rattle.std.proofs.Common.{rules, ◌≡◌, [], ◌∷◌, ◌++◌, map, ap, ◌∙◌, codes, decimal, w32, w64, to_z, of_z, FitsSigned}
use Rattle.std.proofs.lemmas.Int.{to_z-of_z}
use Rattle.sj_trace.specs.Text.{word}
use Rattle.sj_show.specs.Program.{access_word}
use Rattle.sj_show.specs.Words.{codelet_name, integer_word, spaced, word_with}
use Rattle.sj_show.proofs.Lines.{line-written, task-written}
use Rattle.sj_show.proofs.program.write_task.Goals as goal

pub returns : goal.returns
returns c =
    let old = c.args.text.now.items in
    let task = c.args.task.now in
    let name = codelet_name task.codelet in
    let ws = word (codes "t") c.args.number ∷ codes "line" ∷ decimal task.line.0 ∷ codes "prio" ∷ integer_word task.priority ∷ word_with name task.args ∷ [] in
    let called = c.in_ok-write_codelet.ensures ∙ ap (λ zs. c.push.new.self.items ++ word_with name zs) c.items.ensures in
    let p = task.priority in
    let fits : FitsSigned w32 p = search rules in
    let fits_wide : FitsSigned w64 p = search rules in
    let narrow : to_z w32 (of_z w32 p) ≡ p = to_z-of_z _ _ fits in
    let same : to_z w64 (of_z w64 (to_z w32 (of_z w32 p))) ≡ p = ap (λ z. to_z w64 (of_z w64 z)) narrow ∙ to_z-of_z _ _ fits_wide in
    let urgent = c.in_ok-write_integer.ensures ∙ ap (λ z. c.extend_from_slice.new.self.items ++ integer_word z) same in
    let start = task-written old (decimal c.args.number) (decimal task.line.0) (integer_word task.priority) (word_with name task.args) _ _ _ _ _ _
    c.in_ok-write_numbered.ensures c.in_ok-write_numbered-2.ensures c.in_ok-extend_from_slice.ensures.items urgent c.in_ok-push.ensures.items called in
    let accessed = c.in_ok-write_accesses.ensures ∙ ap (λ xs. c.write_codelet.new.text.items ++ spaced (map access_word xs)) c.items-2.ensures in
    line-written old (codes "task") c.write_codelet.new.text.items c.push-2.new.self.items ws (map access_word task.accesses) start
    (c.in_ok-push-2.ensures.items ∙ ap (λ t. t ++ 10 ∷ []) accessed)
