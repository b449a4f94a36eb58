use Rattle.std.proofs.Common.{◌-◌, length, take, drop, unwrap_or, ap, ◌∙◌, sym}
use Rattle.sj_job.proofs.Dividing.{words-none, next-word}
use Rattle.sj_job.proofs.line.next_word.Goals as goal

pub returns-in_err-start : goal.returns-in_err-start
returns-in_err-start c = rw c.from_residual.ensures (words-none c.args.line.now (sym c.in_err-start.was ∙ c.first_of_word.ensures))

pub returns : goal.returns
returns c =
    let line = c.args.line.now in
    let start = c.in_ok-start.start in
    let rest = take (length line - start) (drop start line) in
    next-word line start c.unwrap_or-end.result (sym c.in_ok-start.was ∙ c.first_of_word.ensures)
    (c.unwrap_or-end.ensures ∙ ap (λ o. unwrap_or o (length rest)) c.first_blank.ensures)
