use Rattle.std.proofs.Common.{◌++◌, ap, ◌∙◌, codes, drop, set}
use Rattle.sj_trace.specs.Text.{word}
use Rattle.sj_trace.proofs.Writing.{end-written, two-words}
use Rattle.sj_trace.proofs.text.write_task.Goals as goal

pub returns : goal.returns
returns c =
    let worker = c.write_word-start in
    let task = c.write_word-start-2 in
    let line = c.args.line.now in
    c.write_verb.ensures.written ∙ ap (λ l. c.args.verb.now ++ l)
    (two-words (word (codes "t") c.args.t.0) (word (codes "w") c.args.w.0) (drop task.result task.new.line) (drop worker.result worker.new.line) (drop 47 (set line 47 10))
    (end-written line c.told-line) worker.ensures.written task.ensures.written)
