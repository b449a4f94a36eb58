use Rattle.std.proofs.Common.{◌++◌, ap, ◌∙◌, codes, drop, set}
use Rattle.sj_trace.specs.Text.{word}
use Rattle.sj_trace.proofs.Writing.{end-written, two-words}
use Rattle.sj_trace.proofs.text.write_drop.Goals as goal

pub returns : goal.returns
returns c =
    let node = c.write_word-start in
    let cell = c.write_word-start-2 in
    let line = c.args.line.now in
    c.write_verb.ensures.written ∙ ap (λ l. codes "drop" ++ l)
    (two-words (word (codes "c") c.args.c.0) (word (codes "n") c.args.n.0) (drop cell.result cell.new.line) (drop node.result node.new.line) (drop 47 (set line 47 10))
    (end-written line c.told-line) node.ensures.written cell.ensures.written)
