use Rattle.std.proofs.Common.{◌++◌, ap, ◌∙◌, codes, drop, set}
use Rattle.sj_trace.specs.Text.{word, place_word}
use Rattle.sj_trace.proofs.Writing.{end-written, three-words}
use Rattle.sj_trace.proofs.text.write_move.Goals as goal

pub returns : goal.returns
returns c =
    let to = c.write_place-start in
    let from = c.write_place-start-2 in
    let cell = c.write_word-start in
    let line = c.args.line.now in
    c.write_verb.ensures.written ∙ ap (λ l. c.args.verb.now ++ l)
    (three-words (word (codes "c") c.args.c.0) (place_word c.args.from) (place_word c.args.to)
    (drop cell.result cell.new.line) (drop from.result from.new.line) (drop to.result to.new.line) (drop 47 (set line 47 10))
    (end-written line c.told-line) to.ensures.written from.ensures.written cell.ensures.written)
