use Rattle.std.proofs.Common.{[], ◌∷◌, ◌++◌, ap, ◌∙◌, codes, decimal}
use Rattle.sj_trace.specs.Text.{word}
use Rattle.sj_show.specs.Program.{copies_words}
use Rattle.sj_show.proofs.Lines.{cell-written, line-written}
use Rattle.sj_show.proofs.program.write_cell.Goals as goal

pub returns : goal.returns
returns c =
    let old = c.args.text.now.items in
    let cell = c.args.cell.now in
    let ws = word (codes "c") c.args.number ∷ word (codes "r") cell.root.0 ∷ decimal cell.dims.rows ∷ decimal cell.dims.cols ∷ [] in
    let start = cell-written old (decimal c.args.number) (decimal cell.root.0) (decimal cell.dims.rows) (decimal cell.dims.cols) _ _ _ _
    c.in_ok-write_numbered.ensures c.in_ok-write_numbered-2.ensures c.in_ok-write_numbered-3.ensures c.in_ok-write_numbered-4.ensures in
    line-written old (codes "cell") c.write_numbered-4.new.text.items c.push.new.self.items ws (copies_words cell.partials) start
    (c.in_ok-push.ensures.items ∙ ap (λ t. t ++ 10 ∷ []) c.in_ok-write_copies.ensures)
