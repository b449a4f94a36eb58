use Rattle.std.proofs.Common.{◌≡◌, ◌*◌, ◌+◌, ◌-◌, take, drop, ap, arith}
use Rattle.sj_top.specs.Output.{row_text}
use Rattle.sj_top.proofs.Rows.{rows_more}
use Rattle.sj_top.proofs.output.write_rows.Goals as goal

pub loop-i-preserved : goal.loop-i-preserved
loop-i-preserved c =
    let n = c.args.dims.cols in
    let xs = c.args.elements.now in
    let i = c.loop-i.i in
    let e : (i * n + n) - i * n ≡ n = omega arith in
    rows_more row_text (λ j. take n (drop (j * n) xs)) i c.args.text.now.items c.loop-i.text.items _ (take ((i * n + n) - i * n) (drop (i * n) xs)) c.loop-i.invariant c.in_ok-write_row.ensures (ap (λ m. take m (drop (i * n) xs)) e)
