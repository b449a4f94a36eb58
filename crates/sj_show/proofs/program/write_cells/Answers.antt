use Rattle.std.proofs.Common.{arith, refl}
use Rattle.sj_show.specs.Program.{line_of_cell}
use Rattle.sj_show.proofs.Lines.{one-more}
use Rattle.sj_show.proofs.program.write_cells.Goals as goal

pub loop-number-preserved : goal.loop-number-preserved
loop-number-preserved c =
    one-more line_of_cell c.args.cells.now c.loop-number.number _ _ c.args.text.now.items c.loop-number.text.items _
    (omega arith) refl c.loop-number.invariant c.in_ok-write_cell.ensures
