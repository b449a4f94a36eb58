use Rattle.std.proofs.Common.{arith, sym}
use Rattle.sj_show.specs.Program.{line_of_task}
use Rattle.sj_show.proofs.Lines.{one-more}
use Rattle.sj_show.proofs.program.write_tasks.Goals as goal

pub loop-number-preserved : goal.loop-number-preserved
loop-number-preserved c =
    one-more line_of_task c.args.tasks.now c.loop-number.number c.index-tasks-number.result c.index-tasks-number.result c.args.text.now.items c.loop-number.text.items _
    (omega arith) (sym c.index-tasks-number.is) c.loop-number.invariant c.in_ok-write_task.ensures
