use Rattle.std.proofs.Common.{sym, ap, ◌∙◌}
use Rattle.sj_node.specs.Entries.{listed}
use Rattle.sj_node.proofs.Putting.{without_all-none, without_all_more}
use Rattle.sj_node.proofs.entries.Entries.take_out_all.Goals as goal

pub loop-cell-init : goal.loop-cell-init
loop-cell-init c = ap (λ es. listed es c.args.self.now.limit) (sym (without_all-none c.args.self.now.order))

pub loop-cell-preserved : goal.loop-cell-preserved
loop-cell-preserved c =
    c.take_out.ensures.entries
    ∙ rw c.loop-cell.invariant (ap (λ es. listed es c.args.self.now.limit) (sym (without_all_more c.args.cells.now c.loop-cell.cell-index (record { 0 = 0 }) c.args.self.now.order c.loop-cell-test.true)))
