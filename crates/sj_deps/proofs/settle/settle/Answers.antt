use Rattle.std.proofs.Common.{◌<◌, length, arith}
use Rattle.sj_deps.proofs.Settling.{unfinished_next, CanSettle-more, Settles-more, ListsReady-more}
use Rattle.sj_deps.proofs.settle.settle.Goals as goal

pub finish-requires-clause-unfinished : goal.finish-requires-clause-unfinished
finish-requires-clause-unfinished c = unfinished_next c.loop-cell.chains.items c.loop-cell.waits.items c.args.cells.now c.loop-cell.cell-index (omega arith) c.loop-cell.invariant.0 c.index_mut.result.now c.index_mut.ensures.value

pub loop-cell-preserved : goal.loop-cell-preserved
loop-cell-preserved c =
    let within : c.loop-cell.cell-index < length c.args.cells.now = omega arith in
    (CanSettle-more c.loop-cell.chains.items c.loop-cell.waits.items c.args.cells.now c.loop-cell.cell-index within c.loop-cell.invariant.0 c.index_mut.result.now c.index_mut.ensures.value c.finish.new.self c.finish.ensures.finished c.finish.new.waits.items _ _ c.finish.ensures.released, Settles-more c.loop-cell.chains.items c.loop-cell.waits.items c.args.cells.now c.loop-cell.cell-index within c.loop-cell.invariant.0 c.index_mut.result.now c.index_mut.ensures.value c.finish.new.self c.finish.ensures.finished c.args.chains.now.items c.loop-cell.invariant.1, ListsReady-more _ _ _ _ _ _ _ _ _ c.finish.ensures.released c.loop-cell.invariant.2, omega arith)
