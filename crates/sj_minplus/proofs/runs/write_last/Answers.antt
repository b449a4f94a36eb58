use Rattle.std.proofs.Common.{ap}
use Rattle.sj_minplus.proofs.Blocks.{fwdiag_written, fwrow_written, fwcol_written}
use Rattle.sj_minplus.proofs.runs.write_last.Goals as goal

pub returns-in-FwDiag : goal.returns-in-FwDiag
returns-in-FwDiag c =
    fwdiag_written c.args.kernel c.in-FwDiag.is c.args._args.now c.args.frame.now.slots c.args.last.now c.dims-dims.result.rows c.elements_mut-y.result.now c.fwdiag.new.a c.requires.ready (ap (λ d. d.rows) c.dims-dims.ensures.dims) c.elements_mut-y.ensures.elements c.fwdiag.auto.a c.fwdiag.ensures

pub returns-in-FwRow : goal.returns-in-FwRow
returns-in-FwRow c =
    let d = c.dims-dims.ensures.dims in
    fwrow_written c.args.kernel c.in-FwRow.is c.args._args.now c.args.frame.now.slots c.tile-in-FwRow.result.now c.args.last.now c.dims-dims.result.rows c.dims-dims.result.cols c.elements-in-FwRow.result.now c.elements_mut-y.result.now c.fwrow.new.a c.requires.ready c.tile-in-FwRow.ensures (ap (λ d. d.rows) d) (ap (λ d. d.cols) d) c.elements-in-FwRow.ensures.elements c.elements_mut-y.ensures.elements c.fwrow.auto.a c.fwrow.ensures

pub returns-in-FwCol : goal.returns-in-FwCol
returns-in-FwCol c =
    let d = c.dims-dims.ensures.dims in
    fwcol_written c.args.kernel c.in-FwCol.is c.args._args.now c.args.frame.now.slots c.tile-in-FwCol.result.now c.args.last.now c.dims-dims.result.cols c.dims-dims.result.rows c.elements-in-FwCol.result.now c.elements_mut-y.result.now c.fwcol.new.a c.requires.ready c.tile-in-FwCol.ensures (ap (λ d. d.cols) d) (ap (λ d. d.rows) d) c.elements-in-FwCol.ensures.elements c.elements_mut-y.ensures.elements c.fwcol.auto.a c.fwcol.ensures
