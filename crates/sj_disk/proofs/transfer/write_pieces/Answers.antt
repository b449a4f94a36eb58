use Rattle.std.proofs.Common.{List, ℕ, refl, sym, ap, subst, arith, is_err}
use Rattle.sj_disk.proofs.Bytes.{element_bytes-none}
use Rattle.sj_disk.proofs.Pieces.{writes-piece, writes-short}
use Rattle.sj_disk.proofs.Transferring.{HasWritten, writes-none}
use Rattle.sj_disk.proofs.transfer.write_pieces.Goals as goal

pub loop-start-init : goal.loop-start-init
loop-start-init g c =
    let P = λ (bs : List ℕ). HasWritten g.D.Disk.size g.D.Disk.faults g.D.Disk.mismatches g.D.Disk.held c.args.at bs c.args.disk.now c.args.disk.now in
    (omega arith, c.requires.fits_the_buffer, subst P (sym element_bytes-none) (writes-none _ _ _ _ c.args.at tt c.args.disk.now))

pub returns-in_err-write_piece : goal.returns-in_err-write_piece
returns-in_err-write_piece g c =
    let inv = c.loop-start.invariant in
    let piece = writes-piece _ _ _ _ c.args.at _ c.args.elements.now c.loop-start.start c.min-stop.result tt _ c.args.disk.now c.loop-start.disk c.write_piece.new.disk c.requires.filled c.requires.in_range (omega arith) (omega arith) refl inv.2 c.write_piece.ensures in
    writes-short _ _ _ _ c.args.at c.args.elements.now c.min-stop.result c.write_piece.result c.from_residual.result c.args.disk.now c.write_piece.new.disk (ap is_err c.in_err-write_piece.was) c.from_residual.ensures.0 c.requires.filled c.requires.in_range (omega arith) piece

pub loop-start-preserved : goal.loop-start-preserved
loop-start-preserved g c =
    let inv = c.loop-start.invariant in
    (omega arith, omega (arith, inv.1, c.write_piece.auto.buffer), writes-piece _ _ _ _ c.args.at _ c.args.elements.now c.loop-start.start c.min-stop.result tt _ c.args.disk.now c.loop-start.disk c.write_piece.new.disk c.requires.filled c.requires.in_range (omega arith) (omega arith) refl inv.2 c.in_ok-write_piece.ensures)
