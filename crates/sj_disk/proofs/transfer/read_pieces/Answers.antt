use Rattle.std.proofs.Common.{◌+◌, ◌*◌, List, ℕ, Option, refl, sym, subst, arith}
use Rattle.sj_edge.specs.Held.{GivesHeld}
use Rattle.sj_disk.specs.Block.{element_bytes}
use Rattle.sj_disk.proofs.Bytes.{element_bytes-none}
use Rattle.sj_disk.proofs.Pieces.{ends-piece, fits-piece, gives-piece, reaches-piece}
use Rattle.sj_disk.proofs.Transferring.{gives-none, looks-none, looks-then}
use Rattle.sj_disk.proofs.transfer.read_pieces.Goals as goal

pub loop-start-init : goal.loop-start-init
loop-start-init g c =
    let d = c.args.disk.now in
    (omega arith, c.requires.fits_the_buffer, looks-none _ _ _ _ d, subst (λ (bs : List ℕ). GivesHeld (g.D.Disk.held d) c.args.at bs) (sym element_bytes-none) (gives-none (g.D.Disk.held d) c.args.at), λ k x lt. absurd (omega arith))

pub loop-start-preserved : goal.loop-start-preserved
loop-start-preserved g c =
    let inv = c.loop-start.invariant in
    let at : ℕ = c.args.at + 8 * c.loop-start.start in
    let e = ends-piece c.loop-start.elements c.read_piece.new.elements c.loop-start.start c.min-stop.result (omega arith) (omega arith) c.read_piece.auto.elements in
    let here = subst (λ (h : Option (List ℕ)). GivesHeld h at (element_bytes c.read_piece.new.elements)) inv.2.told_bytes_stay c.in_ok-read_piece.ensures.gives in (
      reaches-piece c.loop-start.elements c.read_piece.new.elements c.loop-start.start c.min-stop.result _ inv.0 e,
      omega (arith, inv.1, c.read_piece.auto.buffer),
      looks-then _ _ _ _ _ _ c.args.disk.now c.loop-start.disk c.read_piece.new.disk inv.2 c.in_ok-read_piece.ensures.looks,
      gives-piece (g.D.Disk.held c.args.disk.now) c.args.at at c.loop-start.elements c.read_piece.new.elements c.loop-start.start c.min-stop.result _ inv.0 e refl inv.3 here,
      fits-piece c.loop-start.elements c.read_piece.new.elements c.loop-start.start c.min-stop.result _ inv.0 e inv.4 c.in_ok-read_piece.ensures.in_range,
    )
