use Rattle.std.proofs.Common.{FitsSigned, w64, ◌*◌, length, take, ◌-◌, ◌≤◌, false}
use Rattle.std.specs.Prelude.{All}
use Rattle.sj_edge.specs.Held.{GivesHeld}
use Rattle.sj_disk.specs.Block.{element_bytes}
use Rattle.sj_disk.specs.Transfers.{Looks}
use Rattle.sj_disk.proofs.transfer.read_pieces.Given as goal

abbrev pub invariant-loop-start : goal.invariant-loop-start
invariant-loop-start g l =
    (l.start ≤ length l.elements)
    × (8 * l.piece ≤ length l.buffer)
    × Looks g.D.Disk.size g.D.Disk.faults g.D.Disk.mismatches g.D.Disk.held false false l.initial.disk l.disk
    × GivesHeld (g.D.Disk.held l.initial.disk) l.at (element_bytes (take l.start l.elements))
    × All (FitsSigned w64) (take l.start l.elements)

abbrev pub decreases-loop-start : goal.decreases-loop-start
decreases-loop-start g l = length l.initial.elements - l.start
