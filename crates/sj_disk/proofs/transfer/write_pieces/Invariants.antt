use Rattle.std.proofs.Common.{◌*◌, length, take, ◌-◌, ◌≤◌}
use Rattle.sj_disk.specs.Block.{element_bytes}
use Rattle.sj_disk.proofs.Transferring.{HasWritten}
use Rattle.sj_disk.proofs.transfer.write_pieces.Given as goal

abbrev pub invariant-loop-start : goal.invariant-loop-start
invariant-loop-start g l =
    (l.start ≤ length l.elements)
    × (8 * l.piece ≤ length l.buffer)
    × HasWritten g.D.Disk.size g.D.Disk.faults g.D.Disk.mismatches g.D.Disk.held l.at (element_bytes (take l.start l.elements)) l.initial.disk l.disk

abbrev pub decreases-loop-start : goal.decreases-loop-start
decreases-loop-start g l = length l.elements - l.start
