use Rattle.std.proofs.Common.{◌≡◌, ◌≤◌, ◌^◌, ◌*◌, ◌+◌, drop}
use Rattle.sj_needs.proofs.Footprints.{needs}
use Rattle.sj_needs.proofs.footprint.footprint.Given as goal

abbrev pub invariant-loop-i : goal.invariant-loop-i
invariant-loop-i l = (l.bytes + needs l.program (drop l.i l.accesses) ≡ needs l.program l.accesses) × (l.bytes ≤ l.i * 2 ^ 27)
