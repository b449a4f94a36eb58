use Rattle.std.proofs.Common.{◌≡◌, None, length, take}
use Rattle.sj_engine.specs.Looking.{HasPassed, PoolStands}
use Rattle.sj_engine.specs.Stage.{IsFreeRow, row_in}
use Rattle.sj_engine.specs.Turn.{IsTurnOf, IsWorkerOf, NothingHappens}
use Rattle.sj_engine.proofs.shared_board.SharedBoard.claim_some.Given as goal

-- nothing was claimed yet, and the worker is free as before; what it was given can't be claimed, and is in the pool again
abbrev pub invariant-loop-i : goal.invariant-loop-i
invariant-loop-i g l = record {
  turn : IsTurnOf g.D.Disk.faults g.D.Disk.mismatches l.w l.fn.self l.self;
  worker : IsWorkerOf l.self l.w;
  free : IsFreeRow (row_in l.self l.w);
  no_fault : l.self.fault ≡ None;
  nothing : NothingHappens l.fn.self l.self;
  pool : PoolStands l.fn.self l.self;
  long : length l.passed ≡ 64;
  passed : HasPassed l.fn.self l.w (take l.i l.passed);
}
