use Rattle.std.proofs.Common.{◌<◌, ◌≤◌, length}
use Rattle.sj_steal.specs.Facts.{AreAllPasses}
use Rattle.sj_engine.proofs.dealing.deal_first.Given as goal

-- all passes are still those of the queues, and at most each task before was dealt
abbrev pub invariant-loop-i : goal.invariant-loop-i
invariant-loop-i g l = record {
  some : 0 < length l.passes.items;
  all : AreAllPasses l.shared l.passes.items;
  dealt : l.dealt ≤ l.i;
}
