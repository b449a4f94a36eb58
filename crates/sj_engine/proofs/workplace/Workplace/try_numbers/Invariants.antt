use Rattle.std.proofs.Common.{◌≡◌, ◌≤◌, length, take, true}
use Rattle.sj_engine.specs.Queued.{AccountsForNumbers}
use Rattle.sj_engine.specs.Ready.{IsPassOfQueues, StaysItsSource, is_shared}
use Rattle.sj_engine.specs.declared.picking.Picked.TheVariants.{Nothing}
use Rattle.sj_engine.proofs.workplace.Workplace.try_numbers.Given as goal

-- nothing was claimed yet, and each try has kept one number at most
abbrev pub invariant-loop-i : goal.invariant-loop-i
invariant-loop-i g l = record {
  same : l.board ≡ l.fn.board;
  stays : StaysItsSource l.fn.ready l.ready;
  of : IsPassOfQueues l.ready;
  shared : is_shared l.ready ≡ true;
  few : l.kept ≤ l._i;
  long : length l.held ≡ 64;
  numbers : AccountsForNumbers l.fn.board l.fn.ready (take l.kept l.held) Nothing l.ready;
}
