use Rattle.std.proofs.Common.{◌≡◌, take, true}
use Rattle.sj_engine.specs.Ready.{IsPassOfQueues, PutsAll, StaysItsSource, is_shared}
use Rattle.sj_engine.proofs.dealing.put_all.Given as goal

-- it is the same worker's, which has put all up to here
abbrev pub invariant-loop-t : goal.invariant-loop-t
invariant-loop-t g l = record {
  stays : StaysItsSource l.fn.ready l.ready;
  of : IsPassOfQueues l.ready;
  shared : is_shared l.ready ≡ true;
  puts : PutsAll l.fn.ready (take l.t-index l.tasks) l.ready;
}
