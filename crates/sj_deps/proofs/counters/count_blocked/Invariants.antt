use Rattle.std.proofs.Common.{◌≡◌, map, take}
use Rattle.sj_deps.specs.Counts.{blocked}
use Rattle.sj_deps.proofs.counters.count_blocked.Given as goal

abbrev pub invariant-loop-list : goal.invariant-loop-list
invariant-loop-list l = l.held.items ≡ map (blocked l.waits) (take l.list-index l.parties)
