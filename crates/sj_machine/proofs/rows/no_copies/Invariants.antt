use Rattle.sj_machine.proofs.Words.{replicate, ◌≡◌}
use Rattle.sj_replica.specs.Replica.{no_copy}
use Rattle.sj_machine.proofs.rows.no_copies.Given as goal

abbrev pub invariant-loop-i : goal.invariant-loop-i
invariant-loop-i l = l.rows.items ≡ replicate l._i (no_copy l.nodes)
