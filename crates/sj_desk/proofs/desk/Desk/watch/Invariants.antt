use Rattle.std.proofs.Common.{◌≡◌}
use Rattle.sj_desk.proofs.desk.Desk.watch.Given as goal

-- as long as the bell is silent, nothing of the seat has changed
abbrev pub invariant-loop-silent : goal.invariant-loop-silent
invariant-loop-silent g l = record { same : l.seat ≡ l.fn.seat }
