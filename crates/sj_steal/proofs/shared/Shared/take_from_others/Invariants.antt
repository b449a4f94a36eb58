use Rattle.std.proofs.Common.{◌≡◌}
use Rattle.sj_steal.proofs.shared.Shared.take_from_others.Given as goal

-- nothing was taken yet
abbrev pub invariant-loop-step : goal.invariant-loop-step
invariant-loop-step g l = l.pass ≡ l.fn.pass
