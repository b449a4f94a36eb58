use Rattle.std.proofs.Common.{◌≡◌, drop, find, nat_lt}
use Rattle.sj_core.specs.Needs.{footprint}
use Rattle.sj_core.specs.Program.{tasks_of}
use Rattle.sj_needs.proofs.shortage.first_above.Given as goal

abbrev pub invariant-loop-i : goal.invariant-loop-i
invariant-loop-i l = find (λ t. nat_lt l.room (footprint l.program t)) (drop l.i (tasks_of l.program)) ≡ find (λ t. nat_lt l.room (footprint l.program t)) (tasks_of l.program)
