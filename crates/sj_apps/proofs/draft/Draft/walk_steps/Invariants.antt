use Rattle.std.proofs.Common.{◌+◌, ◌*◌, ◌≤◌, length}
use Rattle.std.specs.List.{range_with_len, flat_map}
use Rattle.sj_apps.specs.Generated.{walk_step}
use Rattle.sj_apps.specs.Draft.{Tells}
use Rattle.sj_apps.proofs.draft.Draft.walk_steps.Given as goal

-- what the draft says so far
abbrev pub invariant-loop-k : goal.invariant-loop-k
invariant-loop-k l =
    Tells l.initial.self l.self (flat_map (walk_step l.p) (range_with_len 0 l.k)) × (length l.self.statements ≤ length l.initial.self.statements + 2401 * l.k)
