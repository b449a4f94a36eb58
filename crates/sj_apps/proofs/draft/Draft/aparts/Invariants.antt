use Rattle.std.proofs.Common.{◌+◌, ◌*◌, ◌≤◌, length}
use Rattle.std.specs.List.{flat_map}
use Rattle.sj_apps.specs.Generated.{aparts_in_row, others}
use Rattle.sj_apps.specs.Draft.{Tells}
use Rattle.sj_apps.proofs.draft.Draft.aparts.Given as goal

-- what the draft says so far
abbrev pub invariant-loop-i : goal.invariant-loop-i
invariant-loop-i l =
    Tells l.initial.self l.self (flat_map (aparts_in_row l.p l.k) (others l.i l.k)) × (length l.self.statements ≤ length l.initial.self.statements + 48 * l.i)
