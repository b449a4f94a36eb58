use Rattle.std.proofs.Common.{◌+◌, ◌*◌, ◌≤◌, length}
use Rattle.std.specs.List.{range_with_len, flat_map}
use Rattle.sj_apps.specs.Generated.{gemms_at}
use Rattle.sj_apps.specs.Draft.{Tells}
use Rattle.sj_apps.proofs.draft.Draft.gemms_in_row.Given as goal

-- what the draft says so far
abbrev pub invariant-loop-j : goal.invariant-loop-j
invariant-loop-j l =
    Tells l.initial.self l.self (flat_map (gemms_at l.p l.i) (range_with_len 0 l.j)) × (length l.self.statements ≤ length l.initial.self.statements + 48 * l.j)
