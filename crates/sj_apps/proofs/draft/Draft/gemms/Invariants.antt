use Rattle.std.proofs.Common.{◌+◌, ◌*◌, ◌≤◌, length}
use Rattle.std.specs.List.{range_with_len, flat_map}
use Rattle.sj_apps.specs.Generated.{gemms_in_row}
use Rattle.sj_apps.specs.Draft.{Tells}
use Rattle.sj_apps.proofs.draft.Draft.gemms.Given as goal

-- what the draft says so far
abbrev pub invariant-loop-i : goal.invariant-loop-i
invariant-loop-i l =
    Tells l.initial.self l.self (flat_map (gemms_in_row l.p) (range_with_len 0 l.i)) × (length l.self.statements ≤ length l.initial.self.statements + 2304 * l.i)
