use Rattle.std.proofs.Common.{◌+◌, ◌≤◌, length, map}
use Rattle.sj_apps.specs.Generated.{apart, others}
use Rattle.sj_apps.specs.Draft.{Tells}
use Rattle.sj_apps.proofs.draft.Draft.aparts_in_row.Given as goal

-- what the draft says so far
abbrev pub invariant-loop-j : goal.invariant-loop-j
invariant-loop-j l =
    Tells l.initial.self l.self (map (apart l.k l.i) (others l.j l.k)) × (length l.self.statements ≤ length l.initial.self.statements + l.j)
