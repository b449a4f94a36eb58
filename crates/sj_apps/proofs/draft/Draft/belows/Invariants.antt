use Rattle.std.proofs.Common.{◌+◌, ◌≤◌, length, map}
use Rattle.sj_apps.specs.Generated.{below, others}
use Rattle.sj_apps.specs.Draft.{Tells}
use Rattle.sj_apps.proofs.draft.Draft.belows.Given as goal

-- what the draft says so far
abbrev pub invariant-loop-i : goal.invariant-loop-i
invariant-loop-i l =
    Tells l.initial.self l.self (map (below l.k) (others l.i l.k)) × (length l.self.statements ≤ length l.initial.self.statements + l.i)
