use Rattle.std.proofs.Common.{◌+◌, ◌≤◌, length, map}
use Rattle.std.specs.List.{range_with_len}
use Rattle.sj_apps.specs.Generated.{gemm_act}
use Rattle.sj_apps.specs.Draft.{Tells}
use Rattle.sj_apps.proofs.draft.Draft.gemms_at.Given as goal

-- what the draft says so far
abbrev pub invariant-loop-k : goal.invariant-loop-k
invariant-loop-k l =
    Tells l.initial.self l.self (map (gemm_act l.i l.j) (range_with_len 0 l.k)) × (length l.self.statements ≤ length l.initial.self.statements + l.k)
