use Rattle.std.proofs.Common.{◌≡◌, ◌++◌, drop, option_map}
use Rattle.sj_job.specs.Form.{each_some}
use Rattle.sj_job.specs.Names.{target_in}
use Rattle.sj_job.proofs.judge.targets_of.Given as goal

-- what is found so far goes before what the rest gives
abbrev pub invariant-loop-n : goal.invariant-loop-n
invariant-loop-n l =
    option_map (λ rest. l.targets ++ rest) (each_some (target_in l.names) (drop l.n l.operands)) ≡ each_some (target_in l.names) l.operands
