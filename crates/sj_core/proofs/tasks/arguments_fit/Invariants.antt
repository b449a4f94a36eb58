use Rattle.sj_core.proofs.Words.{take, w64}
use Rattle.std.specs.Prelude.{All, FitsSigned}
use Rattle.sj_core.proofs.tasks.arguments_fit.Given as goal

abbrev pub invariant-loop-task : goal.invariant-loop-task
invariant-loop-task l = All (λ t. All (FitsSigned w64) t.args) (take l.task-index l.task-items)
