-- The statements of a job as contracts see them.
use Rattle.sj_base.specs.declared.ids.Line.{Line}
use Rattle.sj_base.specs.declared.mode.Reduction.{Reduction}
use Rattle.sj_plan.specs.declared.parts.Parts.{Parts}
use Rattle.sj_meaning.specs.Statement.{Register as Registration, TaskLine}

-- what a statement does, where its roots go by N: by their names, or by their numbers
pub data Act (N : Type 0) : Type 0 where
  Register : Registration N → Act N
  Plan : N → Parts → Act N
  Redux : N → Reduction → Act N
  Task : TaskLine N → Act N
  Print : N → Act N
  Invalidate : N → Act N
  Unregister : N → Act N

-- an act and the line that it stands in
pub record Statement (N : Type 0) : Type 0 where
  pub line : Line
  pub act : Act N
