-- What the statements of a job say, where a root goes by N: by the name that the text has, or by its number.
use Rattle.std.specs.Prelude.{ℕ, ℤ, List}
use Rattle.sj_base.specs.declared.tile.Dims.{Dims}
use Rattle.sj_base.specs.declared.mode.Mode.{Mode}
use Rattle.sj_base.specs.declared.program.Codelet.{Codelet}
use Rattle.sj_plan.specs.declared.parts.Parts.{Parts}
use Rattle.sj_meaning.specs.declared.job.Kind.{Kind}
use Rattle.sj_meaning.specs.declared.job.Init.{Init}

-- a root handle, its first plan and its first elements
pub record Register (N : Type 0) : Type 0 where
  pub name : N
  pub kind : Kind
  pub dims : Dims
  pub parts : Parts
  pub init : Init

-- an operand of a task: a child of the active plan, which is [0, 0] where the name stands alone
pub record Operand (N : Type 0) : Type 0 where
  pub name : N
  pub place : ℕ × ℕ
  pub mode : Mode

-- a task
pub record TaskLine (N : Type 0) : Type 0 where
  pub codelet : Codelet
  pub args : List ℤ
  pub operands : List (Operand N)
  pub priority : ℤ
