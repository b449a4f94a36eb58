-- The canonical form of each statement: how a job's text says it. Numbers stand without leading zeros, `by` and the index of a
-- child only where the plan has more than one part, and `prio=` only where the priority isn't 0.
use Rattle.std.specs.Prelude.{ℕ, ℤ, pos, Bool, ◌&&◌, nat_eq, Option, Some, None, List, map, decimal, if◌then◌else◌}
use Rattle.std.specs.Ordering.{int_eq}
use Rattle.std.specs.Str.{bytes_eq}
use Rattle.sj_base.specs.declared.tile.Dims.{Dims}
use Rattle.sj_meaning.specs.Act.{Act, Register, Plan, Redux, Task, Print, Invalidate, Unregister}
use Rattle.sj_meaning.specs.Statement.{Register as Registration, Operand, TaskLine}
use Rattle.sj_meaning.specs.Table.{undivided}
use Rattle.sj_job.specs.declared.form.ArrayForm.{ArrayForm}
use Rattle.sj_job.specs.declared.form.Form.{Form}
use Rattle.sj_job.specs.declared.form.Form.TheVariants as form
use Rattle.sj_job.specs.declared.form.InitForm.{InitForm}
use Rattle.sj_job.specs.declared.form.InitForm.TheVariants as init
use Rattle.sj_job.specs.declared.form.OperandForm.{OperandForm}
use Rattle.sj_job.specs.declared.form.Size.{Size}
use Rattle.sj_job.specs.declared.form.Size.TheVariants as size
use Rattle.sj_job.specs.declared.form.TaskForm.{TaskForm}
use Rattle.sj_meaning.specs.declared.job.Init.{Init}
use Rattle.sj_meaning.specs.declared.job.Init.TheVariants.{Values, Fill, Nothing}
use Rattle.sj_meaning.specs.declared.job.Kind.{Kind}
use Rattle.sj_meaning.specs.declared.job.Kind.TheVariants.{Vector, Matrix}
use Rattle.sj_plan.specs.declared.parts.Parts.{Parts}
use Rattle.sj_show.specs.Words.{codelet_name, integer_word}

-- ---- the active plan of each name

abbrev pub Plans : Type 0
Plans = List ℕ → Parts

-- before the first statement, when no name has a plan
abbrev pub no_plans : Plans
no_plans name = undivided

-- a name has another plan from now on
abbrev pub with_plan : List ℕ → Parts → Plans → Plans
with_plan name p plans other = if bytes_eq other name then p else plans other

-- a registration and a plan line make a plan active
abbrev pub plans_after : Act (List ℕ) → Plans → Plans
plans_after (Register r) plans = with_plan r.name r.parts plans
plans_after (Plan name p) plans = with_plan name p plans
plans_after (Redux name by) plans = plans
plans_after (Task t) plans = plans
plans_after (Print name) plans = plans
plans_after (Invalidate name) plans = plans
plans_after (Unregister name) plans = plans

-- ---- forms

-- the plan has one part, which is the whole array
abbrev pub is_whole : Parts → Bool
is_whole p = nat_eq p.r 1 && nat_eq p.c 1

-- a pair of numbers, which is said only of a plan with more than one part
abbrev pub pair_under : Parts → ℕ × ℕ → Option (List ℕ × List ℕ)
pair_under p n = if is_whole p then None else Some (decimal n.0, decimal n.1)

abbrev pub size_form : Kind → Dims → Size
size_form Vector d = size.Vector (decimal d.cols)
size_form Matrix d = size.Matrix (decimal d.rows) (decimal d.cols)

abbrev pub init_form : Init → InitForm
init_form (Values zs) = init.Values (map integer_word zs)
init_form (Fill a b) = init.Fill (integer_word a) (integer_word b)
init_form Nothing = init.Nothing

abbrev pub array_form : Registration (List ℕ) → ArrayForm
array_form r = record {
  name = r.name;
  size = size_form r.kind r.dims;
  parts = pair_under r.parts (r.parts.r, r.parts.c);
  init = init_form r.init;
}

abbrev pub operand_form : Plans → Operand (List ℕ) → OperandForm
operand_form plans o = record { name = o.name; child = pair_under (plans o.name) o.place; mode = o.mode }

-- nothing where it is 0
abbrev pub priority_form : ℤ → Option (List ℕ)
priority_form z = if int_eq z (pos 0) then None else Some (integer_word z)

abbrev pub task_form : Plans → TaskLine (List ℕ) → TaskForm
task_form plans t = record {
  codelet = codelet_name t.codelet;
  args = map integer_word t.args;
  operands = map (operand_form plans) t.operands;
  priority = priority_form t.priority;
}

-- the canonical form of an act, before which these plans are active
abbrev pub form_of_act : Plans → Act (List ℕ) → Form
form_of_act plans (Register r) = form.Register (array_form r)
form_of_act plans (Plan name p) = form.Plan name (decimal p.r) (decimal p.c)
form_of_act plans (Redux name by) = form.Redux name by
form_of_act plans (Task t) = form.Task (task_form plans t)
form_of_act plans (Print name) = form.Print name
form_of_act plans (Invalidate name) = form.Invalidate name
form_of_act plans (Unregister name) = form.Unregister name
