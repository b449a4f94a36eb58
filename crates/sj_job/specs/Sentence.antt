-- What the words of a line say.
use Rattle.std.specs.Prelude.{ℕ, Bool, true, false, ◌&&◌, map, take, Option, Some, None, unwrap_or, Result, Ok, Err, List, [], ◌∷◌, ℤ, pos, codes, if◌then◌else◌}
use Rattle.std.specs.List.{list_all}
use Rattle.std.specs.Str.{bytes_eq}
use Rattle.sj_codelet.specs.declared.kernel.Kernel.{Kernel}
use Rattle.sj_codelet.specs.Kernel.{codelet_of}
use Rattle.sj_plan.specs.declared.parts.Parts.{Parts}
use Rattle.sj_meaning.specs.declared.job.Kind.{Kind}
use Rattle.sj_meaning.specs.declared.job.Kind.TheVariants as kind
use Rattle.sj_meaning.specs.declared.job.Init.{Init}
use Rattle.sj_meaning.specs.declared.job.Init.TheVariants.{Values, Fill, Nothing}
use Rattle.sj_meaning.specs.Statement.{Operand}
use Rattle.sj_job.specs.declared.form.Size.{Size}
use Rattle.sj_job.specs.declared.form.Size.TheVariants as size
use Rattle.sj_job.specs.declared.form.InitForm.{InitForm}
use Rattle.sj_job.specs.declared.form.InitForm.TheVariants as init
use Rattle.sj_job.specs.declared.form.ArrayForm.{ArrayForm}
use Rattle.sj_job.specs.declared.form.OperandForm.{OperandForm}
use Rattle.sj_job.specs.declared.form.TaskForm.{TaskForm}
use Rattle.sj_job.specs.declared.form.Form.{Form}
use Rattle.sj_job.specs.declared.form.Form.TheVariants as form
use Rattle.sj_meaning.specs.Statement.{Register, TaskLine}
use Rattle.sj_meaning.specs.Table.{undivided}
use Rattle.sj_job.specs.declared.reason.Reason.{Reason}
use Rattle.sj_job.specs.declared.reason.Reason.TheVariants.{Word, Number}
use Rattle.sj_job.specs.Word.{is_count, is_integer, count, integer}
use Rattle.sj_job.specs.Form.{form_of}

-- ---- whether each place of a number holds one

abbrev pub are_counts : Option (List ℕ × List ℕ) → Bool
are_counts None = true
are_counts (Some p) = is_count p.0 && is_count p.1

abbrev pub is_numbered_size : Size → Bool
is_numbered_size (size.Vector n) = is_count n
is_numbered_size (size.Matrix r c) = is_count r && is_count c

abbrev pub is_numbered_init : InitForm → Bool
is_numbered_init (init.Values vs) = list_all is_integer vs
is_numbered_init (init.Fill a b) = is_integer a && is_integer b
is_numbered_init init.Nothing = true

abbrev pub is_numbered_priority : Option (List ℕ) → Bool
is_numbered_priority None = true
is_numbered_priority (Some p) = is_integer p

abbrev pub is_numbered_array : ArrayForm → Bool
is_numbered_array a = is_numbered_size a.size && are_counts a.parts && is_numbered_init a.init

abbrev pub is_numbered_task : TaskForm → Bool
is_numbered_task t =
    list_all is_integer t.args
    && list_all (λ o. are_counts o.child) t.operands
    && is_numbered_priority t.priority

abbrev pub is_numbered : Form → Bool
is_numbered (form.Register a) = is_numbered_array a
is_numbered (form.Plan name r c) = is_count r && is_count c
is_numbered (form.Redux name by) = true
is_numbered (form.Task t) = is_numbered_task t
is_numbered (form.Print name) = true
is_numbered (form.Invalidate name) = true
is_numbered (form.Unregister name) = true

-- ---- what the parts of a form say

abbrev pub kind_of : Size → Kind
kind_of (size.Vector n) = kind.Vector
kind_of (size.Matrix r c) = kind.Matrix

-- a vector is one row
abbrev pub row_count : Size → ℕ
row_count (size.Vector n) = 1
row_count (size.Matrix r c) = count r

abbrev pub col_count : Size → ℕ
col_count (size.Vector n) = count n
col_count (size.Matrix r c) = count c

abbrev pub init_said : InitForm → Init
init_said (init.Values vs) = Values (map integer vs)
init_said (init.Fill a b) = Fill (integer a) (integer b)
init_said init.Nothing = Nothing

-- the first so many of the values
abbrev pub first_values : ℕ → Init → Init
first_values n (Values zs) = Values (take n zs)
first_values n (Fill a b) = Fill a b
first_values n Nothing = Nothing

-- the plan that `by r c` names; without it the array is whole
abbrev pub parts_said : Option (List ℕ × List ℕ) → Parts
parts_said None = undivided
parts_said (Some p) = record { r = count p.0; c = count p.1 }

abbrev pub registered_by : ArrayForm → Register (List ℕ)
registered_by a = record {
  name = a.name;
  kind = kind_of a.size;
  dims = record { rows = row_count a.size; cols = col_count a.size };
  parts = parts_said a.parts;
  init = init_said a.init;
}

-- the index of a child, where there is one
abbrev pub index_said : Option (List ℕ × List ℕ) → Option (ℕ × ℕ)
index_said None = None
index_said (Some p) = Some (count p.0, count p.1)

-- the place of a child; a name alone means the first
abbrev pub place_said : OperandForm → ℕ × ℕ
place_said o = unwrap_or (index_said o.child) (0, 0)

abbrev pub operand_said : OperandForm → Operand (List ℕ)
operand_said o = record { name = o.name; place = place_said o; mode = o.mode }

-- the integer of `prio=`, or 0 without it
abbrev pub priority_said : Option (List ℕ) → ℤ
priority_said None = pos 0
priority_said (Some p) = integer p

abbrev pub operands_said : TaskForm → List (Operand (List ℕ))
operands_said t = map operand_said t.operands

abbrev pub task_said : Kernel → TaskForm → TaskLine (List ℕ)
task_said k t = record {
  codelet = codelet_of k;
  args = map integer t.args;
  operands = operands_said t;
  priority = priority_said t.priority;
}

-- ---- a line

-- a form with numbers where it has numbers
abbrev pub said_of : Form → Result Form Reason
said_of f = if is_numbered f then Ok f else Err Number

-- what a statement line of these words says
abbrev pub said : List (List ℕ) → Result Form Reason
said ws = elim (form_of ws) [ None ↦ Err Word | Some f ↦ said_of f ]

-- the first line that isn't skipped
abbrev pub is_header : List (List ℕ) → Bool
is_header [] = false
is_header (w ∷ []) = false
is_header (w ∷ v ∷ []) = bytes_eq w (codes "starjob") && bytes_eq v (codes "1")
is_header (w ∷ v ∷ u ∷ ws) = false
