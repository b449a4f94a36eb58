-- What a job means: its statements run one after another on plain arrays.
use Rattle.std.specs.FinMap as map
use Rattle.std.specs.Prelude.{ℕ, ◌+◌, Option, Some, None, List, [], ◌∷◌, ◌++◌, ℤ, pos, ◌+ℤ◌, ◌*ℤ◌, map as each_of, filter, unwrap_or, replicate, if◌then◌else◌}
use Rattle.std.specs.List.{range_with_len}
use Rattle.sj_base.specs.declared.tile.Dims.{Dims}
use Rattle.sj_base.specs.declared.mode.Mode.{Mode}
use Rattle.sj_base.specs.declared.mode.Reduction.{Reduction}
use Rattle.sj_base.specs.declared.mode.Mode.TheVariants.{R, W, RW, Scratch, Redux, Commute}
use Rattle.sj_base.specs.Array.{Array, array, area, element, zeros}
use Rattle.sj_base.specs.Window.{write_rect}
use Rattle.sj_base.specs.Mode.{is_written}
use Rattle.sj_plan.specs.declared.parts.Parts.{Parts}
use Rattle.sj_plan.specs.Rect.{place_of, rect_dims}
use Rattle.sj_codelet.specs.Ring.{wrap}
use Rattle.sj_codelet.specs.Kernel.{out}
use Rattle.sj_codelet.specs.Laws.{unit_of}
use Rattle.sj_meaning.specs.declared.job.Kind.{Kind}
use Rattle.sj_meaning.specs.declared.job.Init.{Init}
use Rattle.sj_meaning.specs.declared.job.Init.TheVariants.{Values, Fill, Nothing}
use Rattle.sj_meaning.specs.Statement.{Register}
use Rattle.sj_meaning.specs.Statement.{Operand}
use Rattle.sj_meaning.specs.Statement.{TaskLine}
use Rattle.sj_meaning.specs.Act.{Act}
use Rattle.sj_meaning.specs.Act.{Register as Registers, Plan, Redux as Reduces, Task, Print, Invalidate, Unregister}
use Rattle.sj_meaning.specs.Act.{Statement}
use Rattle.sj_meaning.specs.State.{RootState, JobState, start, root_of, child_rect, child_elements, is_valued_child}

-- no value at each element
abbrev pub no_values : Dims → List (Option ℤ)
no_values d = replicate (area d) None

-- the elements that a root of these dimensions has from its registration on
abbrev pub first_elements : Init → Dims → List (Option ℤ)
first_elements (Values xs) d = each_of Some xs
first_elements (Fill a b) d = each_of (λ p. Some (wrap (a +ℤ (b *ℤ pos p)))) (range_with_len 0 (area d))
first_elements Nothing d = no_values d

abbrev pub registered_root : {N : Type 0} → Register N → RootState
registered_root r = record { kind = r.kind; dims = r.dims; parts = r.parts; reduction = None; elements = first_elements r.init r.dims }

abbrev pub register : Register (List ℕ) → JobState → JobState
register r S = record S {
  registered = S.registered + 1;
  roots = map.insert S.roots r.name (registered_root r);
}

-- another plan; every element stays
abbrev pub with_parts : Parts → RootState → RootState
with_parts p r = record { kind = r.kind; dims = r.dims; parts = p; reduction = r.reduction; elements = r.elements }

-- other elements
abbrev pub with_elements : List (Option ℤ) → RootState → RootState
with_elements es r = record { kind = r.kind; dims = r.dims; parts = r.parts; reduction = r.reduction; elements = es }

-- a reduction, once and for all
abbrev pub with_reduction : Reduction → RootState → RootState
with_reduction by r = record { kind = r.kind; dims = r.dims; parts = r.parts; reduction = Some by; elements = r.elements }

-- what a root's name has after a change of it
abbrev pub change : (RootState → RootState) → List ℕ → JobState → JobState
change f name S = elim (root_of S name) [
  | None ↦ S
  | Some r ↦ record S { roots = map.insert S.roots name (f r) }
]

abbrev pub plan : List ℕ → Parts → JobState → JobState
plan name p S = change (with_parts p) name S

-- the integers of elements; one without value doesn't matter, since it isn't read
abbrev pub integers_of : List (Option ℤ) → List ℤ
integers_of es = each_of (λ e. unwrap_or e (pos 0)) es

-- a root's whole array
abbrev pub root_array : RootState → Array
root_array r = array r.dims (integers_of r.elements)

-- the array of a child
abbrev pub child_array : RootState → ℕ × ℕ → Array
child_array r place = array (rect_dims (child_rect r place)) (integers_of (child_elements r place))

-- the unit of a root's reduction, as large as a child; zeros where the root has none
abbrev pub child_unit : RootState → ℕ × ℕ → Array
child_unit r place = elim r.reduction [ None ↦ zeros (rect_dims (child_rect r place)) | Some by ↦ unit_of out by (rect_dims (child_rect r place)) ]

-- what a contribution adds to: the elements of the child, or the unit where it has no value
abbrev pub contributed_to : RootState → ℕ × ℕ → Array
contributed_to r place = if is_valued_child r place then child_array r place else child_unit r place

-- what a task reads of a child: its elements, or zeros where the old value isn't read
abbrev pub seen_by : Mode → RootState → ℕ × ℕ → Array
seen_by W r place = zeros (rect_dims (child_rect r place))
seen_by Scratch r place = zeros (rect_dims (child_rect r place))
seen_by R r place = child_array r place
seen_by RW r place = child_array r place
seen_by Redux r place = contributed_to r place
seen_by Commute r place = child_array r place

-- the array that a task sees of an operand
abbrev pub operand_array : JobState → Operand (List ℕ) → Array
operand_array S o = elim (root_of S o.name) [
  | None ↦ array (record { rows = 0; cols = 0 }) []
  | Some r ↦ seen_by o.mode r o.place
]

-- the operands that a task writes, in order
abbrev pub written_of : {N : Type 0} → List (Operand N) → List (Operand N)
written_of os = filter (λ o. is_written o.mode) os

-- a child's elements become those of an array; the others stay
abbrev pub with_child : ℕ × ℕ → Array → RootState → RootState
with_child place a r =
    let rect = child_rect r place in
    with_elements (write_rect None r.dims r.elements (place_of rect) (rect_dims rect) (λ i j. Some (element a i j))) r

abbrev pub put : Operand (List ℕ) → Array → JobState → JobState
put o a S = change (with_child o.place a) o.name S

-- the child of each of these operands gets its array, and no other changes
abbrev pub put_all : List (Operand (List ℕ)) → List Array → JobState → JobState
put_all [] arrays S = S
put_all (o ∷ os) [] S = S
put_all (o ∷ os) (a ∷ arrays) S = put_all os arrays (put o a S)

-- a name gets its reduction
abbrev pub reduce : List ℕ → Reduction → JobState → JobState
reduce name by S = change (with_reduction by) name S

-- a task: the written operands get the codelet's new arrays
abbrev pub run_task : TaskLine (List ℕ) → JobState → JobState
run_task t S =
    let news = out t.codelet t.args (each_of (operand_array S) t.operands) in
    put_all (written_of t.operands) news S

-- every element of a name becomes no value
abbrev pub invalidate : List ℕ → JobState → JobState
invalidate name S = change (λ r. with_elements (no_values r.dims) r) name S

-- a name is taken away for good
abbrev pub unregister : List ℕ → JobState → JobState
unregister name S = record S { ended = name ∷ S.ended; roots = map.remove S.roots name }

-- what one statement does
abbrev pub apply : Act (List ℕ) → JobState → JobState
apply (Registers r) S = register r S
apply (Plan name p) S = plan name p S
apply (Reduces name by) S = reduce name by S
apply (Task t) S = run_task t S
apply (Print name) S = S
apply (Invalidate name) S = invalidate name S
apply (Unregister name) S = unregister name S

-- the state that statements leave, one after another
abbrev pub run_from : JobState → List (Statement (List ℕ)) → JobState
run_from S [] = S
run_from S (s ∷ ss) = run_from (apply s.act S) ss

-- the sequential run of a job
abbrev pub seq : List (Statement (List ℕ)) → JobState
seq ss = run_from start ss

-- an array as a print statement finds it
pub record Printed : Type 0 where
  pub name : List ℕ
  pub kind : Kind
  pub array : Array

abbrev pub found_by : JobState → List ℕ → List Printed
found_by S name = elim (root_of S name) [
  | None ↦ []
  | Some r ↦ record { name = name; kind = r.kind; array = root_array r } ∷ []
]

-- what a statement prints
abbrev pub prints : Act (List ℕ) → JobState → List Printed
prints (Registers r) S = []
prints (Plan name p) S = []
prints (Reduces name by) S = []
prints (Task t) S = []
prints (Print name) S = found_by S name
prints (Invalidate name) S = []
prints (Unregister name) S = []

-- what the print statements find, in order
abbrev pub printed_from : JobState → List (Statement (List ℕ)) → List Printed
printed_from S [] = []
printed_from S (s ∷ ss) = prints s.act S ++ printed_from (apply s.act S) ss

abbrev pub printed : List (Statement (List ℕ)) → List Printed
printed ss = printed_from start ss
