-- Why a form is refused: the conditions of the reasons, in their order.
use Rattle.std.specs.Prelude.{ℕ, ◌*◌, Bool, false, ◌&&◌, ◌||◌, not, nat_eq, nat_le, nat_lt, Option, Some, None, find, Result, Ok, Err, List, [], ◌∷◌, length, map, option_map, is_some, if◌then◌else◌, ℤ}
use Rattle.std.specs.List.{list_any}
use Rattle.std.specs.Str.{bytes_eq}
use Rattle.sj_base.specs.declared.tile.Dims.{Dims}
use Rattle.sj_base.specs.declared.mode.Reduction.{Reduction}
use Rattle.sj_base.specs.Mode.{is_redux}
use Rattle.sj_codelet.specs.declared.kernel.Kernel.{Kernel}
use Rattle.sj_codelet.specs.Kernel.{kernels, has_name, codelet_of, arguments_of, formals_of, fits}
use Rattle.sj_plan.specs.declared.parts.Parts.{Parts}
use Rattle.sj_plan.specs.Rect.{child, rect_dims}
use Rattle.sj_meaning.specs.declared.job.Init.{Init}
use Rattle.sj_meaning.specs.declared.job.Init.TheVariants.{Values, Fill, Nothing}
use Rattle.sj_meaning.specs.Statement.{Operand}
use Rattle.sj_meaning.specs.Act.{Act}
use Rattle.sj_meaning.specs.Act.{Register as Registers, Plan as Plans, Redux as Reduces, Task as Tasks, Print as Prints, Invalidate as Invalidates, Unregister as Unregisters}
use Rattle.sj_job.specs.declared.form.OperandForm.{OperandForm}
use Rattle.sj_job.specs.declared.form.TaskForm.{TaskForm}
use Rattle.sj_job.specs.declared.form.Form.{Form}
use Rattle.sj_job.specs.declared.form.Form.TheVariants as form
use Rattle.sj_job.specs.declared.reason.Reason.{Reason}
use Rattle.sj_job.specs.declared.reason.Reason.TheVariants.{UnknownName, TakenName, UnknownCodelet, OperandCount, Part, Shape, Aliased, NoValue, NoReduction, MixedOutputs, NotLawful, Limit, EndedName}
use Rattle.sj_job.specs.declared.reason.LimitKind.TheVariants.{Statements, Names, Elements, Parts as PartsLimit, Priority}
use Rattle.sj_job.specs.Sentence.{init_said, parts_said, index_said, registered_by, operands_said, priority_said, task_said}
use Rattle.sj_meaning.specs.Meaning.{written_of}
use Rattle.sj_meaning.specs.Sound.{is_side, is_priority, modes_fit, is_aliased, needs_value, is_unordered, is_lawful_for}
use Rattle.sj_meaning.specs.State.{RootState, JobState, root_of, is_valued, has_no_value, is_child, is_valued_child}

-- what the reasons look at in a root: its reduction, whether all its elements have a value, whether none has, and which
-- children of the active plan have one at each element
pub record Known : Type 0 where
  pub dims : Dims
  pub parts : Parts
  pub reduction : Option Reduction
  pub all : Bool
  pub none : Bool
  pub child : ℕ × ℕ → Bool

abbrev pub known_of : RootState → Known
known_of r = record { dims = r.dims; parts = r.parts; reduction = r.reduction; all = is_valued r; none = has_no_value r; child = is_valued_child r }

-- how many statements stand before a line, how many names were registered, whether a name was ended,
-- what is known of the others
pub record Scope : Type 0 where
  pub statements : ℕ
  pub registered : ℕ
  pub ended : List ℕ → Bool
  pub known : List ℕ → Option Known

-- what a state shows the reasons, after so many statements
abbrev pub scope_of : ℕ → JobState → Scope
scope_of n S = record {
  statements = n;
  registered = S.registered;
  ended = λ name. list_any (bytes_eq name) S.ended;
  known = λ name. option_map known_of (root_of S name);
}

-- the first reason whose condition holds
abbrev pub first_of : List (Bool × Reason) → Option Reason
first_of [] = None
first_of (c ∷ cs) = if c.0 then Some c.1 else first_of cs

abbrev pub is_full : Scope → Bool
is_full s = nat_le 262144 s.statements

abbrev pub has_names : Scope → Bool
has_names s = nat_le 4096 s.registered

-- the dimensions lie outside their limits
abbrev pub is_outside : ℕ → ℕ → Bool
is_outside rows cols = not (is_side rows && is_side cols && nat_le (rows * cols) 16777216)

abbrev pub is_taken : Scope → List ℕ → Bool
is_taken s name = is_some (s.known name)

abbrev pub is_ended : Scope → List ℕ → Bool
is_ended s name = s.ended name

abbrev pub is_unknown : Scope → List ℕ → Bool
is_unknown s name = not (is_taken s name) && not (is_ended s name)

-- the values aren't as many as the elements
abbrev pub is_miscounted : Init → ℕ → ℕ → Bool
is_miscounted (Values zs) rows cols = not (nat_eq (length zs) (rows * cols))
is_miscounted (Fill a b) rows cols = false
is_miscounted Nothing rows cols = false

-- the plan would have too many children
abbrev pub is_crowded : Parts → Bool
is_crowded p = nat_lt 4096 (p.r * p.c)

-- n items are cut into so many parts, none of them empty
abbrev pub is_cut : ℕ → ℕ → Bool
is_cut n p = nat_le 1 p && nat_le p n

-- a part of rows or of columns would be empty
abbrev pub is_uncut : Dims → Parts → Bool
is_uncut d p = not (is_cut d.rows p.r && is_cut d.cols p.c)

abbrev pub register_reasons : Scope → List ℕ → Dims → Parts → Init → List (Bool × Reason)
register_reasons s name d p init =
    (is_full s, Limit Statements)
    ∷ (has_names s, Limit Names)
    ∷ (is_outside d.rows d.cols, Limit Elements)
    ∷ (is_crowded p, Limit PartsLimit)
    ∷ (is_ended s name, EndedName)
    ∷ (is_taken s name, TakenName)
    ∷ (is_uncut d p, Part)
    ∷ (is_miscounted init d.rows d.cols, Shape)
    ∷ []

abbrev pub dims_known : Scope → List ℕ → Dims
dims_known s name = elim (s.known name) [ None ↦ record { rows = 0; cols = 0 } | Some k ↦ k.dims ]

-- some elements have a value, and others have none
abbrev pub is_mixed : Scope → List ℕ → Bool
is_mixed s name = elim (s.known name) [ None ↦ false | Some k ↦ not (k.all || k.none) ]

abbrev pub plan_reasons : Scope → List ℕ → Parts → List (Bool × Reason)
plan_reasons s name p =
    (is_full s, Limit Statements)
    ∷ (is_crowded p, Limit PartsLimit)
    ∷ (is_unknown s name, UnknownName)
    ∷ (is_ended s name, EndedName)
    ∷ (is_uncut (dims_known s name) p, Part)
    ∷ (is_mixed s name, NoValue)
    ∷ []

-- the reduction of a name
abbrev pub reduction_known : Scope → List ℕ → Option Reduction
reduction_known s name = elim (s.known name) [ None ↦ None | Some k ↦ k.reduction ]

-- a name has one reduction, for good
abbrev pub redux_reasons : Scope → List ℕ → List (Bool × Reason)
redux_reasons s name =
    (is_full s, Limit Statements)
    ∷ (is_unknown s name, UnknownName)
    ∷ (is_ended s name, EndedName)
    ∷ (is_some (reduction_known s name), TakenName)
    ∷ []

-- arguments and operands are as many as the codelet has
abbrev pub is_counted : Kernel → List ℤ → List (Operand (List ℕ)) → Bool
is_counted k args os = nat_eq (length args) (arguments_of k) && nat_eq (length os) (length (formals_of k))

-- an index is that of a child; a name alone is the whole array, which is a child where it is the only one
abbrev pub is_child_said : Parts → Option (ℕ × ℕ) → Bool
is_child_said p None = nat_eq p.r 1 && nat_eq p.c 1
is_child_said p (Some index) = is_child p index

-- an operand is no child of its name's active plan
abbrev pub is_missing : Scope → OperandForm → Bool
is_missing s o = elim (s.known o.name) [ None ↦ false | Some k ↦ not (is_child_said k.parts (index_said o.child)) ]

-- the dimensions of an operand's child
abbrev pub dims_in : Scope → Operand (List ℕ) → Dims
dims_in s o = elim (s.known o.name) [ None ↦ record { rows = 0; cols = 0 } | Some k ↦ rect_dims (child k.dims k.parts o.place) ]

abbrev pub is_shaped : Scope → Kernel → List ℤ → List (Operand (List ℕ)) → Bool
is_shaped s k args os = modes_fit (formals_of k) os && fits k args (map (dims_in s) os)

-- an element of a name has no value
abbrev pub lacks_value : Scope → List ℕ → Bool
lacks_value s name = elim (s.known name) [ None ↦ false | Some k ↦ not k.all ]

-- an element of an operand's child has none
abbrev pub child_lacks_value : Scope → Operand (List ℕ) → Bool
child_lacks_value s o = elim (s.known o.name) [ None ↦ false | Some k ↦ not (k.child o.place) ]

-- an operand's old value is needed and isn't there
abbrev pub is_lacking : Scope → Operand (List ℕ) → Bool
is_lacking s o = needs_value o.mode && child_lacks_value s o

-- a contribution to a name without a reduction
abbrev pub lacks_reduction : Scope → Operand (List ℕ) → Bool
lacks_reduction s o = is_redux o.mode && not (is_some (reduction_known s o.name))

-- one of them stands beside another written operand
abbrev pub has_mixed_outputs : List (Operand (List ℕ)) → Bool
has_mixed_outputs os = list_any (λ o. is_unordered o.mode) os && nat_lt 1 (length (written_of os))

abbrev pub is_unlawful : (Kernel → Bool) → Scope → Kernel → Operand (List ℕ) → Bool
is_unlawful has s k o = not (is_lawful_for has (codelet_of k) (reduction_known s o.name) o.mode)

-- the operands' own conditions, for a codelet of the table
abbrev pub operand_reasons : (Kernel → Bool) → Scope → Kernel → List ℤ → List OperandForm → List (Operand (List ℕ)) → List (Bool × Reason)
operand_reasons has s k args forms os =
    (not (is_counted k args os), OperandCount)
    ∷ (list_any (is_missing s) forms, Part)
    ∷ (not (is_shaped s k args os), Shape)
    ∷ (is_aliased os, Aliased)
    ∷ (list_any (is_lacking s) os, NoValue)
    ∷ (list_any (lacks_reduction s) os, NoReduction)
    ∷ (has_mixed_outputs os, MixedOutputs)
    ∷ (list_any (is_unlawful has s k) os, NotLawful)
    ∷ []

-- the conditions before the codelet's
abbrev pub line_reasons : Scope → ℤ → List (Operand (List ℕ)) → List (Bool × Reason)
line_reasons s priority os =
    (is_full s, Limit Statements)
    ∷ (not (is_priority priority), Limit Priority)
    ∷ (list_any (λ o. is_unknown s o.name) os, UnknownName)
    ∷ (list_any (λ o. is_ended s o.name) os, EndedName)
    ∷ []

abbrev pub print_reasons : Scope → List ℕ → List (Bool × Reason)
print_reasons s name =
    (is_full s, Limit Statements)
    ∷ (is_unknown s name, UnknownName)
    ∷ (is_ended s name, EndedName)
    ∷ (lacks_value s name, NoValue)
    ∷ []

-- a statement that needs no more than a name
abbrev pub name_reasons : Scope → List ℕ → List (Bool × Reason)
name_reasons s name =
    (is_full s, Limit Statements)
    ∷ (is_unknown s name, UnknownName)
    ∷ (is_ended s name, EndedName)
    ∷ []

-- an act against which there is no reason, or the reason
abbrev pub unless : Option Reason → Act (List ℕ) → Result (Act (List ℕ)) Reason
unless None act = Ok act
unless (Some why) act = Err why

-- the codelet that a job calls by this name
abbrev pub kernel_named : (Kernel → Bool) → List ℕ → Option Kernel
kernel_named has name = find (λ k. has k && has_name name k) kernels

-- what the codelet's conditions leave of a task
abbrev pub judged_call : (Kernel → Bool) → Scope → Option Kernel → TaskForm → Result (Act (List ℕ)) Reason
judged_call has s None t = Err UnknownCodelet
judged_call has s (Some k) t =
    unless (first_of (operand_reasons has s k (task_said k t).args t.operands (operands_said t))) (Tasks (task_said k t))

-- what the reasons before the codelet's leave
abbrev pub judged_by : Option Reason → Result (Act (List ℕ)) Reason → Result (Act (List ℕ)) Reason
judged_by None r = r
judged_by (Some why) r = Err why

abbrev pub judged_task : (Kernel → Bool) → Scope → TaskForm → Result (Act (List ℕ)) Reason
judged_task has s t =
    judged_by (first_of (line_reasons s (priority_said t.priority) (operands_said t)))
    (judged_call has s (kernel_named has t.codelet) t)

-- what a form does, or the first reason against it
abbrev pub judged : (Kernel → Bool) → Scope → Form → Result (Act (List ℕ)) Reason
judged has s (form.Register a) =
    unless (first_of (register_reasons s a.name (registered_by a).dims (parts_said a.parts) (init_said a.init))) (Registers (registered_by a))
judged has s (form.Plan name r c) =
    let p = parts_said (Some (r, c)) in unless (first_of (plan_reasons s name p)) (Plans name p)
judged has s (form.Redux name by) = unless (first_of (redux_reasons s name)) (Reduces name by)
judged has s (form.Task t) = judged_task has s t
judged has s (form.Print name) = unless (first_of (print_reasons s name)) (Prints name)
judged has s (form.Invalidate name) = unless (first_of (name_reasons s name)) (Invalidates name)
judged has s (form.Unregister name) = unless (first_of (name_reasons s name)) (Unregisters name)
