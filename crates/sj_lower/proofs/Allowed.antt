-- What a statement that lines may say has.
use Rattle.sj_lower.proofs.Words.{[], Act, ap, apply, Bool, codelet_of, Deliver, first_of, Form, has_name, init_said, Invalidate, IsAllowed, IsWell, JobState, judged, Kernel, kernel_of, kernels, List, name_reasons, Ok, parts_said, Plan, plan_reasons, Print, print_reasons, redux_reasons, register_reasons, registered_by, Scope, scope_of, Some, Statement, subst, sym, TaskForm, true, Unregister, ℕ, ◌&&◌, ◌+◌, ◌∙◌, ◌∷◌, ◌≡◌}
use Rattle.std.proofs.lemmas.Bool.{false≢true}
use Rattle.sj_base.proofs.Bools.{and_rest}
use Rattle.sj_codelet.proofs.Table.{kernel_of-codelet_of}
use Rattle.sj_meaning.specs.Act.{Register, Redux}
use Rattle.sj_job.specs.declared.form.Form.TheVariants as form
use Rattle.sj_lower.proofs.Able.{DoesNotDeliver, CanBe, AllCanBe}
use Rattle.sj_job.proofs.Sounding.{IsJudged, unless_parts, judged-task, found_passes, sound_from_allowed}

-- a codelet with a name doesn't deliver
named_isn't : (name : List ℕ) (k : Kernel) → has_name name k ≡ true → kernel_of (codelet_of k) ≡ Some Deliver → ⊥
named_isn't name k h e =
    let same : k ≡ Deliver = cc (kernel_of-codelet_of k) in
    false≢true (sym (ap (has_name name) same) ∙ h)

task_isn't : (has : Kernel → Bool) (s : Scope) (t : TaskForm) (act : Act (List ℕ)) → IsJudged has s t act → DoesNotDeliver act
task_isn't has s t act j =
    let passes = found_passes (λ k. has k && has_name t.codelet k) kernels j.kernel j.named in
    subst DoesNotDeliver j.is (named_isn't t.codelet j.kernel (and_rest (has j.kernel) (has_name t.codelet j.kernel) passes))

nameable : (has : Kernel → Bool) (s : Scope) (f : Form) (act : Act (List ℕ)) → judged has s f ≡ Ok act → DoesNotDeliver act
nameable has s (form.Register a) act e = subst DoesNotDeliver (unless_parts (first_of (register_reasons s a.name (registered_by a).dims (parts_said a.parts) (init_said a.init))) (Register (registered_by a)) act e).1 tt
nameable has s (form.Plan name r c) act e = subst DoesNotDeliver (unless_parts (first_of (plan_reasons s name (parts_said (Some (r, c))))) (Plan name (parts_said (Some (r, c)))) act e).1 tt
nameable has s (form.Redux name by) act e = subst DoesNotDeliver (unless_parts (first_of (redux_reasons s name)) (Redux name by) act e).1 tt
nameable has s (form.Task t) act e = task_isn't has s t act (judged-task has s t act e)
nameable has s (form.Print name) act e = subst DoesNotDeliver (unless_parts (first_of (print_reasons s name)) (Print name) act e).1 tt
nameable has s (form.Invalidate name) act e = subst DoesNotDeliver (unless_parts (first_of (name_reasons s name)) (Invalidate name) act e).1 tt
nameable has s (form.Unregister name) act e = subst DoesNotDeliver (unless_parts (first_of (name_reasons s name)) (Unregister name) act e).1 tt

pub can_be : (has : Kernel → Bool) (k : ℕ) (S : JobState) (a : Act (List ℕ)) → IsAllowed has (scope_of k S) a → CanBe has S a
can_be has k S a h = record { sound = sound_from_allowed has k S a h; nameable = nameable has (scope_of k S) h.form a h.judged }

-- and so have all that are allowed one after another
pub all_can_be : (has : Kernel → Bool) (k : ℕ) (S : JobState) (ss : List (Statement (List ℕ))) → IsWell has k S ss → AllCanBe has S ss
all_can_be has k S [] w = tt
all_can_be has k S (s ∷ ss) w = (can_be has k S s.act w.0, all_can_be has (k + 1) (apply s.act S) ss w.1)
