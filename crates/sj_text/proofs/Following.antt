-- The plans that a text makes active are those of the roots in the state that its statements leave.
use Rattle.std.specs.FinMap as map
use Rattle.std.proofs.Common.{◌≡◌, ℕ, Bool, true, false, cond, Option, Some, None, option_map, List, [], ◌∷◌, refl, sym, ap, subst, ◌∙◌, bytes_eq}
use Rattle.std.specs.Cmp.Lexicographic.{nat_list_cmp_total, slice_cmp, texts_ties}
use Rattle.std.specs.Ordering.{nat_cmp}
use Rattle.sj_base.specs.Array.{Array}
use Rattle.sj_plan.specs.declared.parts.Parts.{Parts}
use Rattle.sj_meaning.specs.Act.{Act, Register, Plan, Redux, Task, Print, Invalidate, Unregister}
use Rattle.sj_meaning.specs.Meaning.{apply, change, no_values, put_all, register, registered_root, unregister, with_child, with_elements, with_parts, with_reduction, written_of}
use Rattle.sj_meaning.specs.State.{RootState, JobState, root_of, start}
use Rattle.sj_meaning.specs.Statement.{Operand, Register as Registration}
use Rattle.sj_job.proofs.Seen.{root_changed}
use Rattle.sj_text.specs.Forms.{Plans, no_plans, plans_after, with_plan}

-- the plan of each root is active for its name
abbrev pub Follows : Plans → JobState → Type 0
Follows plans S = (q : List ℕ) (r : RootState) → root_of S q ≡ Some r → plans q ≡ r.parts

pub follows-start : Follows no_plans start
follows-start q r e = let none : root_of start q ≡ None = map.get-empty (slice_cmp nat_cmp) q in absurd (cc)

-- ---- a root that stays under its plan

abbrev Has : Option RootState → Parts → Type 0
Has o p = (r : RootState) → o ≡ Some r → p ≡ r.parts

kept-by : (f : RootState → RootState) → ((r : RootState) → (f r).parts ≡ r.parts) → (p : Parts) (o : Option RootState) → Has o p → Has (option_map f o) p
kept-by f keeps p None h r e = absurd (cc)
kept-by f keeps p (Some x) h r e = let same : f x ≡ r = cc in h x refl ∙ sym (keeps x) ∙ ap (λ (y : RootState). y.parts) same

either-kept : (b : Bool) (p : Parts) (x y : Option RootState) → (b ≡ true → Has x p) → Has y p → Has (cond b x y) p
either-kept true p x y h k = h refl
either-kept false p x y h k = k

follows-changed : (f : RootState → RootState) → ((r : RootState) → (f r).parts ≡ r.parts) → (plans : Plans) (name : List ℕ) (S : JobState) → Follows plans S → Follows plans (change f name S)
follows-changed f keeps plans name S h q =
    subst (λ (o : Option RootState). Has o (plans q)) (sym (root_changed f S name q))
    (either-kept (bytes_eq q name) (plans q) (option_map f (root_of S name)) (root_of S q)
    (λ t. subst (λ (n : List ℕ). Has (option_map f (root_of S n)) (plans q)) (Rattle.std.specs.Cmp.Lexicographic.same_text q name (sym t)) (kept-by f keeps (plans q) (root_of S q) (h q)))
    (h q))

-- ---- a root under a plan of its own

planned-by : (b : Bool) (p old : Parts) (x y : Option RootState) → Has x p → Has y old → Has (cond b x y) (cond b p old)
planned-by true p old x y h k = h
planned-by false p old x y h k = k

own : (p : Parts) (o : Option RootState) → Has (option_map (with_parts p) o) p
own p None r e = absurd (cc)
own p (Some x) r e = let same : with_parts p x ≡ r = cc in ap (λ (y : RootState). y.parts) same

follows-planned : (plans : Plans) (name : List ℕ) (p : Parts) (S : JobState) → Follows plans S → Follows (with_plan name p plans) (change (with_parts p) name S)
follows-planned plans name p S h q =
    subst (λ (o : Option RootState). Has o (cond (bytes_eq q name) p (plans q))) (sym (root_changed (with_parts p) S name q))
    (planned-by (bytes_eq q name) p (plans q) (option_map (with_parts p) (root_of S name)) (root_of S q) (own p (root_of S name)) (h q))

first : (g : Registration (List ℕ)) → Has (Some (registered_root g)) g.parts
first g r e = let same : registered_root g ≡ r = cc in ap (λ (y : RootState). y.parts) same

follows-registered : (plans : Plans) (g : Registration (List ℕ)) (S : JobState) → Follows plans S → Follows (with_plan g.name g.parts plans) (register g S)
follows-registered plans g S h q =
    subst (λ (o : Option RootState). Has o (cond (bytes_eq q g.name) g.parts (plans q)))
    (sym (map.get-insert nat_list_cmp_total S.roots g.name (registered_root g) q ∙ ap (λ b. cond b (Some (registered_root g)) (root_of S q)) (sym (texts_ties q g.name))))
    (planned-by (bytes_eq q g.name) g.parts (plans q) (Some (registered_root g)) (root_of S q) (first g) (h q))

-- ---- a root less

nothing : (p : Parts) → Has None p
nothing p r e = absurd (cc)

follows-ended : (plans : Plans) (name : List ℕ) (S : JobState) → Follows plans S → Follows plans (unregister name S)
follows-ended plans name S h q =
    subst (λ (o : Option RootState). Has o (plans q)) (sym (map.get-remove nat_list_cmp_total S.roots name q ∙ ap (λ b. cond b None (root_of S q)) (sym (texts_ties q name))))
    (either-kept (bytes_eq q name) (plans q) None (root_of S q) (λ t. nothing (plans q)) (h q))

-- ---- an act

follows-put : (os : List (Operand (List ℕ))) (arrays : List Array) (plans : Plans) (S : JobState) → Follows plans S → Follows plans (put_all os arrays S)
follows-put [] arrays plans S h = h
follows-put (o ∷ os) [] plans S h = h
follows-put (o ∷ os) (a ∷ arrays) plans S h =
    follows-put os arrays plans (change (with_child o.place a) o.name S) (follows-changed (with_child o.place a) (λ r. refl) plans o.name S h)

pub follows-act : (act : Act (List ℕ)) (plans : Plans) (S : JobState) → Follows plans S → Follows (plans_after act plans) (apply act S)
follows-act (Register g) plans S h = follows-registered plans g S h
follows-act (Plan name p) plans S h = follows-planned plans name p S h
follows-act (Redux name by) plans S h = follows-changed (with_reduction by) (λ r. refl) plans name S h
follows-act (Task t) plans S h = follows-put (written_of t.operands) (Rattle.sj_codelet.specs.Kernel.out t.codelet t.args (Rattle.std.proofs.Common.map (Rattle.sj_meaning.specs.Meaning.operand_array S) t.operands)) plans S h
follows-act (Print name) plans S h = h
follows-act (Invalidate name) plans S h = follows-changed (λ (r : RootState). with_elements (no_values r.dims) r) (λ r. refl) plans name S h
follows-act (Unregister name) plans S h = follows-ended plans name S h
