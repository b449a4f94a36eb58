-- The operands of a task that contributes: the last one gets the contribution, and those before it are only read, scratch aside.
use Rattle.sj_lower.proofs.Words.{[], AllByRecursion, ap, arith, Bool, Commute, commutes_in, cond, contributes_in, contributes_of, false, filter, Formal, FormalR, FormalRW, FormalScratch, FormalW, has_reduction, is_commute, is_lawful, is_output, is_redux, is_written, IsSoundTask, JobState, Kernel, kernel_of, length, length-append, List, list_all, list_any, Mode, mode_fits, modes_fit, None, not, Operand, Option, R, Reduction, reduction_of, Redux, refl, RW, Scratch, Some, sym, TaskLine, true, W, written_of, ℕ, ◌&&◌, ◌++◌, ◌+◌, ◌||◌, ◌∙◌, ◌∷◌, ◌≡◌}
use Rattle.std.proofs.lemmas.Bool.{false≢true, and_parts}
use Rattle.sj_base.proofs.Bools.{or_false, and_middle}
use Rattle.sj_core.proofs.Updating.{updates-last, contributing-commutes}
use Rattle.sj_lower.proofs.Running.{kernel_there}

-- the operand is only read, or scratch
abbrev pub IsRead : Operand (List ℕ) → Type 0
IsRead o = (is_redux o.mode ≡ false) × (is_written o.mode ≡ false) × (is_commute o.mode ≡ false)

-- an operand before the last one
pub record EndsIn (os : List (Operand (List ℕ))) (f : Formal) : Type 0 where
  pub before : List (Operand (List ℕ))
  pub last : Operand (List ℕ)
  pub is : os ≡ before ++ last ∷ []
  pub fits : mode_fits f last.mode ≡ true
  pub reads : AllByRecursion IsRead before

reads_only : (f : Formal) (m : Mode) → mode_fits f m ≡ true → not (is_output f) ≡ true → (is_redux m ≡ false) × (is_written m ≡ false) × (is_commute m ≡ false)
reads_only FormalR R e h = (refl, refl, refl)
reads_only FormalR W e h = absurd (cc)
reads_only FormalR RW e h = absurd (cc)
reads_only FormalR Scratch e h = absurd (cc)
reads_only FormalR Redux e h = absurd (cc)
reads_only FormalR Commute e h = absurd (cc)
reads_only FormalW m e h = absurd (false≢true h)
reads_only FormalRW m e h = absurd (false≢true h)
reads_only FormalScratch R e h = absurd (cc)
reads_only FormalScratch W e h = absurd (cc)
reads_only FormalScratch RW e h = absurd (cc)
reads_only FormalScratch Scratch e h = (refl, refl, refl)
reads_only FormalScratch Redux e h = absurd (cc)
reads_only FormalScratch Commute e h = absurd (cc)

ends-in : (fs : List Formal) (f : Formal) (os : List (Operand (List ℕ))) → modes_fit (fs ++ f ∷ []) os ≡ true → length os ≡ length fs + 1 → list_all (λ g. not (is_output g)) fs ≡ true → EndsIn os f
ends-in [] f [] e l h = absurd (omega (arith, l))
ends-in [] f (o ∷ []) e l h = record { before = []; last = o; is = refl; fits = (and_parts (mode_fits f o.mode) true e).0; reads = tt }
ends-in [] f (o ∷ u ∷ os) e l h = absurd (omega (arith, l))
ends-in (g ∷ fs) f [] e l h = absurd (omega (arith, l))
ends-in (g ∷ fs) f (o ∷ os) e l h =
    let m = and_parts (mode_fits g o.mode) (modes_fit (fs ++ f ∷ []) os) e in
    let n = and_parts (not (is_output g)) (list_all (λ g. not (is_output g)) fs) h in
    let rest = ends-in fs f os m.1 (omega (arith, l)) n.1 in
    record { before = o ∷ rest.before; last = rest.last; is = ap (λ us. o ∷ us) rest.is; fits = rest.fits; reads = (reads_only g o.mode m.0 n.0, rest.reads) }

-- ---- lists

pub any-there : {X : Type 0} (f : X → Bool) (xs : List X) (x : X) → list_any f (xs ++ x ∷ []) ≡ true → AllByRecursion (λ y. f y ≡ false) xs → f x ≡ true
any-there f [] x h all = or_false (f x) h
any-there f (y ∷ xs) x h all = any-there f xs x (ap (λ b. b || list_any f (xs ++ x ∷ [])) (sym all.0) ∙ h) all.1

pub filter-none : {X : Type 0} (f : X → Bool) (xs : List X) (x : X) → AllByRecursion (λ y. f y ≡ false) xs → f x ≡ true → filter f (xs ++ x ∷ []) ≡ x ∷ []
filter-none f [] x all e = ap (λ b. cond b (x ∷ []) []) e
filter-none f (y ∷ xs) x all e = ap (λ b. cond b (y ∷ filter f (xs ++ x ∷ [])) (filter f (xs ++ x ∷ []))) all.0 ∙ filter-none f xs x all.1 e

pub all-before : {X : Type 0} (f : X → Bool) (xs : List X) (x : X) → list_all f (xs ++ x ∷ []) ≡ true → (list_all f xs ≡ true) × (f x ≡ true)
all-before f [] x h = (refl, (and_parts (f x) true h).0)
all-before f (y ∷ xs) x h =
    let a = and_parts (f y) (list_all f (xs ++ x ∷ [])) h in
    let r = all-before f xs x a.1 in
    (ap (λ b. b && list_all f xs) a.0 ∙ r.0, r.1)

pub each-before : {X : Type 0} (P : X → Type 0) (xs : List X) (x : X) → AllByRecursion P (xs ++ x ∷ []) → AllByRecursion P xs × P x
each-before P [] x h = (tt, h.0)
each-before P (y ∷ xs) x h = let r = each-before P xs x h.1 in ((h.0, r.0), r.1)

each-weaker : {X : Type 0} (P Q : X → Type 0) (xs : List X) → ((x : X) → P x → Q x) → AllByRecursion P xs → AllByRecursion Q xs
each-weaker P Q [] f h = tt
each-weaker P Q (x ∷ xs) f h = (f x h.0, each-weaker P Q xs f h.1)

pub snoc-parts : {X : Type 0} (xs ys : List X) (x y : X) → xs ++ x ∷ [] ≡ ys ++ y ∷ [] → (xs ≡ ys) × (x ≡ y)
snoc-parts [] [] x y e = (refl, let f : x ∷ [] ≡ y ∷ [] = e in cc)
snoc-parts [] (z ∷ ys) x y e = absurd (let n : 1 ≡ length (z ∷ (ys ++ y ∷ [])) = ap length e in omega (arith, n, length-append ys (y ∷ [])))
snoc-parts (z ∷ xs) [] x y e = absurd (let n : length (z ∷ (xs ++ x ∷ [])) ≡ 1 = ap length e in omega (arith, n, length-append xs (x ∷ [])))
snoc-parts (z ∷ xs) (w ∷ ys) x y e =
    let f : z ∷ (xs ++ x ∷ []) ≡ w ∷ (ys ++ y ∷ []) = e in
    let heads : z ≡ w = cc in
    let tails : xs ++ x ∷ [] ≡ ys ++ y ∷ [] = cc in
    let rest = snoc-parts xs ys x y tails in
    (ap (λ zs. z ∷ zs) rest.0 ∙ ap (λ v. v ∷ ys) heads, rest.1)

-- ---- tasks

-- the operand to which a task contributes is its last, and the only one that it writes
pub record Contributes (S : JobState) (t : TaskLine (List ℕ)) (kernel : Kernel) : Type 0 where
  pub before : List (Operand (List ℕ))
  pub last : Operand (List ℕ)
  pub is : t.operands ≡ before ++ last ∷ []
  pub reads : AllByRecursion IsRead before
  pub redux : last.mode ≡ Redux
  pub by : Reduction
  pub reduction : reduction_of S last.name ≡ Some by
  pub contributes : contributes_of kernel by ≡ true
  pub written : written_of t.operands ≡ last ∷ []
  pub contributed : filter (λ o. is_redux o.mode) t.operands ≡ last ∷ []

-- a task with a contribution, by the codelet of its line
contributing : (has : Kernel → Bool) (S : JobState) (t : TaskLine (List ℕ)) (k : Kernel) → kernel_of t.codelet ≡ Some k → (os : List (Operand (List ℕ))) → list_all (is_lawful has S t.codelet) os ≡ true → list_any (λ o. is_redux o.mode) os ≡ true → (by : Reduction) × (contributes_of k by ≡ true)
contributing has S t k e [] h any = absurd (false≢true any)
contributing has S t k e (o ∷ os) h any =
    let a = and_parts (is_lawful has S t.codelet o) (list_all (is_lawful has S t.codelet) os) h in
    by_test (is_redux o.mode) any (and_parts (not (is_commute o.mode) || commutes_in has t.codelet) (not (is_redux o.mode) || contributing_to (reduction_of S o.name)) a.0).1 (contributing has S t k e os a.1)
  where
    contributing_to : Option Reduction → Bool
    contributing_to x = elim x as (λ _. Bool) [ None ↦ false | Some by ↦ contributes_in has t.codelet by ]

    by_kernel : (by : Reduction) → contributes_in has t.codelet by ≡ true → contributes_of k by ≡ true
    by_kernel by h = and_middle (has k) (contributes_of k by) _ (sym (ap (λ (o : Option Kernel). elim o as (λ _. Bool) [ None ↦ false | Some k ↦ has k && contributes_of k by && has_reduction has by ]) e) ∙ h)

    by_reduction : (x : Option Reduction) → contributing_to x ≡ true → (by : Reduction) × (contributes_of k by ≡ true)
    by_reduction None e = absurd (false≢true e)
    by_reduction (Some by) e = (by, by_kernel by e)

    by_test : (b : Bool) → (b || list_any (λ o. is_redux o.mode) os) ≡ true → (not b || contributing_to (reduction_of S o.name)) ≡ true → (list_any (λ o. is_redux o.mode) os ≡ true → (by : Reduction) × (contributes_of k by ≡ true)) → (by : Reduction) × (contributes_of k by ≡ true)
    by_test true any h rest = by_reduction (reduction_of S o.name) h
    by_test false any h rest = rest any

is-redux : (m : Mode) → is_redux m ≡ true → m ≡ Redux
is-redux R e = absurd (false≢true e)
is-redux W e = absurd (false≢true e)
is-redux RW e = absurd (false≢true e)
is-redux Scratch e = absurd (false≢true e)
is-redux Redux e = refl
is-redux Commute e = absurd (false≢true e)

pub contributes-there : (has : Kernel → Bool) (S : JobState) (t : TaskLine (List ℕ)) (s : IsSoundTask has S t) → list_any (λ o. is_redux o.mode) t.operands ≡ true → Contributes S t (kernel_there has S t s).call.kernel
contributes-there has S t s any =
    let kernel = kernel_there has S t s in
    let k = kernel.call.kernel in
    let by_any = contributing has S t k kernel.call.is t.operands s.lawful any in
    let last_row = updates-last k (contributing-commutes k by_any.0 by_any.1) in
    let e = ends-in last_row.first FormalRW t.operands (ap (λ fs. modes_fit fs t.operands) (sym last_row.formals) ∙ kernel.modes) (kernel.count ∙ ap length last_row.formals ∙ length-append last_row.first (FormalRW ∷ [])) last_row.read_only in
    let none = each-weaker IsRead (λ o. is_redux o.mode ≡ false) e.before (λ o h. h.0) e.reads in
    let redux = any-there (λ o. is_redux o.mode) e.before e.last (ap (list_any (λ o. is_redux o.mode)) (sym e.is) ∙ any) none in
    let mode = is-redux e.last.mode redux in
    let law = (all-before (is_lawful has S t.codelet) e.before e.last (ap (list_all (is_lawful has S t.codelet)) (sym e.is) ∙ s.lawful)).1 in
    let by = its_reduction k kernel.call.is e.last redux law in
    record {
      before = e.before;
      last = e.last;
      is = e.is;
      reads = e.reads;
      redux = mode;
      by = by.0;
      reduction = by.1;
      contributes = by.2;
      written = ap (λ os. written_of os) e.is ∙ filter-none (λ o. is_written o.mode) e.before e.last (each-weaker IsRead (λ o. is_written o.mode ≡ false) e.before (λ o h. h.1) e.reads) (ap is_written mode);
      contributed = ap (filter (λ o. is_redux o.mode)) e.is ∙ filter-none (λ o. is_redux o.mode) e.before e.last none redux;
    }
  where
    its_reduction : (k : Kernel) → kernel_of t.codelet ≡ Some k → (o : Operand (List ℕ)) → is_redux o.mode ≡ true → is_lawful has S t.codelet o ≡ true → (by : Reduction) × (reduction_of S o.name ≡ Some by) × (contributes_of k by ≡ true)
    its_reduction k e o redux law =
        let both = and_parts (not (is_commute o.mode) || commutes_in has t.codelet) (not (is_redux o.mode) || contributing_to (reduction_of S o.name)) law in
        by_option (reduction_of S o.name) refl (sym (ap (λ b. not b || contributing_to (reduction_of S o.name)) redux) ∙ both.1)
      where
        contributing_to : Option Reduction → Bool
        contributing_to x = elim x as (λ _. Bool) [ None ↦ false | Some by ↦ contributes_in has t.codelet by ]

        by_kernel : (by : Reduction) → contributes_in has t.codelet by ≡ true → contributes_of k by ≡ true
        by_kernel by h = and_middle (has k) (contributes_of k by) _ (sym (ap (λ (o : Option Kernel). elim o as (λ _. Bool) [ None ↦ false | Some k ↦ has k && contributes_of k by && has_reduction has by ]) e) ∙ h)

        by_option : (x : Option Reduction) → reduction_of S o.name ≡ x → contributing_to x ≡ true → (by : Reduction) × (reduction_of S o.name ≡ Some by) × (contributes_of k by ≡ true)
        by_option None e h = absurd (false≢true h)
        by_option (Some by) e h = (by, e, by_kernel by h)
