-- The first values, one more than the elements are, tell whether all of them are as many as these.
use Rattle.std.proofs.Common.{◌≡◌, ◌∙◌, ℕ, ◌+◌, ◌*◌, ◌≤◌, not, Bool, true, false, List, [], ◌∷◌, Option, None, length, nat_eq, min, arith, refl, ap, sym}
use Rattle.std.proofs.lemmas.Bool.Decides.{nat_tests}
use Rattle.std.proofs.lemmas.List.{length-take, take_all}
use Rattle.std.specs.Bool.{IsFalse}
use Rattle.sj_base.specs.declared.tile.Dims.{Dims}
use Rattle.sj_meaning.specs.declared.job.Init.{Init}
use Rattle.sj_meaning.specs.declared.job.Init.TheVariants.{Values, Fill, Nothing}
use Rattle.sj_plan.specs.declared.parts.Parts.{Parts}
use Rattle.sj_job.specs.declared.reason.Reason.{Reason}
use Rattle.sj_job.specs.declared.reason.Reason.TheVariants.{TakenName, Shape, Part, Limit, EndedName}
use Rattle.sj_job.specs.declared.reason.LimitKind.TheVariants.{Statements, Names, Elements, Parts as PartsLimit}
use Rattle.sj_job.specs.Judge.{Scope, first_of, has_names, is_crowded, is_ended, is_full, is_miscounted, is_outside, is_taken, is_uncut, register_reasons}
use Rattle.sj_job.specs.Sentence.{first_values}
use Rattle.sj_job.proofs.Sounding.{none_hold}

-- these first values of what is said tell of all of them, unless the array is too large
abbrev pub Tells : Init → Init → Dims → Type 0
Tells init said d = IsFalse (is_outside d.rows d.cols) → init ≡ first_values (d.rows * d.cols + 1) said

capped : (n m : ℕ) → nat_eq (min (n + 1) m) n ≡ nat_eq m n
capped n m = grind (arith, nat_tests)

counted : (init : Init) (rows cols : ℕ) → is_miscounted (first_values (rows * cols + 1) init) rows cols ≡ is_miscounted init rows cols
counted (Values zs) rows cols =
    ap (λ m. not (nat_eq m (rows * cols))) (length-take (rows * cols + 1) zs) ∙ ap not (capped (rows * cols) (length zs))
counted (Fill a b) rows cols = refl
counted Nothing rows cols = refl

abbrev first_with : Scope → List ℕ → Dims → Parts → Bool → Bool → Option Reason
first_with s name d p outside miscounted =
    first_of (
    (is_full s, Limit Statements)
    ∷ (has_names s, Limit Names)
    ∷ (outside, Limit Elements)
    ∷ (is_crowded p, Limit PartsLimit)
    ∷ (is_ended s name, EndedName)
    ∷ (is_taken s name, TakenName)
    ∷ (is_uncut d p, Part)
    ∷ (miscounted, Shape)
    ∷ [])

pub told : (s : Scope) (name : List ℕ) (d : Dims) (p : Parts) (init said : Init) → Tells init said d → first_of (register_reasons s name d p init) ≡ first_of (register_reasons s name d p said)
told s name d p init said h = by (is_outside d.rows d.cols) refl
  where
    by : (b : Bool) → is_outside d.rows d.cols ≡ b → first_of (register_reasons s name d p init) ≡ first_of (register_reasons s name d p said)
    by false e = ap (first_with s name d p (is_outside d.rows d.cols)) (ap (λ i. is_miscounted i d.rows d.cols) (h e) ∙ counted said d.rows d.cols)
    by true e =
        ap (λ b. first_with s name d p b (is_miscounted init d.rows d.cols)) e
        ∙ ap (λ b. first_with s name d p b (is_miscounted said d.rows d.cols)) (sym e)

as-many : (m n : ℕ) → not (nat_eq m n) ≡ false → m ≤ n + 1
as-many m n e = grind (arith, nat_tests)

all-kept : (init : Init) (rows cols : ℕ) → is_miscounted init rows cols ≡ false → first_values (rows * cols + 1) init ≡ init
all-kept (Values zs) rows cols f =
    ap Values (take_all (rows * cols + 1) zs (as-many (length zs) (rows * cols) f))
all-kept (Fill a b) rows cols f = refl
all-kept Nothing rows cols f = refl

-- where nothing is against them, they are all
pub kept : (s : Scope) (name : List ℕ) (d : Dims) (p : Parts) (init said : Init) → Tells init said d → first_of (register_reasons s name d p said) ≡ None → init ≡ said
kept s name d p init said h e =
    let none = none_hold (register_reasons s name d p said) e in
    h none.1.1.0 ∙ all-kept said d.rows d.cols none.1.1.1.1.1.1.1.0
