-- Going over a list, one element more.
use Rattle.std.proofs.Common.{◌≡◌, ℕ, suc, ◌+◌, ◌<◌, List, [], ◌∷◌, ◌++◌, length, get_or, drop, refl, ap, ◌∙◌, sym, arith, Option, Some, None, option_map, append_assoc}
use Rattle.std.proofs.Math.Seq.{drop-cons}
use Rattle.std.proofs.lemmas.List.{get_or_default}
use Rattle.sj_job.specs.Form.{each_some}

-- the tail of a list begins with the element there
pub begins : {A : Type 0} (xs : List A) (i : ℕ) (x : A) → i < length xs → get_or xs i x ≡ x → drop i xs ≡ x ∷ drop (i + 1) xs
begins xs i x lt e = let s : suc i ≡ i + 1 = omega arith in drop-cons xs i x lt ∙ ap (λ y. y ∷ drop (suc i) xs) e ∙ ap (λ k. x ∷ drop k xs) s

moved : {B : Type 0} (front : List B) (y : B) (o : Option (List B)) → option_map (λ ys. front ++ ys) (option_map (λ ys. y ∷ ys) o) ≡ option_map (λ ys. (front ++ y ∷ []) ++ ys) o
moved front y None = refl
moved front y (Some ys) = ap Some (sym (append_assoc front (y ∷ []) ys))

first_is : {A B : Type 0} (f : A → Option B) (x : A) (xs : List A) (y : B) → f x ≡ Some y → each_some f (x ∷ xs) ≡ option_map (λ ys. y ∷ ys) (each_some f xs)
first_is {A} {B} f x xs y e = ap (λ (o : Option B). elim o [ None ↦ None | Some z ↦ option_map (λ ys. z ∷ ys) (each_some f xs) ]) e

first_none : {A B : Type 0} (f : A → Option B) (x : A) (xs : List A) → f x ≡ None → each_some f (x ∷ xs) ≡ None
first_none {A} {B} f x xs e = ap (λ (o : Option B). elim o as (λ _. Option (List B)) [ None ↦ None | Some z ↦ option_map (λ ys. z ∷ ys) (each_some f xs) ]) e

-- an element that gives something goes behind the front
pub each_more : {A B : Type 0} (f : A → Option B) (xs : List A) (i : ℕ) (x : A) (y : B) (front : List B) → i < length xs → get_or xs i x ≡ x → f x ≡ Some y → option_map (λ ys. front ++ ys) (each_some f (drop i xs)) ≡ option_map (λ ys. (front ++ y ∷ []) ++ ys) (each_some f (drop (i + 1) xs))
each_more f xs i x y front lt at e =
    ap (λ l. option_map (λ ys. front ++ ys) (each_some f l)) (begins xs i x lt at)
    ∙ ap (λ o. option_map (λ ys. front ++ ys) o) (first_is f x (drop (i + 1) xs) y e)
    ∙ moved front y (each_some f (drop (i + 1) xs))

-- one that gives nothing ends it
pub each_none : {A B : Type 0} (f : A → Option B) (xs : List A) (i : ℕ) (x : A) (front : List B) → i < length xs → get_or xs i x ≡ x → f x ≡ None → option_map (λ ys. front ++ ys) (each_some f (drop i xs)) ≡ None
each_none f xs i x front lt at e =
    ap (λ l. option_map (λ ys. front ++ ys) (each_some f l)) (begins xs i x lt at)
    ∙ ap (λ o. option_map (λ ys. front ++ ys) o) (first_none f x (drop (i + 1) xs) e)

-- the same of an element that was read
pub each_more_at : {A B : Type 0} (f : A → Option B) (xs : List A) (i : ℕ) (d : A) (y : B) (front : List B) → i < length xs → f (get_or xs i d) ≡ Some y → option_map (λ ys. front ++ ys) (each_some f (drop i xs)) ≡ option_map (λ ys. (front ++ y ∷ []) ++ ys) (each_some f (drop (i + 1) xs))
each_more_at f xs i d y front lt e = each_more f xs i (get_or xs i d) y front lt (get_or_default xs i (get_or xs i d) d lt) e

pub each_none_at : {A B : Type 0} (f : A → Option B) (xs : List A) (i : ℕ) (d : A) (front : List B) → i < length xs → f (get_or xs i d) ≡ None → option_map (λ ys. front ++ ys) (each_some f (drop i xs)) ≡ None
each_none_at f xs i d front lt e = each_none f xs i (get_or xs i d) front lt (get_or_default xs i (get_or xs i d) d lt) e
