-- Under prio, the first entry that fits is the most urgent of those that fit.
use Rattle.std.proofs.Common.{◌≡◌, ℕ, Bool, true, false, not, cond, List, [], ◌∷◌, Option, None, Some, IfSome, IsTrue, All, length, refl, arith, inl, inr, ◌⊎◌, subst}
use Rattle.std.proofs.lemmas.Int.{ints}
use Rattle.std.proofs.lemmas.List.Elements.{All-nil, All-cons, All-head, All-from_recursion}
use Rattle.std.specs.List.{list_all, AllByRecursion}
use Rattle.std.specs.Option.{option_and_then}
use Rattle.sj_base.specs.declared.mode.Policy.TheVariants.{Prio}
use Rattle.sj_pool.specs.declared.entry.Entry.{Entry}
use Rattle.sj_pool.specs.Entry.{fits_room, precedes}
use Rattle.sj_pool.specs.Queue.{has_fitting, first_fitting, is_by_urgency}
use Rattle.sj_pool.specs.Pool.{pooled, queue, entry_for, IsMostUrgent}

either : (b : Bool) → (b ≡ true) ⊎ (b ≡ false)
either true = inl refl
either false = inr refl

-- an entry that fits isn't more urgent
abbrev NotMoreUrgent : ℕ → Entry → Entry → Type 0
NotMoreUrgent room e x = IsTrue (fits_room room x) → precedes x e ≡ false

not-itself : (e : Entry) → precedes e e ≡ false
not-itself e = grind (arith, ints)

none-precedes : (room : ℕ) (e : Entry) (es : List Entry) → list_all (λ x. not (precedes x e)) es ≡ true → AllByRecursion (NotMoreUrgent room e) es
none-precedes room e [] h = tt
none-precedes room e (x ∷ xs) h =
    let here : precedes x e ≡ false = grind arith in
    let rest : list_all (λ y. not (precedes y e)) xs ≡ true = grind arith in
    ((λ f. here), none-precedes room e xs rest)

first-most_urgent : (room : ℕ) (es : List Entry) (e : Entry) → is_by_urgency es ≡ true → first_fitting room es ≡ Some e → AllByRecursion (NotMoreUrgent room e) es
first-most_urgent room [] e h f = tt
first-most_urgent room (x ∷ xs) e h f =
    elim (either (fits_room room x)) as (λ _. AllByRecursion (NotMoreUrgent room e) (x ∷ xs)) [
      | inl t ↦
          let same : x ≡ e = grind arith in
          let all : list_all (λ y. not (precedes y x)) xs ≡ true = grind arith in
          subst (λ z. AllByRecursion (NotMoreUrgent room z) (x ∷ xs)) same ((λ k. not-itself x), none-precedes room x xs all)
      | inr n ↦
          let rest : is_by_urgency xs ≡ true = grind arith in
          let later : first_fitting room xs ≡ Some e = grind arith in
          ((λ k. grind arith), first-most_urgent room xs e rest later)
    ]

found : (q : List Entry) (room : ℕ) (o : Option Entry) → is_by_urgency q ≡ true → first_fitting room q ≡ o → IfSome o (λ e. IsMostUrgent e room (q ∷ []))
found q room None h f = tt
found q room (Some e) h f =
    All-cons (All (NotMoreUrgent room e)) q [] (All-from_recursion (NotMoreUrgent room e) q (first-most_urgent room q e h f)) (All-nil (All (NotMoreUrgent room e)))

served : (b : Bool) (q : List Entry) (room : ℕ) → is_by_urgency q ≡ true → IfSome (option_and_then (λ i. first_fitting room (queue (q ∷ []) i)) (cond b (Some 0) None)) (λ e. IsMostUrgent e room (q ∷ []))
served true q room h = found q room (first_fitting room q) h refl
served false q room h = tt

pub most-urgent : (workers limit : ℕ) (qs : List (List Entry)) (w room : ℕ) → length qs ≡ 1 → All (λ q. IsTrue (is_by_urgency q)) qs → IfSome (entry_for (pooled Prio workers limit qs) w room) (λ e. IsMostUrgent e room qs)
most-urgent workers limit [] w room l all = absurd (omega arith)
most-urgent workers limit (q ∷ []) w room l all = served (has_fitting room q) q room (All-head (λ z. IsTrue (is_by_urgency z)) q [] all)
most-urgent workers limit (q ∷ r ∷ rs) w room l all = absurd (omega arith)
