-- Which queue serves a worker.
use Rattle.std.proofs.Common.{◌≡◌, ℕ, zero, suc, ◌+◌, ◌-◌, ◌<◌, ◌≤◌, Bool, true, false, List, [], ◌∷◌, None, Some, All, is_some, length, refl, arith, if◌then◌else◌, Option, sym, ◌∙◌, inl, inr}
use Rattle.std.proofs.lemmas.Bool.{cases_lt}
use Rattle.std.proofs.lemmas.List.Elements.{All-from_get_or}
use Rattle.std.proofs.lemmas.List.Folds.{find-append}
use Rattle.std.specs.List.{range_with_len}
use Rattle.std.specs.Option.{option_or}
use Rattle.sj_pool.specs.declared.entry.Entry.{Entry}
use Rattle.sj_pool.specs.Queue.{has_fitting, first_fitting}
use Rattle.sj_pool.specs.Pool.{queue, first_task, serving, turns}
use Rattle.sj_pool.proofs.Lists.{length-lists}

pub serving-step : (qs : List (List Entry)) (room i to : ℕ) → i < to → serving qs room (range_with_len i (to - i)) ≡ (if has_fitting room (queue qs i) then Some i else serving qs room (range_with_len (i + 1) (to - (i + 1))))
serving-step qs room i to h =
    let e : to - i ≡ suc (to - (i + 1)) = omega arith in
    rw e refl

pub serving-end : (qs : List (List Entry)) (room i to : ℕ) → to ≤ i → serving qs room (range_with_len i (to - i)) ≡ None
serving-end qs room i to h =
    let e : to - i ≡ 0 = omega arith in
    rw e refl

-- an entry fits in the queue that serves
pub serving-fits : (qs : List (List Entry)) (room : ℕ) (order : List ℕ) (i : ℕ) → serving qs room order ≡ Some i → has_fitting room (queue qs i) ≡ true
serving-fits qs room [] i h = grind arith
serving-fits qs room (k ∷ ks) i h = grind (arith, serving-fits qs room ks i)

-- where none fits in any queue, none serves
pub serving-none : (qs : List (List Entry)) (room : ℕ) (order : List ℕ) → ((i : ℕ) → has_fitting room (queue qs i) ≡ false) → serving qs room order ≡ None
serving-none qs room [] h = refl
serving-none qs room (k ∷ ks) h = grind (arith, h k, serving-none qs room ks h)

-- where none serves, none fits in the queues that were asked
pub none-fits : (qs : List (List Entry)) (room a n i : ℕ) → serving qs room (range_with_len a n) ≡ None → a ≤ i → i < a + n → has_fitting room (queue qs i) ≡ false
none-fits qs room a zero i h l m = grind arith
none-fits qs room a (suc n) i h l m = grind (arith, none-fits qs room (a + 1) n i)

pub ruleset between = (serving-step, serving-end)

pub ruleset two_parts = (find-append, length-lists)

-- an entry that fits is there
first-there : (room : ℕ) (es : List Entry) → has_fitting room es ≡ true → is_some (first_fitting room es) ≡ true
first-there room [] h = grind arith
first-there room (e ∷ es) h = grind (arith, first-there room es)

pub never-none : (room : ℕ) (es : List Entry) → has_fitting room es ≡ true → None ≡ first_fitting room es → ⊥
never-none room es h n = let t = first-there room es h in grind (arith, n)

-- a task is taken where an entry fits
pub task-there : (room : ℕ) (es : List Entry) → has_fitting room es ≡ true → is_some (first_task room es) ≡ true
task-there room [] h = grind arith
task-there room (e ∷ es) h = grind (arith, task-there room es)

or-none : (a b : Option ℕ) → option_or a b ≡ None → (a ≡ None) × (b ≡ None)
or-none None b h = (refl, h)
or-none (Some i) b h = absurd (cc)

-- where none serves a worker, none fits in any queue
pub none-of-all : (qs : List (List Entry)) (room first : ℕ) → first ≤ length qs → serving qs room (turns (length qs) first) ≡ None → All (λ q. has_fitting room q ≡ false) qs
none-of-all qs room first l h =
    let fitting : ℕ → Bool = λ i. has_fitting room (queue qs i) in
    let parts = or-none (serving qs room (range_with_len first (length qs - first))) (serving qs room (range_with_len 0 first)) (sym (find-append fitting (range_with_len first (length qs - first)) (range_with_len 0 first)) ∙ h) in
    All-from_get_or (λ q. has_fitting room q ≡ false) qs [] (λ i m.
    elim (cases_lt i first) as (λ _. has_fitting room (queue qs i) ≡ false) [
      | inl below ↦ none-fits qs room 0 first i parts.1 (omega arith) (omega arith)
      | inr above ↦ none-fits qs room first (length qs - first) i parts.0 (omega arith) (omega arith)
    ])
