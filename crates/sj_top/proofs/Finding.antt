-- What a task handed over is found by the task's number.
use Rattle.std.specs.Prelude.{slice_get}
use Rattle.std.proofs.Common.{◌≡◌, ◌≢◌, ℕ, ◌+◌, ◌<◌, List, [], length, map, take, get_or, set, refl, sym, ap, ◌∙◌, subst, inl, inr, Option, Some, None, option_map, unwrap_or}
use Rattle.std.specs.Prelude.{All, Contains}
use Rattle.std.proofs.lemmas.Bool.{cases_eq}
use Rattle.std.proofs.lemmas.Option.{slice_get_within, slice_get-get_or, slice_get-map}
use Rattle.std.proofs.lemmas.List.{get_or_default, get_or-set_same, get_or-set_other, length-map, length-set, take_more}
use Rattle.std.proofs.lemmas.List.Elements.{All-contains, All-map, All-push, All-weaker}
use Rattle.sj_base.specs.declared.ids.Task.{Task}
use Rattle.sj_base.specs.declared.program.Delivery.{Delivery}
use Rattle.sj_base.specs.declared.program.Program.{Program}
use Rattle.sj_base.specs.Array.{Array}
use Rattle.sj_base.proofs.Options.{the}
use Rattle.sj_base.specs.Ids.{task}
use Rattle.sj_top.specs.Gathering.{FindsPair, HandedArrays, HandedOver, IsIndex, array_found, no_array}

abbrev pub tasks_in : List (Task × Array) → List Task
tasks_in pairs = map (λ (pair : Task × Array). pair.0) pairs

-- a table finds each task that handed something over
pub finds-contained : (places : List ℕ) (pairs : List (Task × Array)) (t : Task) → IsIndex places pairs → Contains (tasks_in pairs) t → FindsPair places pairs t
finds-contained places pairs t index has =
    All-contains (FindsPair places pairs) (tasks_in pairs) t (All-map (FindsPair places pairs) (λ (pair : Task × Array). pair.0) pairs index) has

-- and each delivery's task
pub finds-delivery : (p : Program) (places : List ℕ) (pairs : List (Task × Array)) (d : Delivery) → HandedOver p pairs → IsIndex places pairs → Contains p.deliveries d → FindsPair places pairs d.task
finds-delivery p places pairs d handed index has =
    finds-contained places pairs d.task index (All-contains (λ (e : Delivery). Contains (tasks_in pairs) e.task) p.deliveries d handed.every has)

pub place-inside : (pairs : List (Task × Array)) (k : ℕ) (t : Task) → slice_get (tasks_in pairs) k ≡ Some t → k < length pairs
place-inside pairs k t e = subst (λ (n : ℕ). k < n) (length-map pairs (λ (pair : Task × Array). pair.0)) (slice_get_within (tasks_in pairs) k t e)

pub at-place : (places : List ℕ) (pairs : List (Task × Array)) (t : Task) (k : ℕ) → k ≡ get_or places t.0 0 → FindsPair places pairs t → slice_get (tasks_in pairs) k ≡ Some t
at-place places pairs t k e found = ap (λ n. slice_get (tasks_in pairs) n) e ∙ found.1

-- what stands at a task's place is the array that the table finds
pub array-at : (h : HandedArrays) (k : ℕ) (t : Task) (a : Array) → k ≡ get_or h.places t.0 0 → option_map (λ (pair : Task × Array). pair.1) (slice_get h.pairs k) ≡ Some a → a ≡ array_found h t
array-at h k t a e at = by_pair (slice_get h.pairs k) refl at
  where
    by_pair : (o : Option (Task × Array)) → slice_get h.pairs k ≡ o → option_map (λ (pair : Task × Array). pair.1) o ≡ Some a → a ≡ array_found h t
    by_pair None is found = absurd (let bad : None ≡ Some a = found in the ⊥ cc)
    by_pair (Some pair) is found =
        let there : slice_get h.pairs (get_or h.places t.0 0) ≡ Some pair = ap (λ (n : ℕ). slice_get h.pairs n) (sym e) ∙ is in
        sym (ap (λ (o : Option (Task × Array)). elim o [ None ↦ no_array | Some q ↦ q.1 ]) there ∙ ap (λ (o : Option Array). unwrap_or o a) found)

-- the array that the table finds for a delivery is one that its task handed over
pub found-among : (h : HandedArrays) (t : Task) → FindsPair h.places h.pairs t → Contains h.pairs (t, array_found h t)
found-among h t finds =
    let k = get_or h.places t.0 0 in
    let inside = place-inside h.pairs k t finds.1 in
    let pair = get_or h.pairs k (t, no_array) in
    let at : slice_get h.pairs k ≡ Some pair = slice_get-get_or h.pairs k (t, no_array) inside in
    let task : Some pair.0 ≡ Some t = sym (slice_get-map (λ (x : Task × Array). x.0) h.pairs k ∙ ap (option_map (λ (x : Task × Array). x.0)) at) ∙ finds.1 in
    let array : array_found h t ≡ pair.1 = ap (λ (o : Option (Task × Array)). elim o [ None ↦ no_array | Some q ↦ q.1 ]) at in
    let first : pair.0 ≡ t = ap (λ (o : Option Task). unwrap_or o t) task in
    let same : pair ≡ (t, array_found h t) = λ i. (first i, sym array i) in
    (k, inside, sym (get_or_default h.pairs k (t, no_array) (t, array_found h t) inside) ∙ same)

-- one task's place more
pub finds-more : (places : List ℕ) (pairs : List (Task × Array)) (i : ℕ) (u t : Task) → u.0 < length places → slice_get (tasks_in pairs) i ≡ Some u → (t.0 ≢ u.0 → FindsPair places pairs t) → FindsPair (set places u.0 i) pairs t
finds-more places pairs i u t inside at old = elim (cases_eq t.0 u.0) [
  | inl same ↦
      let t_is : u ≡ t = ap task (sym same) in
      let place : get_or (set places u.0 i) t.0 0 ≡ i = ap (λ n. get_or (set places u.0 i) n 0) same ∙ get_or-set_same places u.0 i 0 inside in
      (rw (length-set places u.0 i, same) inside, ap (slice_get (tasks_in pairs)) place ∙ at ∙ ap Some t_is)
  | inr other ↦
      let before = old other in
      (rw (length-set places u.0 i) before.0, ap (slice_get (tasks_in pairs)) (get_or-set_other places u.0 t.0 i 0 other) ∙ before.1)
]

abbrev FindsFirst : List ℕ → List (Task × Array) → ℕ → Type 0
FindsFirst places pairs i = All (λ (pair : Task × Array). FindsPair places pairs pair.0) (take i pairs)

pub finds-step : (places : List ℕ) (pairs : List (Task × Array)) (i : ℕ) (u : Task) → u.0 < length places → option_map (λ (pair : Task × Array). pair.0) (slice_get pairs i) ≡ Some u → FindsFirst places pairs i → FindsFirst (set places u.0 i) pairs (i + 1)
finds-step places pairs i u inside at first =
    let task : slice_get (tasks_in pairs) i ≡ Some u = slice_get-map (λ (x : Task × Array). x.0) pairs i ∙ at in
    let below = place-inside pairs i u task in
    let P = λ (pair : Task × Array). FindsPair (set places u.0 i) pairs pair.0 in
    let pair = get_or pairs i (u, record { dims = record { rows = 0; cols = 0 }; elements = [] }) in
    subst (All P) (sym (take_more pairs i pair below))
    (All-push P (take i pairs) (get_or pairs i pair) (All-weaker (λ (x : Task × Array). FindsPair places pairs x.0) P (λ x h. finds-more places pairs i u x.0 inside task (λ _. h)) (take i pairs) first)
    (finds-more places pairs i u (get_or pairs i pair).0 inside task (λ other. absurd (other (ap (λ (o : Option Task). (unwrap_or o u).0) (sym (slice_get-map (λ (x : Task × Array). x.0) pairs i ∙ ap (option_map (λ (x : Task × Array). x.0)) (slice_get-get_or pairs i pair below)) ∙ task))))))

pub task-inside : (pairs : List (Task × Array)) (n i : ℕ) (u : Task) → All (λ (pair : Task × Array). pair.0.0 < n) pairs → option_map (λ (pair : Task × Array). pair.0) (slice_get pairs i) ≡ Some u → u.0 < n
task-inside pairs n i u all at =
    let task : slice_get (tasks_in pairs) i ≡ Some u = slice_get-map (λ (x : Task × Array). x.0) pairs i ∙ at in
    let below = place-inside pairs i u task in
    let pair = get_or pairs i (u, record { dims = record { rows = 0; cols = 0 }; elements = [] }) in
    let here : Some pair.0 ≡ Some u = sym (ap (option_map (λ (x : Task × Array). x.0)) (slice_get-get_or pairs i (u, record { dims = record { rows = 0; cols = 0 }; elements = [] }) below)) ∙ at in
    subst (λ (t : Task). t.0 < n) (ap (λ (o : Option Task). unwrap_or o u) here) (all i (u, record { dims = record { rows = 0; cols = 0 }; elements = [] }) below)
