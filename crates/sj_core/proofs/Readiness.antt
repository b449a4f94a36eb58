-- The tasks that are done in a state, as a list and as a test; when a waiting task is ready.
use Rattle.sj_core.proofs.Words.{AllPairs, ap, arith, Bool, Contains, done_in, done_tasks, EarlierAreDone, false, filter, get_or, inl, inr, is_done, length, List, list_all, list_any, map, not, Program, progress, range_with_len, Ready, refl, State, subst, sym, Task, true, Waiting, ℕ, ◌++◌, ◌<◌, ◌∙◌, ◌≡◌, ◌⊎◌}
use Rattle.std.proofs.lemmas.{Bool.cases_eq, Bool.cases_lt, Bool.false≢true, List.get_or-map, List.get_or_default, List.get_or_past, List.length-map, List.Elements.All-contains, List.Elements.All-contains_itself, List.Elements.All-filter, List.Elements.Contains-append_cases, List.Elements.filter_passes, List.Folds.Any-from_list_any, List.FromFn.get_or-range_with_len, List.FromFn.length-range_with_len, List.Sorted.Contains-permutation, List.Sorted.IsPermutation-filter_both, List.Sums.AllPass-from_list_all}
pub use Rattle.sj_base.proofs.Lists.{list_any-map}

-- what a filter keeps passes the test
pub filter-Contains : {X : Type 0} (f : X → Bool) (xs : List X) (x : X) → Contains (filter f xs) x → f x ≡ true
filter-Contains f xs x h = All-contains (λ y. f y ≡ true) (filter f xs) x (filter_passes f xs) h

-- and is in the list
pub Contains-from_filter : {X : Type 0} (f : X → Bool) (xs : List X) (x : X) → Contains (filter f xs) x → Contains xs x
Contains-from_filter f xs x h = All-contains (Contains xs) (filter f xs) x (All-filter f (Contains xs) xs (All-contains_itself xs)) h

-- what passes the test is kept by a filter
pub Contains-filter : {X : Type 0} (f : X → Bool) (xs : List X) (x : X) → f x ≡ true → Contains xs x → Contains (filter f xs) x
Contains-filter {X} f xs x passes h =
    let fails : X → Bool = λ y. not (f y) in
    let both = Contains-permutation xs (filter f xs ++ filter fails xs) x (IsPermutation-filter_both f fails (λ y. refl) xs) h in
    elim (Contains-append_cases (filter f xs) (filter fails xs) x both) [
      | inl kept ↦ kept
      | inr other ↦ absurd (false≢true (sym (ap not passes) ∙ filter-Contains fails xs x other))
    ]

pub Contains-map : {X Y : Type 0} (f : X → Y) (xs : List X) (x : X) → Contains xs x → Contains (map f xs) (f x)
Contains-map f xs x (k, l, e) = (k, omega (arith, length-map xs f), get_or-map f xs k x (f x) l ∙ ap f e)

-- an element that passes a test that some element passes
pub list_any-some : {X : Type 0} (test : X → Bool) (xs : List X) → list_any test xs ≡ true → (x : X) × Contains xs x × (test x ≡ true)
list_any-some test xs h = let found = Any-from_list_any test xs h in (found.1, (found.0, found.2, found.3), found.4)

-- of two elements of a list one stands before the other, unless they are one
pub AllPairs-two : {X : Type 0} (P : X → X → Type 0) (xs : List X) (x y : X) → AllPairs P xs → Contains xs x → Contains xs y → (x ≡ y) ⊎ (P x y ⊎ P y x)
AllPairs-two {X} P xs x y pairs (i, l, e) (j, k, f) = search (arith, cases_lt, ordered, cases_eq, get_or_default)
  where
    ordered : (a b : ℕ) (u v : X) → a < b → b < length xs → get_or xs a u ≡ u → get_or xs b v ≡ v → P u v
    ordered a b u v before inside eu ev = subst (λ z. P z v) eu (subst (λ z. P (get_or xs a u) z) (get_or_default xs b u v inside ∙ ev) (pairs a b u before inside))

-- a task that is done stands in the list of those that are
pub done_tasks-has : (s : State) (t : Task) → done_in s t ≡ true → Contains (done_tasks s) t.0
done_tasks-has s t h =
    let n = length s.tasks in
    let test : ℕ → Bool = λ k. done_in s (record { 0 = k }) in
    elim (cases_lt t.0 n) [
      | inl inside ↦ Contains-filter test (range_with_len 0 n) t.0 h (t.0, omega (arith, length-range_with_len 0 n), get_or-range_with_len 0 n t.0 t.0 inside ∙ omega arith)
      | inr past ↦ absurd (let e : progress s t ≡ Waiting = get_or_past s.tasks t.0 Waiting past in let f : is_done (progress s t) ≡ false = ap is_done e in cc)
    ]

pub done_tasks-done : (s : State) (t : Task) → Contains (done_tasks s) t.0 → done_in s t ≡ true
done_tasks-done s t h = filter-Contains (λ n. done_in s (record { 0 = n })) (range_with_len 0 (length s.tasks)) t.0 h

-- a waiting task is ready where every earlier task that conflicts with it is done
pub Ready-from : (p : Program) (s : State) (t : Task) → t.0 < length p.tasks → progress s t ≡ Waiting → EarlierAreDone p s t → Ready p (done_tasks s) t.0
Ready-from p s t inside waits earlier = record {
  task = inside;
  waiting = λ c. let d = done_tasks-done s t c in let e : is_done (progress s t) ≡ false = ap is_done waits in cc;
  earlier = λ u before conflict. done_tasks-has s (record { 0 = u }) (earlier (record { 0 = u }) before conflict);
}

-- and then they are done
pub Ready-earlier : (p : Program) (s : State) (t : Task) → Ready p (done_tasks s) t.0 → EarlierAreDone p s t
Ready-earlier p s t r u before conflict = done_tasks-done s u (r.earlier u.0 before conflict)

-- where every earlier task is done, those that conflict are
pub EarlierAreDone-all : (p : Program) (s : State) (t : Task) → list_all (λ n. done_in s (record { 0 = n })) (range_with_len 0 t.0) ≡ true → EarlierAreDone p s t
EarlierAreDone-all p s t h u before conflict =
    let done : ℕ → Bool = λ n. done_in s (record { 0 = n }) in
    let at_u : get_or (range_with_len 0 t.0) u.0 0 ≡ u.0 = get_or-range_with_len 0 t.0 u.0 0 before ∙ omega arith in
    ap done (sym at_u) ∙ AllPass-from_list_all done (range_with_len 0 t.0) h u.0 0 (omega (arith, length-range_with_len 0 t.0))
