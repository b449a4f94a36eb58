-- A board stays sound where a worker takes the first of its released tasks away.
use Rattle.sj_board.proofs.Words.{[], ap, arith, BoardBy, Bool, cond, count_by, Dependencies, drop, Entry, Equations, first_task, fits_room, get_or, has_released, home, inl, inr, is_done, is_entry_of, IsEntry, IsReadyWhereItWaits, IsStrictlyIncreasing, KeepsBoard, length, length-set, List, Machine, map, None, Option, option_to_list, Policy, Pooled, Prio, Program, queue, queue_count, queued_tasks, refl, released_of, slice_set, Some, StandsReleased, State, state, subst, suc, sym, Task, true, without_first_at, without_first_fitting, Worker, Ws, ℕ, ◌++◌, ◌+◌, ◌<◌, ◌↔◌, ◌∙◌, ◌∷◌, ◌≡◌, ◌≢◌, ◌≤◌}
use Rattle.std.proofs.Common.{IfSome, All}
use Rattle.std.proofs.lemmas.{Bool.cases_eq, Bool.eq-eqb, Bool.false≢true, Bool.le-leb, List.get_or-map, List.get_or-set_other, List.get_or-set_same, List.length-map, List.Elements.All-cons, List.Elements.All-drop, List.Elements.All-get_or, List.Elements.All-head, List.Elements.All-set, List.Kept.AllPairs-from_increasing, List.Sums.get_or-le-sum_by, List.Sums.sum_by-set, Option.none-some, Option.same_Some}
use Rattle.sj_core.proofs.Readiness.{done_tasks-done}
use Rattle.sj_board.proofs.{Policies.other-left, Policies.other-pool, Policies.other-released, Pooling.count-cons, Pooling.times_in}

-- the most bytes that a number has room for
abbrev pub most : ℕ
most = 18446744073709551615

-- ---- the first of a queue in which all fit

abbrev first_of : List Entry → Option Task
first_of [] = None
first_of (e ∷ es) = Some e.task

first-is : (room : ℕ) (es : List Entry) → All (λ x. fits_room room x ≡ true) es → first_task room es ≡ first_of es
first-is room [] all = refl
first-is room (e ∷ es) all = let fits : fits_room room e ≡ true = All-head (λ (x : Entry). fits_room room x ≡ true) e es all in grind arith

rest-is : (room : ℕ) (es : List Entry) → All (λ x. fits_room room x ≡ true) es → without_first_fitting room es ≡ drop 1 es
rest-is room [] all = refl
rest-is room (e ∷ es) all = ap (λ (b : Bool). cond b es (e ∷ without_first_fitting room es)) (All-head (λ (x : Entry). fits_room room x ≡ true) e es all)

rising-rest : (es : List Entry) → IsStrictlyIncreasing (map (λ (t : Task). t.0) (map (λ (e : Entry). e.task) es)) → IsStrictlyIncreasing (map (λ (t : Task). t.0) (map (λ (e : Entry). e.task) (drop 1 es)))
rising-rest [] rising = rising
rising-rest (e ∷ es) rising = λ k within. AllPairs-from_increasing (map (λ (t : Task). t.0) (map (λ (x : Entry). x.task) (e ∷ es))) rising (suc k) (suc (k + 1)) 0 (omega arith) (omega (arith, within))

-- it is the least, and the others are left
first-left : (es : List Entry) → map (λ (e : Entry). e.task) es ≡ option_to_list (first_of es) ++ map (λ (e : Entry). e.task) (drop 1 es)
first-left [] = refl
first-left (e ∷ es) = refl

-- a number before those of tasks that rise is at most as large as each
before_least : (n : ℕ) (ts : List Task) → IsStrictlyIncreasing (n ∷ map (λ (t : Task). t.0) ts) → All (λ u. n ≤ u.0) ts
before_least n ts rising k d within =
    let less : n < get_or (map (λ (t : Task). t.0) ts) k 0 = AllPairs-from_increasing (n ∷ map (λ (t : Task). t.0) ts) rising 0 (suc k) 0 (omega arith) (omega (arith, within, length-map ts (λ (t : Task). t.0))) in
    omega (arith, less, get_or-map (λ (t : Task). t.0) ts k d 0 within)

first-least : (es : List Entry) → IsStrictlyIncreasing (map (λ (t : Task). t.0) (map (λ (e : Entry). e.task) es)) → IfSome (first_of es) (λ t. All (λ u. t.0 ≤ u.0) (map (λ (e : Entry). e.task) es))
first-least [] rising = tt
first-least (e ∷ es) rising = All-cons (λ (u : Task). e.task.0 ≤ u.0) e.task (map (λ (x : Entry). x.task) es) (omega arith) (before_least e.task.0 (map (λ (x : Entry). x.task) es) rising)

first-none : (es : List Entry) → (first_of es ≡ None) ↔ (map (λ (e : Entry). e.task) es ≡ [])
first-none [] = (λ e. refl, λ e. refl)
first-none (x ∷ es) = (λ e. absurd (cc), λ e. absurd (cc))

-- ---- how often a task stands there

count-rest : (es : List Entry) (t : Task) → count_by (is_entry_of t) (drop 1 es) ≤ count_by (is_entry_of t) es
count-rest [] t = omega arith
count-rest (e ∷ es) t = omega (arith, count-cons t e es)

-- each entry of a queue stands there
stands-there : (qs : List (List Entry)) (n i : ℕ) (d : Entry) → n < length qs → i < length (queue qs n) → 1 ≤ times_in (get_or (queue qs n) i d).task qs
stands-there qs n i d inside l =
    let e : Entry = get_or (queue qs n) i d in
    let here : cond {A = ℕ} (is_entry_of e.task e) 1 0 ≤ count_by (is_entry_of e.task) (queue qs n) = get_or-le-sum_by (λ (x : Entry). cond {A = ℕ} (is_entry_of e.task x) 1 0) (queue qs n) i d l in
    let there : count_by (is_entry_of e.task) (queue qs n) ≤ times_in e.task qs = get_or-le-sum_by (λ (q : List Entry). count_by (is_entry_of e.task) q) qs n [] inside in
    let own : cond {A = ℕ} (is_entry_of e.task e) 1 0 ≡ 1 = grind arith in
    omega (arith, here, there, own)

-- and the first of one
first-counted : (es : List Entry) (t : Task) → first_of es ≡ Some t → 0 < count_by (is_entry_of t) es
first-counted [] t is = absurd (none-some t is)
first-counted (x ∷ es) t is = omega (arith, count-cons t x es, ap (λ (b : Bool). cond {A = ℕ} b 1 0) (eq-eqb x.task.0 t.0 (ap (λ (u : Task). u.0) (same_Some x.task t is))))

stands-first : (qs : List (List Entry)) (n : ℕ) (t : Task) → n < length qs → first_of (queue qs n) ≡ Some t → 0 < times_in t qs
stands-first qs n t inside is = omega (arith, get_or-le-sum_by (λ (q : List Entry). count_by (is_entry_of t) q) qs n [] inside, first-counted (queue qs n) t is)

-- ---- on a board

module _ {D : Type 0} {eq : Equations} (faults mismatches : D → ℕ) (held : D → Option (List ℕ)) (b : BoardBy eq D) (deps : Dependencies) (footprints : List ℕ) (keeps : KeepsBoard faults mismatches held b deps footprints) (w : Worker) (known : w.0 < b.run.program.workers) (other : b.run.machine.policy ≢ Prio) where
  abbrev p : Program
  p = b.run.program

  abbrev m : Machine
  m = b.run.machine

  abbrev s : State
  s = state b.run

  abbrev qs : List (List Entry)
  qs = b.pool.queues

  abbrev own : List Entry
  own = queue qs w.0

  was : StandsReleased p s b.hands b.pool
  was = keeps.inside.stands_released other

  ws : b.pool.policy ≡ Ws
  ws = keeps.inside.pool_fits.policy ∙ other-pool m.policy other

  inside : w.0 < length qs
  inside =
      let count : length qs ≡ b.pool.workers = keeps.inside.pool_fits.queues ∙ ap (λ (q : Policy). queue_count q b.pool.workers) ws in
      omega (arith, count, keeps.inside.pool_fits.workers, known)

  home-is : home b.pool.policy w.0 ≡ w.0
  home-is = ap (λ (q : Policy). home q w.0) ws

  -- each fits
  all-fit : All (λ x. fits_room most x ≡ true) own
  all-fit k d within =
      let e : Entry = get_or own k d in
      let its : IsEntry p e = All-get_or (IsEntry p) own k d within (All-get_or (All (IsEntry p)) qs w.0 [] inside keeps.inside.pool_fits.entries) in
      let task = (was.become e.task (stands-there qs w.0 k d inside within)).task in
      let small : e.bytes ≤ most = subst (λ (n : ℕ). n ≤ most) (sym (ap (λ (x : Entry). x.bytes) its)) (keeps.bytes.small e.task task) in
      le-leb e.bytes most small

  abbrev left : Pooled
  left = record b.pool { queues = slice_set qs w.0 (drop 1 own) }

  fewer : (t : Task) → times_in t (slice_set qs w.0 (drop 1 own)) ≤ times_in t qs
  fewer t = omega (arith, sum_by-set (λ (q : List Entry). count_by (is_entry_of t) q) qs w.0 (drop 1 own) [] inside, count-rest own t)

  rising-left : (n : ℕ) → IsStrictlyIncreasing (map (λ (t : Task). t.0) (queued_tasks left n))
  rising-left n = elim (cases_eq n w.0) as (λ _. IsStrictlyIncreasing (map (λ (t : Task). t.0) (queued_tasks left n))) [
    | inl e ↦ subst (λ (es : List Entry). IsStrictlyIncreasing (map (λ (t : Task). t.0) (map (λ (x : Entry). x.task) es))) (sym (ap (queue (slice_set qs w.0 (drop 1 own))) e ∙ get_or-set_same qs w.0 (drop 1 own) [] inside))
        (rising-rest own (was.by_number w.0))
    | inr far ↦ subst (λ (es : List Entry). IsStrictlyIncreasing (map (λ (t : Task). t.0) (map (λ (x : Entry). x.task) es))) (sym (get_or-set_other qs w.0 n (drop 1 own) [] far)) (was.by_number n)
  ]

  keeps-left : KeepsBoard faults mismatches held (record b { pool = left }) deps footprints
  keeps-left = record {
    fault = keeps.fault;
    inside = record {
      hands_agree = keeps.inside.hands_agree;
      stops = keeps.inside.stops;
      stands_once = λ prio. absurd (other prio);
      stands_released = λ _. record {
        none_given = was.none_given;
        become = λ t h. was.become t (omega (arith, h, fewer t));
        once = λ t. omega (arith, was.once t, fewer t);
        by_number = rising-left;
      };
      pool_fits = record {
        policy = keeps.inside.pool_fits.policy;
        workers = keeps.inside.pool_fits.workers;
        tasks = keeps.inside.pool_fits.tasks;
        queues = length-set qs w.0 (drop 1 own) ∙ keeps.inside.pool_fits.queues;
        entries = All-set (All (IsEntry p)) qs w.0 (drop 1 own) (All-drop (IsEntry p) 1 own (All-get_or (All (IsEntry p)) qs w.0 [] inside keeps.inside.pool_fits.entries)) keeps.inside.pool_fits.entries;
        fits = keeps.inside.pool_fits.fits;
      };
    };
    counts = keeps.counts;
    bytes = keeps.bytes;
  }

  -- ---- as the code leaves it

  module _ (t : Option Task) (pool' : Pooled) (took : t ≡ first_task most (queue qs (home b.pool.policy w.0))) (rest : pool' ≡ (record b.pool { queues = without_first_at qs (home b.pool.policy w.0) most })) where
    took-first : t ≡ first_of own
    took-first = took ∙ ap (λ (n : ℕ). first_task most (queue qs n)) home-is ∙ first-is most own all-fit

    pub left-is : pool' ≡ left
    left-is = rest ∙ ap (λ (n : ℕ). record b.pool { queues = without_first_at qs n most }) home-is ∙ ap (λ (es : List Entry). record b.pool { queues = slice_set qs w.0 es }) (rest-is most own all-fit)

    pub released-keeps : KeepsBoard faults mismatches held (record b { pool = pool' }) deps footprints
    released-keeps = subst (λ (q : Pooled). KeepsBoard faults mismatches held (record b { pool = q }) deps footprints) (sym left-is) keeps-left

    pub released-is : (record b { pool = pool' }) ≡ has_released b w
    released-is = ap (λ (q : Pooled). record b { pool = q }) (left-is ∙ sym (other-left m.policy b.pool w.0 other))

    had : released_of b w ≡ map (λ (e : Entry). e.task) own
    had = other-released m.policy b.pool w.0 other

    has : released_of (record b { pool = pool' }) w ≡ map (λ (e : Entry). e.task) (drop 1 own)
    has = other-released m.policy pool' w.0 other ∙ ap (λ (q : Pooled). queued_tasks q w.0) left-is ∙ ap (map (λ (e : Entry). e.task)) (get_or-set_same qs w.0 (drop 1 own) [] inside)

    pub released-first : released_of b w ≡ option_to_list t ++ released_of (record b { pool = pool' }) w
    released-first =
        had ∙ first-left own
        ∙ ap (λ (o : Option Task). option_to_list o ++ map (λ (e : Entry). e.task) (drop 1 own)) (sym took-first)
        ∙ ap (λ (ts : List Task). option_to_list t ++ ts) (sym has)

    pub released-least : IfSome t (λ x. All (λ u. x.0 ≤ u.0) (released_of b w))
    released-least = subst (λ (o : Option Task). IfSome o (λ x. All (λ u. x.0 ≤ u.0) (released_of b w))) (sym took-first) (subst (λ (ts : List Task). IfSome (first_of own) (λ x. All (λ u. x.0 ≤ u.0) ts)) (sym had) (first-least own (was.by_number w.0)))

    pub released-none : (t ≡ None) ↔ (released_of b w ≡ [])
    released-none = subst (λ (o : Option Task). (o ≡ None) ↔ (released_of b w ≡ [])) (sym took-first) (subst (λ (ts : List Task). (first_of own ≡ None) ↔ (ts ≡ [])) (sym had) (first-none own))

    pub released-ready : IfSome t (IsReadyWhereItWaits b)
    released-ready = by_task t refl
      where
        by_task : (o : Option Task) → t ≡ o → IfSome o (IsReadyWhereItWaits b)
        by_task None e = tt
        by_task (Some u) e = λ waits. elim ((was.become u (stands-first qs w.0 u inside (sym took-first ∙ e))).ready) [
          | inl ready ↦ record { waiting = waits; ready = ready }
          | inr done ↦ absurd (false≢true (sym (ap is_done waits) ∙ done_tasks-done s u done))
        ]
