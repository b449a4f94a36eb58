-- A board stays sound where a task ends, and the tasks that become ready go to the pool.
use Rattle.sj_board.proofs.Words.{[], after_done, AllPairs, ap, AreReleased, arith, Array, BecomeReady, board_state, BoardBy, CanHappen, CanPutEach, cond, Contains, CountsDone, Dependencies, Done, done_tasks, End, EndsTask, Equations, get_or, Hand, hand_in, hand_of, handed, HandsAgree, has_ended, HasBecomeReady, HasTakenReleased, inl, inr, is_begun, is_done, is_some, is_task_of, IsComplete, IsGift, IsSoundRun, IsToBeTaken, IsTrue, IsWorking, KeepsBoard, length, length-set, List, Machine, map, nat_eq, None, Option, Policy, Pooled, Prio, Program, Progress, progress, queue_count, queued_tasks, Ready, refl, released_of, Releases, Running, slice_set, Some, StandingBy, StandsOnce, StandsReleased, State, state, StopsAtTheEnd, subst, suc, sym, Task, times_given, times_pooled, true, Waiting, with_each, with_event, Worker, Ws, ℕ, ◌++◌, ◌+◌, ◌<◌, ◌↔◌, ◌∙◌, ◌∷◌, ◌≡◌, ◌≢◌, ◌≤◌, ◌⊎◌}
use Rattle.std.proofs.Common.{All}
use Rattle.std.proofs.lemmas.{Bool.cases_lt, Bool.eqb-true, Bool.false≢true, List.get_or-map, List.length-map, List.Elements.All-contains_itself, List.Elements.All-from_get_or, List.Elements.All-get_or, List.Elements.Contains-append_left, List.Elements.Contains-push, List.Elements.Contains-push_cases, List.Kept.AllPairs-from_increasing, List.Sums.get_or-le-sum_by, Option.none-some, Option.same_Some}
use Rattle.sj_base.proofs.Lists.{counted_some}
use Rattle.sj_core.proofs.{Advancing.Advances, Advancing.EarlierAreDone-kept, Advancing.Ends-advances, Advancing.same_task, Advancing.task_of-worker, Readiness.done_tasks-done, Readiness.done_tasks-has, Readiness.list_any-some, Readiness.Ready-earlier, Readiness.Ready-from, Reading.progress-inside, States.state_of-more}
use Rattle.sj_board.proofs.{Hands.given-same, Hands.hand-set, Hands.hand-set_apart, Hands.inside-hands, Hands.pool_for-same, LastHeaders.ended-cause, Policies.by-policy, Policies.other-pool, Policies.other-released, PoolFilling.among-cons, PoolFilling.fill, PoolFilling.IsFilled, PoolFilling.times_among, ReleasedTasks.become-kept, ReleasedTasks.by-number, ReleasedTasks.own-tasks, Stepping.begun-other, Stepping.done_tasks-kept, Stepping.not-complete, Stepping.ready-counted}

-- ---- how often a task is in a list

pub among-contains : (ts : List Task) (u : Task) → 1 ≤ times_among ts u → Contains ts u
among-contains ts u h =
    let found = list_any-some (λ (t : Task). nat_eq t.0 u.0) ts (counted_some (λ (t : Task). nat_eq t.0 u.0) ts (omega (arith, h))) in
    subst (Contains ts) (ap (λ (n : ℕ). let k : Task = record { 0 = n } in k) (eqb-true found.0.0 u.0 found.2)) found.1

pub contains-among : (ts : List Task) (u : Task) → Contains ts u → 1 ≤ times_among ts u
contains-among ts u (i, l, e) =
    let least : cond {A = ℕ} (nat_eq (get_or ts i u).0 u.0) 1 0 ≤ times_among ts u = get_or-le-sum_by (λ (x : Task). cond {A = ℕ} (nat_eq x.0 u.0) 1 0) ts i u l in
    let one : cond {A = ℕ} (nat_eq (get_or ts i u).0 u.0) 1 0 ≡ 1 = ap (λ (x : Task). cond {A = ℕ} (nat_eq x.0 u.0) 1 0) e ∙ grind arith in
    omega (arith, least, one)

pub among-once : (ts : List Task) (u : Task) → AllPairs (λ x y. x < y) (map (λ (k : Task). k.0) ts) → times_among ts u ≤ 1
among-once [] u pairs = omega arith
among-once (t ∷ ts) u pairs =
    let rest : times_among ts u ≤ 1 = among-once ts u (λ i j d before l. pairs (suc i) (suc j) d (omega (arith, before)) (omega (arith, l))) in
    elim (cases_lt (times_among ts u) 1) as (λ _. times_among (t ∷ ts) u ≤ 1) [
      | inl none ↦ let most : cond {A = ℕ} (nat_eq t.0 u.0) 1 0 ≤ 1 = grind arith in omega (arith, none, most, among-cons t ts u)
      | inr some ↦ let (i, l, e) = among-contains ts u some in
          let later : t.0 < u.0 = subst (λ (n : ℕ). t.0 < n) (get_or-map (λ (k : Task). k.0) ts i u u.0 l ∙ ap (λ (k : Task). k.0) e) (pairs 0 (suc i) u.0 (omega arith) (omega (arith, l, length-map ts (λ (k : Task). k.0)))) in
          let none : cond {A = ℕ} (nat_eq t.0 u.0) 1 0 ≡ 0 = grind arith in
          omega (arith, rest, none, among-cons t ts u)
    ]

-- ---- the end of a task

module _ {D : Type 0} {eq : Equations} (size faults mismatches : D → ℕ) (held : D → Option (List ℕ)) (b : BoardBy eq D) (deps : Dependencies) (footprints : List ℕ) (keeps : KeepsBoard faults mismatches held b deps footprints) (sound : IsSoundRun size faults mismatches held b.run) (w : Worker) (works : IsWorking b w) (t : Task) (has : (hand_of b w).task ≡ Some t) (can : CanHappen b.run (End t w)) (taken : HasTakenReleased b w) where
  abbrev p : Program
  p = b.run.program

  abbrev m : Machine
  m = b.run.machine

  abbrev s : State
  s = state b.run

  abbrev s' : State
  s' = state (with_event b.run (End t w))

  step : Advances s s' t (Running w) (Done w)
  step = Ends-advances p m s t w s' can (state_of-more p m b.run.trace (End t w))

  inside-tasks : t.0 < length s.tasks
  inside-tasks = progress-inside s t (λ e. begun-other s t t (Running w) step.was refl e refl)

  -- ---- what is done

  kept-done : (n : ℕ) → Contains (done_tasks s) n → Contains (done_tasks s') n
  kept-done = done_tasks-kept s s' t (Running w) (Done w) step refl

  ended-done : Contains (done_tasks s') t.0
  ended-done = done_tasks-has s' t (ap is_done step.is)

  now-done : (n : ℕ) → Contains (deps.done ++ t.0 ∷ []) n ↔ Contains (done_tasks s') n
  now-done n = (there, back)
    where
      u : Task
      u = record { 0 = n }

      there : Contains (deps.done ++ t.0 ∷ []) n → Contains (done_tasks s') n
      there c = elim (Contains-push_cases deps.done t.0 n c) as (λ _. Contains (done_tasks s') n) [
        | inl before ↦ kept-done n ((keeps.counts.done n).0 before)
        | inr last ↦ subst (Contains (done_tasks s')) last ended-done
      ]

      back : Contains (done_tasks s') n → Contains (deps.done ++ t.0 ∷ []) n
      back c = elim (same_task u t) as (λ _. Contains (deps.done ++ t.0 ∷ []) n) [
        | inl e ↦ subst (λ (k : Task). Contains (deps.done ++ t.0 ∷ []) k.0) (sym e) (Contains-push deps.done t.0)
        | inr d ↦ Contains-append_left deps.done (t.0 ∷ []) n ((keeps.counts.done n).1 (done_tasks-has s u (ap is_done (sym (step.others u d)) ∙ done_tasks-done s' u c)))
      ]

  counts-now : CountsDone p s' (after_done deps t.0)
  counts-now = record { program = keeps.counts.program; done = now-done }

  -- ---- what is ready, and what becomes so

  ready-before : (u : ℕ) → Ready deps.program deps.done u ↔ Ready p (done_tasks s) u
  ready-before = ready-counted p s deps keeps.counts

  ready-now : (u : ℕ) → Ready deps.program (deps.done ++ t.0 ∷ []) u ↔ Ready p (done_tasks s') u
  ready-now = ready-counted p s' (after_done deps t.0) counts-now

  pub ends-ready : Ready deps.program deps.done t.0
  ends-ready = (ready-before t.0).1 (record {
    task = subst (λ (n : ℕ). t.0 < n) sound.coherent.state.rows.tasks inside-tasks;
    waiting = λ c. false≢true (sym (ap is_done step.was) ∙ done_tasks-done s t c);
    earlier = λ u before conflict. done_tasks-has s (record { 0 = u }) (sound.coherent.order.earlier t (ap is_begun step.was) (record { 0 = u }) before conflict);
  })

  -- the dependencies answer what becomes ready in the states
  pub released-become : (ts : List Task) → AreReleased deps t ts → BecomeReady p s s' ts
  released-become ts released = record {
    each = λ u. (
      λ c. let r = (released.each u).0 c in ((ready-now u.0).0 r.now, λ before. r.before ((ready-before u.0).1 before)),
      λ r. (released.each u).1 (record { now = (ready-now u.0).1 r.0; before = λ before. r.1 ((ready-before u.0).0 before) }),
    );
    by_number = released.by_number;
  }

  module _ (ts : List Task) (become : BecomeReady p s s' ts) (gift : Option Array) where
    few : (u : Task) → times_among ts u ≤ 1
    few u = among-once ts u (AllPairs-from_increasing (map (λ (k : Task). k.0) ts) become.by_number)

    -- a task that stands n times, once at most, and only where it isn't among them
    once-with : (u : Task) (n : ℕ) → (0 < n → n ≤ 1) → (0 < n → ¬ Contains ts u) → n + times_among ts u ≤ 1
    once-with u n once apart = elim (cases_lt 1 (n + times_among ts u)) as (λ _. n + times_among ts u ≤ 1) [
      | inl more ↦ absurd (apart (omega (arith, more, few u)) (among-contains ts u (omega (arith, more, once (omega (arith, more, few u))))))
      | inr one ↦ one
    ]

    -- one that had become ready isn't among them
    become-before : (u : Task) → Ready p (done_tasks s) u.0 ⊎ Contains (done_tasks s) u.0 → ¬ Contains ts u
    become-before u (inl ready) c = ((become.each u).0 c).1 ready
    become-before u (inr done) c = ((become.each u).0 c).0.waiting (kept-done u.0 done)

    room-given : StandsOnce p s b.hands b.pool → (u : Task) → times_pooled b.pool u + times_given b.hands u + times_among ts u ≤ 1
    room-given stands u = once-with u (times_pooled b.pool u + times_given b.hands u) (λ some. omega (arith, stands.once u (stands.only u some))) (λ some. become-before u (inl (stands.only u some).ready))

    room : (u : Task) → times_pooled b.pool u + times_among ts u ≤ 1
    room u = elim (by-policy m.policy) as (λ _. times_pooled b.pool u + times_among ts u ≤ 1) [
      | inl prio ↦ omega (arith, room-given (keeps.inside.stands_once prio) u)
      | inr other ↦ once-with u (times_pooled b.pool u) (λ some. (keeps.inside.stands_released other).once u) (λ some. become-before u ((keeps.inside.stands_released other).become u some).ready)
    ]

    known : All (λ (k : Task). k.0 < length p.tasks) ts
    known = All-from_get_or (λ (k : Task). k.0 < length p.tasks) ts t (λ i l. ((become.each (get_or ts i t)).0 (All-get_or (Contains ts) ts i t l (All-contains_itself ts))).0.task)

    pub filled : IsFilled p m b.hands (Some w) (λ u. works.known) b.pool ts
    filled = fill p m b.hands (Some w) (λ u. works.known) ts b.pool keeps.inside.pool_fits known room

    abbrev hand' : Hand
    hand' = record (hand_of b w) { task = None }

    abbrev inside : w.0 < length b.hands
    inside = inside-hands p s b.hands b.fault keeps.inside.hands_agree w works.known

    ended-hands : HandsAgree p s' (has_ended b t w ts gift).hands b.fault
    ended-hands = record {
      every_worker = length-set b.hands w.0 hand' ∙ keeps.inside.hands_agree.every_worker;
      has = hand-set_apart (λ v h. (u : Task) → h.task ≡ Some u → IsTrue (is_task_of v (progress s' u))) b.hands w hand' inside
          (λ u e. absurd (none-some u e))
          (λ v apart u e. let had = keeps.inside.hands_agree.has v u e in
          ap (is_task_of v) (step.others u (λ f. apart (sym (task_of-worker v (Running w) (sym (ap (is_task_of v) step.was) ∙ ap (λ (k : Task). is_task_of v (progress s k)) (sym f) ∙ had))))) ∙ had);
      tells = λ free. hand-set_apart (λ v h. (u : Task) → IsTrue (is_task_of v (progress s' u)) → h.task ≡ Some u) b.hands w hand' inside
          (λ u mine. absurd (not-it w u mine (sym (same_Some t u (sym has ∙ in-hand free w u mine)))))
          (λ v apart. in-hand free v);
    }
      where
        -- it is nobody's task any more
        not-it : (v : Worker) (u : Task) → is_task_of v (progress s' u) ≡ true → u ≢ t
        not-it v u mine e = false≢true (sym (ap (is_task_of v) step.is) ∙ ap (λ (k : Task). is_task_of v (progress s' k)) (sym e) ∙ mine)

        in-hand : b.fault ≡ None → (v : Worker) (u : Task) → is_task_of v (progress s' u) ≡ true → (hand_in b.hands v).task ≡ Some u
        in-hand free v u mine = keeps.inside.hands_agree.tells free v u (sym (ap (is_task_of v) (step.others u (not-it v u mine))) ∙ mine)

    unfinished : IsComplete s ⊎ IsTrue (is_some b.fault) → IsComplete s' ⊎ IsTrue (is_some b.fault)
    unfinished (inl complete) = absurd (not-complete s t inside-tasks (ap is_done step.was) complete)
    unfinished (inr some) = inr some

    ended-stops : StopsAtTheEnd s' (has_ended b t w ts gift).hands b.fault
    ended-stops = record {
      no_task = hand-set (λ v h. h.has_stopped ≡ true → h.task ≡ None) b.hands w hand' inside (λ e. refl) keeps.inside.stops.no_task;
      over = hand-set (λ v h. h.has_stopped ≡ true → IsComplete s' ⊎ IsTrue (is_some b.fault)) b.hands w hand' inside (λ e. unfinished (keeps.inside.stops.over w e)) (λ v e. unfinished (keeps.inside.stops.over v e));
    }

    times : (u : Task) → times_pooled (with_each p (Some w) b.pool ts) u + times_given (has_ended b t w ts gift).hands u ≡ times_pooled b.pool u + times_given b.hands u + times_among ts u
    times u = omega (arith, filled.times u, given-same b.hands w hand' u inside refl)

    -- a ready task that isn't done waits, or was ready before
    news-taken : (u : Task) → Contains ts u → IsToBeTaken p s' u
    news-taken u c = record { waiting = by_progress (progress s' u) refl; ready = news.0 }
      where
        news : Ready p (done_tasks s') u.0 × ¬ Ready p (done_tasks s) u.0
        news = (become.each u).0 c

        other : u ≢ t
        other e = news.0.waiting (subst (λ (k : Task). Contains (done_tasks s') k.0) (sym e) ended-done)

        begun-before : is_begun (progress s' u) ≡ true → ⊥
        begun-before begun = news.1 (record {
          task = news.0.task;
          waiting = λ done. news.0.waiting (kept-done u.0 done);
          earlier = λ v before conflict. done_tasks-has s (record { 0 = v }) (sound.coherent.order.earlier u (ap is_begun (sym (step.others u other)) ∙ begun) (record { 0 = v }) before conflict);
        })

        by_progress : (x : Progress) → progress s' u ≡ x → x ≡ Waiting
        by_progress Waiting e = refl
        by_progress _ e = absurd (begun-before (ap is_begun e))

    still-taken : (u : Task) → IsToBeTaken p s u → IsToBeTaken p s' u
    still-taken u is =
        let now : progress s' u ≡ Waiting = step.others u (begun-other s t u (Running w) step.was refl is.waiting) ∙ is.waiting in
        record { waiting = now; ready = Ready-from p s' u is.ready.task now (EarlierAreDone-kept p s s' t u (Running w) (Done w) step refl (Ready-earlier p s u is.ready)) }

    -- one that stood nowhere and is to be taken has become ready: else it would have stood somewhere
    once-now : StandsOnce p s b.hands b.pool → (u : Task) → IsToBeTaken p s' u → times_pooled b.pool u + times_given b.hands u + times_among ts u ≡ 1
    once-now stands u is = elim (cases_lt 0 (times_pooled b.pool u + times_given b.hands u)) as (λ _. times_pooled b.pool u + times_given b.hands u + times_among ts u ≡ 1) [
      | inl some ↦ omega (arith, some, room-given stands u)
      | inr none ↦
          let waited : progress s u ≡ Waiting = sym (step.others u (begun-other s' t u (Done w) step.is refl is.waiting)) ∙ is.waiting in
          let c : Contains ts u = (become.each u).1 (is.ready, λ ready. absurd (omega (arith, none, stands.once u (record { waiting = waited; ready = ready })))) in
          omega (arith, room-given stands u, contains-among ts u c)
    ]

    ended-stands : StandsOnce p s b.hands b.pool → StandsOnce p s' (has_ended b t w ts gift).hands (with_each p (Some w) b.pool ts)
    ended-stands stands = record {
      once = λ u is. times u ∙ once-now stands u is;
      only = λ u some. elim (cases_lt 0 (times_pooled b.pool u + times_given b.hands u)) as (λ _. IsToBeTaken p s' u) [
        | inl stood ↦ still-taken u (stands.only u stood)
        | inr none ↦ news-taken u (among-contains ts u (omega (arith, none, times u, some)))
      ];
    }

    -- ---- where tasks are released

    pool-ws : m.policy ≢ Prio → b.pool.policy ≡ Ws
    pool-ws other = keeps.inside.pool_fits.policy ∙ other-pool m.policy other

    own-inside : m.policy ≢ Prio → w.0 < length b.pool.queues
    own-inside other = subst (λ (n : ℕ). w.0 < n) (sym (keeps.inside.pool_fits.queues ∙ ap (λ (q : Policy). queue_count q b.pool.workers) (pool-ws other) ∙ keeps.inside.pool_fits.workers)) works.known

    none-left : m.policy ≢ Prio → queued_tasks b.pool w.0 ≡ []
    none-left other = sym (other-released m.policy b.pool w.0 other) ∙ taken

    ended-released : m.policy ≢ Prio → StandsReleased p s' (has_ended b t w ts gift).hands (with_each p (Some w) b.pool ts)
    ended-released other =
        let was = keeps.inside.stands_released other in
        record {
          none_given = hand-set (λ v h. h.given ≡ None) b.hands w hand' inside (was.none_given w) was.none_given;
          become = λ u h. elim (cases_lt 0 (times_pooled b.pool u)) as (λ _. HasBecomeReady p s' u) [
            | inl stood ↦ become-kept p s s' u kept-done (was.become u stood)
            | inr none ↦
                let ready = ((become.each u).0 (among-contains ts u (omega (arith, none, filled.times u, h)))).0 in
                record { task = ready.task; ready = inl ready }
          ];
          once = λ u. omega (arith, filled.times u, room u);
          by_number = by-number p w b.pool ts (pool-ws other) (own-inside other) (none-left other) become.by_number was.by_number;
        }

    -- they are those that the worker takes away next
    pub ended-own : m.policy ≢ Prio → released_of (has_ended b t w ts gift) w ≡ ts
    ended-own other =
        other-released m.policy (with_each p (Some w) b.pool ts) w.0 other
        ∙ own-tasks p w b.pool ts (pool-ws other) (own-inside other)
        ∙ ap (λ (us : List Task). us ++ ts) (none-left other)

    pub keeps-ended : KeepsBoard faults mismatches held (has_ended b t w ts gift) (after_done deps t.0) footprints
    keeps-ended = record {
      fault = ended-cause faults mismatches held b.run sound.coherent t w can b.fault keeps.fault;
      inside = record {
        hands_agree = ended-hands;
        stops = ended-stops;
        stands_once = λ prio. ended-stands (keeps.inside.stands_once prio);
        stands_released = ended-released;
        pool_fits = pool_for-same p m b.hands (with_each p (Some w) b.pool ts) w hand' inside refl filled.fits;
      };
      counts = counts-now;
      bytes = keeps.bytes;
    }

  pub ends-can : (p' : Program) → p' ≡ p → (ts : List Task) → AreReleased deps t ts → CanPutEach p' (Some w) b.pool ts
  ends-can p' same ts released = subst (λ (q : Program). CanPutEach q (Some w) b.pool ts) (sym same) (filled ts (released-become ts released) None).can

  -- as the code leaves it
  module _ (p' : Program) (run' : StandingBy eq D) (hands' : List Hand) (pool' : Pooled) (deps' : Dependencies) (delivered' : List (Task × Array)) (gift : Option Array) (same : p' ≡ p) (ran : run' ≡ with_event b.run (End t w)) (handed' : hands' ≡ slice_set b.hands w.0 (record (hand_of b w) { task = None })) (done : deps' ≡ after_done deps t.0) (put : Releases p' deps t w b.pool pool') (gave : delivered' ≡ b.delivered ++ handed t gift) where
    left : board_state run' hands' pool' b.fault delivered' ≡ has_ended b t w put.ready gift
    left = λ i. board_state (ran i) (handed' i) ((put.put ∙ ap (λ (q : Program). with_each q (Some w) b.pool put.ready) same) i) b.fault (gave i)

    pub ends-left : KeepsBoard faults mismatches held (board_state run' hands' pool' b.fault delivered') deps' footprints
    ends-left =
        subst (λ (x : Dependencies). KeepsBoard faults mismatches held (board_state run' hands' pool' b.fault delivered') x footprints) (sym done)
        (subst (λ (x : BoardBy eq D). KeepsBoard faults mismatches held x (after_done deps t.0) footprints) (sym left) (keeps-ended put.ready (released-become put.ready put.released) gift))

    pub ends-task : IsGift held b.run t w gift → (old : BoardBy eq D) → b ≡ old → EndsTask held old t w (board_state run' hands' pool' b.fault delivered')
    ends-task gives old is = subst (λ (x : BoardBy eq D). EndsTask held x t w (board_state run' hands' pool' b.fault delivered')) is (record { ready = put.ready; become = released-become put.ready put.released; gift = gift; gives = gives; leaves = left; releases = λ other. ap (λ (x : BoardBy eq D). released_of x w) left ∙ ended-own put.ready (released-become put.ready put.released) gift other })
