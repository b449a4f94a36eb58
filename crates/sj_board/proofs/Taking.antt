-- A board stays sound where a worker claims the task that it was given.
use Rattle.sj_board.proofs.Words.{after, AnotherHasTask, ap, arith, BoardBy, Bool, CanHappen, Claim, Claimed, cond, CountsDone, Dependencies, Equations, false, footprint, Hand, hand_in, hand_of, HandsAgree, has_claimed, inl, inr, is_done, is_some, is_task_of, IsComplete, IsSoundRun, IsToBeTaken, IsTrue, IsWhy, IsWorking, KeepsBoard, length, length-set, List, Machine, MayAsk, MayClaim, node_of, node_size, None, not, NotNow, Option, Prio, Program, progress, refl, slice_set, Some, StandingBy, StandsOnce, StandsReleased, State, state, StopsAtTheEnd, subst, sym, Task, times_given, times_pooled, true, Waiting, Why, with_event, Worker, ℕ, ◌+◌, ◌<◌, ◌∙◌, ◌≡◌, ◌≢◌, ◌≤◌, ◌⊎◌}
use Rattle.std.proofs.Common.{Err}
use Rattle.std.proofs.lemmas.{Bool.false_from_ne_true, Bool.false≢true, Bool.ne_eqb, List.Elements.All-from_get_or, List.Sums.list_all-from_AllPass, Option.none-some}
use Rattle.sj_core.proofs.{Advancing.Advances, Advancing.claimed-is_mine, Advancing.Claims-advances, Advancing.same_task, Advancing.task_of-worker, Dependencies.Proper-dependencies, Eviction.evicted-after, Separation.worker-inside, States.state_of-more}
use Rattle.sj_board.proofs.{Giving.back-taken, Giving.once-given, Giving.once-own, Hands.given-set, Hands.hand-set, Hands.hand-set_apart, Hands.inside-hands, LastHeaders.none-caused, Policies.by-policy, Pooling.once, ReleasedTasks.counts-both, ReleasedTasks.released-same, Stepping.counts-still, Stepping.not-complete, Stepping.taken-before, Stepping.taken-still}
use Rattle.sj_machine.proofs.Refusing.{found-waits}
use Rattle.sj_board.specs.declared.refusal.ClaimRefusal.TheVariants.{OutOfMemory}

once-other : (u t : Task) → u ≢ t → once u (Some t) ≡ 0
once-other u t d = ap (λ (b : Bool). cond {A = ℕ} b 1 0) (ne_eqb t.0 u.0 (λ e. d (ap (λ (n : ℕ). let k : Task = record { 0 = n } in k) (sym e))))

module _ {D : Type 0} {eq : Equations} (size faults mismatches : D → ℕ) (held : D → Option (List ℕ)) (b : BoardBy eq D) (deps : Dependencies) (footprints : List ℕ) (keeps : KeepsBoard faults mismatches held b deps footprints) (sound : IsSoundRun size faults mismatches held b.run) (w : Worker) (works : IsWorking b w) (t : Task) (may : MayAsk b w t) (idle : (hand_of b w).task ≡ None) (none : b.fault ≡ None) where
  abbrev p : Program
  p = b.run.program

  abbrev m : Machine
  m = b.run.machine

  abbrev s : State
  s = state b.run

  given : m.policy ≡ Prio → (hand_of b w).given ≡ Some t
  given prio = (may.given prio).given

  -- it is ready, waits, and fits the worker's node
  taken : IsToBeTaken p s t × (footprint p t ≤ node_size m (node_of m w))
  taken = elim (by-policy m.policy) as (λ _. IsToBeTaken p s t × (footprint p t ≤ node_size m (node_of m w))) [
    | inl prio ↦ (back-taken faults mismatches held b deps footprints keeps w works.known prio t (given prio), keeps.inside.pool_fits.fits w t (given prio))
    | inr other ↦ may.outside other
  ]

  has-none : (u : Task) → is_task_of w (progress s u) ≡ false
  has-none u = false_from_ne_true (is_task_of w (progress s u)) (λ has. none-some u (sym idle ∙ keeps.inside.hands_agree.tells none w u has))

  pub may-claim : MayClaim p m s t w
  may-claim = record {
    worker = works.known;
    waiting = taken.0.waiting;
    ready = taken.0.ready;
    idle = list_all-from_AllPass (λ x. not (is_task_of w x)) s.tasks (All-from_get_or (λ x. not (is_task_of w x) ≡ true) s.tasks Waiting (λ k within. ap not (has-none (record { 0 = k }))));
    fits = taken.1;
  }

  abbrev claiming : Hand
  claiming = record (hand_of b w) { given = None; task = Some t }

  abbrev inside : w.0 < length b.hands
  inside = inside-hands p s b.hands b.fault keeps.inside.hands_agree w works.known

  module _ (can : CanHappen b.run (Claim t w)) where
    abbrev s' : State
    s' = state (with_event b.run (Claim t w))

    step : Advances s s' t Waiting (Claimed w)
    step = subst (λ (z : State). Advances s z t Waiting (Claimed w)) (sym (state_of-more p m b.run.trace (Claim t w))) (Claims-advances p m s t w (after p m s (Claim t w)) sound.coherent.state.rows can (evicted-after p m s t w))

    waited : (v : Worker) (u : Task) → is_task_of v (progress s u) ≡ true → u ≢ t
    waited v u has e = false≢true (sym (ap (is_task_of v) taken.0.waiting) ∙ ap (λ (k : Task). is_task_of v (progress s k)) (sym e) ∙ has)

    claimed-hands : HandsAgree p s' (has_claimed b t w).hands b.fault
    claimed-hands = record {
      every_worker = length-set b.hands w.0 claiming ∙ keeps.inside.hands_agree.every_worker;
      has = hand-set (λ v h. (u : Task) → h.task ≡ Some u → IsTrue (is_task_of v (progress s' u))) b.hands w claiming inside
          (λ u e. let same : t ≡ u = cc in subst (λ (k : Task). is_task_of w (progress s' k) ≡ true) same (ap (is_task_of w) step.is ∙ claimed-is_mine w))
          (λ v u e. let has = keeps.inside.hands_agree.has v u e in ap (is_task_of v) (step.others u (waited v u has)) ∙ has);
      tells = λ free. hand-set_apart (λ v h. (u : Task) → IsTrue (is_task_of v (progress s' u)) → h.task ≡ Some u) b.hands w claiming inside
          (λ u has. elim (same_task u t) as (λ _. Some t ≡ Some u) [
            | inl e ↦ ap Some (sym e)
            | inr d ↦ absurd (false≢true (sym (has-none u) ∙ sym (ap (is_task_of w) (step.others u d)) ∙ has))
          ])
          (λ v apart u has. elim (same_task u t) as (λ _. (hand_in b.hands v).task ≡ Some u) [
            | inl e ↦ absurd (apart (sym (task_of-worker v (Claimed w) (sym (ap (is_task_of v) step.is) ∙ ap (λ (k : Task). is_task_of v (progress s' k)) (sym e) ∙ has))))
            | inr d ↦ keeps.inside.hands_agree.tells free v u (sym (ap (is_task_of v) (step.others u d)) ∙ has)
          ]);
    }

    unfinished : IsComplete s ⊎ IsTrue (is_some b.fault) → ⊥
    unfinished (inl complete) = not-complete s t (subst (λ (n : ℕ). t.0 < n) (sym sound.coherent.state.rows.tasks) taken.0.ready.task) (ap is_done taken.0.waiting) complete
    unfinished (inr some) = false≢true (ap is_some (sym none) ∙ some)

    claimed-stops : StopsAtTheEnd s' (has_claimed b t w).hands b.fault
    claimed-stops = record {
      no_task = hand-set (λ v h. h.has_stopped ≡ true → h.task ≡ None) b.hands w claiming inside (λ e. absurd (false≢true (sym works.goes_on ∙ e))) keeps.inside.stops.no_task;
      over = hand-set (λ v h. h.has_stopped ≡ true → IsComplete s' ⊎ IsTrue (is_some b.fault)) b.hands w claiming inside (λ e. absurd (false≢true (sym works.goes_on ∙ e))) (λ v e. absurd (unfinished (keeps.inside.stops.over v e)));
    }

    -- the task is given no longer, and no other more or less often
    times : m.policy ≡ Prio → (u : Task) → times_pooled b.pool u + times_given (has_claimed b t w).hands u + once u (Some t) ≡ times_pooled b.pool u + times_given b.hands u
    times prio u = omega (arith, given-set b.hands w claiming u inside, once-given u claiming, once-given u (hand_of b w), ap (once u) (given prio))

    claimed-stands : m.policy ≡ Prio → StandsOnce p s' (has_claimed b t w).hands b.pool
    claimed-stands prio = record {
      once = λ u is. elim (same_task u t) as (λ _. times_pooled b.pool u + times_given (has_claimed b t w).hands u ≡ 1) [
        | inl e ↦ absurd (let f : Claimed w ≡ Waiting = sym step.is ∙ ap (progress s') (sym e) ∙ is.waiting in cc)
        | inr d ↦ omega (arith, times prio u, once-other u t d, (keeps.inside.stands_once prio).once u (taken-before p s s' t Waiting (Claimed w) step refl refl u d is))
      ];
      only = λ u some. elim (same_task u t) as (λ _. IsToBeTaken p s' u) [
        | inl e ↦ (
            let one = (keeps.inside.stands_once prio).once u ((keeps.inside.stands_once prio).only u (omega (arith, times prio u, some))) in
            absurd (omega (arith, times prio u, some, one, ap (λ (k : Task). once k (Some t)) e ∙ once-own t))
            )
        | inr d ↦ taken-still p s s' t Waiting (Claimed w) step refl refl u d ((keeps.inside.stands_once prio).only u (omega (arith, times prio u, some)))
      ];
    }

    counts-now : CountsDone p s' deps
    counts-now = counts-still p s s' t Waiting (Claimed w) step refl refl deps keeps.counts

    -- it stays with those that were released, where it is one of them
    claimed-released : m.policy ≢ Prio → StandsReleased p s' (has_claimed b t w).hands b.pool
    claimed-released other =
        let was = keeps.inside.stands_released other in
        released-same p s s' b.hands (has_claimed b t w).hands b.pool (counts-both p s s' deps keeps.counts counts-now) (hand-set (λ v h. h.given ≡ None) b.hands w claiming inside refl was.none_given) was

    pub keeps-claimed : KeepsBoard faults mismatches held (has_claimed b t w) deps footprints
    keeps-claimed = record {
      fault = none-caused faults mismatches held b.run (with_event b.run (Claim t w)) b.fault none;
      inside = record {
        hands_agree = claimed-hands;
        stops = claimed-stops;
        stands_once = claimed-stands;
        stands_released = claimed-released;
        pool_fits = record {
          policy = keeps.inside.pool_fits.policy;
          workers = keeps.inside.pool_fits.workers;
          tasks = keeps.inside.pool_fits.tasks;
          queues = keeps.inside.pool_fits.queues;
          entries = keeps.inside.pool_fits.entries;
          fits = hand-set (λ v x. (u : Task) → x.given ≡ Some u → footprint p u ≤ node_size m (node_of m v)) b.hands w claiming inside (λ u e. absurd (none-some u e)) keeps.inside.pool_fits.fits;
        };
      };
      counts = counts-now;
      bytes = keeps.bytes;
    }

    -- as the code leaves it
    pub keeps-claimed_left : (run' : StandingBy eq D) (hands' : List Hand) → run' ≡ with_event b.run (Claim t w) → hands' ≡ slice_set b.hands w.0 claiming → KeepsBoard faults mismatches held (record b { run = run'; hands = hands' }) deps footprints
    keeps-claimed_left run' hands' run hands =
        subst (λ (r : StandingBy eq D). KeepsBoard faults mismatches held (record b { run = r; hands = hands' }) deps footprints) (sym run)
        (subst (λ (hs : List Hand). KeepsBoard faults mismatches held (record (has_claimed b t w) { hands = hs }) deps footprints) (sym hands) keeps-claimed)

-- ---- a claim that is refused

module _ {D : Type 0} {eq : Equations} (size faults mismatches : D → ℕ) (held : D → Option (List ℕ)) (run : StandingBy eq D) (sound : IsSoundRun size faults mismatches held run) (t : Task) (w : Worker) (may : MayClaim run.program run.machine (state run) t w) where
  -- with one worker there is no other
  pub lone-refusal : run.program.workers ≡ 1 → (why : Why) → IsWhy run.program run.machine (state run) t w why → NotNow why ≡ OutOfMemory
  lone-refusal one why is =
      let another : AnotherHasTask (state run) w = found-waits run.program run.machine (state run) (record { proper = sound.run.proper; machine = sound.run.machine; coherent = sound.coherent }) t w may (Err why) is in
      let staffed = worker-inside run.program run.machine sound.run.proper.cells (Proper-dependencies run.program sound.run.proper) (state run) sound.coherent.state sound.coherent.workers sound.coherent.order another.task another.worker another.has in
      let same : another.worker.0 ≡ w.0 = omega (arith, staffed, may.worker, one) in
      absurd (another.other (ap (λ (i : ℕ). let x : Worker = record { 0 = i } in x) same))
