-- A board on which nothing has happened is sound.
use Rattle.sj_board.proofs.Words.{[], ap, AreFirst, AreFootprints, arith, Array, board_state, CanPutEach, cond, Contains, count_by, Dependencies, dependencies, DiskState, done_tasks, empty_hand, empty_pool, Entry, Equations, first_hands, first_pool, get_or, Hand, hand_in, inl, inr, is_done, is_entry_of, is_given, is_task_of, IsEntry, IsPoolFor, IsPrepared, IsStrictlyIncreasing, KeepsBoard, length, List, Machine, map, None, opening, Option, Policy, pool_policy, Pooled, Prio, Program, progress, putter, queue_count, queued_tasks, Ready, refl, replicate, StandingBy, starting, State, subst, sym, Task, times_given, times_pooled, Waiting, with_each, Worker, Ws, ℕ, ◌+◌, ◌<◌, ◌↔◌, ◌∙◌, ◌≡◌, ◌≢◌, ◌≤◌}
use Rattle.std.proofs.Common.{All}
use Rattle.std.proofs.lemmas.{Bool.false≢true, List.length-replicate, List.Elements.All-contains_itself, List.Elements.All-from_get_or, List.Elements.All-get_or, List.Elements.All-nil, List.Folds.sum_by-replicate, List.Kept.AllPairs-from_increasing, Option.none-some}
use Rattle.sj_base.proofs.Lists.{get_or-replicate_same}
use Rattle.sj_core.proofs.Readiness.{done_tasks-done}
use Rattle.sj_board.proofs.{Policies.by-policy, Policies.other-pool, Policies.prio-pool, PoolFilling.fill, PoolFilling.IsFilled, PoolFilling.times_among, Stepping.ready-same, TaskEnding.among-contains, TaskEnding.among-once, TaskEnding.contains-among}

module _ (p : Program) (m : Machine) (some : 0 < p.workers) where
  pub staffed : (t : Task) → putter p None t < p.workers
  staffed t = omega (arith, some)

  first-hand : (w : Worker) → hand_in (first_hands p) w ≡ empty_hand
  first-hand w = get_or-replicate_same p.workers w.0 empty_hand

  none-pooled : (policy : Policy) (t : Task) → times_pooled (empty_pool policy p.workers (length p.tasks)) t ≡ 0
  none-pooled policy t = omega (arith, sum_by-replicate (λ (q : List Entry). count_by (is_entry_of t) q) (queue_count policy p.workers) [])

  none-given : (t : Task) → times_given (first_hands p) t ≡ 0
  none-given t = omega (arith, sum_by-replicate (λ (h : Hand). cond {A = ℕ} (is_given t h) 1 0) p.workers empty_hand)

  empty-fits : (policy : Policy) → policy ≡ pool_policy m.policy → IsPoolFor p m (first_hands p) (empty_pool policy p.workers (length p.tasks))
  empty-fits policy same = record {
    policy = same;
    workers = refl;
    tasks = refl;
    queues = length-replicate (queue_count policy p.workers) [];
    entries = All-from_get_or (All (IsEntry p)) (replicate (queue_count policy p.workers) []) [] (λ i inside. subst (All (IsEntry p)) (sym (get_or-replicate_same (queue_count policy p.workers) i [])) (All-nil (IsEntry p)));
    fits = λ w t e. absurd (none-some t (sym (ap (λ (h : Hand). h.given) (first-hand w)) ∙ e));
  }

  module _ (ready : List Task) (first : AreFirst p ready) where
    few : (u : Task) → times_among ready u ≤ 1
    few u = among-once ready u (AllPairs-from_increasing (map (λ (k : Task). k.0) ready) first.by_number)

    pub first-filled : m.policy ≡ Prio → IsFilled p m (first_hands p) None staffed (empty_pool Prio p.workers (length p.tasks)) ready
    first-filled prio = fill p m (first_hands p) None staffed ready (empty_pool Prio p.workers (length p.tasks)) (empty-fits Prio (sym (prio-pool m.policy prio)))
        (All-from_get_or (λ (k : Task). k.0 < length p.tasks) ready (record { 0 = 0 }) (λ i l. ((first.each (get_or ready i (record { 0 = 0 }))).0 (All-get_or (Contains ready) ready i (record { 0 = 0 }) l (All-contains_itself ready))).task))
        (λ u. omega (arith, none-pooled Prio u, few u))

    -- under prio all that are ready stand there, and else nothing
    prio-first : m.policy ≡ Prio → first_pool p m.policy ready ≡ with_each p None (empty_pool Prio p.workers (length p.tasks)) ready
    prio-first prio = ap (λ (q : Policy). first_pool p q ready) prio

    other-first : (q : Policy) → q ≢ Prio → first_pool p q ready ≡ empty_pool Ws p.workers (length p.tasks)
    other-first Prio other = absurd (other refl)
    other-first q other = refl

    first-fits : IsPoolFor p m (first_hands p) (first_pool p m.policy ready)
    first-fits = elim (by-policy m.policy) as (λ _. IsPoolFor p m (first_hands p) (first_pool p m.policy ready)) [
      | inl prio ↦ subst (IsPoolFor p m (first_hands p)) (sym (prio-first prio)) (first-filled prio).fits
      | inr other ↦ subst (IsPoolFor p m (first_hands p)) (sym (other-first m.policy other)) (empty-fits Ws (sym (other-pool m.policy other)))
    ]

    abbrev s : State
    s = opening p m

    waits : (t : Task) → progress s t ≡ Waiting
    waits t = get_or-replicate_same (length p.tasks) t.0 Waiting

    none-done : (n : ℕ) → Contains [] n ↔ Contains (done_tasks s) n
    none-done n = (λ (i, l, e). absurd (omega (arith, l)), λ c. absurd (false≢true (sym (ap is_done (waits (record { 0 = n }))) ∙ done_tasks-done s (record { 0 = n }) c)))

    times : m.policy ≡ Prio → (u : Task) → times_pooled (first_pool p m.policy ready) u + times_given (first_hands p) u ≡ times_among ready u
    times prio u = omega (arith, ap (λ (q : Pooled). times_pooled q u) (prio-first prio), (first-filled prio).times u, none-pooled Prio u, none-given u)

    nothing : m.policy ≢ Prio → (u : Task) → times_pooled (first_pool p m.policy ready) u ≡ 0
    nothing other u = ap (λ (q : Pooled). times_pooled q u) (other-first m.policy other) ∙ none-pooled Ws u

    no-queue : m.policy ≢ Prio → (n : ℕ) → queued_tasks (first_pool p m.policy ready) n ≡ []
    no-queue other n = ap (λ (q : Pooled). queued_tasks q n) (other-first m.policy other) ∙ ap (map (λ (e : Entry). e.task)) (get_or-replicate_same (queue_count Ws p.workers) n [])

    pub keeps-opening : {D : Type 0} (eq : Equations) (faults mismatches : D → ℕ) (held : D → Option (List ℕ)) (disks : DiskState D) (footprints : List ℕ) → AreFootprints p footprints → KeepsBoard faults mismatches held (board_state (starting eq p m disks) (first_hands p) (first_pool p m.policy ready) None []) (dependencies p []) footprints
    keeps-opening eq faults mismatches held disks footprints bytes = record {
      fault = tt;
      inside = record {
        hands_agree = record {
          every_worker = length-replicate p.workers empty_hand;
          has = λ w t e. absurd (none-some t (sym (ap (λ (h : Hand). h.task) (first-hand w)) ∙ e));
          tells = λ none w t has. absurd (false≢true (sym (ap (is_task_of w) (waits t)) ∙ has));
        };
        stops = record {
          no_task = λ w e. ap (λ (h : Hand). h.task) (first-hand w);
          over = λ w e. absurd (false≢true (sym (ap (λ (h : Hand). h.has_stopped) (first-hand w)) ∙ e));
        };
        stands_once = λ prio. record {
          once = λ u is. omega (arith, times prio u, contains-among ready u ((first.each u).1 (ready-same p (done_tasks s) [] u.0 (λ n. ((none-done n).1, (none-done n).0)) is.ready)), few u);
          only = λ u stands. record { waiting = waits u; ready = ready-same p [] (done_tasks s) u.0 none-done ((first.each u).0 (among-contains ready u (omega (arith, times prio u, stands)))) };
        };
        stands_released = λ other. record {
          none_given = λ w. ap (λ (h : Hand). h.given) (first-hand w);
          become = λ u h. absurd (omega (arith, nothing other u, h));
          once = λ u. omega (arith, nothing other u);
          by_number = λ n. subst (λ (ts : List Task). IsStrictlyIncreasing (map (λ (t : Task). t.0) ts)) (sym (no-queue other n)) (λ k within. absurd (omega (arith, within)));
        };
        pool_fits = first-fits;
      };
      counts = record { program = refl; done = none-done };
      bytes = bytes;
    }

-- ---- as the code leaves it

pub first-can : (p : Program) (some : 0 < p.workers) (ready : List Task) → AreFirst p ready → (pool : Pooled) (n : ℕ) → n ≡ length p.tasks → pool ≡ empty_pool Prio p.workers n → CanPutEach p None pool ready
first-can p some ready first pool n count made =
    subst (λ (q : Pooled). CanPutEach p None q ready) (sym (made ∙ ap (empty_pool Prio p.workers) count)) (first-filled p (record { workers = 0; nodes = []; disks = []; policy = Prio }) some ready first refl).can

module _ (p : Program) (policy : Policy) (deps : Dependencies) (program : deps.program ≡ p) (none : deps.done ≡ []) (listed ready : List Task) (same : listed ≡ ready) (each : (u : Task) → Contains ready u ↔ Ready deps.program deps.done u.0) (rising : IsStrictlyIncreasing (map (λ u. u.0) ready)) where
  first : AreFirst p ready
  first = record {
    each = λ u. subst (λ (q : Program). Contains ready u ↔ Ready q [] u.0) program (subst (λ (done : List ℕ). Contains ready u ↔ Ready deps.program done u.0) none (each u));
    by_number = rising;
  }

  pub first-listed : AreFirst p listed
  first-listed = subst (AreFirst p) (sym same) first

  pub prepared : (footprints : List ℕ) (hands : List Hand) (pool : Pooled) → AreFootprints p footprints → hands ≡ first_hands p → pool ≡ first_pool p policy listed → IsPrepared p policy deps footprints hands pool
  prepared footprints hands pool bytes handed made = record {
    deps_are = ap (λ (q : Program). dependencies q deps.done) program ∙ ap (dependencies p) none;
    bytes = bytes;
    hands_are = handed;
    ready = ready;
    first = first;
    pool_is = made ∙ ap (first_pool p policy) same;
  }

-- a board of parts that are prepared
pub opens-with : {D : Type 0} (faults mismatches : D → ℕ) (held : D → Option (List ℕ)) (eq : Equations) (p : Program) (m : Machine) (disks : DiskState D) (some : 0 < p.workers) (run : StandingBy eq D) (deps : Dependencies) (footprints : List ℕ) (hands : List Hand) (pool : Pooled) (pairs : List (Task × Array)) → pairs ≡ [] → run ≡ starting eq p m disks → IsPrepared p m.policy deps footprints hands pool → KeepsBoard faults mismatches held (board_state run hands pool None pairs) deps footprints
opens-with {D} faults mismatches held eq p m disks some run deps footprints hands pool pairs none starts parts =
    subst (λ (ds : List (Task × Array)). KeepsBoard faults mismatches held (board_state run hands pool None ds) deps footprints) (sym none)
    (subst (λ (r : StandingBy eq D). KeepsBoard faults mismatches held (board_state r hands pool None []) deps footprints) (sym starts)
    (subst (λ (hs : List Hand). KeepsBoard faults mismatches held (board_state (starting eq p m disks) hs pool None []) deps footprints) (sym parts.hands_are)
    (subst (λ (q : Pooled). KeepsBoard faults mismatches held (board_state (starting eq p m disks) (first_hands p) q None []) deps footprints) (sym parts.pool_is)
    (subst (λ (d : Dependencies). KeepsBoard faults mismatches held (board_state (starting eq p m disks) (first_hands p) (first_pool p m.policy parts.ready) None []) d footprints) (sym parts.deps_are)
    (keeps-opening p m some parts.ready parts.first eq faults mismatches held disks footprints parts.bytes)))))
