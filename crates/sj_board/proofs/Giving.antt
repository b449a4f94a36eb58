-- A board stays sound where a worker is given a task from the pool, and where it gives one back.
use Rattle.sj_board.proofs.Words.{ap, arith, Array, board_state, BoardBy, cond, contains, Dependencies, empty_hand, entry_of, Equations, false, footprint, Hand, hand_of, home, inl, inr, is_given, is_some, is_task_of, IsComplete, IsEntry, IsLeft, IsPoolFor, IsPoolOf, IsTakenBehind, IsToBeTaken, IsTrue, KeepsBoard, length, length-set, List, Machine, node_of, node_size, None, Option, Pooled, Prio, Program, progress, refl, room_of, RunFault, slice_set, Some, StandingBy, State, state, subst, sym, Task, times_given, times_pooled, true, with_entry, Worker, ℕ, ◌+◌, ◌<◌, ◌∙◌, ◌≡◌, ◌≤◌, ◌⊎◌}
use Rattle.std.proofs.lemmas.{Bool.cases_lt, List.Sums.get_or-le-sum_by, Option.none-some}
use Rattle.sj_base.proofs.Options.{IfSome-at}
use Rattle.sj_pool.proofs.Keeping.{home-within}
use Rattle.sj_board.proofs.{Hands.given-set, Hands.hand-set, Hands.inside-hands, Hands.stands-same, Policies.prio-pool, Pooling.all-pooled, Pooling.none-contains, Pooling.once, Pooling.times-put}

pub once-given : (t : Task) (hand : Hand) → cond {A = ℕ} (is_given t hand) 1 0 ≡ once t hand.given
once-given t hand = elim hand.given as (λ g. cond {A = ℕ} (is_given t (record { given = g; task = None; unit = None; has_stopped = false })) 1 0 ≡ once t g) [ None ↦ refl | Some u ↦ refl ]

-- a task is given once where the number is its own
pub once-own : (t : Task) → once t (Some t) ≡ 1
once-own t = grind arith

-- as the code leaves it
pub keeps-left : {D : Type 0} {eq : Equations} (faults mismatches : D → ℕ) (held : D → Option (List ℕ)) (run : StandingBy eq D) (hs hs' : List Hand) (q q' : Pooled) (fault : Option RunFault) (delivered : List (Task × Array)) (deps : Dependencies) (footprints : List ℕ) → hs' ≡ hs → q' ≡ q → KeepsBoard faults mismatches held (board_state run hs q fault delivered) deps footprints → KeepsBoard faults mismatches held (board_state run hs' q' fault delivered) deps footprints
keeps-left faults mismatches held run hs hs' q q' fault delivered deps footprints h e keeps =
    subst (λ (x : List Hand). KeepsBoard faults mismatches held (board_state run x q' fault delivered) deps footprints) (sym h)
    (subst (λ (x : Pooled). KeepsBoard faults mismatches held (board_state run hs x fault delivered) deps footprints) (sym e) keeps)

module _ {D : Type 0} {eq : Equations} (faults mismatches : D → ℕ) (held : D → Option (List ℕ)) (b : BoardBy eq D) (deps : Dependencies) (footprints : List ℕ) (keeps : KeepsBoard faults mismatches held b deps footprints) (w : Worker) (known : w.0 < b.run.program.workers) (prio : b.run.machine.policy ≡ Prio) where
  abbrev p : Program
  p = b.run.program

  abbrev m : Machine
  m = b.run.machine

  abbrev s : State
  s = state b.run

  abbrev hand-inside : w.0 < length b.hands
  hand-inside = inside-hands p s b.hands b.fault keeps.inside.hands_agree w known

  abbrev giving : Option Task → Hand
  giving g = record (hand_of b w) { given = g }

  pub pool-policy : b.pool.policy ≡ m.policy
  pool-policy = keeps.inside.pool_fits.policy ∙ prio-pool m.policy prio ∙ sym prio

  -- its entries are of tasks of the program, each once
  pub pool-of : IsPoolOf p b.pool
  pool-of = record {
    workers = keeps.inside.pool_fits.workers;
    tasks = keeps.inside.pool_fits.tasks;
    queues = keeps.inside.pool_fits.queues;
    entries = keeps.inside.pool_fits.entries;
    known = λ t h. ((keeps.inside.stands_once prio).only t (omega (arith, h))).ready.task;
    once = λ t. elim (cases_lt 0 (times_pooled b.pool t)) as (λ _. times_pooled b.pool t ≤ 1) [
      | inl some ↦ omega (arith, (keeps.inside.stands_once prio).once t ((keeps.inside.stands_once prio).only t (omega (arith, some))))
      | inr none ↦ omega (arith, none)
    ];
  }

  -- a worker's hand has another given task, and the pool has changed so that each task stands as often as before
  pub keeps-given : (g : Option Task) (pool' : Pooled) → ((t : Task) → times_pooled pool' t + once t g ≡ times_pooled b.pool t + once t (hand_of b w).given) → IsPoolFor p m (slice_set b.hands w.0 (giving g)) pool' → KeepsBoard faults mismatches held (record b { hands = slice_set b.hands w.0 (giving g); pool = pool' }) deps footprints
  keeps-given g pool' same fits = record {
    fault = keeps.fault;
    inside = record {
      hands_agree = record {
        every_worker = length-set b.hands w.0 (giving g) ∙ keeps.inside.hands_agree.every_worker;
        has = hand-set (λ v h. (t : Task) → h.task ≡ Some t → IsTrue (is_task_of v (progress s t))) b.hands w (giving g) hand-inside (keeps.inside.hands_agree.has w) keeps.inside.hands_agree.has;
        tells = λ none. hand-set (λ v h. (t : Task) → IsTrue (is_task_of v (progress s t)) → h.task ≡ Some t) b.hands w (giving g) hand-inside (keeps.inside.hands_agree.tells none w) (keeps.inside.hands_agree.tells none);
      };
      stops = record {
        no_task = hand-set (λ v h. h.has_stopped ≡ true → h.task ≡ None) b.hands w (giving g) hand-inside (keeps.inside.stops.no_task w) keeps.inside.stops.no_task;
        over = hand-set (λ v h. h.has_stopped ≡ true → IsComplete s ⊎ IsTrue (is_some b.fault)) b.hands w (giving g) hand-inside (keeps.inside.stops.over w) keeps.inside.stops.over;
      };
      stands_once = λ _. stands-same p s b.hands (slice_set b.hands w.0 (giving g)) b.pool pool' (λ t. omega (arith, same t, given-set b.hands w (giving g) t hand-inside, once-given t (giving g), once-given t (hand_of b w))) (keeps.inside.stands_once prio);
      stands_released = λ other. absurd (other prio);
      pool_fits = fits;
    };
    counts = keeps.counts;
    bytes = keeps.bytes;
  }

  -- ---- a task from the pool

  abbrev room : ℕ
  room = room_of b w

  fits-next : (passed : List Task) (g : Option Task) (pool' : Pooled) → IsTakenBehind p passed w.0 room b.pool pool' g → IsPoolFor p m (slice_set b.hands w.0 (giving g)) pool'
  fits-next passed g pool' behind = record {
    policy = behind.policy ∙ keeps.inside.pool_fits.policy;
    workers = behind.pool.workers;
    tasks = behind.pool.tasks;
    queues = behind.pool.queues;
    entries = behind.pool.entries;
    fits = hand-set (λ v x. (t : Task) → x.given ≡ Some t → footprint p t ≤ node_size m (node_of m v)) b.hands w (giving g) hand-inside (λ t e. (IfSome-at (IsLeft p passed room b.pool) g t e behind.left).fits) keeps.inside.pool_fits.fits;
  }

  -- as the code leaves it
  pub keeps-next_left : (n : ℕ) (passed : List Task) (p' : Program) (g : Option Task) (hands' : List Hand) (pool' : Pooled) → n ≡ room → p' ≡ p → IsTakenBehind p' passed w.0 n b.pool pool' g → hands' ≡ slice_set b.hands w.0 (giving g) → (hand_of b w).given ≡ None → KeepsBoard faults mismatches held (board_state b.run hands' pool' b.fault b.delivered) deps footprints
  keeps-next_left n passed p' g hands' pool' size same behind hands free =
      let here : IsTakenBehind p passed w.0 room b.pool pool' g = subst (λ (k : ℕ). IsTakenBehind p passed w.0 k b.pool pool' g) size (subst (λ (q : Program). IsTakenBehind q passed w.0 n b.pool pool' g) same behind) in
      keeps-left faults mismatches held b.run _ hands' _ pool' b.fault b.delivered deps footprints hands refl
      (keeps-given g pool' (λ t. omega (arith, here.lost t, ap (once t) free)) (fits-next passed g pool' here))

  -- ---- a task back to the pool

  module _ (t : Task) (given : (hand_of b w).given ≡ Some t) where
    stands-here : 1 ≤ times_given b.hands t
    stands-here =
        let least : cond {A = ℕ} (is_given t (hand_of b w)) 1 0 ≤ times_given b.hands t = get_or-le-sum_by (λ (x : Hand). cond {A = ℕ} (is_given t x) 1 0) b.hands w.0 empty_hand hand-inside in
        omega (arith, least, once-given t (hand_of b w), ap (once t) given, once-own t)

    pub back-taken : IsToBeTaken p s t
    back-taken = (keeps.inside.stands_once prio).only t (omega (arith, stands-here))

    pub back-task : t.0 < length p.tasks
    back-task = back-taken.ready.task

    pub back-absent : contains b.pool.queues t.0 ≡ false
    back-absent = none-contains b.pool.queues t (omega (arith, stands-here, (keeps.inside.stands_once prio).once t back-taken))

    pub back-known : t.0 < b.pool.limit
    back-known = subst (λ (n : ℕ). t.0 < n) (sym keeps.inside.pool_fits.tasks) back-task

    home-here : home b.pool.policy w.0 < length b.pool.queues
    home-here = subst (λ (n : ℕ). home b.pool.policy w.0 < n) (sym keeps.inside.pool_fits.queues) (home-within b.pool.policy b.pool.workers w.0 (omega (arith, known, keeps.inside.pool_fits.workers)))

    fits-back : IsPoolFor p m (slice_set b.hands w.0 (giving None)) (with_entry b.pool (entry_of p t) w.0)
    fits-back = record {
      policy = keeps.inside.pool_fits.policy;
      workers = keeps.inside.pool_fits.workers;
      tasks = keeps.inside.pool_fits.tasks;
      queues = length-set b.pool.queues (home b.pool.policy w.0) _ ∙ keeps.inside.pool_fits.queues;
      entries = all-pooled (IsEntry p) b.pool.policy b.pool.queues (home b.pool.policy w.0) (entry_of p t) home-here refl keeps.inside.pool_fits.entries;
      fits = hand-set (λ v x. (u : Task) → x.given ≡ Some u → footprint p u ≤ node_size m (node_of m v)) b.hands w (giving None) hand-inside (λ u none. absurd (none-some u none)) keeps.inside.pool_fits.fits;
    }

    -- as the code leaves it
    pub keeps-back_left : (p' : Program) (hands' : List Hand) (pool' : Pooled) → p' ≡ p → hands' ≡ slice_set b.hands w.0 (giving None) → pool' ≡ with_entry b.pool (entry_of p' t) w.0 → KeepsBoard faults mismatches held (board_state b.run hands' pool' b.fault b.delivered) deps footprints
    keeps-back_left p' hands' pool' same hands pool =
        keeps-left faults mismatches held b.run _ hands' _ pool' b.fault b.delivered deps footprints hands (pool ∙ ap (λ (q : Program). with_entry b.pool (entry_of q t) w.0) same)
        (keeps-given None (with_entry b.pool (entry_of p t) w.0) (λ u. omega (arith, times-put b.pool.policy b.pool.queues (home b.pool.policy w.0) (entry_of p t) u home-here, ap (once u) given)) fits-back)
