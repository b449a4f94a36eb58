-- What the ends of tasks leave on a board, as its events happen.
use Rattle.sj_board.proofs.Words.{after, AllTell, ap, arith, Array, AtNode, CanHappen, Claim, Claimed, Coherent, cond, delivered_cell, Deliveries, DeliversEach, delivery_count, DiskState, Done, done_in, End, Equations, Event, gift_in, handed, HasAtHand, HoldsCommutersAlone, if◌then◌else◌, is_begun, is_deliver_task, is_delivery, is_done, is_some, is_task_of, IsComplete, IsDeliveryOf, IsGift, IsKeptFor, IsReadyToDeliver, IsSound, IsSoundRun, IsTileOf, KeepsEnds, length, List, Lowered, Machine, map, no_task, node_of, None, not, opening, Option, Program, Progress, progress, refl, replicate, Run, Running, set, StandingBy, starting, State, state, subst, sum_by, sym, Task, task_of, tasks_of, true, undelivered, undone, Waiting, with_event, Worker, worker_of, Works, ℕ, ◌&&◌, ◌*◌, ◌++◌, ◌+◌, ◌-◌, ◌<◌, ◌∙◌, ◌≡◌}
use Rattle.std.proofs.lemmas.{List.ext_get_or, List.get_or-map, List.length-map, List.length-replicate, List.Folds.sum_by-replicate, List.FromFn.get_or-map-range_with_len, List.FromFn.length-map-range_with_len, List.Sums.AllPass-from_list_all}
use Rattle.sj_core.proofs.{Advancing.Advances, Advancing.claimed-is_mine, Advancing.claimed-task_of, Advancing.Claims-advances, Advancing.Ends-advances, Advancing.Runs-advances, Claimed.claimed-inside, Claimed.claimed-staffed, Coherence.Claims-keeps_coherence, Eviction.evicted-after, Finding.running-inside, Opening.waits, Replicas.same_worker-refl, States.state_of-more, Sums.sum-agree, Sums.tally}
use Rattle.sj_machine.proofs.Commuting.{holds-alone}
use Rattle.sj_board.proofs.{Delivering.at-hand, Delivering.deliver-inside, Delivering.run-has, Ends.delivers-each, Ends.ends-begun, Ends.ends-claimed, Ends.ends-ended, Ends.ends-same, Ends.ends-some_left, Ends.ends-spare, Keeping.IsSomeAnd-map}
use Rattle.sj_base.proofs.{Bools.and_true, Lists.sum_by-map}

-- of a run as it stands
abbrev pub Keeps : {D : Type 0} {eq : Equations} → (D → Option (List ℕ)) → StandingBy eq D → List (Task × Array) → List (Option Array) → ℕ → ℕ → Type 0
Keeps {D} {eq} held run pairs gifts spare left = KeepsEnds eq run.program (state run) (AllTell held run) pairs gifts spare left

module _ {D : Type 0} {eq : Equations} (held : D → Option (List ℕ)) (run : StandingBy eq D) (pairs : List (Task × Array)) (gifts : List (Option Array)) (spare left : ℕ) (keeps : KeepsEnds eq run.program (state run) (AllTell held run) pairs gifts spare left) where
  abbrev p : Program
  p = run.program

  abbrev m : Machine
  m = run.machine

  abbrev s : State
  s = state run

  now-is : (e : Event) → state (with_event run e) ≡ after p m s e
  now-is e = state_of-more p m run.trace e

  -- where all tasks are as they were
  pub stays : (e : Event) (run' : StandingBy eq D) → run' ≡ with_event run e → (after p m s e).tasks ≡ s.tasks → Keeps held run' pairs gifts spare left
  stays e run' is same = subst (λ (r : StandingBy eq D). Keeps held r pairs gifts spare left) (sym is) (ends-same eq p s (state (with_event run e)) (AllTell held run) pairs gifts spare left keeps (ap (λ (z : State). z.tasks) (now-is e) ∙ same))

  -- where the disks alone change
  pub stays-stored : (run' : StandingBy eq D) → run' ≡ record run { disks = run'.disks; out = run'.out } → Keeps held run' pairs gifts spare left
  stays-stored run' is = subst (λ (r : StandingBy eq D). Keeps held r pairs gifts spare left) (sym is) keeps

  module _ (size faults mismatches : D → ℕ) (sound : IsSoundRun size faults mismatches held run) (t : Task) (w : Worker) where
    h : IsSound p m s
    h = record { proper = sound.run.proper; machine = sound.run.machine; coherent = sound.coherent }

    one : is_task_of w (progress s t) ≡ true → (u : Task) → is_task_of w (progress s u) ≡ true → u ≡ t
    one mine u has = sound.coherent.workers.one_task u t w has mine

    pub stays-claimed : CanHappen run (Claim t w) → (run' : StandingBy eq D) → run' ≡ with_event run (Claim t w) → Keeps held run' pairs gifts spare left
    stays-claimed can run' is =
        subst (λ (r : StandingBy eq D). Keeps held r pairs gifts spare left) (sym is)
        (ends-claimed eq p s (state (with_event run (Claim t w))) (AllTell held run) pairs gifts spare left keeps t w (omega (arith, can.ready.task, sound.coherent.state.rows.tasks))
        (subst (λ (z : State). Advances s z t Waiting (Claimed w)) (sym (now-is (Claim t w))) (Claims-advances p m s t w (after p m s (Claim t w)) sound.coherent.state.rows can (evicted-after p m s t w)))
        (ap (λ (z : State). z.tasks) (now-is (Claim t w))))

    -- a gift that was taken where the cell is at hand is to be kept
    gift-kept : (gift : Option Array) → (is_deliver_task p t ≡ true → HasAtHand m s t w (delivered_cell p t)) → IsGift held run t w gift → IsKeptFor eq p (AllTell held run) t gift
    gift-kept gift has is = record {
      some = λ hands. IsSomeAnd-map (IsTileOf held run (delivered_cell p t) (AtNode (node_of m w))) (IsDeliveryOf eq p (AllTell held run) t) (λ a its. record { dims = its.dims; array = λ tells. its.array tells ∙ at-hand size faults mismatches held run sound t w hands (has hands) }) gift (is.some hands);
      none = is.none;
    }

    -- as a task begins to run, with what was taken for it to hand over
    pub begins : CanHappen run (Run t w) → (gift : Option Array) → IsGift held run t w gift → (run' : StandingBy eq D) → run' ≡ with_event run (Run t w) → (gifts' : List (Option Array)) → gifts' ≡ set gifts w.0 gift → Keeps held run' pairs gifts' spare left
    begins can gift is_gift run' is gifts' kept =
        subst (λ (gs : List (Option Array)). Keeps held run' pairs gs spare left) (sym kept)
        (subst (λ (r : StandingBy eq D). Keeps held r pairs (set gifts w.0 gift) spare left) (sym is)
        (ends-begun eq p s (state (with_event run (Run t w))) (AllTell held run) pairs gifts spare left keeps t w (let i = claimed-inside p m s h t w can.claimed in omega (arith, i, sound.coherent.state.rows.tasks))
        (subst (λ (z : State). Advances s z t (Claimed w) (Running w)) (sym (now-is (Run t w))) (Runs-advances p m s t w (after p m s (Run t w)) can refl))
        (ap (λ (z : State). z.tasks) (now-is (Run t w)))
        (claimed-staffed p m s h t w can.claimed) (one (claimed-task_of s t w can.claimed)) gift
        (gift-kept gift (run-has size faults mismatches held run sound t w can) is_gift)))

    -- as it ends
    module _ (can : CanHappen run (End t w)) where
      abbrev s' : State
      s' = state (with_event run (End t w))

      inside : t.0 < length p.tasks
      inside = running-inside p m s t w sound.coherent.state.rows can

      row : t.0 < length s.tasks
      row = omega (arith, inside, sound.coherent.state.rows.tasks)

      step : Advances s s' t (Running w) (Done w)
      step = subst (λ (z : State). Advances s z t (Running w) (Done w)) (sym (now-is (End t w))) (Ends-advances p m s t w (after p m s (End t w)) can refl)

      set-is : s'.tasks ≡ set s.tasks t.0 (Done w)
      set-is = ap (λ (z : State). z.tasks) (now-is (End t w))

      alone : (u : Task) → is_task_of w (progress s u) ≡ true → u ≡ t
      alone = one (ap (is_task_of w) can ∙ same_worker-refl w)

      pub ends-staffed : w.0 < length gifts
      ends-staffed = (let staffed : w.0 < p.workers = subst (λ (x : Progress). (worker_of x).0 < p.workers) can (sound.coherent.state.staff.staffed t (ap is_begun can)) in omega (arith, staffed, keeps.gifts_kept.every_worker))

      -- what is kept for it is what it hands over
      pub ends-gift : IsGift held run t w (gift_in gifts w)
      ends-gift = record {
        some = λ hands. IsSomeAnd-map (IsDeliveryOf eq p (AllTell held run) t) (IsTileOf held run (delivered_cell p t) (AtNode (node_of m w))) (λ a its. record { dims = its.dims; array = λ tells. its.array tells ∙ sym (at-hand size faults mismatches held run sound t w hands (Works can)) }) (gift_in gifts w) ((keeps.gifts_kept.kept w t can).some hands);
        none = (keeps.gifts_kept.kept w t can).none;
      }

      pub ends-has_room : is_some (gift_in gifts w) ≡ true → 0 < spare
      ends-has_room = ends-spare eq p s s' (AllTell held run) pairs gifts spare left keeps t w row step set-is inside alone

      pub ends-some : 0 < left
      ends-some = ends-some_left eq p s s' (AllTell held run) pairs gifts spare left keeps t w row step set-is inside alone

      pub ends : (run' : StandingBy eq D) → run' ≡ with_event run (End t w) → (pairs' : List (Task × Array)) → pairs' ≡ pairs ++ handed t (gift_in gifts w) → (gifts' : List (Option Array)) → gifts' ≡ set gifts w.0 None → (spare' : ℕ) → spare' + length (handed t (gift_in gifts w)) ≡ spare → Keeps held run' pairs' gifts' spare' (left - 1)
      ends run' is pairs' more gifts' gone spare' room =
          subst (λ (r : StandingBy eq D). Keeps held r pairs' gifts' spare' (left - 1)) (sym is)
          (subst (λ (ds : List (Task × Array)). Keeps held (with_event run (End t w)) ds gifts' spare' (left - 1)) (sym more)
          (subst (λ (gs : List (Option Array)). Keeps held (with_event run (End t w)) (pairs ++ handed t (gift_in gifts w)) gs spare' (left - 1)) (sym gone)
          (ends-ended eq p s s' (AllTell held run) pairs gifts spare left keeps t w row step set-is inside alone spare' room)))

  -- where all tasks are done, each deliver task has handed over
  pub closes : (size faults mismatches : D → ℕ) → IsSoundRun size faults mismatches held run → IsComplete s → DeliversEach eq p (AllTell held run) pairs
  closes size faults mismatches sound complete =
      delivers-each eq p s (AllTell held run) pairs (λ t hands. AllPass-from_list_all is_done s.tasks complete t.0 Waiting (let i = deliver-inside p sound.run.proper t hands in omega (arith, i, sound.coherent.state.rows.tasks))) keeps.delivered

-- ---- when nothing has happened

-- a program's tasks by number are its tasks
each-task : (p : Program) → map (task_of p) (tasks_of p) ≡ p.tasks
each-task p =
    let number : ℕ → Task = λ n. record { 0 = n } in
    let all : length (tasks_of p) ≡ length p.tasks = length-map-range_with_len number 0 (length p.tasks) in
    let long : length (map (task_of p) (tasks_of p)) ≡ length p.tasks = length-map (tasks_of p) (task_of p) ∙ all in
    ext_get_or no_task (map (task_of p) (tasks_of p)) p.tasks long (λ i inside.
    get_or-map (task_of p) (tasks_of p) i (number 0) no_task (omega (arith, inside, long, all)) ∙ ap (task_of p) (get_or-map-range_with_len number 0 (length p.tasks) i i (number 0) (omega (arith, inside, long)) (omega arith)))

undelivered-first : (p : Program) (m : Machine) → undelivered p (opening p m) ≡ delivery_count p
undelivered-first p m =
    let f : Lowered → ℕ = λ l. tally (is_delivery l.codelet) in
    sum-agree (λ t. tally (is_deliver_task p t && not (done_in (opening p m) t))) (λ t. f (task_of p t)) (λ t. ap (λ x. tally (is_deliver_task p t && not (is_done x))) (waits p m t) ∙ ap tally (and_true (is_deliver_task p t))) (tasks_of p)
    ∙ sym (sum_by-map f (task_of p) (tasks_of p)) ∙ ap (sum_by f) (each-task p)

-- of a run that starts, nothing is handed over yet or kept for that
pub opens-run : {D : Type 0} (held : D → Option (List ℕ)) (eq : Equations) (p : Program) (m : Machine) (disks : DiskState D) (run : StandingBy eq D) → run ≡ starting eq p m disks → (gifts : List (Option Array)) (delivered : Deliveries) → IsReadyToDeliver p gifts delivered → (left : ℕ) → left ≡ length p.tasks → Keeps held run delivered.pairs gifts delivered.spare left
opens-run {D} held eq p m disks run starts gifts delivered ready left all =
    subst (λ (r : StandingBy eq D). Keeps held r delivered.pairs gifts delivered.spare left) (sym starts)
    (subst (λ (gs : List (Option Array)). KeepsEnds eq p (opening p m) (AllTell held (starting eq p m disks)) delivered.pairs gs delivered.spare left) (sym ready.gifts_are)
    (subst (λ (d : Deliveries). KeepsEnds eq p (opening p m) (AllTell held (starting eq p m disks)) d.pairs (replicate p.workers None) d.spare left) (sym ready.none) (record {
      delivered = record {
        only = λ i d inside. absurd (omega (arith, inside));
        once = λ t hands. ap (λ x. if is_done x then 1 else 0) (sym (waits p m t));
        dims = λ i d inside. absurd (omega (arith, inside));
        arrays = λ tells i d inside. absurd (omega (arith, inside));
      };
      gifts_kept = record {
        every_worker = length-replicate p.workers None;
        kept = λ w t runs. absurd (let e : Waiting ≡ Running w = sym (waits p m t) ∙ runs in cc);
      };
      room = omega (arith, undelivered-first p m);
      counted = (let n : undone (opening p m) ≡ length p.tasks * 1 = sum_by-replicate (λ (x : Progress). cond (not (is_done x)) 1 0) (length p.tasks) Waiting in let k : undone (opening p m) ≡ left = omega (arith, n, all) in k);
    })))

-- ---- a claim

-- a worker that has claimed a task holds its commuting cells alone
pub claims-alone : {D : Type 0} {eq : Equations} (size faults mismatches : D → ℕ) (held : D → Option (List ℕ)) (run : StandingBy eq D) → IsSoundRun size faults mismatches held run → (t : Task) (w : Worker) → CanHappen run (Claim t w) → (run' : StandingBy eq D) → run' ≡ with_event run (Claim t w) → (q : Program) → run.program ≡ q → HoldsCommutersAlone q (state run') t w
claims-alone {D} {eq} size faults mismatches held run sound t w can run' is q program =
    subst (λ (x : Program). HoldsCommutersAlone x (state run') t w) program
    (subst (λ (r : StandingBy eq D). HoldsCommutersAlone run.program (state r) t w) (sym is)
    (subst (λ (z : State). HoldsCommutersAlone run.program z t w) (sym (state_of-more run.program run.machine run.trace (Claim t w)))
    (holds-alone run.program run.machine s' coherent t w (ap (is_task_of w) (Claims-advances run.program run.machine (state run) t w s' sound.coherent.state.rows can (evicted-after run.program run.machine (state run) t w)).is ∙ claimed-is_mine w))))
  where
    s' : State
    s' = after run.program run.machine (state run) (Claim t w)

    coherent : Coherent run.program run.machine s'
    coherent = Claims-keeps_coherence run.program run.machine (state run) t w (record { proper = sound.run.proper; machine = sound.run.machine; coherent = sound.coherent }) can
