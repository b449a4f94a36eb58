-- Claims and ends as turns of a worker.
use Rattle.std.proofs.Common.{◌≡◌, ◌≢◌, ℕ, ◌<◌, Bool, true, false, List, [], ◌∷◌, ◌++◌, map, length, refl, sym, ap, ◌∙◌, subst, Option, None, Some, arith, inl, inr, zero, suc}
use Rattle.std.specs.Prelude.{option_map, not, if◌then◌else◌}
use Rattle.std.specs.List.{Contains}
use Rattle.std.proofs.lemmas.Bool.{false≢true, or_left}
use Rattle.std.proofs.lemmas.List.{get_or-set_other}
use Rattle.sj_base.specs.declared.ids.Cell.{Cell}
use Rattle.sj_base.specs.declared.ids.Place.TheVariants.{Node as AtNode}
use Rattle.sj_base.specs.declared.ids.Task.{Task}
use Rattle.sj_base.specs.declared.ids.Worker.{Worker}
use Rattle.sj_base.specs.declared.mode.Access.{Access}
use Rattle.sj_base.specs.declared.mode.Mode.{Mode}
use Rattle.sj_base.specs.declared.mode.Mode.TheVariants.{R, W, RW, Scratch, Redux, Commute}
use Rattle.sj_base.specs.declared.mode.Policy.TheVariants.{Prio, Ws}
use Rattle.sj_base.specs.declared.program.Program.{Program}
use Rattle.sj_base.specs.declared.trace.Event.{Event}
use Rattle.sj_base.specs.declared.trace.Event.TheVariants.{Claim, End}
use Rattle.sj_base.specs.Array.{Array, zeros}
use Rattle.sj_base.specs.Mode.{is_data, reads_value, starts_as_zeros}
use Rattle.sj_codelet.specs.Frame.{Slot, arrays}
use Rattle.sj_codelet.specs.Kernel.{out}
use Rattle.sj_core.specs.declared.progress.Progress.{Progress}
use Rattle.sj_core.specs.declared.progress.Progress.TheVariants.{Claimed, Running}
use Rattle.sj_core.specs.declared.progress.Transfer.{Transfer}
use Rattle.sj_core.specs.Machine.{State, WorkerState, is_claimed_by, is_running_on, is_task_of, progress, transfer}
use Rattle.sj_core.specs.Needs.{node_of}
use Rattle.sj_core.specs.Operands.{cells_of, found, results, worked_on}
use Rattle.sj_core.specs.Program.{data_operands, dims_of, task_of}
use Rattle.sj_core.proofs.Reading.{progress-same, worker-same}
use Rattle.sj_core.proofs.Readiness.{Contains-filter}
use Rattle.sj_core.proofs.Replicas.{same_worker-refl}
use Rattle.sj_board.specs.Shares.{AreResultsFor}
use Rattle.sj_board.specs.Sparing.{Spares}
use Rattle.sj_board.specs.Standing.{CanHappen, Standing, state, run_arrays}
use Rattle.sj_pool.proofs.Keeping.{home-within}
use Rattle.sj_pool.specs.Pool.{home}
use Rattle.sj_board.specs.Board.{BoardState, HasTakenReleased, HasTask, IsIdle, WasGiven, empty_hand, given_back, given_from, hand_of, has_claimed, released_of}
use Rattle.sj_board.specs.BoardRow.{key_of}
use Rattle.sj_board.specs.BoardSound.{IsSoundBoard, times_pooled}
use Rattle.sj_board.proofs.Pooling.{times-put}
use Rattle.sj_board.specs.Claimable.{FitsNode, IsClaimable, MayAsk}
use Rattle.sj_board.specs.Filling.{entry_of, with_each}
use Rattle.sj_board.proofs.Policies.{by-policy, other-pool, other-released}
use Rattle.sj_board.proofs.ReleasedTasks.{other-tasks}
use Rattle.sj_board.specs.Passing.{HasLost}
use Rattle.sj_board.specs.Releasing.{EndsTask}
use Rattle.sj_board.specs.declared.hand.Hand.{Hand}
use Rattle.sj_engine.specs.Stage.{AreDone, HasClaimedRow, HoldResults, IsFreeRow, RunsRow, busy_hand, given_hand, row_in}
use Rattle.sj_engine.specs.Turn.{IsTurnOf, NothingHappens}
use Rattle.sj_engine.specs.Picking.{PickMakes}
use Rattle.sj_engine.specs.Queued.{PicksOrFails}
use Rattle.sj_engine.specs.declared.picking.Picked.{Picked}
use Rattle.sj_engine.specs.declared.picking.Picked.TheVariants.{Task as PickedTask, Nothing, Failed, Over}
use Rattle.sj_engine.proofs.BoardTurns.{event-turn, hand-put, state-after}
use Rattle.sj_engine.proofs.OwnRows.{claimed-row, has-task, phase-of}
use Rattle.sj_engine.proofs.Turning.{released-none, turn-hand}
use Rattle.sj_base.proofs.Lists.{map-agree}
use Rattle.std.proofs.lemmas.Option.{same_Some}
use Rattle.sj_engine.proofs.FoundBoards.{found-sound}
use Rattle.sj_board.proofs.Hands.{inside-hands}
use Rattle.sj_core.specs.Arrays.{held_at}

-- ---- what a task finds is told by its cells

map-at : {X Y : Type 0} (f g : X → Y) (xs : List X) → map f xs ≡ map g xs → (x : X) → Contains xs x → f x ≡ g x
map-at f g [] e x (k, l, is) = absurd (omega arith)
map-at f g (y ∷ xs) e x (zero, l, is) = sym (ap f is) ∙ cons-head (f y) (g y) (map f xs) (map g xs) e ∙ ap g is
  where
    cons-head : {Y : Type 0} (a b : Y) (us vs : List Y) → a ∷ us ≡ b ∷ vs → a ≡ b
    cons-head a b us vs e = cc
map-at f g (y ∷ xs) e x (suc k, l, is) = map-at f g xs (cons-tail (f y) (g y) (map f xs) (map g xs) e) x (k, omega arith, is)
  where
    cons-tail : {Y : Type 0} (a b : Y) (us vs : List Y) → a ∷ us ≡ b ∷ vs → us ≡ vs
    cons-tail a b us vs e = cc

map-map : {X Y Z : Type 0} (f : Y → Z) (g : X → Y) (xs : List X) → map f (map g xs) ≡ map (λ x. f (g x)) xs
map-map f g [] = refl
map-map f g (x ∷ xs) = ap (λ l. f (g x) ∷ l) (map-map f g xs)

reads-data : (x : Mode) → reads_value x ≡ true → is_data x ≡ true
reads-data R h = refl
reads-data W h = refl
reads-data RW h = refl
reads-data Scratch h = absurd (false≢true h)
reads-data Redux h = refl
reads-data Commute h = refl

pub results-agree : (p : Program) (t : Task) (w : Worker) (f g : Cell → Array) → map f (cells_of p t w) ≡ map g (cells_of p t w) → results out p t w f ≡ results out p t w g
results-agree p t w f g e = ap (λ (ins : List Array). out (task_of p t).codelet (task_of p t).args ins) (map-agree (found p w f) (found p w g) (task_of p t).accesses (λ a among. one a among (reads_value a.mode) refl))
  where
    over : map (λ (a : Access). f (worked_on p w a)) (data_operands (task_of p t)) ≡ map (λ (a : Access). g (worked_on p w a)) (data_operands (task_of p t))
    over = sym (map-map f (worked_on p w) (data_operands (task_of p t))) ∙ e ∙ map-map g (worked_on p w) (data_operands (task_of p t))

    one : (a : Access) → Contains (task_of p t).accesses a → (b : Bool) → reads_value a.mode ≡ b → found p w f a ≡ found p w g a
    one a among true h =
        let same : f (worked_on p w a) ≡ g (worked_on p w a) = map-at (λ (x : Access). f (worked_on p w x)) (λ (x : Access). g (worked_on p w x)) (data_operands (task_of p t)) over a (Contains-filter (λ (x : Access). is_data x.mode) (task_of p t).accesses a (reads-data a.mode h) among) in
        ap (λ (x : Array). if starts_as_zeros a.mode then zeros (dims_of p a.cell) else x) same
    one a among false h =
        ap (λ (b : Bool). if not b then zeros (dims_of p a.cell) else f (worked_on p w a)) h ∙ sym (ap (λ (b : Bool). if not b then zeros (dims_of p a.cell) else g (worked_on p w a)) h)

module _ {D : Type 0} (size faults mismatches : D → ℕ) (held : D → Option (List ℕ)) (w : Worker) where
  -- ---- the end of a task

  module _ (b z x y : BoardState D) (t : Task) (slots : List Slot) (ez : z ≡ b) (ex : x ≡ b) (sound : IsSoundBoard size faults mismatches held z)
      (known : w.0 < b.run.program.workers) (r : RunsRow w t (row_in b w)) (done : AreDone held (key_of b) w t (row_in b w) slots) where
    runs : progress (state b.run) t ≡ Running w
    runs = phase-of b w t (Running w) r.hand r.phase

    pub end-task : HasTask x w t
    end-task = subst (λ (k : BoardState D). HasTask k w t) (sym ex) (has-task b w known t r.hand)

    can-end : CanHappen b.run (End t w)
    can-end = runs

    pub end-can : CanHappen x.run (End t w)
    end-can = subst (λ (k : BoardState D). CanHappen k.run (End t w)) (sym ex) can-end

    operands-are : (row_in b w).operands ≡ Some (map (held_at (run_arrays b.run) (AtNode (node_of b.run.machine w))) (cells_of b.run.program t w))
    operands-are =
        let m = map (held_at (run_arrays b.run) (AtNode (node_of b.run.machine w))) (cells_of b.run.program t w) in
        ap (λ (h : Hand). option_map (λ u. if is_running_on w (progress (state b.run) u) then map (held_at (run_arrays b.run) (AtNode (node_of b.run.machine w))) (cells_of b.run.program u w) else []) h.task) r.hand
        ∙ ap (λ (g : Progress). Some (if is_running_on w g then m else [])) runs
        ∙ ap (λ (c : Bool). Some (if c then m else [])) (same_worker-refl w)

    told-results : HoldResults b.run.program w t (row_in b w) slots → arrays slots ≡ results out b.run.program t w (held_at (run_arrays b.run) (AtNode (node_of b.run.machine w)))
    told-results k = k.results ∙ results-agree b.run.program t w k.holds (held_at (run_arrays b.run) (AtNode (node_of b.run.machine w))) (same_Some _ _ (sym k.cells ∙ operands-are))

    pub end-written : AreResultsFor held x.run t w slots
    end-written =
        subst (λ (k : BoardState D). AreResultsFor held k.run t w slots) (sym ex)
        (record { each = done.shares; told = λ tell. told-results (done.told tell) })

    module _ (ends : EndsTask held x t w y) (spares : Spares x.run (End t w) y.run) where
      here : IsSoundBoard size faults mismatches held b
      here = found-sound size faults mismatches held z b ez sound

      pool-ws : x.run.machine.policy ≢ Prio → x.pool.policy ≡ Ws
      pool-ws = subst (λ (k : BoardState D). k.run.machine.policy ≢ Prio → k.pool.policy ≡ Ws) (sym ex) (λ other. here.inside.pool_fits.policy ∙ other-pool b.run.machine.policy other)

      -- what others have released stays
      ended-rest : (v : Worker) → v ≢ w → released_of y v ≡ released_of x v
      ended-rest v d = elim (by-policy x.run.machine.policy) as (λ _. released_of y v ≡ released_of x v) [
        | inl prio ↦ released-none x y (ap (λ (k : BoardState D). k.run.machine) ends.leaves) prio v
        | inr other ↦ (
            ap (λ (k : BoardState D). released_of k v) ends.leaves
            ∙ other-released x.run.machine.policy (with_each x.run.program (Some w) x.pool ends.ready) v.0 other
            ∙ other-tasks x.run.program w x.pool ends.ready (pool-ws other) v.0 (λ e. d (ap (λ (n : ℕ). let u : Worker = record { 0 = n } in u) e))
            ∙ sym (other-released x.run.machine.policy x.pool v.0 other)
            )
      ]

      -- once the worker has taken away what the end has released
      module _ (c : BoardState D) (only : c ≡ record y { pool = c.pool }) (taken : HasTakenReleased c w) (rest : (v : Worker) → v ≢ w → released_of c v ≡ released_of y v) where
        pub ended-turn : IsTurnOf faults mismatches w b c
        ended-turn =
            event-turn size faults mismatches held w b z x c (λ k. End t w) ez ex sound refl can-end (ap (λ (k : BoardState D). k.run) only ∙ ap (λ (k : BoardState D). k.run) ends.leaves)
            (λ v d. ap (λ (k : BoardState D). hand_of k v) only ∙ ap (λ (k : BoardState D). hand_of k v) ends.leaves ∙ get_or-set_other x.hands w.0 v.0 (record (hand_of x w) { task = None }) empty_hand (λ e. d (ap (λ (n : ℕ). let u : Worker = record { 0 = n } in u) e)))
            (λ f. sym (ap (λ (k : BoardState D). k.fault) ends.leaves) ∙ sym (ap (λ (k : BoardState D). k.fault) only) ∙ f)
            (λ before. taken) (λ v d. rest v d ∙ ended-rest v d)
            (subst (λ (k : Standing D). Spares x.run (End t w) k) (sym (ap (λ (k : BoardState D). k.run) only)) spares)

        pub ended-row : IsFreeRow (row_in c w)
        ended-row =
            let inside : w.0 < length x.hands = subst (λ n. w.0 < n) (sym (ap (λ (k : BoardState D). length k.hands) ex ∙ here.inside.hands_agree.every_worker)) known in
            ap (λ (k : BoardState D). hand_of k w) only
            ∙ hand-put size faults mismatches held w x y (record (hand_of x w) { task = None }) inside (ap (λ (k : BoardState D). k.hands) ends.leaves)
            ∙ ap (λ (h : Hand). let g : Hand = record { given = h.given; task = None; unit = h.unit; has_stopped = h.has_stopped } in g) (ap (λ (k : BoardState D). hand_of k w) ex ∙ r.hand)

  -- ---- the task that a worker is given

  module _ (b z x y : BoardState D) (ez : z ≡ b) (ex : x ≡ b) (sound : IsSoundBoard size faults mismatches held z) (known : w.0 < b.run.program.workers) where
    abbrev claim-sound : IsSoundBoard size faults mismatches held b
    claim-sound = found-sound size faults mismatches held z b ez sound

    abbrev its-hands : w.0 < length b.hands
    its-hands = inside-hands b.run.program (state b.run) b.hands b.fault claim-sound.inside.hands_agree w known

    module _ (o : Option Task) (q : y ≡ given_from x w o y.pool) where
      next-is : y ≡ given_from b w o y.pool
      next-is = q ∙ ap (λ (k : BoardState D). given_from k w o y.pool) ex

      pub next-turn : b.run.machine.policy ≡ Prio → IsTurnOf faults mismatches w b y
      next-turn prio = turn-hand faults mismatches w b (record (hand_of b w) { given = o }) y (ap (λ (k : BoardState D). k.run) next-is) (ap (λ (k : BoardState D). k.hands) next-is) (λ none. sym (ap (λ (k : BoardState D). k.fault) next-is) ∙ none) (released-none b y (ap (λ (k : BoardState D). k.run.machine) next-is) prio)

      pub next-fault : y.fault ≡ b.fault
      next-fault = ap (λ (k : BoardState D). k.fault) next-is

      pub next-hand : IsFreeRow (row_in b w) → (r : Option Task) → o ≡ r → hand_of y w ≡ record { given = r; task = None; unit = None; has_stopped = false }
      next-hand free r is =
          hand-put size faults mismatches held w b y (record (hand_of b w) { given = o }) its-hands (ap (λ (k : BoardState D). k.hands) next-is)
          ∙ ap (λ (h : Hand). let g : Hand = record { given = o; task = h.task; unit = h.unit; has_stopped = h.has_stopped } in g) free
          ∙ ap (λ (u : Option Task). let g : Hand = record { given = u; task = None; unit = None; has_stopped = false } in g) is

    -- a task is claimed, which the worker was given or which is from the shared queues
    module _ (t : Task) (can : CanHappen x.run (Claim t w)) (q : y ≡ has_claimed x t w) where
      can-claim : CanHappen b.run (Claim t w)
      can-claim = subst (λ (k : BoardState D). CanHappen k.run (Claim t w)) ex can

      pub claim-turn : Spares x.run (Claim t w) y.run → IsTurnOf faults mismatches w b y
      claim-turn spares =
          event-turn size faults mismatches held w b z x y (λ k. Claim t w) ez ex sound refl can-claim (ap (λ (k : BoardState D). k.run) q)
          (λ v d. ap (λ (k : BoardState D). hand_of k v) q ∙ get_or-set_other x.hands w.0 v.0 (record (hand_of x w) { given = None; task = Some t }) empty_hand (λ e. d (ap (λ (n : ℕ). let u : Worker = record { 0 = n } in u) e)))
          (λ f. sym (ap (λ (k : BoardState D). k.fault) q) ∙ f)
          (λ h. ap (λ (k : BoardState D). released_of k w) q ∙ h) (λ v d. ap (λ (k : BoardState D). released_of k v) q) spares

      claim-now : b.fault ≡ None → (hand_of b w).task ≡ None → (record (hand_of b w) { given = None; task = Some t }) ≡ busy_hand t → HasClaimedRow w t (row_in y w)
      claim-now no_fault idle hand =
          let e : y ≡ has_claimed b t w = q ∙ ap (λ (k : BoardState D). has_claimed k t w) ex in
          let s = state b.run in
          let s' = state-after b y (Claim t w) (ap (λ (k : BoardState D). k.run) e) in
          let inside : t.0 < length s.tasks = subst (λ n. t.0 < n) (sym claim-sound.run.coherent.state.rows.tasks) can-claim.ready.task in
          let staff : w.0 < length s.workers = subst (λ n. w.0 < n) (sym (claim-sound.run.coherent.state.rows.workers ∙ claim-sound.run.run.machine.workers)) known in
          claimed-row y w t
          (hand-put size faults mismatches held w b y (record (hand_of b w) { given = None; task = Some t }) its-hands (ap (λ (k : BoardState D). k.hands) e) ∙ hand)
          (ap (λ (k : State). progress k t) s' ∙ progress-same s t (Claimed w) inside)
          (ap (λ (k : State). transfer k w) s' ∙ ap (λ (k : WorkerState). k.transfer) (worker-same s w _ staff) ∙ none-moves (transfer s w) refl)
        where
          none-moves : (o : Option Transfer) → transfer (state b.run) w ≡ o → transfer (state b.run) w ≡ None
          none-moves None e = e
          none-moves (Some x) e =
              let own = claim-sound.run.coherent.workers.moves_for_claim w x e in
              let has : is_task_of w (progress (state b.run) own.0) ≡ true = or_left (is_claimed_by w (progress (state b.run) own.0)) (is_running_on w (progress (state b.run) own.0)) own.1 in
              let two = sym idle ∙ claim-sound.inside.hands_agree.tells no_fault w own.0 has in
              absurd (let k : ◌≡◌ {A = Option Task} None (Some own.0) = two in cc)

    module _ (t : Task) (given : hand_of b w ≡ given_hand t) where
      pub was-given : WasGiven x w t
      was-given = subst (λ (k : BoardState D). WasGiven k w t) (sym ex) (record { works = record { known = known; goes_on = ap (λ (h : Hand). h.has_stopped) given }; given = ap (λ (h : Hand). h.given) given })

      pub given-idle : IsIdle x w
      given-idle = subst (λ (k : BoardState D). IsIdle k w) (sym ex) (record { works = record { known = known; goes_on = ap (λ (h : Hand). h.has_stopped) given }; no_task = ap (λ (h : Hand). h.task) given })

      pub back-turn : b.run.machine.policy ≡ Prio → y ≡ given_back x t w → IsTurnOf faults mismatches w b y
      back-turn prio q =
          let e : y ≡ given_back b t w = q ∙ ap (λ (k : BoardState D). given_back k t w) ex in
          turn-hand faults mismatches w b (record (hand_of b w) { given = None }) y (ap (λ (k : BoardState D). k.run) e) (ap (λ (k : BoardState D). k.hands) e) (λ none. sym (ap (λ (k : BoardState D). k.fault) e) ∙ none) (released-none b y (ap (λ (k : BoardState D). k.run.machine) e) prio)

      pub back-row : y ≡ given_back x t w → IsFreeRow (row_in y w)
      back-row q =
          let e : y ≡ given_back b t w = q ∙ ap (λ (k : BoardState D). given_back k t w) ex in
          hand-put size faults mismatches held w b y (record (hand_of b w) { given = None }) its-hands (ap (λ (k : BoardState D). k.hands) e)
          ∙ ap (λ (h : Hand). let g : Hand = record { given = None; task = h.task; unit = h.unit; has_stopped = h.has_stopped } in g) given

      -- the pool has the task again
      pub back-pool : y ≡ given_back x t w → HasLost (Some t) y.pool b.pool
      back-pool q u =
          let e : y ≡ given_back b t w = q ∙ ap (λ (k : BoardState D). given_back k t w) ex in
          let fits = claim-sound.inside.pool_fits in
          let staffed : w.0 < b.pool.workers = subst (λ n. w.0 < n) (sym fits.workers) known in
          let here : home b.pool.policy w.0 < length b.pool.queues = subst (λ n. home b.pool.policy w.0 < n) (sym fits.queues) (home-within b.pool.policy b.pool.workers w.0 staffed) in
          sym (ap (λ (k : BoardState D). times_pooled k.pool u) e ∙ times-put b.pool.policy b.pool.queues (home b.pool.policy w.0) (entry_of b.run.program t) u here)

      pub back-fault : y ≡ given_back x t w → y.fault ≡ b.fault
      back-fault q = ap (λ (k : BoardState D). k.fault) q ∙ ap (λ (k : BoardState D). k.fault) ex

      -- under prio it may ask for it
      pub given-asks : b.run.machine.policy ≡ Prio → MayAsk x w t
      given-asks prio = record {
        given = λ _. was-given;
        outside = λ other. absurd (other (ap (λ (k : BoardState D). k.run.machine.policy) ex ∙ prio));
      }

      pub claimed-now : CanHappen x.run (Claim t w) → y ≡ has_claimed x t w → b.fault ≡ None → HasClaimedRow w t (row_in y w)
      claimed-now can q no_fault =
          claim-now t can q no_fault (ap (λ (h : Hand). h.task) given)
          (ap (λ (h : Hand). let g : Hand = record { given = None; task = Some t; unit = h.unit; has_stopped = h.has_stopped } in g) given)

    -- a task of the shared queues
    module _ (t : Task) (free : hand_of b w ≡ empty_hand) where
      pub free-idle : IsIdle x w
      free-idle = subst (λ (k : BoardState D). IsIdle k w) (sym ex) (record { works = record { known = known; goes_on = ap (λ (h : Hand). h.has_stopped) free }; no_task = ap (λ (h : Hand). h.task) free })

      -- where it may claim it
      pub queued-asks : b.run.machine.policy ≢ Prio → IsClaimable x t → FitsNode x t w → MayAsk x w t
      queued-asks other claimable fits = record {
        given = λ prio. absurd (other (sym (ap (λ (k : BoardState D). k.run.machine.policy) ex) ∙ prio));
        outside = λ _. (claimable, fits);
      }

      pub queued-now : CanHappen x.run (Claim t w) → y ≡ has_claimed x t w → b.fault ≡ None → HasClaimedRow w t (row_in y w)
      queued-now can q no_fault =
          claim-now t can q no_fault (ap (λ (h : Hand). h.task) free)
          (ap (λ (h : Hand). let g : Hand = record { given = None; task = Some t; unit = h.unit; has_stopped = h.has_stopped } in g) free)

-- what a look makes after it found nothing
pub picks-then : {D : Type 0} (w : Worker) (a b c : BoardState D) (picked : Picked) → NothingHappens a b → PickMakes w b c picked → PickMakes w a c picked
picks-then w a b c (PickedTask t) nothing made = made ∙ ap (λ (l : List Event). l ++ Claim t w ∷ []) nothing
picks-then w a b c Nothing nothing made = made ∙ nothing
picks-then w a b c Failed nothing made = made ∙ nothing
picks-then w a b c Over nothing made = made ∙ nothing

-- a look on the board makes no claim where it fails
pub picks-or-fails : {D : Type 0} (w : Worker) (a b : BoardState D) (picked : Picked) → PickMakes w a b picked → PicksOrFails w a b picked
picks-or-fails w a b (PickedTask t) made = made
picks-or-fails w a b Nothing made = made
picks-or-fails w a b Failed made = inl made
picks-or-fails w a b Over made = made
