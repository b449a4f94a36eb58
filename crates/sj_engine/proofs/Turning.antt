-- A worker's turn on the board leaves the rows of all others, in one step or in several.
use Rattle.std.proofs.Common.{◌≡◌, ◌≢◌, ℕ, Bool, true, false, cond, List, [], ◌∷◌, ◌++◌, map, refl, sym, ap, ◌∙◌, subst, Option, None, Some, inl, inr, ◌⊎◌}
use Rattle.std.specs.Prelude.{filter, is_some, nat_eq, option_and_then, option_map, slice_set, if◌then◌else◌}
use Rattle.std.proofs.lemmas.Bool.{cases_eq}
use Rattle.std.proofs.lemmas.Bool.Decides.{Decides-eqb}
use Rattle.std.proofs.lemmas.List.{append-nil, append_assoc, get_or-set_other}
use Rattle.std.proofs.lemmas.List.Elements.{filter-append}
use Rattle.sj_base.specs.declared.ids.Place.TheVariants.{Node as AtNode}
use Rattle.sj_base.specs.declared.ids.Task.{Task}
use Rattle.sj_base.specs.declared.ids.Worker.{Worker}
use Rattle.sj_base.specs.declared.mode.Policy.TheVariants.{Prio}
use Rattle.sj_base.specs.declared.program.Program.{Program}
use Rattle.sj_base.specs.declared.program.Machine.{Machine}
use Rattle.sj_base.specs.declared.trace.Event.{Event}
use Rattle.sj_base.specs.declared.trace.Event.TheVariants.{Claim, Move, Moved, Drop, Run, End}
use Rattle.sj_base.specs.Array.{Array}
use Rattle.sj_core.specs.declared.progress.Progress.{Progress}
use Rattle.sj_core.specs.declared.progress.Transfer.{Transfer}
use Rattle.sj_core.specs.Laws.{IsSound}
use Rattle.sj_core.specs.Machine.{State, WorkerState, is_running_on, is_task_of, progress, transfer, worker_state, writes, idle_row}
use Rattle.sj_core.specs.Needs.{node_of}
use Rattle.sj_core.specs.Operands.{cells_of}
use Rattle.sj_core.proofs.States.{state_of-more}
use Rattle.sj_disk.specs.Directory.{DiskState}
use Rattle.sj_disk.specs.Holding.{CountsStay}
use Rattle.sj_disk.specs.Units.{UnitState}
use Rattle.sj_pool.specs.Pool.{Pooled}
use Rattle.sj_board.specs.Sparing.{SparesUsed, Spares}
use Rattle.sj_board.specs.Standing.{CanHappen, Standing, run_arrays, state, with_event}
use Rattle.sj_board.specs.Board.{BoardState, HasTakenReleased, empty_hand, hand_in, hand_of, has_taken, released_of}
use Rattle.sj_board.specs.Released.{released_in}
use Rattle.sj_board.specs.Units.{unit_at, unit_in_hand}
use Rattle.sj_board.proofs.Policies.{prio-released}
use Rattle.sj_board.specs.BoardRow.{BoardKey, BoardRow, is_event_of, key_of, row_of_number}
use Rattle.sj_board.specs.BoardSound.{IsSoundBoard}
use Rattle.sj_board.specs.declared.hand.Hand.{Hand}
use Rattle.sj_engine.specs.Stage.{BeginsWith, row_in}
use Rattle.sj_engine.specs.Turn.{IsSharedSound, IsTurnOf, NothingHappens, PutsUnitBack}
use Rattle.sj_engine.proofs.OtherRows.{IsBy, StaysFor, Step-stays}
use Rattle.sj_base.proofs.Lists.{map-agree}
use Rattle.sj_core.proofs.Updating.{has-contained}
use Rattle.sj_base.specs.Ids.{worker}
use Rattle.sj_core.specs.Arrays.{Arrays, held_at}

-- ---- rows

abbrev row : {D : Type 0} → Hand → Option (UnitState D) → Option Progress → Option (List Array) → WorkerState → Option Array → Option ℕ → List Event → List Task → BoardRow D
row hand unit phase operands holds carries writes events released = record { hand = hand; unit = unit; phase = phase; operands = operands; holds = holds; carries = carries; writes = writes; events = events; released = released }

row-same : {D : Type 0} (h h' : Hand) (u u' : Option (UnitState D)) (p p' : Option Progress) (o o' : Option (List Array)) (l l' : WorkerState) (c c' : Option Array) (w w' : Option ℕ) (e e' : List Event) (r : List Task) → h' ≡ h → u' ≡ u → p' ≡ p → o' ≡ o → l' ≡ l → c' ≡ c → w' ≡ w → e' ≡ e → row h' u' p' o' l' c' w' e' r ≡ row h u p o l c w e r
row-same h h' u u' p p' o o' l l' c c' w w' e e' r eh eu ep eo el ec ew ee =
    ap (λ x. row x u' p' o' l' c' w' e' r) eh ∙ ap (λ x. row h x p' o' l' c' w' e' r) eu ∙ ap (λ x. row h u x o' l' c' w' e' r) ep ∙ ap (λ x. row h u p x l' c' w' e' r) eo ∙ ap (λ x. row h u p o x c' w' e' r) el
    ∙ ap (λ x. row h u p o l x w' e' r) ec ∙ ap (λ x. row h u p o l c x e' r) ew ∙ ap (λ x. row h u p o l c w x r) ee

map-option : {X Y : Type 0} (f g : X → Y) (o : Option X) → ((x : X) → o ≡ Some x → f x ≡ g x) → option_map f o ≡ option_map g o
map-option f g None h = refl
map-option f g (Some x) h = ap (λ y. Some y) (h x refl)

-- ---- another worker's row

-- a worker's row of its parts
abbrev row_of_parts : {D : Type 0} → DiskState D → Program → Machine → State → Arrays → Worker → Hand → List Event → List Task → BoardRow D
row_of_parts disks p m s A v hand trace released =
    row hand (option_and_then (unit_at disks) hand.unit) (option_map (progress s) hand.task)
    (option_map (λ t. if is_running_on v (progress s t) then map (held_at A (AtNode (node_of m v))) (cells_of p t v) else []) hand.task)
    (if is_some hand.task then worker_state s v else idle_row)
    (option_map (λ x. A x.cell x.from) (if is_some hand.task then transfer s v else None))
    (option_map (λ x. writes s x.cell) (if is_some hand.task then transfer s v else None))
    (filter (is_event_of v.0) trace) released

module _ {D : Type 0} (disks : DiskState D) (p : Program) (m : Machine) (s s' : State) (A A' : Arrays) (v : Worker) (hand : Hand) (trace trace' : List Event) (stays : StaysFor p m s s' A A' v)
    (mine : (u : Task) → hand.task ≡ Some u → is_task_of v (progress s u) ≡ true) (events : filter (is_event_of v.0) trace' ≡ filter (is_event_of v.0) trace) where
  same-transfer : transfer s' v ≡ transfer s v
  same-transfer = ap (λ (x : WorkerState). x.transfer) stays.holds

  same-cells : (u : Task) → is_task_of v (progress s u) ≡ true → (b : Bool) → is_running_on v (progress s u) ≡ b →
      (if is_running_on v (progress s' u) then map (held_at A' (AtNode (node_of m v))) (cells_of p u v) else []) ≡ (if is_running_on v (progress s u) then map (held_at A (AtNode (node_of m v))) (cells_of p u v) else [])
  same-cells u has true runs =
      ap (λ (x : Progress). if is_running_on v x then map (held_at A' (AtNode (node_of m v))) (cells_of p u v) else []) (stays.phase u has)
      ∙ ap (λ (b : Bool). if b then map (held_at A' (AtNode (node_of m v))) (cells_of p u v) else []) runs
      ∙ map-agree (held_at A' (AtNode (node_of m v))) (held_at A (AtNode (node_of m v))) (cells_of p u v) (λ c among. stays.cells u c runs (has-contained (cells_of p u v) c among))
      ∙ sym (ap (λ (b : Bool). if b then map (held_at A (AtNode (node_of m v))) (cells_of p u v) else []) runs)
  same-cells u has false runs =
      ap (λ (x : Progress). if is_running_on v x then map (held_at A' (AtNode (node_of m v))) (cells_of p u v) else []) (stays.phase u has)
      ∙ ap (λ (b : Bool). if b then map (held_at A' (AtNode (node_of m v))) (cells_of p u v) else []) runs
      ∙ sym (ap (λ (b : Bool). if b then map (held_at A (AtNode (node_of m v))) (cells_of p u v) else []) runs)

  same-carried : (held : Bool) → option_map (λ x. A' x.cell x.from) (if held then transfer s' v else None) ≡ option_map (λ x. A x.cell x.from) (if held then transfer s v else None)
  same-carried true =
      ap (option_map (λ x. A' x.cell x.from)) same-transfer
      ∙ map-option (λ (x : Transfer). A' x.cell x.from) (λ (x : Transfer). A x.cell x.from) (transfer s v) (λ x e. stays.carried x e)
  same-carried false = refl

  same-writes : (held : Bool) → option_map (λ x. writes s' x.cell) (if held then transfer s' v else None) ≡ option_map (λ x. writes s x.cell) (if held then transfer s v else None)
  same-writes true =
      ap (option_map (λ x. writes s' x.cell)) same-transfer ∙ map-option (λ (x : Transfer). writes s' x.cell) (λ (x : Transfer). writes s x.cell) (transfer s v) (λ x e. stays.writes x e)
  same-writes false = refl

  pub row-kept : (released : List Task) → row_of_parts disks p m s' A' v hand trace' released ≡ row_of_parts disks p m s A v hand trace released
  row-kept released =
      row-same hand hand (option_and_then (unit_at disks) hand.unit) (option_and_then (unit_at disks) hand.unit) (option_map (progress s) hand.task) (option_map (progress s') hand.task) _ _ _ _ _ _ _ _ (filter (is_event_of v.0) trace) (filter (is_event_of v.0) trace') released refl refl
      (map-option (progress s') (progress s) hand.task (λ u e. stays.phase u (mine u e)))
      (map-option _ _ hand.task (λ u e. same-cells u (mine u e) (is_running_on v (progress s u)) refl))
      (ap (λ (x : WorkerState). if is_some hand.task then x else idle_row) stays.holds)
      (same-carried (is_some hand.task)) (same-writes (is_some hand.task)) events

-- ---- events

not-eq : (x v : Worker) → (x ≡ v → ⊥) → nat_eq x.0 v.0 ≡ false
not-eq x v f = by_cases (nat_eq x.0 v.0) refl
  where
    by_cases : (b : Bool) → nat_eq x.0 v.0 ≡ b → b ≡ false
    by_cases true e = absurd (f (ap (λ (n : ℕ). worker n) ((Decides-eqb x.0 v.0).0 e)))
    by_cases false e = refl

by-other : (m : Machine) (s : State) (w v : Worker) (e : Event) → v ≢ w → IsBy m s w e → is_event_of v.0 e ≡ false
by-other m s w v (Claim t x) other by = not-eq x v (λ same. other (sym same ∙ by))
by-other m s w v (Run t x) other by = not-eq x v (λ same. other (sym same ∙ by))
by-other m s w v (End t x) other by = not-eq x v (λ same. other (sym same ∙ by))
by-other m s w v (Move c from to) other by = refl
by-other m s w v (Moved c from to) other by = refl
by-other m s w v (Drop c n) other by = refl

-- an event more of another worker
events-other : (n : ℕ) (trace : List Event) (e : Event) → is_event_of n e ≡ false → filter (is_event_of n) (trace ++ e ∷ []) ≡ filter (is_event_of n) trace
events-other n trace e none = filter-append (is_event_of n) trace (e ∷ []) ∙ ap (λ b. filter (is_event_of n) trace ++ cond b (e ∷ []) []) none ∙ append-nil (filter (is_event_of n) trace)

-- an event more of any worker
events-more : (n : ℕ) (trace : List Event) (e : Event) → BeginsWith (filter (is_event_of n) (trace ++ e ∷ [])) (filter (is_event_of n) trace)
events-more n trace e = (filter (is_event_of n) (e ∷ []), filter-append (is_event_of n) trace (e ∷ []))

-- ---- released tasks

module _ {D : Type 0} (b b' : BoardState D) (machine : b'.run.machine ≡ b.run.machine) where
  -- each worker's are as they were, where the pool is
  pub released-same : b'.pool ≡ b.pool → (v : Worker) → released_of b' v ≡ released_of b v
  released-same pool v = ap (λ (m : Machine). released_in m.policy b'.pool v.0) machine ∙ ap (λ (q : Pooled). released_in b.run.machine.policy q v.0) pool

  -- and under prio there are none
  pub released-none : b.run.machine.policy ≡ Prio → (v : Worker) → released_of b' v ≡ released_of b v
  released-none prio v = prio-released b'.run.machine.policy b'.pool v.0 (ap (λ (m : Machine). m.policy) machine ∙ prio) ∙ sym (prio-released b.run.machine.policy b.pool v.0 prio)

-- ---- turns

module _ {D : Type 0} (faults mismatches : D → ℕ) (w : Worker) where
  -- two turns of which the first makes no event
  pub turn-then : (a b c : BoardState D) → NothingHappens a b → IsTurnOf faults mismatches w a b → IsTurnOf faults mismatches w b c → IsTurnOf faults mismatches w a c
  turn-then a b c nothing x y = record {
    key = y.key ∙ x.key;
    others = λ n other. y.others n other ∙ x.others n other;
    one_event = subst (λ (l : List Event). (c.run.trace ≡ l) ⊎ ((e : Event) × (c.run.trace ≡ l ++ e ∷ []))) nothing y.one_event;
    events = (x.events.0 ++ y.events.0, y.events.1 ∙ ap (λ (l : List Event). l ++ y.events.0) x.events.1 ∙ append_assoc (row_in a w).events x.events.0 y.events.0);
    no_fault = λ e. x.no_fault (y.no_fault e);
    counts = λ e. (let one = x.counts (y.no_fault e) in let two = y.counts e in (two.0 ∙ one.0, two.1 ∙ one.1));
    taken = λ h. y.taken (x.taken h);
  }

  -- nothing has changed
  pub turn-still : (b b' : BoardState D) → b' ≡ b → IsTurnOf faults mismatches w b b'
  turn-still b b' same = record {
    key = ap key_of same;
    others = λ n other. ap (λ (x : BoardState D). row_of_number x n) same;
    one_event = inl (ap (λ (x : BoardState D). x.run.trace) same);
    events = ([], ap (λ (x : BoardState D). (row_in x w).events) same ∙ sym (append-nil (row_in b w).events));
    no_fault = λ e. sym (ap (λ (x : BoardState D). x.fault) same) ∙ e;
    counts = λ e. (ap (λ (x : BoardState D). map faults x.run.disks.disks) same, ap (λ (x : BoardState D). map mismatches x.run.disks.disks) same);
    taken = λ h. ap (λ (x : BoardState D). released_of x w) same ∙ h;
  }

  -- nothing but the worker's hand, the pool and the like has changed
  pub turn-hand : (b : BoardState D) (hand : Hand) (b' : BoardState D) → b'.run ≡ b.run → b'.hands ≡ slice_set b.hands w.0 hand → (b'.fault ≡ None → b.fault ≡ None) → ((v : Worker) → released_of b' v ≡ released_of b v) → IsTurnOf faults mismatches w b b'
  turn-hand b hand b' run hands fault released = record {
    key = ap (λ (r : Standing D). let k : BoardKey D = record { program = r.program; machine = r.machine; opened = r.opened } in k) run;
    others = λ n other. others n other;
    one_event = inl (ap (λ (r : Standing D). r.trace) run);
    events = ([], ap (λ (r : Standing D). filter (is_event_of w.0) r.trace) run ∙ sym (append-nil (row_in b w).events));
    no_fault = fault;
    counts = λ e. (ap (λ (r : Standing D). map faults r.disks.disks) run, ap (λ (r : Standing D). map mismatches r.disks.disks) run);
    taken = λ h. released w ∙ h;
  }
    where
      others : (n : ℕ) → n ≢ w.0 → row_of_number b' n ≡ row_of_number b n
      others n other =
          ap (λ (r : Standing D). row_of_parts r.disks r.program r.machine (state r) (run_arrays r) (worker n) (hand_in b'.hands (worker n)) r.trace (released_of b' (worker n))) run
          ∙ ap (λ (h : Hand). row_of_parts b.run.disks b.run.program b.run.machine (state b.run) (run_arrays b.run) (worker n) h b.run.trace (released_of b' (worker n))) (ap (λ (hs : List Hand). hand_in hs (worker n)) hands ∙ get_or-set_other b.hands w.0 n hand empty_hand other)
          ∙ ap (row_of_parts b.run.disks b.run.program b.run.machine (state b.run) (run_arrays b.run) (worker n) (hand_in b.hands (worker n)) b.run.trace) (released (worker n))

  -- the worker's unit was put back: nothing but the disks and its hand has changed
  pub record IsQuiet (a b : BoardState D) : Type 0 where
    pub key : key_of b ≡ key_of a
    pub others : (n : ℕ) → n ≢ w.0 → row_of_number b n ≡ row_of_number a n
    pub no_event : NothingHappens a b
    pub events : BeginsWith (row_in b w).events (row_in a w).events
    pub fault : b.fault ≡ a.fault
    pub taken : HasTakenReleased a w → HasTakenReleased b w

  pub put-quiet : (a b : BoardState D) → PutsUnitBack w a b → IsQuiet a b
  put-quiet a b put = record {
    key = ap key_of put.back;
    others = others;
    no_event = ap (λ (x : BoardState D). x.run.trace) put.back;
    events = ([], ap (λ (x : BoardState D). (row_in x w).events) put.back ∙ sym (append-nil (row_in a w).events));
    fault = ap (λ (x : BoardState D). x.fault) put.back;
    taken = λ h. ap (λ (x : BoardState D). released_of x w) put.back ∙ h;
  }
    where
      others : (n : ℕ) → n ≢ w.0 → row_of_number b n ≡ row_of_number a n
      others n other =
          let v = worker n in
          let p = a.run.program in
          let m = a.run.machine in
          let s = state a.run in
          ap (λ (u : Option (UnitState D)). record (row_of_number b n) { unit = u }) (put.others v (λ same. other (ap (λ (x : Worker). x.0) same)))
          ∙ ap (λ (x : BoardState D). record (row_of_number x n) { unit = unit_in_hand a v }) put.back
          ∙ ap (λ (h : Hand). record (row_of_parts a.run.disks p m s (run_arrays a.run) v h a.run.trace (released_of a v)) { unit = unit_in_hand a v }) (get_or-set_other a.hands w.0 n (record (hand_of a w) { unit = None }) empty_hand other)

  pub put-turn : (a b : BoardState D) → PutsUnitBack w a b → CountsStay faults mismatches a.run.disks.disks b.run.disks.disks → IsTurnOf faults mismatches w a b
  put-turn a b put counts =
      let quiet = put-quiet a b put in
      record { key = quiet.key; others = quiet.others; one_event = inl quiet.no_event; events = quiet.events; no_fault = λ e. sym quiet.fault ∙ e; counts = λ e. counts; taken = quiet.taken }

  -- and a unit was taken
  pub taken-turn : (b : BoardState D) (u : UnitState D) (b' : BoardState D) → b' ≡ has_taken b w u → IsTurnOf faults mismatches w b b'
  taken-turn b u b' same = record {
    key = ap key_of same;
    others = λ n other. (
        ap (λ (x : BoardState D). row_of_number x n) same
        ∙ ap (λ (h : Hand). row_of_parts b.run.disks b.run.program b.run.machine (state b.run) (run_arrays b.run) (worker n) h b.run.trace (released_of b (worker n))) (get_or-set_other b.hands w.0 n (record (hand_of b w) { unit = Some u.cell }) empty_hand other)
        );
    one_event = inl (ap (λ (x : BoardState D). x.run.trace) same);
    events = ([], ap (λ (x : BoardState D). (row_in x w).events) same ∙ sym (append-nil (row_in b w).events));
    no_fault = λ e. sym (ap (λ (x : BoardState D). x.fault) same) ∙ e;
    counts = λ e. (ap (λ (x : BoardState D). map faults x.run.disks.disks) same, ap (λ (x : BoardState D). map mismatches x.run.disks.disks) same);
    taken = λ h. ap (λ (x : BoardState D). released_of x w) same ∙ h;
  }

  module _ (size : D → ℕ) (held : D → Option (List ℕ)) (b : BoardState D) (sound : IsSoundBoard size faults mismatches held b) where
    the-state : IsSound b.run.program b.run.machine (state b.run)
    the-state = record { proper = sound.run.run.proper; machine = sound.run.run.machine; coherent = sound.run.coherent }

    -- an event of the worker, with its hand or not
    pub turn-event : (e : Event) (b' : BoardState D) → IsBy b.run.machine (state b.run) w e → CanHappen b.run e → Spares b.run e b'.run → b'.run ≡ with_event b.run e → ((v : Worker) → v ≢ w → hand_of b' v ≡ hand_of b v) → (b'.fault ≡ None → b.fault ≡ None) → (HasTakenReleased b w → HasTakenReleased b' w) → ((v : Worker) → v ≢ w → released_of b' v ≡ released_of b v) → IsTurnOf faults mismatches w b b'
    turn-event e b' by can spares run hands fault own rest = record {
      key = ap (λ (r : Standing D). let k : BoardKey D = record { program = r.program; machine = r.machine; opened = r.opened } in k) run;
      others = others;
      one_event = inr (e, ap (λ (r : Standing D). r.trace) run);
      events = subst (λ (r : Standing D). BeginsWith (filter (is_event_of w.0) r.trace) (row_in b w).events) (sym run) (events-more w.0 b.run.trace e);
      no_fault = fault;
      counts = λ f. (ap (λ (r : Standing D). map faults r.disks.disks) run, ap (λ (r : Standing D). map mismatches r.disks.disks) run);
      taken = own;
    }
      where
        p : Program
        p = b.run.program

        m : Machine
        m = b.run.machine

        s' : State
        s' = state (with_event b.run e)

        A' : Arrays
        A' = run_arrays (with_event b.run e)

        spared : SparesUsed p m (state b.run) (run_arrays b.run) e s' A'
        spared = subst (λ (r : Standing D). SparesUsed p m (state b.run) (run_arrays b.run) e (state r) (run_arrays r)) run spares

        others : (n : ℕ) → n ≢ w.0 → row_of_number b' n ≡ row_of_number b n
        others n other =
            let v = worker n in
            let differs : v ≢ w = λ same. other (ap (λ (x : Worker). x.0) same) in
            ap (λ (r : Standing D). row_of_parts r.disks r.program r.machine (state r) (run_arrays r) v (hand_of b' v) r.trace (released_of b' v)) run
            ∙ ap (λ (h : Hand). row_of_parts b.run.disks p m s' A' v h (b.run.trace ++ e ∷ []) (released_of b' v)) (hands v differs)
            ∙ row-kept b.run.disks p m (state b.run) s' (run_arrays b.run) A' v (hand_of b v) b.run.trace (b.run.trace ++ e ∷ []) (Step-stays p m (state b.run) (run_arrays b.run) the-state v w differs e s' A' by can (state_of-more p m b.run.trace e) spared)
            (λ u has. sound.inside.hands_agree.has v u has) (events-other n b.run.trace e (by-other m (state b.run) w v e differs by)) (released_of b' v)
            ∙ ap (row_of_parts b.run.disks p m (state b.run) (run_arrays b.run) v (hand_of b v) b.run.trace) (rest v differs)

-- the board is sound for the desk after a turn
pub shared-sound : {D : Type 0} (size faults mismatches : D → ℕ) (held : D → Option (List ℕ)) (w : Worker) (old new : BoardState D) → IsSharedSound size faults mismatches held old → IsTurnOf faults mismatches w old new → IsSoundBoard size faults mismatches held new → IsSharedSound size faults mismatches held new
shared-sound {D} size faults mismatches held w old new before turn sound = record {
  board = sound;
  taken = λ v. elim (cases_eq v.0 w.0) as (λ _. HasTakenReleased new v) [
    | inl same ↦ subst (λ (n : ℕ). HasTakenReleased new (worker n)) (sym same) (turn.taken (before.taken w))
    | inr other ↦ ap (λ (x : BoardRow D). x.released) (turn.others v.0 other) ∙ before.taken v
  ];
  counts = λ e. (let was = before.counts (turn.no_fault e) in let kept = turn.counts e in let opened = ap (λ (k : BoardKey D). k.opened) turn.key in
      (kept.0 ∙ was.0 ∙ ap (map faults) (sym opened), kept.1 ∙ was.1 ∙ ap (map mismatches) (sym opened)));
}
