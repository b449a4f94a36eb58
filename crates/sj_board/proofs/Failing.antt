-- A board stays sound where a worker fails, and where it stops.
use Rattle.sj_board.proofs.Words.{ap, BoardBy, Bool, Dependencies, Equations, first_fault, Hand, hand_of, HasCause, IfSome, inl, inr, is_some, is_task_of, IsComplete, IsOver, IsTrue, IsWorking, KeepsBoard, length, length-set, List, Machine, None, Option, Program, progress, refl, RunFault, slice_set, Some, State, state, subst, sym, Task, times_pooled, true, Worker, ℕ, ◌+◌, ◌<◌, ◌∙◌, ◌≡◌, ◌⊎◌}
use Rattle.std.proofs.lemmas.{Bool.false≢true, Option.none-some}
use Rattle.sj_core.proofs.{Advancing.active_isn't_done, Advancing.task_of-active, Reading.progress-inside}
use Rattle.sj_board.proofs.{Hands.given-same, Hands.hand-set, Hands.inside-hands, Hands.pool_for-same, Hands.stands-same, ReleasedTasks.released-hands, Stepping.not-complete}

-- there is a fault from then on, and it has its cause
pub first-some : (kept : Option RunFault) (fault : RunFault) → is_some (first_fault kept fault) ≡ true
first-some None fault = refl
first-some (Some first) fault = refl

pub first-cause : (P : RunFault → Type 0) (kept : Option RunFault) (fault : RunFault) → IfSome kept P → P fault → IfSome (first_fault kept fault) P
first-cause P None fault had has = has
first-cause P (Some first) fault had has = had

pub first-not_none : (kept : Option RunFault) (fault : RunFault) → first_fault kept fault ≡ None → ⊥
first-not_none kept fault e = false≢true (sym (ap is_some e) ∙ first-some kept fault)

module _ {D : Type 0} {eq : Equations} (faults mismatches : D → ℕ) (held : D → Option (List ℕ)) (b : BoardBy eq D) (deps : Dependencies) (footprints : List ℕ) (keeps : KeepsBoard faults mismatches held b deps footprints) (w : Worker) (works : IsWorking b w) where
  abbrev p : Program
  p = b.run.program

  abbrev m : Machine
  m = b.run.machine

  abbrev s : State
  s = state b.run

  abbrev inside : w.0 < length b.hands
  inside = inside-hands p s b.hands b.fault keeps.inside.hands_agree w works.known

  -- where all tasks are done, it has none
  done-none : IsComplete s → (t : Task) → IsTrue (is_task_of w (progress s t)) → ⊥
  done-none complete t has = not-complete s t (progress-inside s t (λ e. false≢true (sym (ap (is_task_of w) e) ∙ has))) (active_isn't_done (progress s t) (task_of-active w (progress s t) has)) complete

  -- its hand without a task
  abbrev letting_go : Bool → Hand
  letting_go stops = record (hand_of b w) { task = None; has_stopped = stops }

  -- it lets go of its task where a fault is kept or all tasks are done
  lets_go : (stops : Bool) (hands' : List Hand) (fault' : Option RunFault) → hands' ≡ slice_set b.hands w.0 (letting_go stops) → IfSome fault' (HasCause faults mismatches held b.run) → (fault' ≡ None → b.fault ≡ None) → IsComplete s ⊎ IsTrue (is_some fault') → KeepsBoard faults mismatches held (record b { hands = hands'; fault = fault' }) deps footprints
  lets_go stops hands' fault' left cause before over = subst (λ (hs : List Hand). KeepsBoard faults mismatches held (record b { hands = hs; fault = fault' }) deps footprints) (sym left) (record {
    fault = cause;
    inside = record {
      hands_agree = record {
        every_worker = length-set b.hands w.0 (letting_go stops) ∙ keeps.inside.hands_agree.every_worker;
        has = hand-set (λ v h. (t : Task) → h.task ≡ Some t → IsTrue (is_task_of v (progress s t))) b.hands w (letting_go stops) inside (λ t e. absurd (none-some t e)) keeps.inside.hands_agree.has;
        tells = λ none. hand-set (λ v h. (t : Task) → IsTrue (is_task_of v (progress s t)) → h.task ≡ Some t) b.hands w (letting_go stops) inside (λ t has. absurd (no-task over none t has)) (keeps.inside.hands_agree.tells (before none));
      };
      stops = record {
        no_task = hand-set (λ v h. h.has_stopped ≡ true → h.task ≡ None) b.hands w (letting_go stops) inside (λ e. refl) keeps.inside.stops.no_task;
        over = λ v e. over;
      };
      stands_once = λ prio. stands-same p s b.hands (slice_set b.hands w.0 (letting_go stops)) b.pool b.pool (λ t. ap (λ (n : ℕ). times_pooled b.pool t + n) (given-same b.hands w (letting_go stops) t inside refl)) (keeps.inside.stands_once prio);
      stands_released = λ other. released-hands p s b.hands (slice_set b.hands w.0 (letting_go stops)) b.pool (hand-set (λ v h. h.given ≡ None) b.hands w (letting_go stops) inside ((keeps.inside.stands_released other).none_given w) (keeps.inside.stands_released other).none_given) (keeps.inside.stands_released other);
      pool_fits = pool_for-same p m b.hands b.pool w (letting_go stops) inside refl keeps.inside.pool_fits;
    };
    counts = keeps.counts;
    bytes = keeps.bytes;
  })
    where
      no-task : IsComplete s ⊎ IsTrue (is_some fault') → fault' ≡ None → (t : Task) → IsTrue (is_task_of w (progress s t)) → ⊥
      no-task (inl complete) none t has = done-none complete t has
      no-task (inr some) none t has = false≢true (ap is_some (sym none) ∙ some)

  -- as the code leaves it
  pub failed-left : (fault : RunFault) → HasCause faults mismatches held b.run fault → (hands' : List Hand) (fault' : Option RunFault) → hands' ≡ slice_set b.hands w.0 (record (hand_of b w) { task = None }) → fault' ≡ first_fault b.fault fault → KeepsBoard faults mismatches held (record b { hands = hands'; fault = fault' }) deps footprints
  failed-left fault cause hands' fault' hs f =
      lets_go (hand_of b w).has_stopped hands' fault' hs (subst (λ (o : Option RunFault). IfSome o (HasCause faults mismatches held b.run)) (sym f) (first-cause (HasCause faults mismatches held b.run) b.fault fault keeps.fault cause))
      (λ none. absurd (first-not_none b.fault fault (sym f ∙ none))) (inr (ap is_some f ∙ first-some b.fault fault))

  pub stopped-left : IsOver b → (hands' : List Hand) → hands' ≡ slice_set b.hands w.0 (record (hand_of b w) { task = None; has_stopped = true }) → KeepsBoard faults mismatches held (record b { hands = hands' }) deps footprints
  stopped-left over hands' hs = lets_go true hands' b.fault hs keeps.fault (λ none. none) over
