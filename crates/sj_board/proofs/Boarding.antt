-- A board stays sound where an event changes no task's progress.
use Rattle.sj_board.proofs.Words.{after, ap, AreGivenBack, BoardBy, Contains, Dependencies, done_tasks, Equations, Event, Hand, has_event, HasCause, IfSome, is_some, is_task_of, IsComplete, IsSoundIn, IsToBeTaken, IsTrue, KeepsBoard, List, Machine, OnlyDisksChange, Option, Pooled, Program, Progress, progress, RunFault, StandingBy, State, state, subst, sym, Task, with_event, Worker, ℕ, ◌↔◌, ◌∙◌, ◌≡◌, ◌⊎◌}
use Rattle.sj_core.proofs.States.{state_of-more}
use Rattle.sj_board.proofs.{Faulting.kept-cause, ReleasedTasks.released-same, Stepping.counts-same, Stepping.done-same, Stepping.progress-same, Stepping.taken-back, Stepping.taken-same, Stepping.tasks_alone}

-- ---- what is said of a board is said of the tasks in its state alone

-- it stays sound where each task has the worker that it had, the same ones are to be taken and are done, and all are if all were
pub sound_in-alike : (p : Program) (m : Machine) (s s' : State) (hands : List Hand) (pool : Pooled) (fault : Option RunFault) → ((w : Worker) (t : Task) → is_task_of w (progress s' t) ≡ is_task_of w (progress s t)) → ((t : Task) → IsToBeTaken p s t → IsToBeTaken p s' t) → ((t : Task) → IsToBeTaken p s' t → IsToBeTaken p s t) → ((n : ℕ) → Contains (done_tasks s) n ↔ Contains (done_tasks s') n) → (IsComplete s ⊎ IsTrue (is_some fault) → IsComplete s' ⊎ IsTrue (is_some fault)) → IsSoundIn p m s hands pool fault → IsSoundIn p m s' hands pool fault
sound_in-alike p m s s' hands pool fault owners there back done over sound = record {
  hands_agree = record {
    every_worker = sound.hands_agree.every_worker;
    has = λ w t e. owners w t ∙ sound.hands_agree.has w t e;
    tells = λ none w t has. sound.hands_agree.tells none w t (sym (owners w t) ∙ has);
  };
  stops = record {
    no_task = sound.stops.no_task;
    over = λ w has_stopped. over (sound.stops.over w has_stopped);
  };
  stands_once = λ prio. record {
    once = λ t is. (sound.stands_once prio).once t (back t is);
    only = λ t some. there t ((sound.stands_once prio).only t some);
  };
  stands_released = λ other. released-same p s s' hands hands pool done (sound.stands_released other).none_given (sound.stands_released other);
  pool_fits = sound.pool_fits;
}

sound_in-same : (p : Program) (m : Machine) (s s' : State) (same : s'.tasks ≡ s.tasks) (hands : List Hand) (pool : Pooled) (fault : Option RunFault) → IsSoundIn p m s hands pool fault → IsSoundIn p m s' hands pool fault
sound_in-same p m s s' same hands pool fault =
    sound_in-alike p m s s' hands pool fault (λ w t. ap (is_task_of w) (progress-same p s s' same t)) (taken-same p s s' same) (taken-back p s s' same)
    (subst (λ (ns : List ℕ). (n : ℕ) → Contains (done_tasks s) n ↔ Contains ns n) (sym (done-same p s s' same)) (λ n. (λ c. c, λ c. c)))
    (subst (λ (ts : List Progress). IsComplete (tasks_alone ts) ⊎ IsTrue (is_some fault)) (sym same))

-- ---- an event that leaves all tasks as they are

module _ {D : Type 0} {eq : Equations} (faults mismatches : D → ℕ) (held : D → Option (List ℕ)) (b : BoardBy eq D) (deps : Dependencies) (footprints : List ℕ) where
  pub keeps-event : (e : Event) → IfSome b.fault (HasCause faults mismatches held (with_event b.run e)) → (after b.run.program b.run.machine (state b.run) e).tasks ≡ (state b.run).tasks → KeepsBoard faults mismatches held b deps footprints → KeepsBoard faults mismatches held (has_event b e) deps footprints
  keeps-event e cause same keeps =
      let now : (state (with_event b.run e)).tasks ≡ (state b.run).tasks = ap (λ (s : State). s.tasks) (state_of-more b.run.program b.run.machine b.run.trace e) ∙ same in
      record {
        fault = cause;
        inside = sound_in-same b.run.program b.run.machine (state b.run) (state (with_event b.run e)) now b.hands b.pool b.fault keeps.inside;
        counts = counts-same b.run.program (state b.run) (state (with_event b.run e)) now deps keeps.counts;
        bytes = keeps.bytes;
      }

  -- as the code leaves it
  pub keeps-run : (e : Event) (run' : StandingBy eq D) → run' ≡ with_event b.run e → IfSome b.fault (HasCause faults mismatches held (with_event b.run e)) → (after b.run.program b.run.machine (state b.run) e).tasks ≡ (state b.run).tasks → KeepsBoard faults mismatches held b deps footprints → KeepsBoard faults mismatches held (record b { run = run' }) deps footprints
  keeps-run e run' is cause same keeps = subst (λ (r : StandingBy eq D). KeepsBoard faults mismatches held (record b { run = r }) deps footprints) (sym is) (keeps-event e cause same keeps)

-- ---- no event

-- where the disks alone change
pub keeps-disks : {D : Type 0} {eq : Equations} (size faults mismatches : D → ℕ) (held : D → Option (List ℕ)) (b : BoardBy eq D) (deps : Dependencies) (footprints : List ℕ) (run' : StandingBy eq D) → OnlyDisksChange b.run run' → AreGivenBack size faults mismatches held b.run.disks.disks run'.disks.disks → KeepsBoard faults mismatches held b deps footprints → KeepsBoard faults mismatches held (record b { run = run' }) deps footprints
keeps-disks {D} {eq} size faults mismatches held b deps footprints run' only back keeps = subst (λ (r : StandingBy eq D). KeepsBoard faults mismatches held (record b { run = r }) deps footprints) (sym only) (record {
  fault = kept-cause size faults mismatches held b.run run'.disks run'.out back b.fault keeps.fault;
  inside = keeps.inside;
  counts = keeps.counts;
  bytes = keeps.bytes;
})
