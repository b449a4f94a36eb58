-- A board stays sound where the kernel of a claimed task begins.
use Rattle.sj_board.proofs.Words.{ap, arith, BoardBy, CanHappen, Claimed, CountsDone, Dependencies, Equations, Err, has_event, inl, inr, is_done, is_some, is_task_of, IsComplete, IsToBeTaken, IsTrue, KeepsBoard, List, Machine, None, Ok, OnErr, OnOk, Option, Program, progress, refl, Result, Run, Running, StandingBy, State, state, subst, sym, Task, with_event, Worker, ℕ, ◌∙◌, ◌≡◌, ◌⊎◌}
use Rattle.sj_core.proofs.{Advancing.Advances, Advancing.Runs-advances, Advancing.same_task, Reading.progress-inside, States.state_of-more}
use Rattle.sj_board.proofs.{Boarding.sound_in-alike, LastHeaders.none-caused, ReleasedTasks.counts-both, Stepping.begun-other, Stepping.counts-still, Stepping.not-complete, Stepping.taken-before, Stepping.taken-still}

-- a running task is its worker's as a claimed one is
same-owner : (v w : Worker) → is_task_of v (Running w) ≡ is_task_of v (Claimed w)
same-owner v w = grind arith

module _ {D : Type 0} {eq : Equations} (faults mismatches : D → ℕ) (held : D → Option (List ℕ)) (b : BoardBy eq D) (deps : Dependencies) (footprints : List ℕ) (keeps : KeepsBoard faults mismatches held b deps footprints) (none : b.fault ≡ None) (t : Task) (w : Worker) (can : CanHappen b.run (Run t w)) where
  abbrev p : Program
  p = b.run.program

  abbrev m : Machine
  m = b.run.machine

  abbrev s : State
  s = state b.run

  abbrev s' : State
  s' = state (with_event b.run (Run t w))

  step : Advances s s' t (Claimed w) (Running w)
  step = Runs-advances p m s t w s' can (state_of-more p m b.run.trace (Run t w))

  owners : (v : Worker) (u : Task) → is_task_of v (progress s' u) ≡ is_task_of v (progress s u)
  owners v u =
      elim (same_task u t) as (λ _. is_task_of v (progress s' u) ≡ is_task_of v (progress s u)) [
        | inl e ↦ ap (λ (k : Task). is_task_of v (progress s' k)) e ∙ ap (is_task_of v) step.is ∙ same-owner v w ∙ sym (ap (is_task_of v) step.was) ∙ sym (ap (λ (k : Task). is_task_of v (progress s k)) e)
        | inr d ↦ ap (is_task_of v) (step.others u d)
      ]

  over-still : IsComplete s ⊎ IsTrue (is_some b.fault) → IsComplete s' ⊎ IsTrue (is_some b.fault)
  over-still (inl complete) = absurd (not-complete s t (progress-inside s t (λ e. begun-other s t t (Claimed w) step.was refl e refl)) (ap is_done step.was) complete)
  over-still (inr some) = inr some

  taken-there : (u : Task) → IsToBeTaken p s u → IsToBeTaken p s' u
  taken-there u is = taken-still p s s' t (Claimed w) (Running w) step refl refl u (begun-other s t u (Claimed w) step.was refl is.waiting) is

  taken-here : (u : Task) → IsToBeTaken p s' u → IsToBeTaken p s u
  taken-here u is = taken-before p s s' t (Claimed w) (Running w) step refl refl u (begun-other s' t u (Running w) step.is refl is.waiting) is

  counts-now : CountsDone p s' deps
  counts-now = counts-still p s s' t (Claimed w) (Running w) step refl refl deps keeps.counts

  pub keeps-begun : KeepsBoard faults mismatches held (has_event b (Run t w)) deps footprints
  keeps-begun = record {
    fault = none-caused faults mismatches held b.run (with_event b.run (Run t w)) b.fault none;
    inside = sound_in-alike p m s s' b.hands b.pool b.fault owners taken-there taken-here (counts-both p s s' deps keeps.counts counts-now) over-still keeps.inside;
    counts = counts-now;
    bytes = keeps.bytes;
  }

  -- as the code leaves it
  pub keeps-begun_left : {A E : Type 0} (result : Result A E) (run' : StandingBy eq D) → OnOk result (run' ≡ with_event b.run (Run t w)) → OnErr result (run' ≡ b.run) → KeepsBoard faults mismatches held (record b { run = run' }) deps footprints
  keeps-begun_left (Ok a) run' ok err = subst (λ (r : StandingBy eq D). KeepsBoard faults mismatches held (record b { run = r }) deps footprints) (sym ok) keeps-begun
  keeps-begun_left (Err x) run' ok err = subst (λ (r : StandingBy eq D). KeepsBoard faults mismatches held (record b { run = r }) deps footprints) (sym err) keeps
