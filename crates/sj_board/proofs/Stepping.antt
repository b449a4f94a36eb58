-- What is said of ready tasks and of hands, where one task's progress changes.
use Rattle.sj_board.proofs.Words.{[], ap, Contains, CountsDone, Dependencies, done_tasks, false, is_begun, is_done, IsComplete, IsToBeTaken, length, List, Program, Progress, progress, Ready, slice_index_or, State, subst, sym, Task, true, Waiting, ℕ, ◌<◌, ◌↔◌, ◌∙◌, ◌≡◌, ◌≢◌}
use Rattle.std.proofs.lemmas.{Bool.false≢true, List.Sums.AllPass-from_list_all}
use Rattle.sj_core.proofs.{Advancing.Advances, Advancing.done-kept, Readiness.done_tasks-done, Readiness.done_tasks-has}

-- a task is ready where the same tasks are done
pub ready-same : (p : Program) (done done' : List ℕ) (u : ℕ) → ((n : ℕ) → Contains done n ↔ Contains done' n) → Ready p done u → Ready p done' u
ready-same p done done' u same ready = record {
  task = ready.task;
  waiting = λ c. ready.waiting ((same u).1 c);
  earlier = λ v before conflict. (same v).0 (ready.earlier v before conflict);
}

-- a task is ready as the dependencies have it just where it is by the state
pub ready-counted : (p : Program) (s : State) (deps : Dependencies) → CountsDone p s deps → (u : ℕ) → Ready deps.program deps.done u ↔ Ready p (done_tasks s) u
ready-counted p s deps counts u = (
  λ r. ready-same p deps.done (done_tasks s) u counts.done (subst (λ (q : Program). Ready q deps.done u) counts.program r),
  λ r. subst (λ (q : Program). Ready q deps.done u) (sym counts.program) (ready-same p (done_tasks s) deps.done u (λ n. ((counts.done n).1, (counts.done n).0)) r),
)

-- a task that doesn't wait isn't done where not all are
pub not-complete : (s : State) (t : Task) → t.0 < length s.tasks → is_done (progress s t) ≡ false → IsComplete s → ⊥
not-complete s t inside undone complete = false≢true (sym undone ∙ AllPass-from_list_all is_done s.tasks complete t.0 Waiting inside)

-- a task that was begun is another than one that waits
pub begun-other : (s : State) (t u : Task) (x : Progress) → progress s t ≡ x → is_begun x ≡ true → progress s u ≡ Waiting → u ≢ t
begun-other s t u x is begun waits e = false≢true (sym (ap is_begun waits) ∙ ap (λ (k : Task). is_begun (progress s k)) e ∙ ap is_begun is ∙ begun)

-- ---- no task goes on

abbrev pub tasks_alone : List Progress → State
tasks_alone tasks = record { tasks = tasks; cells = []; orders = []; workers = [] }

module _ (p : Program) (s s' : State) (same : s'.tasks ≡ s.tasks) where
  pub progress-same : (t : Task) → progress s' t ≡ progress s t
  progress-same t = ap (λ (ts : List Progress). slice_index_or ts t.0 Waiting) same

  pub done-same : done_tasks s' ≡ done_tasks s
  done-same = ap (λ (ts : List Progress). done_tasks (tasks_alone ts)) same

  pub taken-same : (t : Task) → IsToBeTaken p s t → IsToBeTaken p s' t
  taken-same t is = record {
    waiting = progress-same t ∙ is.waiting;
    ready = subst (λ (ns : List ℕ). Ready p ns t.0) (sym done-same) is.ready;
  }

  pub counts-same : (deps : Dependencies) → CountsDone p s deps → CountsDone p s' deps
  counts-same deps counts = record {
    program = counts.program;
    done = subst (λ (ns : List ℕ). (n : ℕ) → Contains deps.done n ↔ Contains ns n) (sym done-same) counts.done;
  }

pub taken-back : (p : Program) (s s' : State) (same : s'.tasks ≡ s.tasks) (t : Task) → IsToBeTaken p s' t → IsToBeTaken p s t
taken-back p s s' same = taken-same p s' s (sym same)

-- ---- a task goes on

-- what is done stays done, where the task that goes on wasn't
pub done_tasks-kept : (s s' : State) (t : Task) (old new : Progress) → Advances s s' t old new → is_done old ≡ false → (n : ℕ) → Contains (done_tasks s) n → Contains (done_tasks s') n
done_tasks-kept s s' t old new step undone n c =
    let u : Task = record { 0 = n } in
    done_tasks-has s' u (done-kept s s' t u old new step undone (done_tasks-done s u c))

-- the step read from its end
turned : (s s' : State) (t : Task) (old new : Progress) → Advances s s' t old new → Advances s' s t new old
turned s s' t old new step = record { was = step.is; is = step.was; others = λ u d. sym (step.others u d) }

-- ---- a task goes on that isn't done before or after

module _ (p : Program) (s s' : State) (t : Task) (old new : Progress) (step : Advances s s' t old new) (undone : is_done old ≡ false) (still : is_done new ≡ false) where
  same-done : (n : ℕ) → Contains (done_tasks s) n ↔ Contains (done_tasks s') n
  same-done n = (done_tasks-kept s s' t old new step undone n, done_tasks-kept s' s t new old (turned s s' t old new step) still n)

  -- the other tasks are to be taken just where they were
  pub taken-still : (u : Task) → u ≢ t → IsToBeTaken p s u → IsToBeTaken p s' u
  taken-still u d is = record {
    waiting = step.others u d ∙ is.waiting;
    ready = ready-same p (done_tasks s) (done_tasks s') u.0 same-done is.ready;
  }

  pub counts-still : (deps : Dependencies) → CountsDone p s deps → CountsDone p s' deps
  counts-still deps counts = record {
    program = counts.program;
    done = λ n. (λ c. (same-done n).0 ((counts.done n).0 c), λ c. (counts.done n).1 ((same-done n).1 c));
  }

pub taken-before : (p : Program) (s s' : State) (t : Task) (old new : Progress) (step : Advances s s' t old new) (undone : is_done old ≡ false) (still : is_done new ≡ false) (u : Task) → u ≢ t → IsToBeTaken p s' u → IsToBeTaken p s u
taken-before p s s' t old new step undone still = taken-still p s' s t new old (turned s s' t old new step) still undone
