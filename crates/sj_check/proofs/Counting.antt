-- The dependencies count the tasks that are done: which tasks are ready, and what is counted as one task goes on.
use Rattle.sj_check.proofs.Words.{[], after_done, ap, arith, Coherent, Contains, CountsDone, Dependencies, done_in, done_tasks, false, inl, inr, is_begun, is_done, Machine, Program, Progress, progress, Ready, Running, State, subst, sym, Task, true, Waiting, Worker, ℕ, ◌++◌, ◌<◌, ◌↔◌, ◌∙◌, ◌∷◌, ◌≡◌}
use Rattle.std.proofs.lemmas.{Bool.false≢true, List.Elements.Contains-append_left, List.Elements.Contains-append_right, List.Elements.Contains-push_cases}
use Rattle.sj_core.proofs.{Advancing.Advances, Advancing.same_task, Readiness.done_tasks-done, Readiness.done_tasks-has, Reading.progress-inside}

ready-same : (p : Program) (done done' : _) (t : ℕ) → ((n : ℕ) → Contains done n ↔ Contains done' n) → Ready p done t → Ready p done' t
ready-same p done done' t same ready = record {
  task = ready.task;
  waiting = λ c. ready.waiting ((same t).1 c);
  earlier = λ u before conflict. (same u).0 (ready.earlier u before conflict);
}

-- they are counted where each task is counted that is done, and no other
pub counts-by_task : (p : Program) (s : State) (deps : Dependencies) → deps.program ≡ p → ((u : Task) → Contains deps.done u.0 ↔ (done_in s u ≡ true)) → CountsDone p s deps
counts-by_task p s deps same each = record {
  program = same;
  done = λ n. (λ c. done_tasks-has s (record { 0 = n }) ((each (record { 0 = n })).0 c), λ c. (each (record { 0 = n })).1 (done_tasks-done s (record { 0 = n }) c));
}

module _ (p : Program) (s : State) (deps : Dependencies) (counts : CountsDone p s deps) where
  is-done : (u : Task) → Contains deps.done u.0 → done_in s u ≡ true
  is-done u c = done_tasks-done s u ((counts.done u.0).0 c)

  is-counted : (u : Task) → done_in s u ≡ true → Contains deps.done u.0
  is-counted u h = (counts.done u.0).1 (done_tasks-has s u h)

  -- those that are ready, by the state and by the dependencies
  pub ready-counted : (t : Task) → Ready deps.program deps.done t.0 ↔ Ready p (done_tasks s) t.0
  ready-counted t = (
    λ r. ready-same p deps.done (done_tasks s) t.0 counts.done (subst (λ (q : Program). Ready q deps.done t.0) counts.program r),
    λ r. subst (λ (q : Program). Ready q deps.done t.0) (sym counts.program) (ready-same p (done_tasks s) deps.done t.0 (λ n. ((counts.done n).1, (counts.done n).0)) r),
  )

  -- a running task counts as ready, since it isn't done
  pub running-ready : (m : Machine) → Coherent p m s → (t : Task) (w : Worker) → progress s t ≡ Running w → Ready deps.program deps.done t.0
  running-ready m coherent t w running = (ready-counted t).1 (record {
    task = subst (λ (n : ℕ). t.0 < n) coherent.state.rows.tasks (progress-inside s t (λ e. absurd (let no : Running w ≡ Waiting = sym running ∙ e in cc)));
    waiting = λ c. false≢true (sym (ap is_done running) ∙ done_tasks-done s t c);
    earlier = λ u before conflict. done_tasks-has s (record { 0 = u }) (coherent.order.earlier t (ap is_begun running) (record { 0 = u }) before conflict);
  })

  module _ (s' : State) (t : Task) (old new : Progress) (step : Advances s s' t old new) where
    alike : is_done old ≡ false → is_done new ≡ false → (u : Task) → done_in s' u ≡ done_in s u
    alike undone still u = search (arith, same_task)

    -- a task goes on that isn't done before or after
    pub counts-still : is_done old ≡ false → is_done new ≡ false → CountsDone p s' deps
    counts-still undone still = counts-by_task p s' deps counts.program (λ u. search (arith, alike, is-done, is-counted))

    there : is_done new ≡ true → (u : Task) → Contains (deps.done ++ t.0 ∷ []) u.0 → done_in s' u ≡ true
    there done u c = elim (same_task u t) as (λ _. done_in s' u ≡ true) [
      | inl e ↦ ap (done_in s') e ∙ ap is_done step.is ∙ done
      | inr d ↦ ap is_done (step.others u d) ∙ is-done u (elim (Contains-push_cases deps.done t.0 u.0 c) as (λ _. Contains deps.done u.0) [ inl before ↦ before | inr last ↦ absurd (d (search arith)) ])
    ]

    back : (u : Task) → done_in s' u ≡ true → Contains (deps.done ++ t.0 ∷ []) u.0
    back u h = search (arith, same_task, Contains-append_left, Contains-append_right, is-counted)

    -- a task is done
    pub counts-ended : is_done new ≡ true → CountsDone p s' (after_done deps t.0)
    counts-ended done = counts-by_task p s' (after_done deps t.0) counts.program (λ u. (there done u, back u))
