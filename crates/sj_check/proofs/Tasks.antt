-- The task that each worker claimed last, as a task goes on; and whether a worker has a task.
use Rattle.sj_check.proofs.Words.{ap, arith, Claimed, false, HasTasks, inl, inr, is_idle, is_task_of, length, length-set, List, None, not, Option, Program, Progress, progress, refl, set, Some, State, sym, Task, task_in, true, Waiting, Worker, ◌<◌, ◌∙◌, ◌≡◌, ◌≢◌}
use Rattle.std.proofs.lemmas.{Bool.false_from_ne_true, Bool.false≢true, List.get_or-set_other, List.get_or-set_same, List.Elements.All-from_get_or, List.Sums.list_all-from_AllPass, Option.none-some}
use Rattle.sj_core.proofs.Advancing.{Advances, idle-has_none, same_task, task_of-worker}

module _ (p : Program) (s : State) (tasks : List (Option Task)) (has : HasTasks p s tasks) where
  all-idle : (w : Worker) → ((t : Task) → is_task_of w (progress s t) ≡ false) → is_idle s w ≡ true
  all-idle w none = list_all-from_AllPass (λ x. not (is_task_of w x)) s.tasks (All-from_get_or (λ x. not (is_task_of w x) ≡ true) s.tasks Waiting (λ k within. ap not (none (record { 0 = k }))))

  -- a worker that has claimed no task has none
  pub never-claimed : (w : Worker) → task_in tasks w ≡ None → is_idle s w ≡ true
  never-claimed w none = all-idle w (λ t. false_from_ne_true (is_task_of w (progress s t)) (λ h. none-some t (sym none ∙ has.last w t h)))

  -- and else one where it has the task that it claimed last
  pub last-tells : (w : Worker) (t : Task) → task_in tasks w ≡ Some t → is_idle s w ≡ not (is_task_of w (progress s t))
  last-tells w t last = by_test (is_task_of w (progress s t)) refl
    where
      one : (u : Task) → is_task_of w (progress s u) ≡ true → is_task_of w (progress s t) ≡ true
      one u h = search arith

      by_test : (b : _) → is_task_of w (progress s t) ≡ b → is_idle s w ≡ not (is_task_of w (progress s t))
      by_test true mine = false_from_ne_true (is_idle s w) (λ h. false≢true (sym (idle-has_none s w t h) ∙ mine)) ∙ sym (ap not mine)
      by_test false other = all-idle w (λ u. false_from_ne_true (is_task_of w (progress s u)) (λ h. false≢true (sym other ∙ one u h))) ∙ sym (ap not other)

  module _ (s' : State) (t : Task) (old new : Progress) (step : Advances s s' t old new) where
    -- a task goes on that stays its worker's, or is no worker's any more
    pub tasks-still : ((v : Worker) → is_task_of v new ≡ true → is_task_of v old ≡ true) → HasTasks p s' tasks
    tasks-still stays = record { every_worker = has.every_worker; last = λ v u h. search (arith, same_task) }

    -- a worker without a task claims one
    pub tasks-claimed : (w : Worker) → new ≡ Claimed w → w.0 < length tasks → is_idle s w ≡ true → HasTasks p s' (set tasks w.0 (Some t))
    tasks-claimed w claimed inside idle = record { every_worker = length-set tasks w.0 (Some t) ∙ has.every_worker; last = last }
      where
        last : (v : Worker) (u : Task) → is_task_of v (progress s' u) ≡ true → task_in (set tasks w.0 (Some t)) v ≡ Some u
        last v u h = elim (same_task u t) as (λ _. task_in (set tasks w.0 (Some t)) v ≡ Some u) [
          | inl e ↦
              let mine : is_task_of v (Claimed w) ≡ true = sym (ap (is_task_of v) (step.is ∙ claimed)) ∙ sym (ap (λ (k : Task). is_task_of v (progress s' k)) e) ∙ h in
              ap (λ (k : Worker). task_in (set tasks w.0 (Some t)) k) (sym (task_of-worker v (Claimed w) mine)) ∙ get_or-set_same tasks w.0 (Some t) None inside ∙ ap Some (sym e)
          | inr d ↦
              let mine : is_task_of v (progress s u) ≡ true = ap (is_task_of v) (sym (step.others u d)) ∙ h in
              let apart : v.0 ≢ w.0 = (λ e. false≢true (sym (idle-has_none s v u (ap (λ k. is_idle s (record { 0 = k })) e ∙ idle)) ∙ mine)) in
              get_or-set_other tasks w.0 v.0 (Some t) None apart ∙ has.last v u mine
        ]
