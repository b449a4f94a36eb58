-- What is kept beside rows, as an event happens.
use Rattle.sj_check.proofs.Words.{[], after, after_done, ap, AreHomes, arith, Claim, Claimed, Coherent, Contains, Dependencies, dependencies, DiskNo, Done, done_tasks, End, has_happened, is_done, is_task_of, length, List, Machine, MayHappen, None, opening, Option, Program, Progress, progress, refl, replicate, Rows, rows_at_start, Run, Running, set, slice_index_or, Some, State, subst, sym, Task, Waiting, Watches, Worker, ℕ, ◌↔◌, ◌∙◌, ◌≡◌}
use Rattle.std.proofs.lemmas.{Bool.false≢true, List.length-replicate}
use Rattle.sj_base.proofs.Lists.{get_or-replicate_same}
use Rattle.sj_core.proofs.{Advancing.Claims-advances, Advancing.Ends-advances, Advancing.Runs-advances, Eviction.evicted-after}
use Rattle.sj_check.proofs.{Counting.counts-by_task, Counting.counts-ended, Counting.counts-still, Tasks.tasks-claimed, Tasks.tasks-still}

module _ (r : Rows) (homes : List DiskNo) (tasks : List (Option Task)) (deps : Dependencies) (watches : Watches r homes tasks deps) (t : Task) (w : Worker) where
  -- a worker without a task claims one
  pub watches-claimed : Coherent r.program r.machine r.state → MayHappen r (Claim t w) → Watches (has_happened r (Claim t w)) homes (set tasks w.0 (Some t)) deps
  watches-claimed coherent can =
      let s' = after r.program r.machine r.state (Claim t w) in
      let step = Claims-advances r.program r.machine r.state t w s' coherent.state.rows can (evicted-after r.program r.machine r.state t w) in
      record {
        places = watches.places;
        claims = tasks-claimed r.program r.state tasks watches.claims s' t Waiting (Claimed w) step w refl (omega (arith, can.worker, watches.claims.every_worker)) can.idle;
        counts = counts-still r.program r.state deps watches.counts s' t Waiting (Claimed w) step refl refl;
      }

  -- its kernel begins
  pub watches-begun : MayHappen r (Run t w) → Watches (has_happened r (Run t w)) homes tasks deps
  watches-begun can =
      let s' = after r.program r.machine r.state (Run t w) in
      let step = Runs-advances r.program r.machine r.state t w s' can refl in
      record {
        places = watches.places;
        claims = tasks-still r.program r.state tasks watches.claims s' t (Claimed w) (Running w) step (λ v h. (let same : is_task_of v (Claimed w) ≡ is_task_of v (Running w) = grind arith in same ∙ h));
        counts = counts-still r.program r.state deps watches.counts s' t (Claimed w) (Running w) step refl refl;
      }

  -- it ends
  pub watches-ended : MayHappen r (End t w) → Watches (has_happened r (End t w)) homes tasks (after_done deps t.0)
  watches-ended can =
      let s' = after r.program r.machine r.state (End t w) in
      let step = Ends-advances r.program r.machine r.state t w s' can refl in
      record {
        places = watches.places;
        claims = tasks-still r.program r.state tasks watches.claims s' t (Running w) (Done w) step (λ v h. absurd (false≢true h));
        counts = counts-ended r.program r.state deps watches.counts s' t (Running w) (Done w) step refl;
      }

-- an event with which no task goes on
pub watches-still : (r : Rows) (homes : List DiskNo) (tasks : List (Option Task)) (deps : Dependencies) → Watches r homes tasks deps → (new : Rows) (s : State) → new ≡ record r { state = s } → s.tasks ≡ r.state.tasks → Watches new homes tasks deps
watches-still r homes tasks deps watches new s is same = subst (λ (x : Rows). Watches x homes tasks deps) (sym is) (record {
  places = watches.places;
  claims = record { every_worker = watches.claims.every_worker; last = λ w t h. watches.claims.last w t (ap (λ (ts : List Progress). is_task_of w (slice_index_or ts t.0 Waiting)) (sym same) ∙ h) };
  counts = record { program = watches.counts.program; done = subst (λ (ts : List Progress). (n : ℕ) → Contains deps.done n ↔ Contains (done_tasks (record s { tasks = ts })) n) (sym same) watches.counts.done };
})

-- nothing has happened
pub watches-fresh : (p : Program) (m : Machine) (homes : List DiskNo) → AreHomes p m homes → Watches (rows_at_start p m) homes (replicate p.workers None) (dependencies p [])
watches-fresh p m homes places = record {
  places = places;
  claims = record { every_worker = length-replicate p.workers None; last = λ w t h. absurd (false≢true (sym (ap (is_task_of w) (waits t)) ∙ h)) };
  counts = counts-by_task p (opening p m) (dependencies p []) refl (λ t. (λ (i, l, e). absurd (omega (arith, l)), λ h. absurd (false≢true (sym (ap is_done (waits t)) ∙ h))));
}
  where
    waits : (t : Task) → progress (opening p m) t ≡ Waiting
    waits t = get_or-replicate_same (length p.tasks) t.0 Waiting
