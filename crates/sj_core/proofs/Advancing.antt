-- One step of a task: from waiting to claimed, to running, to done; and that each keeps the order of conflicting tasks.
use Rattle.sj_core.proofs.Words.{after_claim, after_end, after_run, ap, arith, CanClaim, CanRun, cells_of, Claimed, Conflict, Done, done_in, EarlierAreDone, false, has_cell, HasRows, inl, inr, is_active, is_begun, is_claimed_by, is_done, is_idle, is_running_on, is_task_of, is_waiting, IsTrue, length, Machine, OrderIsKept, Program, Progress, progress, refl, Running, SharesCommuting, State, subst, sym, Task, true, Waiting, Worker, worker_of, ◌<◌, ◌||◌, ◌∙◌, ◌≡◌, ◌≢◌, ◌⊎◌}
use Rattle.std.proofs.lemmas.{Bool.cases_eq, Bool.cases_lt, Bool.false≢true, Bool.not-true, Bool.or_cases, Bool.true≢false, List.get_or_past, List.Sums.AllPass-from_list_all}
use Rattle.sj_core.proofs.{Eviction.evicted_by, Readiness.Ready-earlier, Reading.progress-inside, Reading.progress-other, Reading.progress-same, Replicas.same_worker-is, Replicas.same_worker-refl}

pub same_task : (t u : Task) → (t ≡ u) ⊎ (t ≢ u)
same_task t u = search (arith, cases_eq)

-- ---- whose task

pub claimed_by-is : (w : Worker) (x : Progress) → is_claimed_by w x ≡ true → x ≡ Claimed w
claimed_by-is w x h = search (arith, false≢true, same_worker-is)

pub running_on-is : (w : Worker) (x : Progress) → is_running_on w x ≡ true → x ≡ Running w
running_on-is w x h = search (arith, false≢true, same_worker-is)

pub claimed-is_mine : (w : Worker) → is_task_of w (Claimed w) ≡ true
claimed-is_mine w = ap (λ b. b || false) (same_worker-refl w)

-- a claimed task is its worker's
pub claimed_by-task_of : (w : Worker) (x : Progress) → is_claimed_by w x ≡ true → is_task_of w x ≡ true
claimed_by-task_of w x h = ap (is_task_of w) (claimed_by-is w x h) ∙ claimed-is_mine w

pub claimed-task_of : (s : State) (t : Task) (w : Worker) → progress s t ≡ Claimed w → is_task_of w (progress s t) ≡ true
claimed-task_of s t w claimed = ap (is_task_of w) claimed ∙ claimed-is_mine w

pub task_of-worker : (v : Worker) (x : Progress) → is_task_of v x ≡ true → worker_of x ≡ v
task_of-worker v x h = elim (or_cases (is_claimed_by v x) (is_running_on v x) h) [ inl claimed ↦ ap worker_of (claimed_by-is v x claimed) | inr running ↦ ap worker_of (running_on-is v x running) ]

pub task_of-active : (v : Worker) (x : Progress) → is_task_of v x ≡ true → is_active x ≡ true
task_of-active v x h = ap (λ (w : Worker). is_task_of w x) (task_of-worker v x h) ∙ h

pub active-begun : (x : Progress) → is_active x ≡ true → is_begun x ≡ true
active-begun x h = search arith

pub done-begun : (x : Progress) → is_done x ≡ true → is_begun x ≡ true
done-begun x h = search arith

-- a worker without a task has none of the table
pub idle-has_none : (s : State) (w : Worker) (t : Task) → is_idle s w ≡ true → is_task_of w (progress s t) ≡ false
idle-has_none s w t h = search (arith, cases_lt, not-true, AllPass-from_list_all, get_or_past)

-- ---- a task goes on

-- one task's progress changes, and no other's
pub record Advances (s s' : State) (t : Task) (old new : Progress) : Type 0 where
  pub was : progress s t ≡ old
  pub is : progress s' t ≡ new
  pub others : (u : Task) → u ≢ t → progress s' u ≡ progress s u

not_waiting : (x y : Progress) → x ≡ y → is_waiting y ≡ false → x ≢ Waiting
not_waiting x y e f g = false≢true (sym f ∙ ap is_waiting (sym e ∙ g))

-- a row for each task suffices
pub Claims-advances_task : (p : Program) (m : Machine) (s : State) (t : Task) (w : Worker) (s' : State) → length s.tasks ≡ length p.tasks → CanClaim p m s t w → s' ≡ after_claim p m s t w (evicted_by p m s t w) → Advances s s' t Waiting (Claimed w)
Claims-advances_task p m s t w s' rows c leaves = search (arith, progress-same, progress-other)

pub Claims-advances : (p : Program) (m : Machine) (s : State) (t : Task) (w : Worker) (s' : State) → HasRows p m s → CanClaim p m s t w → s' ≡ after_claim p m s t w (evicted_by p m s t w) → Advances s s' t Waiting (Claimed w)
Claims-advances p m s t w s' rows c leaves = Claims-advances_task p m s t w s' rows.tasks c leaves

pub Runs-advances : (p : Program) (m : Machine) (s : State) (t : Task) (w : Worker) (s' : State) → CanRun p m s t w → s' ≡ after_run p m s t w → Advances s s' t (Claimed w) (Running w)
Runs-advances p m s t w s' r leaves = search (arith, progress-same, progress-inside, not_waiting, progress-other)

pub Ends-advances : (p : Program) (m : Machine) (s : State) (t : Task) (w : Worker) (s' : State) → progress s t ≡ Running w → s' ≡ after_end p m s t w → Advances s s' t (Running w) (Done w)
Ends-advances p m s t w s' e leaves = search (arith, progress-same, progress-inside, not_waiting, progress-other)

-- what is done stays done
pub done-kept : (s s' : State) (t u : Task) (old new : Progress) → Advances s s' t old new → is_done old ≡ false → done_in s u ≡ true → done_in s' u ≡ true
done-kept s s' t u old new a undone done = search (arith, same_task, false≢true)

pub EarlierAreDone-kept : (p : Program) (s s' : State) (t u : Task) (old new : Progress) → Advances s s' t old new → is_done old ≡ false → EarlierAreDone p s u → EarlierAreDone p s' u
EarlierAreDone-kept p s s' t u old new a undone earlier v before conflict = done-kept s s' t v old new a undone (earlier v before conflict)

pub active_isn't_done : (x : Progress) → is_active x ≡ true → is_done x ≡ false
active_isn't_done x h = search arith

-- where the earlier conflicting tasks of each begun task are done, no two active tasks conflict
pub apart-from_earlier : (p : Program) (s : State) → ((t : Task) → IsTrue (is_begun (progress s t)) → EarlierAreDone p s t) → (t u : Task) → IsTrue (is_active (progress s t)) → IsTrue (is_active (progress s u)) → u.0 < t.0 → ¬ Conflict p u.0 t.0
apart-from_earlier p s earlier t u at au before conflict =
    true≢false (sym (earlier t (active-begun (progress s t) at) u before conflict) ∙ active_isn't_done (progress s u) au)

-- each begun task still has its earlier conflicting tasks done
pub earlier-kept : (p : Program) (s s' : State) (t : Task) (old new : Progress) → Advances s s' t old new → is_done old ≡ false → EarlierAreDone p s t → ((u : Task) → IsTrue (is_begun (progress s u)) → EarlierAreDone p s u) → (u : Task) → IsTrue (is_begun (progress s' u)) → EarlierAreDone p s' u
earlier-kept p s s' t old new a undone own before u begun =
    EarlierAreDone-kept p s s' t u old new a undone (elim (same_task u t) [
      | inl e ↦ subst (λ (k : Task). EarlierAreDone p s k) (sym e) own
      | inr d ↦ before u (sym (ap is_begun (a.others u d)) ∙ begun)
    ])

-- where the task that advances was active before, and has the same worker, no new pair of tasks shares a commuting cell
pub commuting-kept : (p : Program) (s s' : State) (t : Task) (old new : Progress) → Advances s s' t old new → is_active old ≡ true → worker_of new ≡ worker_of old →
    ((u v : Task) → IsTrue (is_active (progress s u)) → IsTrue (is_active (progress s v)) → u ≢ v → ¬ SharesCommuting p s u v) →
    (u v : Task) → IsTrue (is_active (progress s' u)) → IsTrue (is_active (progress s' v)) → u ≢ v → ¬ SharesCommuting p s' u v
commuting-kept p s s' t old new a active same before u v au av d h =
    before u v (was_active u au) (was_active v av) d (record { cell = h.cell; commuting = h.commuting; shared = subst (λ (k : Worker). IsTrue (has_cell (cells_of p v k) h.cell)) (same_worker v) h.shared })
  where
    was_active : (k : Task) → is_active (progress s' k) ≡ true → is_active (progress s k) ≡ true
    was_active k h = search (arith, same_task)

    same_worker : (k : Task) → worker_of (progress s' k) ≡ worker_of (progress s k)
    same_worker k = search (arith, same_task)

-- a task that goes on at its worker keeps the order of conflicting tasks
pub OrderIsKept-advances : (p : Program) (s s' : State) (t : Task) (old new : Progress) → Advances s s' t old new → is_done old ≡ false → is_begun old ≡ true → is_active old ≡ true → worker_of new ≡ worker_of old → OrderIsKept p s → OrderIsKept p s'
OrderIsKept-advances p s s' t old new a undone begun active same o =
    let earlier = earlier-kept p s s' t old new a undone (o.earlier t (ap is_begun a.was ∙ begun)) o.earlier in
    record { earlier = earlier; apart = apart-from_earlier p s' earlier; commuting = commuting-kept p s s' t old new a active same o.commuting }

-- a claim keeps that the earlier conflicting tasks of each begun task are done
pub Claims-keeps_earlier : (p : Program) (m : Machine) (s : State) (t : Task) (w : Worker) (s' : State) → HasRows p m s → CanClaim p m s t w → s' ≡ after_claim p m s t w (evicted_by p m s t w) → OrderIsKept p s → (u : Task) → IsTrue (is_begun (progress s' u)) → EarlierAreDone p s' u
Claims-keeps_earlier p m s t w s' rows c leaves o = earlier-kept p s s' t Waiting (Claimed w) (Claims-advances p m s t w s' rows c leaves) refl (Ready-earlier p s t c.ready) o.earlier
