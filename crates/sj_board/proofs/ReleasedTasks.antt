-- Released tasks: they stay so by what others do, and more come as a task ends.
use Rattle.sj_board.proofs.Words.{[], ap, arith, Contains, CountsDone, Dependencies, done_in, done_tasks, Entry, entry_of, Hand, hand_in, HasBecomeReady, inl, inr, IsStrictlyIncreasing, length, length-set, List, map, None, Policy, Pooled, pooled, Program, queue, queued_tasks, Ready, refl, slice_set, Some, StandsReleased, State, subst, sym, Task, with_each, Worker, Ws, ℕ, ◌++◌, ◌<◌, ◌↔◌, ◌∙◌, ◌∷◌, ◌≡◌, ◌≢◌, ◌⊎◌}
use Rattle.std.proofs.lemmas.{Bool.cases_Bool, Bool.cases_eq, Bool.false≢true, List.append-nil, List.append_assoc, List.get_or-set_other, List.get_or-set_same, List.map-append, List.map-id, Simd.map-map}
use Rattle.sj_core.proofs.Readiness.{done_tasks-done, done_tasks-has}

-- ---- where the pool stays

-- the same tasks are done in two states of which the dependencies tell
pub counts-both : (p : Program) (s s' : State) (deps : Dependencies) → CountsDone p s deps → CountsDone p s' deps → (n : ℕ) → Contains (done_tasks s) n ↔ Contains (done_tasks s') n
counts-both p s s' deps was now n = (λ c. (now.done n).0 ((was.done n).1 c), λ c. (was.done n).0 ((now.done n).1 c))

-- a task that has become ready stays so where what is done stays done
pub become-kept : (p : Program) (s s' : State) (u : Task) → ((n : ℕ) → Contains (done_tasks s) n → Contains (done_tasks s') n) → HasBecomeReady p s u → HasBecomeReady p s' u
become-kept p s s' u kept h = record { task = h.task; ready = by_ready h.ready }
  where
    by_ready : Ready p (done_tasks s) u.0 ⊎ Contains (done_tasks s) u.0 → Ready p (done_tasks s') u.0 ⊎ Contains (done_tasks s') u.0
    by_ready (inr done) = inr (kept u.0 done)
    by_ready (inl ready) = elim (cases_Bool (done_in s' u)) as (λ _. Ready p (done_tasks s') u.0 ⊎ Contains (done_tasks s') u.0) [
      | inl done ↦ inr (done_tasks-has s' u done)
      | inr undone ↦ inl (record {
        task = ready.task;
        waiting = λ done. false≢true (sym undone ∙ done_tasks-done s' u done);
        earlier = λ v before conflict. kept v (ready.earlier v before conflict);
      })
    ]

-- no task is done, and still no worker was given one
pub released-same : (p : Program) (s s' : State) (hands hands' : List Hand) (pool : Pooled) → ((n : ℕ) → Contains (done_tasks s) n ↔ Contains (done_tasks s') n) → ((w : Worker) → (hand_in hands' w).given ≡ None) → StandsReleased p s hands pool → StandsReleased p s' hands' pool
released-same p s s' hands hands' pool same none stands = record {
  none_given = none;
  become = λ t h. become-kept p s s' t (λ n. (same n).0) (stands.become t h);
  once = stands.once;
  by_number = stands.by_number;
}

pub released-hands : (p : Program) (s : State) (hands hands' : List Hand) (pool : Pooled) → ((w : Worker) → (hand_in hands' w).given ≡ None) → StandsReleased p s hands pool → StandsReleased p s hands' pool
released-hands p s hands hands' pool none stands = released-same p s s hands hands' pool (λ n. (λ c. c, λ c. c)) none stands

-- ---- where tasks are put into a worker's queue

module _ (p : Program) (w : Worker) (n k : ℕ) where
  -- they are behind those that were there
  own-queue : (qs : List (List Entry)) (ts : List Task) → w.0 < length qs → queue (with_each p (Some w) (pooled Ws n k qs) ts).queues w.0 ≡ queue qs w.0 ++ map (entry_of p) ts
  own-queue qs [] inside = sym (append-nil (queue qs w.0))
  own-queue qs (t ∷ ts) inside =
      let qs' : List (List Entry) = slice_set qs w.0 (queue qs w.0 ++ entry_of p t ∷ []) in
      own-queue qs' ts (omega (arith, inside, length-set qs w.0 (queue qs w.0 ++ entry_of p t ∷ [])))
      ∙ ap (λ (es : List Entry). es ++ map (entry_of p) ts) (get_or-set_same qs w.0 (queue qs w.0 ++ entry_of p t ∷ []) [] inside)
      ∙ append_assoc (queue qs w.0) (entry_of p t ∷ []) (map (entry_of p) ts)

  -- and in the other queues nothing changes
  other-queue : (qs : List (List Entry)) (ts : List Task) (v : ℕ) → v ≢ w.0 → queue (with_each p (Some w) (pooled Ws n k qs) ts).queues v ≡ queue qs v
  other-queue qs [] v far = refl
  other-queue qs (t ∷ ts) v far =
      let qs' : List (List Entry) = slice_set qs w.0 (queue qs w.0 ++ entry_of p t ∷ []) in
      other-queue qs' ts v far ∙ get_or-set_other qs w.0 v (queue qs w.0 ++ entry_of p t ∷ []) [] far

module _ (p : Program) (w : Worker) (pool : Pooled) (ts : List Task) (apart : pool.policy ≡ Ws) where
  as-ws : pool ≡ pooled Ws pool.workers pool.limit pool.queues
  as-ws = ap (λ (q : Policy). pooled q pool.workers pool.limit pool.queues) apart

  pub own-tasks : w.0 < length pool.queues → queued_tasks (with_each p (Some w) pool ts) w.0 ≡ queued_tasks pool w.0 ++ ts
  own-tasks inside =
      ap (λ (q : Pooled). queued_tasks (with_each p (Some w) q ts) w.0) as-ws
      ∙ ap (map (λ (e : Entry). e.task)) (own-queue p w pool.workers pool.limit pool.queues ts inside)
      ∙ map-append (λ (e : Entry). e.task) (queue pool.queues w.0) (map (entry_of p) ts)
      ∙ ap (λ (xs : List Task). queued_tasks pool w.0 ++ xs) (map-map (λ (e : Entry). e.task) (entry_of p) ts ∙ map-id ts)

  pub other-tasks : (v : ℕ) → v ≢ w.0 → queued_tasks (with_each p (Some w) pool ts) v ≡ queued_tasks pool v
  other-tasks v far =
      ap (λ (q : Pooled). queued_tasks (with_each p (Some w) q ts) v) as-ws
      ∙ ap (map (λ (e : Entry). e.task)) (other-queue p w pool.workers pool.limit pool.queues ts v far)

  -- each queue has its tasks by number, where the worker had taken its own away
  pub by-number : w.0 < length pool.queues → queued_tasks pool w.0 ≡ [] → IsStrictlyIncreasing (map (λ (t : Task). t.0) ts) → ((v : ℕ) → IsStrictlyIncreasing (map (λ (t : Task). t.0) (queued_tasks pool v))) → (v : ℕ) → IsStrictlyIncreasing (map (λ (t : Task). t.0) (queued_tasks (with_each p (Some w) pool ts) v))
  by-number inside taken rising before v = elim (cases_eq v w.0) as (λ _. IsStrictlyIncreasing (map (λ (t : Task). t.0) (queued_tasks (with_each p (Some w) pool ts) v))) [
    | inl e ↦ subst (λ (xs : List Task). IsStrictlyIncreasing (map (λ (t : Task). t.0) xs)) (sym (ap (λ (n : ℕ). queued_tasks (with_each p (Some w) pool ts) n) e ∙ own-tasks inside ∙ ap (λ (xs : List Task). xs ++ ts) taken)) rising
    | inr far ↦ subst (λ (xs : List Task). IsStrictlyIncreasing (map (λ (t : Task). t.0) xs)) (sym (other-tasks v far)) (before v)
  ]
