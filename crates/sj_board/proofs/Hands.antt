-- What becomes of a board's hands where one of them changes.
use Rattle.sj_board.proofs.Words.{ap, arith, cond, empty_hand, false, footprint, Hand, hand_in, HandsAgree, inl, inr, is_given, IsPoolFor, length, List, Machine, node_of, node_size, None, Option, Pooled, Program, RunFault, slice_index_or, slice_set, Some, StandsOnce, State, subst, sym, Task, times_given, times_pooled, Worker, ℕ, ◌+◌, ◌<◌, ◌∙◌, ◌≡◌, ◌≢◌, ◌≤◌}
use Rattle.std.proofs.lemmas.{Bool.cases_eq, List.get_or-set_other, List.get_or-set_same, List.Sums.sum_by-set}

-- each worker has a hand
pub inside-hands : (p : Program) (s : State) (hands : List Hand) (fault : Option RunFault) → HandsAgree p s hands fault → (w : Worker) → w.0 < p.workers → w.0 < length hands
inside-hands p s hands fault agree w known = subst (λ (n : ℕ). w.0 < n) (sym agree.every_worker) known

-- what is so of a new hand of one worker, and of the old ones of the others, is so of each worker's
pub hand-set_apart : (P : Worker → Hand → Type 0) (hands : List Hand) (w : Worker) (h : Hand) → w.0 < length hands → P w h → ((v : Worker) → v ≢ w → P v (hand_in hands v)) → (v : Worker) → P v (hand_in (slice_set hands w.0 h) v)
hand-set_apart P hands w h inside here there v =
    elim (cases_eq v.0 w.0) as (λ _. P v (hand_in (slice_set hands w.0 h) v)) [
      | inl e ↦ subst (λ (n : ℕ). P (record { 0 = n }) (slice_index_or (slice_set hands w.0 h) n empty_hand)) (sym e) (subst (P w) (sym (get_or-set_same hands w.0 h empty_hand inside)) here)
      | inr ne ↦ subst (P v) (sym (get_or-set_other hands w.0 v.0 h empty_hand ne)) (there v (λ e. ne (ap (λ (x : Worker). x.0) e)))
    ]

-- and where it is so of all old ones
pub hand-set : (P : Worker → Hand → Type 0) (hands : List Hand) (w : Worker) (h : Hand) → w.0 < length hands → P w h → ((v : Worker) → P v (hand_in hands v)) → (v : Worker) → P v (hand_in (slice_set hands w.0 h) v)
hand-set P hands w h inside here there v = hand-set_apart P hands w h inside here (λ u apart. there u) v

-- how often a task is given, where one hand changes
pub given-set : (hands : List Hand) (w : Worker) (h : Hand) (t : Task) → w.0 < length hands → times_given (slice_set hands w.0 h) t + cond {A = ℕ} (is_given t (hand_in hands w)) 1 0 ≡ times_given hands t + cond {A = ℕ} (is_given t h) 1 0
given-set hands w h t inside = sum_by-set (λ (x : Hand). cond {A = ℕ} (is_given t x) 1 0) hands w.0 h empty_hand inside

pub given-same : (hands : List Hand) (w : Worker) (h : Hand) (t : Task) → w.0 < length hands → h.given ≡ (hand_in hands w).given → times_given (slice_set hands w.0 h) t ≡ times_given hands t
given-same hands w h t inside same =
    let counts : cond {A = ℕ} (is_given t h) 1 0 ≡ cond {A = ℕ} (is_given t (hand_in hands w)) 1 0 = ap (λ (g : Option Task). cond {A = ℕ} (is_given t (record { given = g; task = None; unit = None; has_stopped = false })) 1 0) same in
    omega (arith, given-set hands w h t inside, counts)

-- ready tasks stand once where no task stands more often or less often than before
pub stands-same : (p : Program) (s : State) (hands hands' : List Hand) (pool pool' : Pooled) → ((t : Task) → times_pooled pool' t + times_given hands' t ≡ times_pooled pool t + times_given hands t) → StandsOnce p s hands pool → StandsOnce p s hands' pool'
stands-same p s hands hands' pool pool' same stands = record {
  once = λ t h. same t ∙ stands.once t h;
  only = λ t h. stands.only t (subst (λ (n : ℕ). 0 < n) (same t) h);
}

-- what was given stays so
pub pool_for-same : (p : Program) (m : Machine) (hands : List Hand) (pool : Pooled) (w : Worker) (h : Hand) → w.0 < length hands → h.given ≡ (hand_in hands w).given → IsPoolFor p m hands pool → IsPoolFor p m (slice_set hands w.0 h) pool
pool_for-same p m hands pool w h inside same is = record {
  policy = is.policy;
  workers = is.workers;
  tasks = is.tasks;
  queues = is.queues;
  entries = is.entries;
  fits = hand-set (λ v x. (t : Task) → x.given ≡ Some t → footprint p t ≤ node_size m (node_of m v)) hands w h inside (λ t g. is.fits w t (sym same ∙ g)) is.fits;
}
