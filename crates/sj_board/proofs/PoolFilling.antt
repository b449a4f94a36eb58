-- Tasks that stand nowhere in the pool can be put there one after another, and then each stands there once more.
use Rattle.sj_board.proofs.Words.{[], ap, arith, Bool, CanPutEach, cond, count_by, entry_of, Hand, home, IsEntry, IsPoolFor, length, length-set, List, Machine, nat_eq, Option, Pooled, Program, put_into, putter, queue, refl, subst, sym, Task, times_pooled, with_each, with_task, Worker, ℕ, ◌+◌, ◌<◌, ◌∙◌, ◌∷◌, ◌≡◌, ◌≤◌}
use Rattle.std.proofs.Common.{All}
use Rattle.std.proofs.lemmas.{List.Elements.All-head, List.Elements.All-tail, List.Sums.sum_by-cons}
use Rattle.sj_base.proofs.Bools.{nat_eq-itself}
use Rattle.sj_pool.proofs.Keeping.{home-within}
use Rattle.sj_board.proofs.Pooling.{all-pooled, none-contains, times-put}

-- how often the task is among these
abbrev pub times_among : List Task → Task → ℕ
times_among ts u = count_by (λ t. nat_eq t.0 u.0) ts

pub among-cons : (t : Task) (ts : List Task) (u : Task) → times_among (t ∷ ts) u ≡ cond {A = ℕ} (nat_eq t.0 u.0) 1 0 + times_among ts u
among-cons t ts u = sum_by-cons (λ (x : Task). cond {A = ℕ} (nat_eq x.0 u.0) 1 0) t ts

pub among-own : (t : Task) (ts : List Task) → 1 ≤ times_among (t ∷ ts) t
among-own t ts = omega (arith, among-cons t ts t, ap (λ (b : Bool). cond {A = ℕ} b 1 0) (nat_eq-itself t.0))

module _ (p : Program) (m : Machine) (hands : List Hand) (by : Option Worker) (staffed : (t : Task) → putter p by t < p.workers) where
  home-of : (pool : Pooled) (t : Task) → IsPoolFor p m hands pool → home pool.policy (putter p by t) < length pool.queues
  home-of pool t fits =
      let known : putter p by t < pool.workers = subst (λ (n : ℕ). putter p by t < n) (sym fits.workers) (staffed t) in
      subst (λ (n : ℕ). home pool.policy (putter p by t) < n) (sym fits.queues) (home-within pool.policy pool.workers (putter p by t) known)

  -- one task more
  pub fits-put : (pool : Pooled) (t : Task) → IsPoolFor p m hands pool → IsPoolFor p m hands (with_task p by pool t)
  fits-put pool t fits = record {
    policy = fits.policy;
    workers = fits.workers;
    tasks = fits.tasks;
    queues = length-set pool.queues (home pool.policy (putter p by t)) (put_into pool.policy (entry_of p t) (queue pool.queues (home pool.policy (putter p by t)))) ∙ fits.queues;
    entries = all-pooled (IsEntry p) pool.policy pool.queues (home pool.policy (putter p by t)) (entry_of p t) (home-of pool t fits) refl fits.entries;
    fits = fits.fits;
  }

  -- what is so once these tasks are in the pool
  pub record IsFilled (pool : Pooled) (ts : List Task) : Type 0 where
    pub can : CanPutEach p by pool ts
    pub fits : IsPoolFor p m hands (with_each p by pool ts)
    pub times : (u : Task) → times_pooled (with_each p by pool ts) u ≡ times_pooled pool u + times_among ts u

  pub fill : (ts : List Task) (pool : Pooled) → IsPoolFor p m hands pool → All (λ t. t.0 < length p.tasks) ts → ((u : Task) → times_pooled pool u + times_among ts u ≤ 1) → IsFilled pool ts
  fill [] pool fits known few = record { can = tt; fits = fits; times = λ u. omega arith }
  fill (t ∷ ts) pool fits known few =
      let more : (u : Task) → times_pooled (with_task p by pool t) u ≡ times_pooled pool u + cond {A = ℕ} (nat_eq t.0 u.0) 1 0 = λ u. times-put pool.policy pool.queues (home pool.policy (putter p by t)) (entry_of p t) u (home-of pool t fits) in
      let rest : IsFilled (with_task p by pool t) ts = fill ts (with_task p by pool t) (fits-put pool t fits) (All-tail (λ (k : Task). k.0 < length p.tasks) t ts known) (λ u. omega (arith, few u, more u, among-cons t ts u)) in
      record {
        can = (
          record {
            task = All-head (λ (k : Task). k.0 < length p.tasks) t ts known;
            absent = none-contains pool.queues t (omega (arith, few t, among-own t ts));
            known_task = subst (λ (n : ℕ). t.0 < n) (sym fits.tasks) (All-head (λ (k : Task). k.0 < length p.tasks) t ts known);
            known_worker = subst (λ (n : ℕ). putter p by t < n) (sym fits.workers) (staffed t);
          },
          rest.can,
        );
        fits = rest.fits;
        times = λ u. omega (arith, rest.times u, more u, among-cons t ts u);
      }
