-- Sums over the workers of a node, where one worker's term grows.
use Rattle.sj_machine.proofs.Words.{ap, arith, Bool, cond, inl, inr, list_any, Machine, nat_eq, Node, node_of, same_worker, sum_by, sym, true, Worker, workers_at, workers_of, ℕ, ◌&&◌, ◌*◌, ◌+◌, ◌<◌, ◌∙◌, ◌≡◌, ◌≢◌}
use Rattle.std.proofs.Common.{count_by}
use Rattle.std.proofs.lemmas.{Bool.and_from, Bool.cases_Bool, Bool.false≢true, Bool.Decides.Decides-eqb}
use Rattle.sj_base.proofs.{Lists.list_any-filter, Lists.list_any-numbered}
use Rattle.sj_core.proofs.{Bytes.worker-once_at, Replicas.same_worker-is, Replicas.same_worker-refl, Sums.counted-has, Sums.sum-each, Sums.sum-filter-le, Sums.sum-plus}

module _ (m : Machine) (n : Node) where
  abbrev here : Worker → Bool
  here v = nat_eq (node_of m v).0 n.0

  pub sum-at : (f g : Worker → ℕ) → ((v : Worker) → node_of m v ≡ n → f v ≡ g v) → sum_by f (workers_at m n) ≡ sum_by g (workers_at m n)
  sum-at f g same =
      let bound : (v : Worker) → here v ≡ true → f v ≡ g v = λ v e. same v (ap (λ (i : ℕ). let j : Node = record { 0 = i } in j) ((Decides-eqb (node_of m v).0 n.0).0 e)) in
      omega (arith, sum-filter-le f g here (λ v e. (let s = bound v e in omega arith)) (workers_of m), sum-filter-le g f here (λ v e. (let s = bound v e in omega arith)) (workers_of m))

  module _ (w : Worker) (amount : ℕ) where
    abbrev only : Worker → ℕ
    only v = cond (same_worker v w) amount 0

    one-at : node_of m w ≡ n → w.0 < m.workers → count_by (λ v. same_worker v w) (workers_at m n) ≡ 1
    one-at at inside =
        let number : ℕ → Worker = λ i. record { 0 = i } in
        let is : (here w && same_worker w w) ≡ true = and_from (here w) (same_worker w w) ((Decides-eqb (node_of m w).0 n.0).1 (ap (λ (k : Node). k.0) at)) (same_worker-refl w) in
        let has : list_any (λ v. same_worker v w) (workers_at m n) ≡ true = list_any-filter (λ v. same_worker v w) here (workers_of m) ∙ list_any-numbered number (λ v. here v && same_worker v w) w.0 m.workers inside is in
        omega (arith, worker-once_at m n w, counted-has (λ v. same_worker v w) (workers_at m n) has)

    -- where one worker's term grows by so much, and no other's does
    pub sum-grown : (f g : Worker → ℕ) → ((v : Worker) → v ≢ w → f v ≡ g v) → f w ≡ g w + amount → node_of m w ≡ n → w.0 < m.workers → sum_by f (workers_at m n) ≡ sum_by g (workers_at m n) + amount
    sum-grown f g others own at inside =
        let one : amount * count_by (λ v. same_worker v w) (workers_at m n) ≡ amount * 1 = ap (λ k. amount * k) (one-at at inside) in
        omega (arith, sum-plus f g only grows (workers_at m n), sum-each (λ v. same_worker v w) amount (workers_at m n), one)
      where
        grows : (v : Worker) → f v ≡ g v + only v
        grows v = elim (cases_Bool (same_worker v w)) [
          | inl e ↦ (let is = same_worker-is v w e in let all : only v ≡ amount = ap (λ b. cond b amount 0) e in let l : f v ≡ f w = ap f is in let r : g v ≡ g w = ap g is in omega arith)
          | inr e ↦ (let none : only v ≡ 0 = ap (λ b. cond b amount 0) e in let same = others v (λ i. false≢true (sym e ∙ ap (λ (x : Worker). same_worker x w) i ∙ same_worker-refl w)) in omega arith)
        ]
