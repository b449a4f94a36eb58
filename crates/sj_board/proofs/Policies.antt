-- What the policy of a machine tells of a board's pool.
use Rattle.sj_board.proofs.Words.{[], ap, drop, Eager, inl, inr, Policy, pool_policy, Pooled, Prio, queue, queued_tasks, refl, released_in, slice_set, without_first_of, Ws, ℕ, ◌≡◌, ◌≢◌, ◌⊎◌}

pub by-policy : (q : Policy) → (q ≡ Prio) ⊎ (q ≢ Prio)
by-policy Prio = inl refl
by-policy _ = inr (λ e. absurd (cc))

-- ---- under prio

pub prio-pool : (q : Policy) → q ≡ Prio → pool_policy q ≡ Prio
prio-pool q e = ap pool_policy e

pub prio-released : (q : Policy) (pool : Pooled) (n : ℕ) → q ≡ Prio → released_in q pool n ≡ []
prio-released q pool n e = ap (λ (x : Policy). released_in x pool n) e

-- ---- under another

pub other-pool : (q : Policy) → q ≢ Prio → pool_policy q ≡ Ws
other-pool Prio other = absurd (other refl)
other-pool _ other = refl

pub other-released : (q : Policy) (pool : Pooled) (n : ℕ) → q ≢ Prio → released_in q pool n ≡ queued_tasks pool n
other-released Prio pool n other = absurd (other refl)
other-released _ pool n other = refl

pub other-left : (q : Policy) (pool : Pooled) (n : ℕ) → q ≢ Prio → without_first_of q pool n ≡ (record pool { queues = slice_set pool.queues n (drop 1 (queue pool.queues n)) })
other-left Prio pool n other = absurd (other refl)
other-left _ pool n other = refl

pub other-of : (q : Policy) → (q ≡ Eager) ⊎ (q ≡ Ws) → q ≢ Prio
other-of q (inl e) prio = absurd (cc)
other-of q (inr e) prio = absurd (cc)
