-- The victims of a need are the shortest end of the unpinned entries that covers it; and those of a claim, as one term.
use Rattle.sj_core.proofs.Words.{[], after, after_claim, ap, arith, Bool, CanClaim, Cell, Claim, drop, false, is_some, List, Machine, None, Option, option_or, Program, refl, shortest_suffix, Some, State, sym, Task, then_some, true, unwrap_or, victims_for, Worker, ℕ, ◌++◌, ◌∙◌, ◌∷◌, ◌≡◌}
use Rattle.std.proofs.lemmas.Bool.{false≢true}

-- ---- the victims of a claim

-- the victims that a claim evicts, as a term that doesn't unfold
pub evicted_by : Program → Machine → State → Task → Worker → List Cell
evicted_by p m s t w = unwrap_or (victims_for p m s t w) []

some-unwraps : {X : Type 0} (o : Option X) (d : X) → is_some o ≡ true → o ≡ Some (unwrap_or o d)
some-unwraps o d h = search (arith, false≢true)

pub evicted-chosen : (p : Program) (m : Machine) (s : State) (t : Task) (w : Worker) → CanClaim p m s t w → victims_for p m s t w ≡ Some (evicted_by p m s t w)
unfolding evicted_by
evicted-chosen p m s t w claim = some-unwraps (victims_for p m s t w) [] claim.room

pub evicted-after : (p : Program) (m : Machine) (s : State) (t : Task) (w : Worker) → after p m s (Claim t w) ≡ after_claim p m s t w (evicted_by p m s t w)
unfolding evicted_by
evicted-after p m s t w = refl

-- ---- the shortest end

module _ {X : Type 0} (test : List X → Bool) where
  -- the first way to an answer for x ∷ xs that the tail's answer leaves open
  some_is : (vs ws : List X) → Some vs ≡ Some ws → vs ≡ ws
  some_is vs ws e = cc

  -- the victims are an end of the list
  pub shortest_suffix-suffix : (xs vs : List X) → shortest_suffix test xs ≡ Some vs → (front : List X) × (front ++ vs ≡ xs)
  shortest_suffix-suffix [] vs h = search (arith, some_is)
  shortest_suffix-suffix (x ∷ xs) vs h = by_cases (shortest_suffix test xs) refl (test (x ∷ xs)) h (shortest_suffix-suffix xs vs)
    where
      by_cases : (o : Option (List X)) → shortest_suffix test xs ≡ o → (b : Bool) → option_or o (then_some b (x ∷ xs)) ≡ Some vs → (shortest_suffix test xs ≡ Some vs → (front : List X) × (front ++ vs ≡ xs)) → (front : List X) × (front ++ vs ≡ x ∷ xs)
      by_cases (Some ws) e b h rest = let r = rest (e ∙ h) in (x ∷ r.0, ap (λ ys. x ∷ ys) r.1)
      by_cases None e true h rest = ([], sym (some_is (x ∷ xs) vs h))
      by_cases None e false h rest = absurd (cc)

  -- they pass the test
  pub shortest_suffix-passes : (xs vs : List X) → shortest_suffix test xs ≡ Some vs → test vs ≡ true
  shortest_suffix-passes [] vs h = search (arith, some_is)
  shortest_suffix-passes (x ∷ xs) vs h = search (arith, some_is, (shortest_suffix-passes xs vs))

  -- where there are none, no end passes
  pub shortest_suffix-none : (xs : List X) → shortest_suffix test xs ≡ None → (k : ℕ) → test (drop k xs) ≡ false
  shortest_suffix-none [] h k = by_cases (test []) refl h k
    where
      by_cases : (b : Bool) → test [] ≡ b → then_some {T = List X} b [] ≡ None → (k : ℕ) → test (drop k []) ≡ false
      by_cases b e h k = search arith
  shortest_suffix-none (x ∷ xs) h k = by_cases (shortest_suffix test xs) refl (test (x ∷ xs)) refl h (shortest_suffix-none xs) k
    where
      by_cases : (o : Option (List X)) → shortest_suffix test xs ≡ o → (b : Bool) → test (x ∷ xs) ≡ b → option_or o (then_some b (x ∷ xs)) ≡ None → (shortest_suffix test xs ≡ None → (j : ℕ) → test (drop j xs) ≡ false) → (j : ℕ) → test (drop j (x ∷ xs)) ≡ false
      by_cases o e b f h rest j = search arith
