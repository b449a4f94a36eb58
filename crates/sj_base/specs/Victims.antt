-- Which replicas a full node evicts: in strict order of recency, the least recent first.
use Rattle.std.specs.Prelude.{ℕ, ◌+◌, Bool, nat_le, Option, List, [], ◌∷◌, filter, sum_by}
use Rattle.std.specs.Bool.{then_some}
use Rattle.std.specs.Option.{option_or}

-- the shortest end of a list that passes a test, or none where no end does
abbrev pub shortest_suffix : {X : Type 0} → (List X → Bool) → List X → Option (List X)
shortest_suffix test [] = then_some (test []) []
shortest_suffix test (x ∷ xs) = option_or (shortest_suffix test xs) (then_some (test (x ∷ xs)) (x ∷ xs))

-- with the free bytes, those of these entries cover the need
abbrev pub covers : {X : Type 0} → (X → ℕ) → ℕ → ℕ → List X → Bool
covers bytes free need victims = nat_le need (free + sum_by bytes victims)

-- the shortest end of the unpinned entries, most recent first, that covers the need; none where all of them don't
abbrev pub victims : {X : Type 0} → (X → ℕ) → (X → Bool) → List X → ℕ → ℕ → Option (List X)
victims bytes is_unpinned order free need = shortest_suffix (covers bytes free need) (filter is_unpinned order)
