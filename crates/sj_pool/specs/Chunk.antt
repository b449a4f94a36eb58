-- Entries side by side in one block, the least bytes among them, and where an entry goes by its urgency.
use Rattle.std.specs.Prelude.{◌≡◌, ℕ, not, nat_le, List, [], ◌∷◌}
use Rattle.std.specs.List.{position_or_len}
use Rattle.sj_pool.specs.declared.entry.Entry.{Entry}
use Rattle.sj_pool.specs.Entry.{precedes}
use Rattle.sj_pool.specs.Queue.{has_fitting}

-- the most entries of a chunk
abbrev pub chunk_room : ℕ
chunk_room = 32

-- the bytes fit a room exactly where an entry does, where there is one
abbrev pub HasLeast : ℕ → List Entry → Type 0
HasLeast least [] = Unit {0}
HasLeast least (e ∷ es) = (room : ℕ) → nat_le least room ≡ has_fitting room (e ∷ es)

-- the place of the first entry that isn't more urgent than one, or the length
abbrev pub urgency_place : Entry → List Entry → ℕ
urgency_place e es = position_or_len (λ x. not (precedes x e)) es
