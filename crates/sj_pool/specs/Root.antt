-- The root of a tree of entries, over any type of forks: the queue that it stands for, and the least bytes that it keeps.
use Rattle.std.specs.Prelude.{◌≡◌, ℕ, ◌<◌, ◌||◌, nat_le, List, [], length, Option, None, Some}
use Rattle.std.specs.Global.{Box}
use Rattle.sj_pool.specs.declared.entry.Entry.{Entry}
use Rattle.sj_pool.specs.Queue.{has_fitting}

-- the least of some bytes and those of the entries
abbrev pub IsLeastBytes : ℕ → ℕ → List Entry → Type 0
IsLeastBytes least bytes es = (room : ℕ) → nat_le least room ≡ (nat_le bytes room || has_fitting room es)

-- the entries of the root's fork, where there is one
abbrev pub entries_of : {F : Type 0} → (F → List Entry) → Option (Box F) → List Entry
entries_of in_order None = []
entries_of in_order (Some f) = in_order f.value

-- the root's fork has an entry of its own, and the least bytes that it keeps fit a room exactly where one of its entries does
abbrev pub IsTreeRoot : {F : Type 0} → (F → List Entry) → (F → ℕ) → (F → List Entry) → Option (Box F) → Type 0
IsTreeRoot own least in_order None = Unit {0}
IsTreeRoot own least in_order (Some f) =
    (0 < length (own f.value)) × ((room : ℕ) → nat_le (least f.value) room ≡ has_fitting room (in_order f.value))
