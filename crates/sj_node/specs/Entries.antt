-- The cache that keeps a node's entries, and what it shows of them.
use Rattle.std.specs.Prelude.{ℕ, ◌≤◌, nat_eq, List, length}
use Rattle.std.specs.List.{IsDistinct}
use Rattle.std.specs.Map.{keys_of}
use Rattle.lru.specs.LruCache.{LruCache}
use Rattle.sj_node.specs.Entry.{NodeEntry}
use Rattle.sj_node.specs.declared.entries.Room.{Room}

-- entries, and how many there may be
pub record Listed : Type 0 where
  pub order : List NodeEntry
  pub limit : ℕ

abbrev pub listed : List NodeEntry → ℕ → Listed
listed es n = record { order = es; limit = n }

-- an entry of the cache as contracts see it
abbrev pub as_entry : ℕ × Room → NodeEntry
as_entry p = record { cell = record { 0 = p.0 }; bytes = p.1.bytes; pins = p.1.pins }

-- no cell has two entries, and the cache never makes room by itself
pub record IsListed (cache : LruCache ℕ Room) (limit : ℕ) : Type 0 where
  pub distinct : IsDistinct nat_eq (keys_of cache.entries)
  pub few : length cache.entries ≤ limit
  pub room : limit ≤ cache.cap
