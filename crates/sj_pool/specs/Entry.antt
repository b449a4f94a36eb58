-- An entry of a pool: when it fits, and which of two is the more urgent.
use Rattle.std.specs.Prelude.{ℕ, ℤ, Bool, ◌&&◌, ◌||◌, nat_lt, nat_le, int_lt, int_le}
use Rattle.sj_base.specs.declared.ids.Task.{Task}
use Rattle.sj_pool.specs.declared.entry.Entry.{Entry}

abbrev pub entry : Task → ℤ → ℕ → Entry
entry t priority bytes = record { task = t; priority = priority; bytes = bytes }

-- the entry has at most so many bytes
abbrev pub fits_room : ℕ → Entry → Bool
fits_room room e = nat_le e.bytes room

-- the first is more urgent: its priority is greater, or the same, and its task number lesser
abbrev pub precedes : Entry → Entry → Bool
precedes a b = int_lt b.priority a.priority || (int_le b.priority a.priority && nat_lt a.task.0 b.task.0)
