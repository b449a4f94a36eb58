-- A queue: entries in the order in which they are taken.
use Rattle.std.specs.Prelude.{ℕ, Bool, true, not, ◌&&◌, List, [], ◌∷◌, Option, if◌then◌else◌}
use Rattle.std.specs.List.{list_any, list_all, find}
use Rattle.sj_pool.specs.declared.entry.Entry.{Entry}
use Rattle.sj_pool.specs.Entry.{fits_room, precedes}

-- a queue as contracts see it: its entries, and how many it can have
pub record Queued : Type 0 where
  pub entries : List Entry
  pub limit : ℕ

abbrev pub queued : List Entry → ℕ → Queued
queued es n = record { entries = es; limit = n }

-- some entry fits
abbrev pub has_fitting : ℕ → List Entry → Bool
has_fitting room es = list_any (fits_room room) es

-- the first entry that fits
abbrev pub first_fitting : ℕ → List Entry → Option Entry
first_fitting room es = find (fits_room room) es

-- the others, where the first entry that fits is taken out
abbrev pub without_first_fitting : ℕ → List Entry → List Entry
without_first_fitting room [] = []
without_first_fitting room (e ∷ es) = if fits_room room e then es else e ∷ without_first_fitting room es

-- the entry stands behind those at the head that are more urgent, and before the others
abbrev pub put_by_urgency : Entry → List Entry → List Entry
put_by_urgency e [] = e ∷ []
put_by_urgency e (x ∷ xs) = if precedes x e then x ∷ put_by_urgency e xs else e ∷ x ∷ xs

-- no entry is more urgent than one before it
abbrev pub is_by_urgency : List Entry → Bool
is_by_urgency [] = true
is_by_urgency (e ∷ es) = list_all (λ x. not (precedes x e)) es && is_by_urgency es
