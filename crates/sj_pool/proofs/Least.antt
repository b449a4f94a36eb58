-- The least bytes of some entries.
use Rattle.std.proofs.Common.{◌≡◌, ℕ, zero, suc, ◌+◌, ◌<◌, ◌||◌, nat_le, List, [], ◌∷◌, length, insert, take, slice_index_or, arith, ◌∙◌, sym}
use Rattle.sj_pool.specs.declared.entry.Entry.{Entry}
use Rattle.sj_pool.specs.Chunk.{HasLeast}
use Rattle.sj_pool.specs.Entry.{fits_room}
use Rattle.sj_pool.specs.Queue.{has_fitting}
use Rattle.sj_pool.specs.Root.{IsLeastBytes}
use Rattle.sj_pool.proofs.Queues.{has_fitting-insert}

pub least-known : (least : ℕ) (es : List Entry) → ((room : ℕ) → nat_le least room ≡ has_fitting room es) → HasLeast least es
least-known least [] h = tt
least-known least (e ∷ es) h = h

pub known-least : (least : ℕ) (es : List Entry) → HasLeast least es → 0 < length es → (room : ℕ) → nat_le least room ≡ has_fitting room es
known-least least [] h l = absurd (omega arith)
known-least least (e ∷ es) h l = h

pub least-insert : (least place : ℕ) (e : Entry) (es : List Entry) → IsLeastBytes least e.bytes es → HasLeast least (insert es place e)
least-insert least place e es h = least-known least (insert es place e) (λ room. h room ∙ sym (has_fitting-insert room place e es))

pub least-taken : (bytes : ℕ) (es : List Entry) (i : ℕ) (d : Entry) (room : ℕ) → i < length es → (nat_le bytes room || has_fitting room (take (i + 1) es)) ≡ ((nat_le bytes room || has_fitting room (take i es)) || fits_room room (slice_index_or es i d))
least-taken bytes [] i d room l = absurd (omega arith)
least-taken bytes (x ∷ es) zero d room l = grind arith
least-taken bytes (x ∷ es) (suc i) d room l = grind (arith, least-taken bytes es i d room)

pub ruleset with_one_more = (least-insert)
