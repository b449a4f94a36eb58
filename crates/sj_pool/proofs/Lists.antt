-- The entries of some queues.
use Rattle.std.proofs.Common.{◌≡◌, ℕ, zero, suc, ◌<◌, Bool, List, [], ◌∷◌, length, replicate, slice_set, refl, sym, subst, ap, ◌∙◌, ◌||◌}
use Rattle.std.proofs.lemmas.List.{length-map, map-set}
use Rattle.std.specs.List.{list_any}
use Rattle.sj_base.specs.declared.mode.Policy.{Policy}
use Rattle.sj_pool.specs.declared.entry.Entry.{Entry}
use Rattle.sj_pool.specs.Queue.{Queued, queued, without_first_fitting}
use Rattle.sj_pool.specs.Pool.{queue, put_into, with_entry_at, without_first_at, lists, queue_at, with_entries_at}

pub lists-set : (qs : List Queued) (i : ℕ) (es : List Entry) → lists (with_entries_at qs i es) ≡ slice_set (lists qs) i es
lists-set qs i es = map-set (λ q. q.entries) qs i (record (queue_at qs i) { entries = es })

pub queue-lists : (qs : List Queued) (i : ℕ) → queue (lists qs) i ≡ (queue_at qs i).entries
queue-lists [] i = refl
queue-lists (q ∷ qs) zero = refl
queue-lists (q ∷ qs) (suc i) = queue-lists qs i

pub length-lists : (qs : List Queued) → length (lists qs) ≡ length qs
length-lists qs = length-map qs (λ q. q.entries)

pub within-lists : (qs : List Queued) (i : ℕ) → i < length qs → i < length (lists qs)
within-lists qs i h = subst (λ n. i < n) (sym (length-lists qs)) h

pub lists-replicate : (n limit : ℕ) → lists (replicate n (queued [] limit)) ≡ replicate n []
lists-replicate zero limit = refl
lists-replicate (suc n) limit = ap (λ qs. [] ∷ qs) (lists-replicate n limit)

pub list_any-lists : (p : List Entry → Bool) (qs : List Queued) → list_any p (lists qs) ≡ list_any (λ q. p q.entries) qs
list_any-lists p [] = refl
list_any-lists p (q ∷ qs) = ap (λ b. p q.entries || b) (list_any-lists p qs)

pub lists-put : (p : Policy) (e : Entry) (qs : List Queued) (i : ℕ) → lists (with_entries_at qs i (put_into p e (queue_at qs i).entries)) ≡ with_entry_at p (lists qs) i e
lists-put p e qs i = lists-set qs i (put_into p e (queue_at qs i).entries) ∙ ap (λ es. slice_set (lists qs) i (put_into p e es)) (sym (queue-lists qs i))

pub lists-taken : (room : ℕ) (qs : List Queued) (i : ℕ) → lists (with_entries_at qs i (without_first_fitting room (queue_at qs i).entries)) ≡ without_first_at (lists qs) i room
lists-taken room qs i = lists-set qs i (without_first_fitting room (queue_at qs i).entries) ∙ ap (λ es. slice_set (lists qs) i (without_first_fitting room es)) (sym (queue-lists qs i))

pub ruleset of_lists = (queue-lists, length-lists, lists-put, lists-taken, lists-replicate, list_any-lists)
