-- A pool stays one where an entry is put into a queue or taken out of it.
use Rattle.std.proofs.Common.{◌≡◌, ◌≢◌, ℕ, zero, suc, ◌+◌, ◌*◌, ◌<◌, ◌≤◌, Bool, true, false, not, ◌||◌, nat_eq, List, [], ◌∷◌, ◌++◌, Option, Some, None, All, IsTrue, length, replicate, slice_set, refl, sym, subst, ap, ◌∙◌, arith, length-set}
use Rattle.std.proofs.lemmas.Int.{ints}
use Rattle.std.proofs.lemmas.List.{set-get_or, length-replicate}
use Rattle.std.proofs.lemmas.List.Elements.{All-set, All-get_or, All-replicate}
use Rattle.std.proofs.lemmas.List.Sums.{sum_by-set, get_or-le-sum_by}
use Rattle.std.proofs.lemmas.List.Folds.{sum_by-replicate}
use Rattle.sj_base.specs.declared.mode.Policy.{Policy}
use Rattle.sj_base.specs.declared.mode.Policy.TheVariants.{Eager, Prio, Ws}
use Rattle.std.specs.List.{list_all}
use Rattle.sj_pool.specs.declared.entry.Entry.{Entry}
use Rattle.sj_pool.specs.Entry.{precedes}
use Rattle.sj_pool.specs.Queue.{Queued, queued, first_fitting, without_first_fitting, put_by_urgency, is_by_urgency}
use Rattle.sj_pool.specs.Pool.{queue, home, queue_count, has_task, contains, put_into, lists, queue_at, with_entries_at, count_entries, count_failing, IsPool}
use Rattle.sj_pool.proofs.Queues.{length-put}
use Rattle.sj_pool.proofs.Lists.{lists-set, queue-lists, within-lists, lists-replicate}

-- ---- which tasks are in the queues

pub contains-set_at : (qs : List (List Entry)) (i : ℕ) (q : List Entry) (t : ℕ) → i < length qs → contains (slice_set qs i q) t ≡ false → has_task t q ≡ false
contains-set_at [] i q t l h = grind arith
contains-set_at (x ∷ xs) zero q t l h = grind arith
contains-set_at (x ∷ xs) (suc i) q t l h = grind (arith, contains-set_at xs i q t)

pub contains-set_others : (qs : List (List Entry)) (i : ℕ) (q : List Entry) (t : ℕ) → contains (slice_set qs i q) t ≡ false → has_task t (queue qs i) ≡ false → contains qs t ≡ false
contains-set_others [] i q t h k = refl
contains-set_others (x ∷ xs) zero q t h k = grind arith
contains-set_others (x ∷ xs) (suc i) q t h k = grind (arith, contains-set_others xs i q t)

-- a task that isn't in a queue after another was put by urgency wasn't there before, nor is it that other
pub has_task-put_by_urgency : (e : Entry) (es : List Entry) (t : ℕ) → has_task t (put_by_urgency e es) ≡ (nat_eq e.task.0 t || has_task t es)
has_task-put_by_urgency e [] t = grind arith
has_task-put_by_urgency e (x ∷ xs) t = grind (arith, has_task-put_by_urgency e xs t)

pub has_task-put_last : (e : Entry) (es : List Entry) (t : ℕ) → has_task t (es ++ e ∷ []) ≡ (nat_eq e.task.0 t || has_task t es)
has_task-put_last e [] t = grind arith
has_task-put_last e (x ∷ xs) t = grind (arith, has_task-put_last e xs t)

pub has_task-put : (p : Policy) (e : Entry) (es : List Entry) (t : ℕ) → has_task t (put_into p e es) ≡ (nat_eq e.task.0 t || has_task t es)
has_task-put Eager e es t = has_task-put_last e es t
has_task-put Prio e es t = has_task-put_by_urgency e es t
has_task-put Ws e es t = has_task-put_last e es t

pub has_task-taken : (room : ℕ) (es : List Entry) (e : Entry) (t : ℕ) → first_fitting room es ≡ Some e → nat_eq e.task.0 t ≡ false → has_task t (without_first_fitting room es) ≡ false → has_task t es ≡ false
has_task-taken room [] e t f n h = refl
has_task-taken room (x ∷ xs) e t f n h = grind (arith, has_task-taken room xs e t)

-- ---- the order of urgency

pub all-put : (a e : Entry) (es : List Entry) → precedes e a ≡ false → list_all (λ x. not (precedes x a)) es ≡ true → list_all (λ x. not (precedes x a)) (put_by_urgency e es) ≡ true
all-put a e [] h k = grind arith
all-put a e (x ∷ xs) h k = grind (arith, all-put a e xs h)

-- one that isn't more urgent than another isn't more urgent than those that the other isn't less urgent than
pub precedes-down : (a b e : Entry) → precedes b a ≡ false → precedes a e ≡ false → precedes b e ≡ false
precedes-down a b e h k = grind (arith, ints)

pub precedes-not_back : (a e : Entry) → precedes a e ≡ true → precedes e a ≡ false
precedes-not_back a e h = grind (arith, ints)

pub all-down : (a e : Entry) (es : List Entry) → precedes a e ≡ false → list_all (λ x. not (precedes x a)) es ≡ true → list_all (λ x. not (precedes x e)) es ≡ true
all-down a e [] h k = refl
all-down a e (x ∷ xs) h k = grind (arith, all-down a e xs h, precedes-down a x e)

pub by_urgency-put : (e : Entry) (es : List Entry) → is_by_urgency es ≡ true → is_by_urgency (put_by_urgency e es) ≡ true
by_urgency-put e [] h = grind arith
by_urgency-put e (x ∷ xs) h = grind (arith, by_urgency-put e xs, all-put x e xs, all-down x e xs, precedes-not_back x e)

pub all-taken : (a : Entry) (room : ℕ) (es : List Entry) → list_all (λ x. not (precedes x a)) es ≡ true → list_all (λ x. not (precedes x a)) (without_first_fitting room es) ≡ true
all-taken a room [] h = refl
all-taken a room (x ∷ xs) h = grind (arith, all-taken a room xs)

pub by_urgency-taken : (room : ℕ) (es : List Entry) → is_by_urgency es ≡ true → is_by_urgency (without_first_fitting room es) ≡ true
by_urgency-taken room [] h = refl
by_urgency-taken room (x ∷ xs) h = grind (arith, by_urgency-taken room xs, all-taken x room xs)

-- ---- how many there are

length-taken_one : (room : ℕ) (es : List Entry) (e : Entry) → first_fitting room es ≡ Some e → length (without_first_fitting room es) + 1 ≡ length es
length-taken_one room [] e f = grind arith
length-taken_one room (x ∷ xs) e f = grind (arith, length-taken_one room xs e)

-- the second test fails no number but one that the first doesn't fail
abbrev FailsNoOther : (ℕ → Bool) → (ℕ → Bool) → ℕ → Type 0
FailsNoOther f g t = (u : ℕ) → u ≢ t → g u ≡ false → f u ≡ false

failing-below : (f g : ℕ → Bool) (t n : ℕ) → FailsNoOther f g t → n ≤ t → count_failing g n ≤ count_failing f n
failing-below f g t zero only l = grind arith
failing-below f g t (suc n) only l = let h = failing-below f g t n only (omega arith) in grind (arith, h, only n)

failing-more : (f g : ℕ → Bool) (t n : ℕ) → FailsNoOther f g t → count_failing g n ≤ count_failing f n + 1
failing-more f g t zero only = grind arith
failing-more f g t (suc n) only = let h = failing-more f g t n only in grind (arith, h, only n, failing-below f g t n only)

failing-fewer : (f g : ℕ → Bool) (t n : ℕ) → FailsNoOther f g t → t < n → f t ≡ false → g t ≡ true → count_failing g n + 1 ≤ count_failing f n
failing-fewer f g t zero only l a b = grind arith
failing-fewer f g t (suc n) only l a b = grind (arith, only n, failing-fewer f g t n only, failing-below f g t n only)

failing-le : (f : ℕ → Bool) (n : ℕ) → count_failing f n ≤ n
failing-le f zero = grind arith
failing-le f (suc n) = grind (arith, failing-le f n)

-- ---- the whole pool

-- a worker's queue is one of them
pub home-within : (p : Policy) (workers w : ℕ) → w < workers → home p w < queue_count p workers
home-within Eager workers w h = omega arith
home-within Prio workers w h = omega arith
home-within Ws workers w h = h

pub has-queue : (p : Policy) (workers limit : ℕ) (qs : List Queued) (w : ℕ) → IsPool p workers limit qs → w < workers → home p w < length qs
has-queue p workers limit qs w pool known = subst (λ n. home p w < n) (sym pool.count) (home-within p workers w known)

-- no queue but one loses a task but one
lost : (qs : List (List Entry)) (i : ℕ) (q : List Entry) (t : ℕ) → i < length qs → ((u : ℕ) → u ≢ t → has_task u q ≡ false → has_task u (queue qs i) ≡ false) → FailsNoOther (contains qs) (contains (slice_set qs i q)) t
lost qs i q t at one u ne h = contains-set_others qs i q u h (one u ne (contains-set_at qs i q u at h))

-- there is room for a task that is absent
pub has-room : (p : Policy) (w limit : ℕ) (qs : List Queued) (i t : ℕ) → IsPool p w limit qs → i < length qs → t < limit → contains (lists qs) t ≡ false → length (queue_at qs i).entries < (queue_at qs i).limit
has-room p w limit qs i t pool at known absent =
    let there = failing-fewer (contains (lists qs)) (λ u. true) t limit (λ u ne h. absurd (cc)) known absent refl in
    let within = within-lists qs i at in
    let few = subst (λ es. length es ≤ count_entries (lists qs)) (queue-lists qs i) (get_or-le-sum_by length (lists qs) i [] within) in
    let room = All-get_or (λ q. limit ≤ q.limit) qs i (queued [] 0) at pool.room in
    omega (arith, there, few, room, pool.few)

pub in-order : (p : Policy) (w limit : ℕ) (qs : List Queued) (i : ℕ) → IsPool p w limit qs → i < length qs → p ≡ Prio → IsTrue (is_by_urgency (queue_at qs i).entries)
in-order p w limit qs i pool at e = subst (λ es. IsTrue (is_by_urgency es)) (queue-lists qs i) (All-get_or (λ z. IsTrue (is_by_urgency z)) (lists qs) i [] (within-lists qs i at) (pool.by_urgency e))

-- a queue changes so that there are no more entries and absent tasks
pub keeps : (p : Policy) (w limit : ℕ) (qs : List Queued) (i : ℕ) (es : List Entry) → IsPool p w limit qs → i < length qs → length es + count_failing (contains (slice_set (lists qs) i es)) limit ≤ length (queue (lists qs) i) + count_failing (contains (lists qs)) limit → (p ≡ Prio → is_by_urgency (queue (lists qs) i) ≡ true → is_by_urgency es ≡ true) → IsPool p w limit (with_entries_at qs i es)
keeps p w limit qs i es pool at fewer ordered =
    let within = within-lists qs i at in
    let total = sum_by-set length (lists qs) i es [] within in
    let few : count_entries (slice_set (lists qs) i es) + count_failing (contains (slice_set (lists qs) i es)) limit ≤ limit = omega (arith, total, fewer, pool.few) in
    let room = All-get_or (λ q. limit ≤ q.limit) qs i (queued [] 0) at pool.room in
    record {
      some_worker = pool.some_worker;
      count = length-set qs i (record (queue_at qs i) { entries = es }) ∙ pool.count;
      few = subst (λ ls. count_entries ls + count_failing (contains ls) limit ≤ limit) (sym (lists-set qs i es)) few;
      room = All-set (λ q. limit ≤ q.limit) qs i (record (queue_at qs i) { entries = es }) room pool.room;
      by_urgency = λ e. let all = pool.by_urgency e in subst (λ ls. All (λ z. IsTrue (is_by_urgency z)) ls) (sym (lists-set qs i es)) (All-set (λ z. IsTrue (is_by_urgency z)) (lists qs) i es (ordered e (All-get_or (λ z. IsTrue (is_by_urgency z)) (lists qs) i [] within all)) all);
    }

pub keeps-put : (p : Policy) (w limit : ℕ) (qs : List Queued) (i : ℕ) (e : Entry) → IsPool p w limit qs → i < length qs → e.task.0 < limit → contains (lists qs) e.task.0 ≡ false → IsPool p w limit (with_entries_at qs i (put_into p e (queue_at qs i).entries))
keeps-put p w limit qs i e pool at known absent =
    let es = put_into p e (queue (lists qs) i) in
    let within = within-lists qs i at in
    let only = lost (lists qs) i es e.task.0 within (λ u ne h. grind (arith, has_task-put p e (queue (lists qs) i) u)) in
    let there : contains (slice_set (lists qs) i es) e.task.0 ≡ true = grind (arith, contains-set_at (lists qs) i es e.task.0 within, has_task-put p e (queue (lists qs) i) e.task.0) in
    let fewer = failing-fewer (contains (lists qs)) (contains (slice_set (lists qs) i es)) e.task.0 limit only known absent there in
    subst (λ old. IsPool p w limit (with_entries_at qs i (put_into p e old))) (queue-lists qs i)
    (keeps p w limit qs i es pool at (omega (arith, fewer, length-put p e (queue (lists qs) i)))
    (λ is h. subst (λ z. is_by_urgency (put_into z e (queue (lists qs) i)) ≡ true) (sym is) (by_urgency-put e (queue (lists qs) i) h)))

taken-none : (room : ℕ) (es : List Entry) → first_fitting room es ≡ None → without_first_fitting room es ≡ es
taken-none room [] f = refl
taken-none room (x ∷ xs) f = grind (arith, taken-none room xs)

taken-fewer : (qs : List (List Entry)) (i room limit : ℕ) → i < length qs → (o : Option Entry) → first_fitting room (queue qs i) ≡ o → length (without_first_fitting room (queue qs i)) + count_failing (contains (slice_set qs i (without_first_fitting room (queue qs i)))) limit ≤ length (queue qs i) + count_failing (contains qs) limit
taken-fewer qs i room limit at None f =
    let same = taken-none room (queue qs i) f in
    let all : slice_set qs i (without_first_fitting room (queue qs i)) ≡ qs = ap (slice_set qs i) same ∙ set-get_or qs i [] in
    grind (arith, same, all)
taken-fewer qs i room limit at (Some e) f =
    let rest = without_first_fitting room (queue qs i) in
    let only = lost qs i rest e.task.0 at (λ u ne h. let other : nat_eq e.task.0 u ≡ false = grind arith in has_task-taken room (queue qs i) e u f other h) in
    let more = failing-more (contains qs) (contains (slice_set qs i rest)) e.task.0 limit only in
    omega (arith, more, length-taken_one room (queue qs i) e f)

pub keeps-taken : (p : Policy) (w limit : ℕ) (qs : List Queued) (i room : ℕ) → IsPool p w limit qs → i < length qs → IsPool p w limit (with_entries_at qs i (without_first_fitting room (queue_at qs i).entries))
keeps-taken p w limit qs i room pool at =
    subst (λ old. IsPool p w limit (with_entries_at qs i (without_first_fitting room old))) (queue-lists qs i)
    (keeps p w limit qs i (without_first_fitting room (queue (lists qs) i)) pool at
    (taken-fewer (lists qs) i room limit (within-lists qs i at) (first_fitting room (queue (lists qs) i)) refl)
    (λ is h. by_urgency-taken room (queue (lists qs) i) h))

-- ---- a pool that is made

pub made : (p : Policy) (w limit : ℕ) → 0 < w → IsPool p w limit (replicate (queue_count p w) (queued [] limit))
made p w limit some =
    let n = queue_count p w in
    let same = lists-replicate n limit in
    let none : count_entries (replicate n []) ≡ n * 0 = sum_by-replicate length n [] in
    let few : count_entries (replicate n []) + count_failing (contains (replicate n [])) limit ≤ limit = omega (arith, none, failing-le (contains (replicate n [])) limit) in
    record {
      some_worker = some;
      count = length-replicate n (queued [] limit);
      few = subst (λ ls. count_entries ls + count_failing (contains ls) limit ≤ limit) (sym same) few;
      room = All-replicate (λ q. limit ≤ q.limit) n (queued [] limit) (omega arith);
      by_urgency = λ _. subst (λ ls. All (λ z. IsTrue (is_by_urgency z)) ls) (sym same) (All-replicate (λ z. IsTrue (is_by_urgency z)) n [] refl);
    }
