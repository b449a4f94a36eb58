-- What becomes of a queue that is two queues, or two with entries between them.
use Rattle.std.proofs.Common.{◌≡◌, ℕ, zero, suc, ◌+◌, ◌-◌, ◌<◌, ◌≤◌, Bool, true, false, not, ◌||◌, cond, List, [], ◌∷◌, ◌++◌, IsTrue, Some, None, is_some, length, insert, remove, slice_index_or, unwrap_or, refl, arith, ◌∙◌, ap, sym, subst, length-append, take, drop}
use Rattle.std.specs.List.{list_all, position, position_or_len}
use Rattle.std.proofs.lemmas.List.{length-take-le, take-append-drop}
use Rattle.std.proofs.lemmas.Int.{ints}
use Rattle.std.proofs.lemmas.List.Edits.{insert_end, insert-append_left, insert-append_right}
use Rattle.std.proofs.lemmas.List.Folds.{list_all-append, list_any-append}
use Rattle.sj_base.specs.declared.mode.Policy.{Policy}
use Rattle.sj_base.specs.declared.mode.Policy.TheVariants.{Eager, Prio, Ws}
use Rattle.sj_pool.specs.declared.entry.Entry.{Entry}
use Rattle.sj_pool.specs.Chunk.{urgency_place}
use Rattle.sj_pool.specs.Entry.{fits_room, precedes}
use Rattle.sj_pool.specs.Pool.{put_into}
use Rattle.sj_pool.specs.Queue.{has_fitting, first_fitting, without_first_fitting, put_by_urgency, is_by_urgency}

-- ---- taking

pub has-first : (room : ℕ) (es : List Entry) → has_fitting room es ≡ is_some (first_fitting room es)
has-first room [] = refl
has-first room (x ∷ xs) = grind (arith, has-first room xs)

pub first-front : (room : ℕ) (a b : List Entry) → has_fitting room a ≡ true → first_fitting room (a ++ b) ≡ first_fitting room a
first-front room [] b h = grind arith
first-front room (x ∷ a) b h = grind (arith, first-front room a b)

pub first-behind : (room : ℕ) (a b : List Entry) → has_fitting room a ≡ false → first_fitting room (a ++ b) ≡ first_fitting room b
first-behind room [] b h = refl
first-behind room (x ∷ a) b h = grind (arith, first-behind room a b)

pub rest-front : (room : ℕ) (a b : List Entry) → has_fitting room a ≡ true → without_first_fitting room (a ++ b) ≡ without_first_fitting room a ++ b
rest-front room [] b h = grind arith
rest-front room (x ∷ a) b h = grind (arith, rest-front room a b)

pub rest-behind : (room : ℕ) (a b : List Entry) → has_fitting room a ≡ false → without_first_fitting room (a ++ b) ≡ a ++ without_first_fitting room b
rest-behind room [] b h = refl
rest-behind room (x ∷ a) b h = grind (arith, rest-behind room a b)

pub rest-none : (room : ℕ) (es : List Entry) → has_fitting room es ≡ false → without_first_fitting room es ≡ es
rest-none room [] h = refl
rest-none room (x ∷ xs) h = grind (arith, rest-none room xs)

pub ruleset take_in_order = (has-first, first-front, first-behind, rest-front, rest-behind, rest-none)

-- ---- urgency

-- an entry that one isn't more urgent than, is more urgent than each that this one is more urgent than
pub precedes-through : (x y e : Entry) → precedes x e ≡ true → precedes x y ≡ false → precedes y e ≡ true
precedes-through x y e h k = grind (arith, ints)

pub by_urgency-front : (a b : List Entry) → IsTrue (is_by_urgency (a ++ b)) → IsTrue (is_by_urgency a)
by_urgency-front [] b h = refl
by_urgency-front (x ∷ a) b h = grind (arith, by_urgency-front a b, list_all-append)

pub by_urgency-behind : (a b : List Entry) → IsTrue (is_by_urgency (a ++ b)) → IsTrue (is_by_urgency b)
by_urgency-behind [] b h = h
by_urgency-behind (x ∷ a) b h = grind (arith, by_urgency-behind a b)

pub place-le : (e : Entry) (es : List Entry) → urgency_place e es ≤ length es
place-le e [] = grind arith
place-le e (x ∷ xs) = grind (arith, place-le e xs)

all-at : (a : Entry) (es : List Entry) (i : ℕ) (d : Entry) → list_all (λ x. not (precedes x a)) es ≡ true → i < length es → precedes (slice_index_or es i d) a ≡ false
all-at a [] i d h l = grind arith
all-at a (x ∷ xs) zero d h l = grind arith
all-at a (x ∷ xs) (suc i) d h l = grind (arith, all-at a xs i d)

place-all_of : (e x : Entry) (xs : List Entry) (d : Entry) → IsTrue (is_by_urgency (x ∷ xs)) → precedes (slice_index_or (x ∷ xs) (length xs) d) e ≡ true → urgency_place e (x ∷ xs) ≡ length (x ∷ xs)
place-all_of e x [] d s h = grind arith
place-all_of e x (y ∷ ys) d s h =
    let rest : IsTrue (is_by_urgency (y ∷ ys)) = by_urgency-behind (x ∷ []) (y ∷ ys) s in
    let all = place-all_of e y ys d rest h in
    let sorted : list_all (λ z. not (precedes z x)) (y ∷ ys) ≡ true = grind arith in
    let later : precedes (slice_index_or (y ∷ ys) (length ys) d) x ≡ false = all-at x (y ∷ ys) (length ys) d sorted (omega arith) in
    let here = precedes-through (slice_index_or (y ∷ ys) (length ys) d) x e h later in
    grind (arith, all, here)

-- where the last entry is more urgent, all are
pub place-all : (e : Entry) (es : List Entry) (d : Entry) → IsTrue (is_by_urgency es) → 0 < length es → precedes (slice_index_or es (length es - 1) d) e ≡ true → urgency_place e es ≡ length es
place-all e [] d s l h = absurd (omega arith)
place-all e (x ∷ xs) d s l h =
    let at : length (x ∷ xs) - 1 ≡ length xs = omega arith in
    place-all_of e x xs d s (subst (λ i. precedes (slice_index_or (x ∷ xs) i d) e ≡ true) at h)

-- an entry that isn't behind all of the first part goes into it
pub put-front : (e : Entry) (a b : List Entry) → urgency_place e a < length a → put_by_urgency e (a ++ b) ≡ put_by_urgency e a ++ b
put-front e [] b h = grind arith
put-front e (x ∷ a) b h = grind (arith, put-front e a b)

-- one that is goes into the second
pub put-behind : (e : Entry) (a b : List Entry) → urgency_place e a ≡ length a → put_by_urgency e (a ++ b) ≡ a ++ put_by_urgency e b
put-behind e [] b h = refl
put-behind e (x ∷ a) b h = grind (arith, put-behind e a b)

-- one that goes before all of the second part goes into the first
pub put-before : (e : Entry) (a b : List Entry) → 0 < length b → urgency_place e b ≡ 0 → put_by_urgency e (a ++ b) ≡ put_by_urgency e a ++ b
put-before e [] (y ∷ b) l h = grind arith
put-before e [] [] l h = grind arith
put-before e (x ∷ a) b l h = grind (arith, put-before e a b l h)

-- one that is behind an entry is behind all before that
place-through : (e : Entry) (a b : List Entry) → IsTrue (is_by_urgency (a ++ b)) → 0 < urgency_place e b → urgency_place e a ≡ length a
place-through e [] b s h = refl
place-through e (x ∷ a) [] s h = grind arith
place-through e (x ∷ a) (y ∷ b) s h =
    let rest = by_urgency-behind (x ∷ []) (a ++ y ∷ b) s in
    let all = place-through e a (y ∷ b) rest h in
    let first : precedes y e ≡ true = grind arith in
    let later : precedes y x ≡ false = grind (arith, list_all-append) in
    let here = precedes-through y x e first later in
    grind (arith, all, here)

-- ---- an entry put among two queues with entries between them

place-append : (e : Entry) (l m : List Entry) → urgency_place e l ≡ length l → urgency_place e m ≡ length m → urgency_place e (l ++ m) ≡ length (l ++ m)
place-append e [] m h k = k
place-append e (x ∷ l) m h k = grind (arith, place-append e l m)

place-behind : (e : Entry) (l m : List Entry) → urgency_place e (l ++ m) ≡ length (l ++ m) → urgency_place e m ≡ length m
place-behind e [] m h = h
place-behind e (x ∷ l) m h = grind (arith, place-behind e l m)

place-before : (e : Entry) (l m : List Entry) → 0 < length m → urgency_place e m ≡ 0 → urgency_place e (l ++ m) ≤ length l
place-before e [] m n h = omega (arith, h)
place-before e (x ∷ l) m n h = grind (arith, place-before e l m n h)

pub put-last_part : (e : Entry) (l m r : List Entry) → IsTrue (is_by_urgency (l ++ m ++ r)) → 0 < length m → urgency_place e m ≡ length m → put_by_urgency e (l ++ m ++ r) ≡ l ++ m ++ put_by_urgency e r
put-last_part e l m r s n h =
    let some : 0 < urgency_place e m = omega (arith, n, h) in
    put-behind e (l ++ m) r (place-append e l m (place-through e l m (by_urgency-front (l ++ m) r s) some) h)

pub put-first_part : (e : Entry) (l m r : List Entry) → 0 < length m → urgency_place e m ≡ 0 → put_by_urgency e (l ++ m ++ r) ≡ put_by_urgency e l ++ m ++ r
put-first_part e l m r n h =
    let within : urgency_place e (l ++ m) < length (l ++ m) = omega (arith, n, place-before e l m n h, length-append l m) in
    put-front e (l ++ m) r within ∙ ap (λ z. z ++ r) (put-before e l m n h)

put-in_front : (e : Entry) (m r : List Entry) → (urgency_place e m ≡ length m → r ≡ []) → put_by_urgency e (m ++ r) ≡ put_by_urgency e m ++ r
put-in_front e [] r k = rw (k refl) refl
put-in_front e (x ∷ m) r k = grind (arith, k, put-in_front e m r)

pub put-in_back : (e : Entry) (l m : List Entry) → IsTrue (is_by_urgency (l ++ m)) → (urgency_place e m ≡ 0 → l ≡ []) → put_by_urgency e (l ++ m) ≡ l ++ put_by_urgency e m
put-in_back e [] m s j = refl
put-in_back e (y ∷ l) m s j =
    let some : 0 < urgency_place e m = grind (arith, j) in
    put-behind e (y ∷ l) m (place-through e (y ∷ l) m s some)

pub put-within : (e : Entry) (l m r : List Entry) → IsTrue (is_by_urgency (l ++ m ++ r)) → (urgency_place e m ≡ 0 → l ≡ []) → (urgency_place e m ≡ length m → r ≡ []) → put_by_urgency e (l ++ m ++ r) ≡ l ++ put_by_urgency e m ++ r
put-within e l m r s j k =
    put-in_front e (l ++ m) r (λ h. k (place-behind e l m h)) ∙ ap (λ z. z ++ r) (put-in_back e l m (by_urgency-front (l ++ m) r s) j)

pub put-in_tree : (e : Entry) (l m : List Entry) → urgency_place e m ≡ 0 → put_by_urgency e (l ++ m) ≡ put_by_urgency e l ++ m
put-in_tree e [] [] h = refl
put-in_tree e [] (y ∷ m) h = grind arith
put-in_tree e (x ∷ l) m h = grind (arith, put-in_tree e l m h)

-- ---- which entries fit

pub has_fitting-put : (room : ℕ) (e : Entry) (es : List Entry) → has_fitting room (put_by_urgency e es) ≡ (fits_room room e || has_fitting room es)
has_fitting-put room e [] = refl
has_fitting-put room e (x ∷ xs) = grind (arith, has_fitting-put room e xs)

pub has_fitting-insert : (room i : ℕ) (e : Entry) (es : List Entry) → has_fitting room (insert es i e) ≡ (fits_room room e || has_fitting room es)
has_fitting-insert room zero e es = refl
has_fitting-insert room (suc i) e [] = grind arith
has_fitting-insert room (suc i) e (x ∷ xs) = grind (arith, has_fitting-insert room i e xs)

pub nil-front : (a b : List Entry) → a ++ b ≡ [] → a ≡ []
nil-front [] b h = refl
nil-front (x ∷ a) b h = grind arith

pub nil-behind : (a b : List Entry) → a ++ b ≡ [] → b ≡ []
nil-behind [] b h = h
nil-behind (x ∷ a) b h = grind arith

-- ---- an entry put into one of two halves

pub split-front : (es : List Entry) (half place : ℕ) (e : Entry) → place ≤ half → half ≤ length es → insert (take half es) place e ++ drop half es ≡ insert es place e
split-front es half place e h l =
    let long : place ≤ length (take half es) = omega (arith, length-take-le half es l) in
    sym (insert-append_left (take half es) (drop half es) place e long) ∙ ap (λ z. insert z place e) (take-append-drop half es)

pub split-back : (es : List Entry) (half place : ℕ) (e : Entry) → half ≤ place → half ≤ length es → take half es ++ insert (drop half es) (place - half) e ≡ insert es place e
split-back es half place e h l =
    let long = length-take-le half es l in
    sym (insert-append_right (take half es) (drop half es) half place e long h) ∙ ap (λ z. insert z place e) (take-append-drop half es)

pub ruleset nil_parts = (nil-front, nil-behind)

pub ruleset in_halves = (split-front, split-back)

-- ---- how many there are

pub length-put : (p : Policy) (e : Entry) (es : List Entry) → length (put_into p e es) ≡ length es + 1
length-put Eager e es = grind (arith, length-append)
length-put Ws e es = grind (arith, length-append)
length-put Prio e [] = refl
length-put Prio e (x ∷ xs) = grind (arith, length-put Prio e xs)

pub length-rest : (room : ℕ) (es : List Entry) → length (without_first_fitting room es) ≤ length es
length-rest room [] = grind arith
length-rest room (x ∷ xs) = grind (arith, length-rest room xs)

-- ---- lists

position_or_len-le : (p : Entry → Bool) (es : List Entry) → position_or_len p es ≤ length es
position_or_len-le p [] = grind arith
position_or_len-le p (x ∷ xs) = grind (arith, position_or_len-le p xs)

pub place-or : (p : Entry → Bool) (es : List Entry) → unwrap_or (position p es) (length es) ≡ position_or_len p es
place-or p es = let l = position_or_len-le p es in grind (arith, l)

insert-more : (b : Bool) (e x : Entry) (xs : List Entry) (i : ℕ) → insert (x ∷ xs) (cond (not (not b)) (1 + i) 0) e ≡ cond b (x ∷ insert xs i e) (e ∷ x ∷ xs)
insert-more true e x xs i = let h : 1 + i ≡ suc i = omega arith in rw h refl
insert-more false e x xs i = refl

pub put-at : (e : Entry) (es : List Entry) → insert es (position_or_len (λ x. not (precedes x e)) es) e ≡ put_by_urgency e es
put-at e [] = refl
put-at e (x ∷ xs) = insert-more (precedes x e) e x xs (position_or_len (λ y. not (precedes y e)) xs) ∙ ap (λ ys. cond (precedes x e) (x ∷ ys) (e ∷ x ∷ xs)) (put-at e xs)

pub first-at : (room : ℕ) (es : List Entry) (d : Entry) → position_or_len (fits_room room) es < length es → first_fitting room es ≡ Some (slice_index_or es (position_or_len (fits_room room) es) d)
first-at room [] d h = grind arith
first-at room (x ∷ xs) d h = grind (arith, first-at room xs d)

remove-more : (b : Bool) (x : Entry) (xs : List Entry) (i : ℕ) → remove (x ∷ xs) (cond (not b) (1 + i) 0) ≡ cond b xs (x ∷ remove xs i)
remove-more true x xs i = refl
remove-more false x xs i = let h : 1 + i ≡ suc i = omega arith in rw h refl

pub rest-at : (room : ℕ) (es : List Entry) → without_first_fitting room es ≡ remove es (position_or_len (fits_room room) es)
rest-at room [] = refl
rest-at room (x ∷ xs) = ap (λ ys. cond (fits_room room x) xs (x ∷ ys)) (rest-at room xs) ∙ sym (remove-more (fits_room room x) x xs (position_or_len (fits_room room) xs))

pub none-at : (room : ℕ) (es : List Entry) → length es ≤ position_or_len (fits_room room) es → (first_fitting room es ≡ None) × (without_first_fitting room es ≡ es)
none-at room [] h = (refl, refl)
none-at room (x ∷ xs) h = grind (arith, none-at room xs)

pub ruleset put_in_list = (put-at, insert_end, put-front, put-behind, place-le)

pub ruleset in_two = (list_any-append, has-first, first-front, first-behind, rest-front, rest-behind, rest-none)

pub ruleset put_in_order = (by_urgency-front, by_urgency-behind, put-last_part, put-first_part, put-within, has_fitting-put, has_fitting-insert, list_any-append, put-at, place-le)

pub ruleset last_of_all = (place-all)

pub ruleset fewer = (length-rest, length-put)

pub ruleset in_list = (by_urgency-front, by_urgency-behind)
