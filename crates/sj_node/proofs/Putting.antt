-- What is left where entries are taken out one after another, and put in one after another.
use Rattle.std.proofs.Common.{◌≡◌, ℕ, zero, suc, ◌+◌, ◌<◌, ◌≤◌, Bool, true, false, not, ◌||◌, ◌&&◌, cond, List, [], ◌∷◌, ◌++◌, filter, fold, length, take, take_all, get_or, sum, refl, sym, ap, ◌∙◌, subst, append_assoc, arith}
use Rattle.std.specs.List.{All, AllByRecursion, list_any, zip}
use Rattle.std.specs.Map.{keys_of, values_of}
use Rattle.std.proofs.lemmas.Bool.{eqb-true, eq-eqb, or_parts, or_from, or_left, or_right, false_from_ne_true}
use Rattle.std.proofs.lemmas.List.{take-map, length-take-le}
use Rattle.std.proofs.lemmas.Map.Entries.{length-keys_of}
use Rattle.std.proofs.lemmas.Map.Keys.{IsDistinct-head, IsDistinct-tail}
use Rattle.std.proofs.lemmas.Map.Made.{keys_of-zip}
use Rattle.std.proofs.lemmas.List.Elements.{All-nil, All-head, All-tail, All-take, All-get_or, All-weaker, All-from_recursion, filter_agree}
use Rattle.std.proofs.lemmas.List.Filters.{sum_by-filter_both}
use Rattle.std.proofs.lemmas.List.Folds.{list_any-append, list_any_more, list_any_none}
use Rattle.std.proofs.lemmas.List.Sums.{sum_by-append, sum_by-cons, fold_more}
use Rattle.sj_base.specs.declared.ids.Cell.{Cell}
use Rattle.sj_base.specs.Ids.{same_cell}
use Rattle.sj_base.proofs.SameIds.{same_cell-turned}
use Rattle.sj_node.specs.Entry.{NodeEntry, unpinned, is_of_cell, is_of_cells, AreDistinctCells, has_entry, total, entry_to_front, repinned, without_entry, without_all, put_cells}

-- ---- one change keeps the bytes

pub total-entry_to_front : (c : Cell) (es : List NodeEntry) → total (entry_to_front c es) ≡ total es
total-entry_to_front c es =
    sum_by-append (λ (e : NodeEntry). e.bytes) (filter (is_of_cell c) es) (without_entry c es)
    ∙ sum_by-filter_both (is_of_cell c) (λ e. not (is_of_cell c e)) (λ e. refl) (λ e. e.bytes) es

pub total-repinned : (f : ℕ → ℕ) (c : Cell) (es : List NodeEntry) → total (repinned f c es) ≡ total es
total-repinned f c [] = refl
total-repinned f c (e ∷ es) = (elim (is_of_cell c e) as (λ b. total (cond b (record e { pins = f e.pins }) e ∷ repinned f c es) ≡ total (e ∷ es)) [
  | true ↦ omega (arith, total-repinned f c es, sum_by-cons (λ (x : NodeEntry). x.bytes) (record e { pins = f e.pins }) (repinned f c es), sum_by-cons (λ (x : NodeEntry). x.bytes) e es)
  | false ↦ omega (arith, total-repinned f c es, sum_by-cons (λ (x : NodeEntry). x.bytes) e (repinned f c es), sum_by-cons (λ (x : NodeEntry). x.bytes) e es)
])

-- ---- taking out

filter_twice : {X : Type 0} (p q : X → Bool) (xs : List X) → filter q (filter p xs) ≡ filter (λ x. p x && q x) xs
filter_twice p q [] = refl
filter_twice p q (x ∷ xs) = elim (p x) as (λ b. filter q (cond b (x ∷ filter p xs) (filter p xs)) ≡ cond (b && q x) (x ∷ filter (λ y. p y && q y) xs) (filter (λ y. p y && q y) xs)) [
  | true ↦ ap (λ ys. cond (q x) (x ∷ ys) ys) (filter_twice p q xs)
  | false ↦ filter_twice p q xs
]

neither : (a b : Bool) → not (a || b) ≡ (not a && not b)
neither true b = refl
neither false b = refl

-- one cell more is taken out
pub without_all_more : (cells : List Cell) (i : ℕ) (d : Cell) (es : List NodeEntry) → i < length cells → without_all (take (i + 1) cells) es ≡ without_entry (get_or cells i d) (without_all (take i cells) es)
without_all_more cells i d es within =
    filter_agree (λ e. not (is_of_cells (take (i + 1) cells) e)) (λ e. not (is_of_cells (take i cells) e) && not (is_of_cell (get_or cells i d) e)) (λ e. ap not (list_any_more (λ c. is_of_cell c e) cells i d within) ∙ neither (is_of_cells (take i cells) e) (is_of_cell (get_or cells i d) e)) es
    ∙ sym (filter_twice (λ e. not (is_of_cells (take i cells) e)) (λ e. not (is_of_cell (get_or cells i d) e)) es)

-- where none of the cells has an entry
pub without_all-absent : (cells : List Cell) (es : List NodeEntry) → All (λ c. has_entry es c ≡ false) cells → without_all cells es ≡ es
without_all-absent cells [] h = refl
without_all-absent cells (e ∷ es) h =
    let here : is_of_cells cells e ≡ false = list_any_none (λ c. is_of_cell c e) cells (All-weaker (λ c. has_entry (e ∷ es) c ≡ false) (λ c. is_of_cell c e ≡ false) (λ c n. (or_parts (is_of_cell c e) (has_entry es c) n).0) cells h) in
    let rest = without_all-absent cells es (All-weaker (λ c. has_entry (e ∷ es) c ≡ false) (λ c. has_entry es c ≡ false) (λ c n. (or_parts (is_of_cell c e) (has_entry es c) n).1) cells h) in
    rw here (ap (λ xs. e ∷ xs) rest)

-- where there are none
pub without_all-none : (es : List NodeEntry) → without_all [] es ≡ es
without_all-none es = without_all-absent [] es (All-nil (λ c. has_entry es c ≡ false))

-- ---- putting in

abbrev pub put : List NodeEntry → Cell × ℕ → List NodeEntry
put kept new = unpinned new.0 new.1 ∷ kept

abbrev pub put_news : List NodeEntry → List (Cell × ℕ) → List NodeEntry
put_news es news = fold put es news

pub length-put_news : (news : List (Cell × ℕ)) (es : List NodeEntry) → length (put_news es news) ≡ length news + length es
length-put_news [] es = omega arith
length-put_news (n ∷ news) es = let rest : length (put_news (put es n) news) ≡ length news + suc (length es) = length-put_news news (put es n) in omega arith

pub total-put_news : (news : List (Cell × ℕ)) (es : List NodeEntry) → total (put_news es news) ≡ sum (values_of news) + total es
total-put_news [] es = omega arith
total-put_news (n ∷ news) es =
    let rest = total-put_news news (put es n) in
    omega (arith, rest, sum_by-cons (λ (e : NodeEntry). e.bytes) (unpinned n.0 n.1) es, sum_by-cons (λ (k : ℕ). k) n.1 (values_of news))

-- a cell that is none of them has an entry only if it had one
pub has_entry-put_news : (c : Cell) (news : List (Cell × ℕ)) (es : List NodeEntry) → AllByRecursion (λ d. same_cell c d ≡ false) (keys_of news) → has_entry es c ≡ false → has_entry (put_news es news) c ≡ false
has_entry-put_news c [] es apart absent = absent
has_entry-put_news c (n ∷ news) es apart absent = has_entry-put_news c news (put es n) apart.1 (or_from (same_cell c n.0) (has_entry es c) apart.0 absent)

-- a filter that takes each of them out, and one that takes none of them out
pub filter-put_news_none : (q : NodeEntry → Bool) (news : List (Cell × ℕ)) (es : List NodeEntry) → AllByRecursion (λ n. q (unpinned n.0 n.1) ≡ true) news → filter (λ e. not (q e)) (put_news es news) ≡ filter (λ e. not (q e)) es
filter-put_news_none q [] es h = refl
filter-put_news_none q (n ∷ news) es h = filter-put_news_none q news (put es n) h.1 ∙ (let out : q (unpinned n.0 n.1) ≡ true = h.0 in rw out refl)

pub filter-put_news_all : (q : NodeEntry → Bool) (news : List (Cell × ℕ)) (es : List NodeEntry) → AllByRecursion (λ n. q (unpinned n.0 n.1) ≡ false) news → filter (λ e. not (q e)) (put_news es news) ≡ put_news (filter (λ e. not (q e)) es) news
filter-put_news_all q [] es h = refl
filter-put_news_all q (n ∷ news) es h = filter-put_news_all q news (put es n) h.1 ∙ (let kept : q (unpinned n.0 n.1) ≡ false = h.0 in rw kept refl)

-- ---- putting in and taking the same out again

among_own : (front : List Cell) (news : List (Cell × ℕ)) → AllByRecursion (λ n. is_of_cells (front ++ keys_of news) (unpinned n.0 n.1) ≡ true) news
among_own front [] = tt
among_own front (n ∷ news) = (
  list_any-append (λ c. same_cell c n.0) front (n.0 ∷ keys_of news) ∙ or_right (list_any (λ c. same_cell c n.0) front) (list_any (λ c. same_cell c n.0) (n.0 ∷ keys_of news)) (or_left (same_cell n.0 n.0) (list_any (λ c. same_cell c n.0) (keys_of news)) (eq-eqb n.0.0 n.0.0 refl)),
  subst (λ cells. AllByRecursion (λ m. is_of_cells cells (unpinned m.0 m.1) ≡ true) news) (append_assoc front (n.0 ∷ []) (keys_of news)) (among_own (front ++ n.0 ∷ []) news),
)

undone : (news : List (Cell × ℕ)) (es : List NodeEntry) → All (λ c. has_entry es c ≡ false) (keys_of news) → without_all (keys_of news) (put_news es news) ≡ es
undone news es absent = filter-put_news_none (is_of_cells (keys_of news)) news es (among_own [] news) ∙ without_all-absent (keys_of news) es absent

keys_of-take_zip : (cells : List Cell) (bytes : List ℕ) (i : ℕ) → length cells ≡ length bytes → keys_of (take i (zip cells bytes)) ≡ take i cells
keys_of-take_zip cells bytes i paired = sym (take-map (λ (n : Cell × ℕ). n.0) i (zip cells bytes)) ∙ ap (take i) (keys_of-zip cells bytes (sym paired))

-- where the first i of them were put, taking these out leaves what was there
pub put_news-undone : (cells : List Cell) (bytes : List ℕ) (i : ℕ) (es : List NodeEntry) → length cells ≡ length bytes → All (λ c. has_entry es c ≡ false) cells → without_all (take i cells) (put_news es (take i (zip cells bytes))) ≡ es
put_news-undone cells bytes i es paired absent =
    let keys = keys_of-take_zip cells bytes i paired in
    subst (λ cs. without_all cs (put_news es (take i (zip cells bytes))) ≡ es) keys (undone (take i (zip cells bytes)) es (subst (All (λ c. has_entry es c ≡ false)) (sym keys) (All-take (λ c. has_entry es c ≡ false) i cells absent)))

apart_at : (cells : List Cell) (i : ℕ) (d : Cell) → AreDistinctCells cells → i < length cells → AllByRecursion (λ k. same_cell (get_or cells i d) k ≡ false) (take i cells)
apart_at [] i d apart within = absurd (omega arith)
apart_at (c ∷ cells) zero d apart within = tt
apart_at (c ∷ cells) (suc i) d apart within =
    let inside : i < length cells = omega arith in (
      same_cell-turned c (get_or cells i d) (All-get_or (λ k. same_cell c k ≡ false) cells i d inside (All-from_recursion (λ k. same_cell c k ≡ false) cells (IsDistinct-head same_cell c cells apart))),
      apart_at cells i d (IsDistinct-tail same_cell c cells apart) inside,
    )

-- where the first i of them were put, the next one is still absent
pub next_absent : (cells : List Cell) (bytes : List ℕ) (i : ℕ) (d : Cell) (es : List NodeEntry) → length cells ≡ length bytes → AreDistinctCells cells → All (λ c. has_entry es c ≡ false) cells → i < length cells → has_entry (put_news es (take i (zip cells bytes))) (get_or cells i d) ≡ false
next_absent cells bytes i d es paired apart absent within =
    has_entry-put_news (get_or cells i d) (take i (zip cells bytes)) es (subst (AllByRecursion (λ k. same_cell (get_or cells i d) k ≡ false)) (sym (keys_of-take_zip cells bytes i paired)) (apart_at cells i d apart within)) (All-get_or (λ c. has_entry es c ≡ false) cells i d within absent)

-- ---- putting in and taking others out

differ : (es : List NodeEntry) (v k : Cell) → has_entry es v ≡ true → has_entry es k ≡ false → same_cell v k ≡ false
differ es v k there absent = false_from_ne_true (same_cell v k) (λ same.
    let both : has_entry es v ≡ has_entry es k = ap (λ n. has_entry es (record { 0 = n })) (eqb-true v.0 k.0 same) in
    absurd (cc))

apart_news : (vs : List Cell) (news : List (Cell × ℕ)) (es : List NodeEntry) → All (λ v. has_entry es v ≡ true) vs → All (λ c. has_entry es c ≡ false) (keys_of news) → AllByRecursion (λ n. is_of_cells vs (unpinned n.0 n.1) ≡ false) news
apart_news vs [] es there absent = tt
apart_news vs (n ∷ news) es there absent = (
  list_any_none (λ v. same_cell v n.0) vs (All-weaker (λ v. has_entry es v ≡ true) (λ v. same_cell v n.0 ≡ false) (λ v h. differ es v n.0 h (All-head (λ c. has_entry es c ≡ false) n.0 (keys_of news) absent)) vs there),
  apart_news vs news es there (All-tail (λ c. has_entry es c ≡ false) n.0 (keys_of news) absent),
)

-- cells that were there before can as well be taken out first
pub without_all-put_cells : (vs cells : List Cell) (bytes : List ℕ) (es : List NodeEntry) → length cells ≡ length bytes → All (λ v. has_entry es v ≡ true) vs → All (λ c. has_entry es c ≡ false) cells → without_all vs (put_cells cells bytes es) ≡ put_cells cells bytes (without_all vs es)
without_all-put_cells vs cells bytes es paired there absent =
    filter-put_news_all (is_of_cells vs) (zip cells bytes) es (apart_news vs (zip cells bytes) es there (subst (All (λ c. has_entry es c ≡ false)) (sym (keys_of-zip cells bytes (sym paired))) absent))

values_of-zip : (cells : List Cell) (bytes : List ℕ) → length cells ≡ length bytes → values_of (zip cells bytes) ≡ bytes
values_of-zip [] [] h = refl
values_of-zip [] (b ∷ bytes) h = absurd (omega arith)
values_of-zip (c ∷ cells) [] h = absurd (omega arith)
values_of-zip (c ∷ cells) (b ∷ bytes) h = ap (λ bs. b ∷ bs) (values_of-zip cells bytes (omega arith))

pub total-put_cells : (cells : List Cell) (bytes : List ℕ) (es : List NodeEntry) → length cells ≡ length bytes → total (put_cells cells bytes es) ≡ sum bytes + total es
total-put_cells cells bytes es paired = total-put_news (zip cells bytes) es ∙ ap (λ bs. sum bs + total es) (values_of-zip cells bytes paired)

pub total-without_all-put_cells : (vs cells : List Cell) (bytes : List ℕ) (es : List NodeEntry) → length cells ≡ length bytes → All (λ v. has_entry es v ≡ true) vs → All (λ c. has_entry es c ≡ false) cells → total (without_all vs (put_cells cells bytes es)) ≡ sum bytes + total (without_all vs es)
total-without_all-put_cells vs cells bytes es paired there absent = ap total (without_all-put_cells vs cells bytes es paired there absent) ∙ total-put_cells cells bytes (without_all vs es) paired

pub total-without_all-le : (vs : List Cell) (es : List NodeEntry) → total (without_all vs es) ≤ total es
total-without_all-le vs es = omega (arith, sum_by-filter_both (is_of_cells vs) (λ e. not (is_of_cells vs e)) (λ e. refl) (λ e. e.bytes) es)

-- the first i of them are as many
pub length-take_zip : (cells : List Cell) (bytes : List ℕ) (i : ℕ) → length cells ≡ length bytes → i ≤ length cells → length (take i (zip cells bytes)) ≡ i
length-take_zip cells bytes i paired within =
    sym (length-keys_of (take i (zip cells bytes))) ∙ ap length (keys_of-take_zip cells bytes i paired) ∙ length-take-le i cells within

length-zip : (cells : List Cell) (bytes : List ℕ) → length cells ≡ length bytes → length (zip cells bytes) ≡ length cells
length-zip cells bytes paired = sym (length-keys_of (zip cells bytes)) ∙ ap length (keys_of-zip cells bytes (sym paired))

get_or-zip : (cells : List Cell) (bytes : List ℕ) (i : ℕ) (d : Cell) → length cells ≡ length bytes → get_or (zip cells bytes) i (d, 0) ≡ (get_or cells i d, get_or bytes i 0)
get_or-zip [] [] i d h = refl
get_or-zip [] (b ∷ bytes) i d h = absurd (omega arith)
get_or-zip (c ∷ cells) [] i d h = absurd (omega arith)
get_or-zip (c ∷ cells) (b ∷ bytes) zero d h = refl
get_or-zip (c ∷ cells) (b ∷ bytes) (suc i) d h = get_or-zip cells bytes i d (omega arith)

pub put_news_more : (cells : List Cell) (bytes : List ℕ) (i : ℕ) (d : Cell) (es : List NodeEntry) → length cells ≡ length bytes → i < length cells → put_news es (take (i + 1) (zip cells bytes)) ≡ unpinned (get_or cells i d) (get_or bytes i 0) ∷ put_news es (take i (zip cells bytes))
put_news_more cells bytes i d es paired within =
    fold_more put es (zip cells bytes) i (d, 0) (omega (arith, length-zip cells bytes paired))
    ∙ ap (put (put_news es (take i (zip cells bytes)))) (get_or-zip cells bytes i d paired)

pub put_news_all : (cells : List Cell) (bytes : List ℕ) (i : ℕ) (es : List NodeEntry) → length cells ≡ length bytes → length cells ≤ i → put_news es (take i (zip cells bytes)) ≡ put_cells cells bytes es
put_news_all cells bytes i es paired all = ap (put_news es) (take_all i (zip cells bytes) (omega (arith, length-zip cells bytes paired)))
