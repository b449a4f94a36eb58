-- Lists of cells: which cells an edited list has, how often, and the sum over a list that has each at most once.
use Rattle.sj_core.proofs.Words.{[], ap, arith, Bool, Cell, cells_of_program, cond, count_by, distinct, false, filter, fold, get_or, has_cell, if◌then◌else◌, inl, inr, length, List, nat_le, nat_lt, not, Program, refl, renewed, same_cell, set, sum_by, sym, to_front, true, without, ℕ, ◌&&◌, ◌*◌, ◌++◌, ◌+◌, ◌<◌, ◌||◌, ◌∙◌, ◌∷◌, ◌≡◌, ◌≤◌}
use Rattle.std.proofs.lemmas.{Bool.and_from, Bool.and_parts, Bool.false_from_ne_true, Bool.false≢true, Bool.or_right, Bool.le-leb, Bool.lt-ltb, Bool.cases_lt, Bool.Decides.Decides-eqb, List.ext_get_or, List.get_or-set_other, List.get_or-set_same, List.length-set, List.Sums.sum_by-append, List.Sums.sum_by-cons, Map.Views.any-filter_same, List.Folds.list_any-append}
use Rattle.sj_base.proofs.{Bools.same_test, Bools.tally, Lists.counted_some, Lists.sum_by-agree, SameIds.same_cell-is, SameIds.same_cell-itself}
pub use Rattle.sj_base.proofs.SameIds.{same_cell-itself as same_cell-refl}
use Rattle.sj_core.proofs.{Sums.count-numbered, Sums.counted-has, Sums.filter-sum-le, Sums.sum-each, Sums.sum-nothing, Sums.sum-plus, Tables.length-renewed, Tables.renewed-at}

-- ---- tests

pub same_cell-from : (c d : Cell) → c ≡ d → same_cell c d ≡ true
same_cell-from c d e = (Decides-eqb c.0 d.0).1 (ap (λ (k : Cell). k.0) e)

pub same_cell-sym : (c d : Cell) → same_cell c d ≡ same_cell d c
same_cell-sym c d = same_test (same_cell c d) (same_cell d c) (λ h. same_cell-from d c (sym (same_cell-is c d h))) (λ h. same_cell-from c d (sym (same_cell-is d c h)))

-- ---- which cells a list has

pub has_cell-append : (xs ys : List Cell) (c : Cell) → has_cell ys c ≡ true → has_cell (xs ++ ys) c ≡ true
has_cell-append xs ys c h = list_any-append (λ d. same_cell d c) xs ys ∙ or_right (has_cell xs c) (has_cell ys c) h

pub has_cell-filter_is : (f : Cell → Bool) (xs : List Cell) (c : Cell) → has_cell (filter f xs) c ≡ (f c && has_cell xs c)
has_cell-filter_is f xs c = any-filter_same (λ d. same_cell d c) f (f c) (λ d same. ap f (same_cell-is d c same)) xs

-- a cell that a filter keeps passes its test, and was in the list; and a cell of the list that passes is kept
pub has_cell-filter : (f : Cell → Bool) (xs : List Cell) (c : Cell) → has_cell (filter f xs) c ≡ true → (f c ≡ true) × (has_cell xs c ≡ true)
has_cell-filter f xs c h = and_parts (f c) (has_cell xs c) (sym (has_cell-filter_is f xs c) ∙ h)

pub filter-has_cell : (f : Cell → Bool) (xs : List Cell) (c : Cell) → f c ≡ true → has_cell xs c ≡ true → has_cell (filter f xs) c ≡ true
filter-has_cell f xs c passes h = has_cell-filter_is f xs c ∙ and_from (f c) (has_cell xs c) passes h

-- a list without its repetitions has the same cells
pub has_cell-distinct : (xs : List Cell) (c : Cell) → has_cell (distinct xs) c ≡ has_cell xs c
has_cell-distinct [] c = refl
has_cell-distinct (x ∷ xs) c = search (arith, same_cell-is, has_cell-distinct xs c)

pub has_cell-to_front : (xs : List Cell) (d c : Cell) → has_cell (to_front xs d) c ≡ (same_cell d c || has_cell xs c)
has_cell-to_front xs d c = search (arith, has_cell-filter_is, same_cell-sym)

-- the cells of a list, brought to the front one after another
pub has_cell-fronted : (cs xs : List Cell) (c : Cell) → has_cell (fold to_front xs cs) c ≡ (has_cell cs c || has_cell xs c)
has_cell-fronted [] xs c = refl
has_cell-fronted (d ∷ cs) xs c = search (arith, has_cell-to_front, (has_cell-fronted cs (to_front xs d) c))

pub has_cell-without : (gone xs : List Cell) (c : Cell) → has_cell (without gone xs) c ≡ (not (has_cell gone c) && has_cell xs c)
has_cell-without gone xs c = has_cell-filter_is (λ d. not (has_cell gone d)) xs c

-- ---- how often a list has a cell

abbrev pub times : List Cell → Cell → ℕ
times xs c = count_by (λ d. same_cell d c) xs

pub times-cons : (x : Cell) (xs : List Cell) (c : Cell) → times (x ∷ xs) c ≡ tally (same_cell x c) + times xs c
times-cons x xs c = sum_by-cons (λ d. tally (same_cell d c)) x xs

pub times-append : (xs ys : List Cell) (c : Cell) → times (xs ++ ys) c ≡ times xs c + times ys c
times-append xs ys c = sum_by-append (λ d. tally (same_cell d c)) xs ys

pub times-filter : (f : Cell → Bool) (xs : List Cell) (c : Cell) → times (filter f xs) c ≤ times xs c
times-filter f xs c = filter-sum-le (λ d. tally (same_cell d c)) f xs

pub times-none : (xs : List Cell) (c : Cell) → has_cell xs c ≡ false → times xs c ≡ 0
times-none xs c h = elim (cases_lt 0 (times xs c)) [ inl some ↦ absurd (false≢true (sym h ∙ counted_some (λ d. same_cell d c) xs some)) | inr none ↦ omega arith ]

pub times-has : (xs : List Cell) (c : Cell) → has_cell xs c ≡ true → 1 ≤ times xs c
times-has xs c h = counted-has (λ d. same_cell d c) xs h

-- where a list has its first cell once, the rest hasn't it
once-new : (c : Cell) (cs : List Cell) → times (c ∷ cs) c ≤ 1 → has_cell cs c ≡ false
once-new c cs once = false_from_ne_true (has_cell cs c) (λ h.
    (let one : tally (same_cell c c) ≡ 1 = ap tally (same_cell-itself c) in omega (arith, times-cons c cs c, times-has cs c h)))

pub times-to_front : (xs : List Cell) (d c : Cell) → times xs c ≤ 1 → times (to_front xs d) c ≤ 1
times-to_front xs d c once = by_cases (same_cell d c) refl
  where
    by_cases : (b : Bool) → same_cell d c ≡ b → times (to_front xs d) c ≤ 1
    by_cases true e =
        let rest : List Cell = filter (λ k. not (same_cell k d)) xs in
        let one : tally (same_cell d c) ≡ 1 = ap tally e in
        let all = times-none rest c (has_cell-filter_is (λ k. not (same_cell k d)) xs c ∙ ap (λ b. not b && has_cell xs c) (same_cell-sym c d ∙ e)) in
        omega (arith, times-cons d rest c)
    by_cases false e =
        let rest : List Cell = filter (λ k. not (same_cell k d)) xs in
        let zero_here : tally (same_cell d c) ≡ 0 = ap tally e in
        omega (arith, times-cons d rest c, times-filter (λ k. not (same_cell k d)) xs c)

pub times-fronted : (cs xs : List Cell) (c : Cell) → times xs c ≤ 1 → times (fold to_front xs cs) c ≤ 1
times-fronted [] xs c once = once
times-fronted (d ∷ cs) xs c once = times-fronted cs (to_front xs d) c (times-to_front xs d c once)

pub times-distinct : (xs : List Cell) (c : Cell) → times (distinct xs) c ≤ 1
times-distinct [] c = omega arith
times-distinct (x ∷ xs) c = by_cases (has_cell xs x) refl (times-distinct xs c)
  where
    first : (b : Bool) → same_cell x c ≡ b → has_cell xs x ≡ false → times (distinct xs) c ≤ 1 → times (x ∷ distinct xs) c ≤ 1
    first true e new rest =
        let one : tally (same_cell x c) ≡ 1 = ap tally e in
        let all = times-none (distinct xs) c (has_cell-distinct xs c ∙ ap (has_cell xs) (sym (same_cell-is x c e)) ∙ new) in
        omega (arith, times-cons x (distinct xs) c)
    first false e new rest = search (arith, tally, times-cons)

    by_cases : (b : Bool) → has_cell xs x ≡ b → times (distinct xs) c ≤ 1 → times (if b then distinct xs else x ∷ distinct xs) c ≤ 1
    by_cases b again rest = search (arith, first)

-- ---- rows written one after another

-- the row, written where it is chosen
abbrev written_if : {X : Type 0} → (Cell → X → X) → Bool → Cell → X → X
written_if f b c row = if b then f c row else row

-- rows that are written one after another, each once, are the rows all written at once
pub cells-written : {X : Type 0} (f : Cell → X → X) (d : X) (cs : List Cell) (rows : List X) → ((c : Cell) → times cs c ≤ 1) → fold (λ ys c. set ys c.0 (f c (get_or ys c.0 d))) rows cs ≡ renewed (λ k row. let c : Cell = record { 0 = k } in if has_cell cs c then f c row else row) rows
cells-written f d [] rows once = ext_get_or d rows (renewed (λ k row. row) rows) (sym (length-renewed (λ k row. row) rows)) (λ i inside. sym (renewed-at (λ k row. row) rows i d inside))
cells-written {X} f d (c ∷ cs) rows once =
    let now : List X = set rows c.0 (f c (get_or rows c.0 d)) in
    let later : ℕ → X → X = λ k row. let e : Cell = record { 0 = k } in if has_cell cs e then f e row else row in
    let all : ℕ → X → X = λ k row. let e : Cell = record { 0 = k } in if same_cell c e || has_cell cs e then f e row else row in
    let same_length : length now ≡ length rows = length-set rows c.0 (f c (get_or rows c.0 d)) in
    cells-written f d cs now (λ e. (let o = once e in let t = times-cons c cs e in omega arith))
    ∙ ext_get_or d (renewed later now) (renewed all rows) (length-renewed later now ∙ same_length ∙ sym (length-renewed all rows)) (λ i inside.
    (let within : i < length now = omega (arith, inside, length-renewed later now) in
    let before : i < length rows = omega (arith, within, same_length) in
    renewed-at later now i d within ∙ at_row i (same_cell c (record { 0 = i })) refl before ∙ sym (renewed-at all rows i d before)))
  where
    new : has_cell cs c ≡ false
    new = once-new c cs (once c)

    at_row : (i : ℕ) (b : Bool) → same_cell c (record { 0 = i }) ≡ b → i < length rows →
        (let e : Cell = record { 0 = i } in written_if f (has_cell cs e) e (get_or (set rows c.0 (f c (get_or rows c.0 d))) i d)) ≡ (let e : Cell = record { 0 = i } in written_if f (same_cell c e || has_cell cs e) e (get_or rows i d))
    at_row i b e inside =
        search (arith, same_cell-is, get_or, written_if, new, get_or-set_same, get_or-set_other, false≢true, same_cell-from)

-- ---- a program has each of its cells once

pub times-program : (p : Program) (c : Cell) → c.0 < length p.cells → times (cells_of_program p) c ≡ 1
times-program p c h = count-numbered (λ n. record { 0 = n }) (λ d. same_cell d c) c.0 (λ i. refl) 0 (length p.cells) ∙ ap tally (and_from (nat_le 0 c.0) (nat_lt c.0 (0 + length p.cells)) (le-leb 0 c.0 (omega arith)) (lt-ltb c.0 (0 + length p.cells) (omega arith)))

-- ---- the sum over a list that has each cell at most once

abbrev pub share : (Cell → ℕ) → (Cell → Bool) → Cell → ℕ
share f test c = cond (test c) (f c) 0

share-of_one : (f : Cell → ℕ) (all : List Cell) (x : Cell) → times all x ≡ 1 → sum_by (share f (same_cell x)) all ≡ f x
share-of_one f all x h =
    let agree = sum_by-agree (share f (same_cell x)) (λ y. cond (same_cell y x) (f x) 0) same all in
    omega (arith, agree, sum-each (λ y. same_cell y x) (f x) all, ap (λ n. f x * n) h)
  where
    same : (y : Cell) → share f (same_cell x) y ≡ cond (same_cell y x) (f x) 0
    same y = search (arith, same_cell-sym, same_cell-is)

-- the sum over a list that has each cell at most once, as a sum over a list that has each of its cells exactly once
pub sum-once : (f : Cell → ℕ) (all xs : List Cell) → ((c : Cell) → has_cell xs c ≡ true → times all c ≡ 1) → ((c : Cell) → times xs c ≤ 1) → sum_by f xs ≡ sum_by (share f (has_cell xs)) all
sum-once f all [] inside once = sym (sum-nothing (share f (has_cell [])) (λ c. refl) all)
sum-once f all (x ∷ xs) inside once =
    let both = sum-once f all xs (λ c h. inside c (or_right (same_cell x c) (has_cell xs c) h)) (λ c. (let o = once c in let t = times-cons x xs c in omega arith)) in
    let count = sum-plus (share f (has_cell (x ∷ xs))) (share f (same_cell x)) (share f (has_cell xs)) apart all in
    let bound = share-of_one f all x (inside x (ap (λ b. b || has_cell xs x) (same_cell-itself x))) in
    omega (arith, sum_by-cons f x xs)
  where
    new : has_cell xs x ≡ false
    new = once-new x xs (once x)

    apart : (c : Cell) → share f (has_cell (x ∷ xs)) c ≡ share f (same_cell x) c + share f (has_cell xs) c
    apart c = search (arith, same_cell-is, new)
