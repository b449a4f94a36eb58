-- What the tasks that begin and close a phase leave in the cells.
use Rattle.sj_lower.proofs.Words.{[], AllByRecursion, ap, arith, Array, begin_rows, Bool, Cell, combine_row, combine_rows, combined, cond, Contents, copy_at, dims_of, false, gives_value, held_in, init_row, init_rows, inl, inr, Least, Line, List, list_any, Lowered, map, OpenPhase, out, Plus, Program, range_with_len, Reduction, refl, same_cell, subst, suc, sym, true, unit_of, zero, ℕ, ◌++◌, ◌+◌, ◌<◌, ◌||◌, ◌∙◌, ◌∷◌, ◌≡◌, ◌≤◌}
use Rattle.std.proofs.lemmas.Bool.{false≢true, cases_lt}
use Rattle.sj_base.proofs.{Numbers.all_of, SameIds.same_cell-is, SameIds.same_cell-itself, SameIds.same_cell-turned}
use Rattle.sj_lower.proofs.{Combined.all_workers, Combined.range-below, Combined.with_all, Combined.with_all-same, Contents.held-cons, Contents.held-other, Contents.held-same, Folding.after_row, Folding.after_rows, Folding.after_rows-append, Folding.one_gives}

-- ---- combining

after_combine : (p : Program) (k : Contents) (by : Reduction) (c : Cell) (line : Line) (q : Cell) → after_row p k (combine_row by c line q) ≡ (c, combined out by (held_in p k q) (held_in p k c)) ∷ k
after_combine p k Plus c line q = refl
after_combine p k Least c line q = refl

abbrev combines : OpenPhase → Cell → List ℕ → List Lowered
combines f c ws = map (λ w. combine_row f.by c f.line (copy_at f.copies w)) ws

-- the cell isn't one of the partial copies
abbrev pub IsBare : Program → OpenPhase → Cell → Type 0
IsBare p f c = (w : ℕ) → w < p.workers → same_cell c (copy_at f.copies w) ≡ false

combines-value : (p : Program) (k : Contents) (f : OpenPhase) (c : Cell) (ws : List ℕ) → IsBare p f c → AllByRecursion (λ w. w < p.workers) ws → held_in p (after_rows p k (combines f c ws)) c ≡ with_all p k f ws (held_in p k c)
combines-value p k f c [] bare all = refl
combines-value p k f c (w ∷ ws) bare all =
    let x = combined out f.by (held_in p k (copy_at f.copies w)) (held_in p k c) in
    ap (λ (n : Contents). held_in p (after_rows p n (combines f c ws)) c) (after_combine p k f.by c f.line (copy_at f.copies w))
    ∙ combines-value p ((c, x) ∷ k) f c ws bare all.1
    ∙ ap (with_all p ((c, x) ∷ k) f ws) (held-same p c x k)
    ∙ with_all-same p k ((c, x) ∷ k) f ws x (λ v h. held-other p c x k (copy_at f.copies v) (bare v h)) all.1

combines-others : (p : Program) (k : Contents) (f : OpenPhase) (c : Cell) (ws : List ℕ) (d : Cell) → same_cell c d ≡ false → held_in p (after_rows p k (combines f c ws)) d ≡ held_in p k d
combines-others p k f c [] d other = refl
combines-others p k f c (w ∷ ws) d other =
    let x = combined out f.by (held_in p k (copy_at f.copies w)) (held_in p k c) in
    ap (λ (n : Contents). held_in p (after_rows p n (combines f c ws)) d) (after_combine p k f.by c f.line (copy_at f.copies w))
    ∙ combines-others p ((c, x) ∷ k) f c ws d other ∙ held-other p c x k d other

-- the cell holds afterwards what it denoted, and each other cell what it held
pub closed-value : (p : Program) (k : Contents) (f : OpenPhase) (c : Cell) → IsBare p f c → held_in p (after_rows p k (combine_rows f c p.workers)) c ≡ with_all p k f (all_workers p) (held_in p k c)
closed-value p k f c bare = combines-value p k f c (all_workers p) bare (range-below 0 p.workers p.workers (all_of p.workers))

pub closed-others : (p : Program) (k : Contents) (f : OpenPhase) (c d : Cell) → same_cell c d ≡ false → held_in p (after_rows p k (combine_rows f c p.workers)) d ≡ held_in p k d
closed-others p k f c d other = combines-others p k f c (all_workers p) d other

-- ---- units

-- the unit as large as a cell
abbrev pub unit_at : Program → Reduction → Cell → Array
unit_at p by c = unit_of out by (dims_of p c)

after_init : (p : Program) (k : Contents) (by : Reduction) (line : Line) (c : Cell) → after_row p k (init_row by line c) ≡ (c, unit_at p by c) ∷ k
after_init p k Plus line c = refl
after_init p k Least line c = refl

abbrev inits : Reduction → Cell → Line → List ℕ → List Lowered
inits by first line ws = map (λ w. init_row by line (copy_at first w)) ws

inits-keep : (p : Program) (k : Contents) (by : Reduction) (first : Cell) (line : Line) (ws : List ℕ) (d : Cell) → held_in p k d ≡ unit_at p by d → held_in p (after_rows p k (inits by first line ws)) d ≡ unit_at p by d
inits-keep p k by first line [] d h = h
inits-keep p k by first line (w ∷ ws) d h =
    let c = copy_at first w in
    ap (λ (n : Contents). held_in p (after_rows p n (inits by first line ws)) d) (after_init p k by line c)
    ∙ inits-keep p ((c, unit_at p by c) ∷ k) by first line ws d (held-cons p c (unit_at p by c) k d ∙ by_test (same_cell c d) refl)
  where
    by_test : (b : Bool) → same_cell (copy_at first w) d ≡ b → cond b (unit_at p by (copy_at first w)) (held_in p k d) ≡ unit_at p by d
    by_test true e = ap (unit_at p by) (same_cell-is (copy_at first w) d e)
    by_test false e = h

inits-value : (p : Program) (k : Contents) (by : Reduction) (first : Cell) (line : Line) (ws : List ℕ) → AllByRecursion (λ w. held_in p (after_rows p k (inits by first line ws)) (copy_at first w) ≡ unit_at p by (copy_at first w)) ws
inits-value p k by first line [] = tt
inits-value p k by first line (w ∷ ws) =
    let c = copy_at first w in
    let k1 : Contents = (c, unit_at p by c) ∷ k in
    let step = after_init p k by line c in
    subst (λ (n : Contents). (held_in p (after_rows p n (inits by first line ws)) c ≡ unit_at p by c) × AllByRecursion (λ w. held_in p (after_rows p n (inits by first line ws)) (copy_at first w) ≡ unit_at p by (copy_at first w)) ws) (sym step)
    (inits-keep p k1 by first line ws c (held-same p c (unit_at p by c) k), inits-value p k1 by first line ws)

inits-others : (p : Program) (k : Contents) (by : Reduction) (first : Cell) (line : Line) (ws : List ℕ) (d : Cell) → AllByRecursion (λ w. same_cell (copy_at first w) d ≡ false) ws → held_in p (after_rows p k (inits by first line ws)) d ≡ held_in p k d
inits-others p k by first line [] d other = refl
inits-others p k by first line (w ∷ ws) d other =
    let c = copy_at first w in
    ap (λ (n : Contents). held_in p (after_rows p n (inits by first line ws)) d) (after_init p k by line c)
    ∙ inits-others p ((c, unit_at p by c) ∷ k) by first line ws d other.1 ∙ held-other p c (unit_at p by c) k d other.0

-- what holds of each of these numbers holds of each worker
pub each-worker : (P : ℕ → Type 0) (a n : ℕ) → AllByRecursion P (range_with_len a n) → (w : ℕ) → a ≤ w → w < a + n → P w
each-worker P a zero all w lo hi = absurd (omega arith)
each-worker P a (suc n) all w lo hi = elim (cases_lt a w) [
  | inl later ↦ each-worker P (a + 1) n all.1 w (omega (arith, later)) (omega (arith, hi))
  | inr here ↦ (let same : a ≡ w = omega (arith, lo, here) in subst P same all.0)
]

each-below : (P : ℕ → Type 0) (a n m : ℕ) → a + n ≤ m → ((w : ℕ) → w < m → P w) → AllByRecursion P (range_with_len a n)
each-below P a zero m h f = tt
each-below P a (suc n) m h f = (f a (omega (arith, h)), each-below P (a + 1) n m (omega (arith, h)) f)

pub each-of_all : (P : ℕ → Type 0) (n : ℕ) → ((w : ℕ) → w < n → P w) → AllByRecursion P (range_with_len 0 n)
each-of_all P n f = each-below P 0 n n (all_of n) f

-- no partial copy from here on is this cell
abbrev pub IsBeside : Program → Cell → Cell → Type 0
IsBeside p first d = (w : ℕ) → w < p.workers → same_cell (copy_at first w) d ≡ false

abbrev own_unit : Reduction → Line → Cell → Bool → List Lowered
own_unit by line c valued = cond valued [] (init_row by line c ∷ [])

begin-split : (p : Program) (k : Contents) (by : Reduction) (first c : Cell) (valued : Bool) (line : Line) → after_rows p k (begin_rows by first c valued p.workers line) ≡ after_rows p (after_rows p k (init_rows by first p.workers line)) (own_unit by line c valued)
begin-split p k by first c valued line = after_rows-append p k (init_rows by first p.workers line) (own_unit by line c valued)

own-others : (p : Program) (k : Contents) (by : Reduction) (line : Line) (c : Cell) (valued : Bool) (d : Cell) → same_cell c d ≡ false → held_in p (after_rows p k (own_unit by line c valued)) d ≡ held_in p k d
own-others p k by line c true d other = refl
own-others p k by line c false d other = ap (λ (n : Contents). held_in p n d) (after_init p k by line c) ∙ held-other p c (unit_at p by c) k d other

-- the partial copies hold units, and so does the cell itself where it has no value; each other cell holds what it held
pub begin-copies : (p : Program) (k : Contents) (by : Reduction) (first c : Cell) (valued : Bool) (line : Line) (w : ℕ) → IsBeside p first c → w < p.workers
    → held_in p (after_rows p k (begin_rows by first c valued p.workers line)) (copy_at first w) ≡ unit_at p by (copy_at first w)
begin-copies p k by first c valued line w beside below =
    ap (λ (n : Contents). held_in p n (copy_at first w)) (begin-split p k by first c valued line)
    ∙ own-others p (after_rows p k (init_rows by first p.workers line)) by line c valued (copy_at first w) (same_cell-turned (copy_at first w) c (beside w below))
    ∙ each-worker (λ w. held_in p (after_rows p k (init_rows by first p.workers line)) (copy_at first w) ≡ unit_at p by (copy_at first w)) 0 p.workers (inits-value p k by first line (all_workers p)) w (omega arith) (omega (arith, below))

pub begin-own : (p : Program) (k : Contents) (by : Reduction) (first c : Cell) (line : Line) → held_in p (after_rows p k (begin_rows by first c false p.workers line)) c ≡ unit_at p by c
begin-own p k by first c line =
    ap (λ (n : Contents). held_in p n c) (begin-split p k by first c false line ∙ after_init p (after_rows p k (init_rows by first p.workers line)) by line c)
    ∙ held-same p c (unit_at p by c) (after_rows p k (init_rows by first p.workers line))

pub begin-valued : (p : Program) (k : Contents) (by : Reduction) (first c : Cell) (line : Line) → IsBeside p first c → held_in p (after_rows p k (begin_rows by first c true p.workers line)) c ≡ held_in p k c
begin-valued p k by first c line beside =
    ap (λ (n : Contents). held_in p n c) (begin-split p k by first c true line)
    ∙ inits-others p k by first line (all_workers p) c (each-of_all (λ w. same_cell (copy_at first w) c ≡ false) p.workers beside)

pub begin-others : (p : Program) (k : Contents) (by : Reduction) (first c : Cell) (valued : Bool) (line : Line) (d : Cell) → IsBeside p first d → same_cell c d ≡ false → held_in p (after_rows p k (begin_rows by first c valued p.workers line)) d ≡ held_in p k d
begin-others p k by first c valued line d beside other =
    ap (λ (n : Contents). held_in p n d) (begin-split p k by first c valued line)
    ∙ own-others p (after_rows p k (init_rows by first p.workers line)) by line c valued d other
    ∙ inits-others p k by first line (all_workers p) d (each-of_all (λ w. same_cell (copy_at first w) d ≡ false) p.workers beside)

-- ---- values that they give

gives_init : (by : Reduction) (line : Line) (c : Cell) → gives_value (init_row by line c) c ≡ true
gives_init by line c = ap (λ b. b || false) (same_cell-itself c)

any-left : {X : Type 0} (f : X → Bool) (xs ys : List X) → list_any f xs ≡ true → list_any f (xs ++ ys) ≡ true
any-left f [] ys h = absurd (false≢true h)
any-left f (x ∷ xs) ys h = by_test (f x) h (any-left f xs ys)
  where
    by_test : (b : Bool) → (b || list_any f xs) ≡ true → (list_any f xs ≡ true → list_any f (xs ++ ys) ≡ true) → (b || list_any f (xs ++ ys)) ≡ true
    by_test true e rest = refl
    by_test false e rest = rest e

any-right : {X : Type 0} (f : X → Bool) (xs ys : List X) → list_any f ys ≡ true → list_any f (xs ++ ys) ≡ true
any-right f [] ys h = h
any-right f (x ∷ xs) ys h = by_test (f x) (any-right f xs ys h)
  where
    by_test : (b : Bool) → list_any f (xs ++ ys) ≡ true → (b || list_any f (xs ++ ys)) ≡ true
    by_test true rest = refl
    by_test false rest = rest

inits-give : (by : Reduction) (first : Cell) (line : Line) (ws : List ℕ) → AllByRecursion (λ w. one_gives (inits by first line ws) (copy_at first w) ≡ true) ws
inits-give by first line [] = tt
inits-give by first line (w ∷ ws) = (ap (λ b. b || one_gives (inits by first line ws) (copy_at first w)) (gives_init by line (copy_at first w)), more ws (inits-give by first line ws))
  where
    more : (vs : List ℕ) → AllByRecursion (λ v. one_gives (inits by first line ws) (copy_at first v) ≡ true) vs → AllByRecursion (λ v. one_gives (inits by first line (w ∷ ws)) (copy_at first v) ≡ true) vs
    more [] h = tt
    more (v ∷ vs) h = (any-right (λ l. gives_value l (copy_at first v)) (init_row by line (copy_at first w) ∷ []) (inits by first line ws) h.0, more vs h.1)

pub begin-gives : (by : Reduction) (first c : Cell) (valued : Bool) (workers : ℕ) (line : Line) (w : ℕ) → w < workers → one_gives (begin_rows by first c valued workers line) (copy_at first w) ≡ true
begin-gives by first c valued workers line w below =
    any-left (λ l. gives_value l (copy_at first w)) (init_rows by first workers line) (own_unit by line c valued)
    (each-worker (λ w. one_gives (init_rows by first workers line) (copy_at first w) ≡ true) 0 workers (inits-give by first line (range_with_len 0 workers)) w (omega arith) (omega (arith, below)))

pub begin-gives_own : (by : Reduction) (first c : Cell) (workers : ℕ) (line : Line) → one_gives (begin_rows by first c false workers line) c ≡ true
begin-gives_own by first c workers line = any-right (λ l. gives_value l c) (init_rows by first workers line) (init_row by line c ∷ []) (ap (λ b. b || false) (gives_init by line c))
