-- The tiles of cells after new ones of some were put.
use Rattle.sj_board.proofs.Words.{[], Access, All, ap, arith, Array, arrays, Bool, CanPutBack, CanWorkOn, Cell, cond, dims_of, false, find, has_cell, held_in, is_written, length, List, map, Node, None, Program, put_each, refl, same_cell, shared, Slot, Some, subst, suc, sym, tiles_of, true, with_tile, with_tiles_of, worked_on, Worker, written_among, zeros, zip, ℕ, ◌++◌, ◌<◌, ◌||◌, ◌∙◌, ◌∷◌, ◌≡◌, ◌≤◌}
use Rattle.std.specs.Prelude.{filter}
use Rattle.std.proofs.lemmas.{Bool.false_from_ne_true, Bool.false≢true, Bool.or_parts, List.append-nil, List.get_or_push, List.length-map, List.length-set, List.length_push, List.map-append, List.Elements.All-get_or, List.Elements.All-set, List.Elements.filter-append}
use Rattle.sj_base.proofs.{Lists.All-front, SameIds.same_cell-unlike}
use Rattle.sj_core.proofs.{CellLists.times, CellLists.times-cons, CellLists.times-has, Reading.same_cell-is, Sums.tally}
use Rattle.sj_board.proofs.TileTables.{Places, length-changed, tiles-other, tiles-same, wide-changed}

-- ---- the operands from the last to the first

pub all-last : {X : Type 0} (P : X → Type 0) (xs before : List X) (last : X) → xs ≡ before ++ last ∷ [] → All P xs → P last
all-last P xs before last e all =
    subst P (get_or_push before last last (length before) refl) (subst (All P) e all (length before) last (omega (arith, length_push before last)))

among-push : (p : Program) (w : Worker) (xs : List Access) (a : Access) (x : Bool) → is_written a.mode ≡ x → written_among p w (xs ++ a ∷ []) ≡ written_among p w xs ++ map (worked_on p w) (cond x (a ∷ []) [])
among-push p w xs a x h =
    ap (map (worked_on p w)) (filter-append (λ (b : Access). is_written b.mode) xs (a ∷ []) ∙ ap (λ b. filter (λ (b : Access). is_written b.mode) xs ++ cond b (a ∷ []) []) h)
    ∙ map-append (worked_on p w) (filter (λ (b : Access). is_written b.mode) xs) (cond x (a ∷ []) [])

pub among_written : (p : Program) (w : Worker) (xs : List Access) (a : Access) → is_written a.mode ≡ true → written_among p w (xs ++ a ∷ []) ≡ written_among p w xs ++ worked_on p w a ∷ []
among_written p w xs a h = among-push p w xs a true h

pub among_unwritten : (p : Program) (w : Worker) (xs : List Access) (a : Access) → is_written a.mode ≡ false → written_among p w (xs ++ a ∷ []) ≡ written_among p w xs
among_unwritten p w xs a h = among-push p w xs a false h ∙ append-nil (written_among p w xs)

-- the tile in the place of a node
abbrev pub at_node : Node → Array → Places → Places
at_node n x places = with_tile places n (Some x)

put_each-push : (n : Node) (cs : List Cell) (xs : List Array) (c : Cell) (x : Array) (tiles : List Places) → length cs ≡ length xs → put_each n (cs ++ c ∷ []) (xs ++ x ∷ []) tiles ≡ put_each n cs xs (with_tiles_of tiles c (at_node n x))
put_each-push n [] [] c x tiles h = refl
put_each-push n [] (y ∷ xs) c x tiles h = absurd (omega arith)
put_each-push n (d ∷ cs) [] c x tiles h = absurd (omega arith)
put_each-push n (d ∷ cs) (y ∷ xs) c x tiles h = ap (λ (ts : List Places). with_tiles_of ts d (at_node n y)) (put_each-push n cs xs c x tiles (omega arith))

pub put_back-puts : (p : Program) (w : Worker) (n : Node) (accesses before : List Access) (last : Access) (slots slots' : List Slot) (x : Array) (tiles : List Places) → accesses ≡ before ++ last ∷ [] → slots ≡ slots' ++ shared x ∷ [] → is_written last.mode ≡ true → length slots ≡ length (written_among p w accesses) →
    put_each n (written_among p w before) (arrays slots') (with_tiles_of tiles (worked_on p w last) (at_node n x)) ≡ put_each n (written_among p w accesses) (arrays slots) tiles
put_back-puts p w n accesses before last slots slots' x tiles e made writes count =
    let cells : written_among p w accesses ≡ written_among p w before ++ (worked_on p w last) ∷ [] = ap (written_among p w) e ∙ among_written p w before last writes in
    let news : arrays slots ≡ arrays slots' ++ x ∷ [] = ap arrays made ∙ map-append (λ (s : Slot). s.array) slots' (shared x ∷ []) in
    let many : length (written_among p w before) ≡ length (arrays slots') = omega (arith, count, ap length cells, length_push (written_among p w before) (worked_on p w last), ap length made, length_push slots' (shared x), length-map slots' (λ (s : Slot). s.array)) in
    sym (put_each-push n (written_among p w before) (arrays slots') (worked_on p w last) x tiles many)
    ∙ sym (ap (λ (l : List Array). put_each n (written_among p w before ++ (worked_on p w last) ∷ []) l tiles) news)
    ∙ sym (ap (λ (l : List Cell). put_each n l (arrays slots) tiles) cells)

-- what can be put back, before the last operand, where it isn't written
pub can_put-skip : (p : Program) (w : Worker) (n : Node) (accesses before : List Access) (last : Access) (slots : List Slot) (tiles : List Places) → accesses ≡ before ++ last ∷ [] → is_written last.mode ≡ false → CanPutBack p w tiles n accesses slots → CanPutBack p w tiles n before slots
can_put-skip p w n accesses before last slots tiles e stays can = record {
  works = All-front (CanWorkOn p w) accesses before last e can.works;
  cells = All-front (λ a. (worked_on p w a).0 < length tiles) accesses before last e can.cells;
  places = can.places;
  shares = can.shares;
  count = can.count ∙ ap length (ap (written_among p w) e ∙ among_unwritten p w before last stays);
}

-- and where it is, once it was put back
pub can_put-take : (p : Program) (w : Worker) (n : Node) (accesses before : List Access) (last : Access) (slots slots' : List Slot) (x : Array) (tiles tiles' : List Places) (c : Cell) → accesses ≡ before ++ last ∷ [] → is_written last.mode ≡ true → slots ≡ slots' ++ shared x ∷ [] → c ≡ worked_on p w last → tiles' ≡ with_tiles_of tiles c (at_node n x) → CanPutBack p w tiles n accesses slots → CanPutBack p w tiles' n before slots'
can_put-take p w n accesses before last slots slots' x tiles tiles' c e writes made at now can =
    let among : written_among p w accesses ≡ written_among p w before ++ worked_on p w last ∷ [] = ap (written_among p w) e ∙ among_written p w before last writes in
    let long : length tiles' ≡ length tiles = ap length now ∙ length-changed tiles c (at_node n x) in
    let inside : c.0 < length tiles = subst (λ (d : Cell). d.0 < length tiles) (sym at) (all-last (λ a. (worked_on p w a).0 < length tiles) accesses before last e can.cells) in
    let here : n.0 < length (tiles_of tiles c) = All-get_or (λ (places : Places). n.0 < length places) tiles c.0 [] inside can.places in
    record {
      works = All-front (CanWorkOn p w) accesses before last e can.works;
      cells = subst (λ k. All (λ a. (worked_on p w a).0 < k) before) (sym long) (All-front (λ a. (worked_on p w a).0 < length tiles) accesses before last e can.cells);
      places = subst (All (λ places. n.0 < length places)) (sym now) (All-set (λ (places : Places). n.0 < length places) tiles c.0 (at_node n x (tiles_of tiles c)) (omega (arith, here, length-set (tiles_of tiles c) n.0 (Some x))) can.places);
      shares = All-front (λ (y : Slot). y.owned ≡ false) slots slots' (shared x) made can.shares;
      count = omega (arith, can.count, ap length among, length_push (written_among p w before) (worked_on p w last), ap length made, length_push slots' (shared x));
    }

-- ---- what it keeps

pub length-put_each : (n : Node) (cs : List Cell) (xs : List Array) (tiles : List Places) → length (put_each n cs xs tiles) ≡ length tiles
length-put_each n [] xs tiles = refl
length-put_each n (c ∷ cs) [] tiles = refl
length-put_each n (c ∷ cs) (x ∷ xs) tiles = length-changed (put_each n cs xs tiles) c (at_node n x) ∙ length-put_each n cs xs tiles

pub wide-put_each : (w : ℕ) (n : Node) (cs : List Cell) (xs : List Array) (tiles : List Places) → All (λ c. c.0 < length tiles) cs → All (λ places. length places ≡ w) tiles → All (λ places. length places ≡ w) (put_each n cs xs tiles)
wide-put_each w n [] xs tiles inside wide = wide
wide-put_each w n (c ∷ cs) [] tiles inside wide = wide
wide-put_each w n (c ∷ cs) (x ∷ xs) tiles inside wide =
    let now : List Places = put_each n cs xs tiles in
    let here : c.0 < length now = (let i = inside 0 c (omega arith) in omega (arith, i, length-put_each n cs xs tiles)) in
    wide-changed w now c (at_node n x) (λ places. length-set places n.0 (Some x)) here (wide-put_each w n cs xs tiles (λ k d h. inside (suc k) d (omega arith)) wide)

-- ---- the places of each cell after it

pub put-row_none : (n : Node) (cs : List Cell) (xs : List Array) (tiles : List Places) (c : Cell) → has_cell cs c ≡ false → tiles_of (put_each n cs xs tiles) c ≡ tiles_of tiles c
put-row_none n [] xs tiles c h = refl
put-row_none n (d ∷ cs) [] tiles c h = refl
put-row_none n (d ∷ cs) (x ∷ xs) tiles c h =
    let parts = or_parts (same_cell d c) (has_cell cs c) h in
    tiles-other (put_each n cs xs tiles) d c (at_node n x) (λ e. same_cell-unlike d c parts.0 (sym e)) ∙ put-row_none n cs xs tiles c parts.1

-- what a cell finds in a list of arrays: the first one, or what it finds in the others
pub held_in-cons : (p : Program) (d c : Cell) (x : Array) (cs : List Cell) (xs : List Array) → held_in p (zip (d ∷ cs) (x ∷ xs)) c ≡ cond (same_cell d c) x (held_in p (zip cs xs) c)
held_in-cons p d c x cs xs = elim (same_cell d c) as (λ b. elim (cond b (Some (d, x)) (find (λ entry. same_cell entry.0 c) (zip cs xs))) as (λ _. Array) [ None ↦ zeros (dims_of p c) | Some entry ↦ entry.1 ] ≡ cond b x (held_in p (zip cs xs) c)) [ true ↦ refl | false ↦ refl ]

pub put-row : (p : Program) (n : Node) (cs : List Cell) (xs : List Array) (tiles : List Places) (c : Cell) → ((d : Cell) → times cs d ≤ 1) → length cs ≡ length xs → c.0 < length tiles → has_cell cs c ≡ true → tiles_of (put_each n cs xs tiles) c ≡ at_node n (held_in p (zip cs xs) c) (tiles_of tiles c)
put-row p n [] xs tiles c once many inside h = absurd (false≢true h)
put-row p n (d ∷ cs) [] tiles c once many inside h = absurd (omega arith)
put-row p n (d ∷ cs) (x ∷ xs) tiles c once many inside h =
    by_case (same_cell d c) refl h (λ has. put-row p n cs xs tiles c (λ e. (let o = once e in let t = times-cons d cs e in omega arith)) (omega arith) inside has)
    ∙ ap (λ (a : Array). at_node n a (tiles_of tiles c)) (sym (held_in-cons p d c x cs xs))
  where
    by_case : (b : Bool) → same_cell d c ≡ b → (b || has_cell cs c) ≡ true → (has_cell cs c ≡ true → tiles_of (put_each n cs xs tiles) c ≡ at_node n (held_in p (zip cs xs) c) (tiles_of tiles c)) → tiles_of (put_each n (d ∷ cs) (x ∷ xs) tiles) c ≡ at_node n (cond b x (held_in p (zip cs xs) c)) (tiles_of tiles c)
    by_case true same has rest =
        let gone : has_cell cs c ≡ false = false_from_ne_true (has_cell cs c) (λ more. (let o = once c in let t = times-cons d cs c in let one : tally (same_cell d c) ≡ 1 = ap tally same in let k = times-has cs c more in omega arith)) in
        ap (λ (k : Cell). tiles_of (with_tiles_of (put_each n cs xs tiles) k (at_node n x)) c) (same_cell-is d c same)
        ∙ tiles-same (put_each n cs xs tiles) c (at_node n x) (omega (arith, inside, length-put_each n cs xs tiles))
        ∙ ap (at_node n x) (put-row_none n cs xs tiles c gone)
    by_case false same has rest = tiles-other (put_each n cs xs tiles) d c (at_node n x) (λ e. same_cell-unlike d c same (sym e)) ∙ rest has
