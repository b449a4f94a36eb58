-- The entries of a node, whose bytes and pins are told by the cell, while a claim admits, touches and pins its cells.
use Rattle.sj_machine.proofs.Words.{[], ap, arith, Bool, CanTakeAll, Cell, entry_to_front, filter, fold, has_cell, has_entry, is_of_cell, is_of_cells, length, List, map, nat_eq, NodeEntry, not, pins_of, put_cells, refl, repinned, same_cell, Store, subst, sum_by, sym, taken, to_front, total, true, with_entries, without, without_all, without_entry, ℕ, ◌++◌, ◌+◌, ◌||◌, ◌∙◌, ◌∷◌, ◌≡◌, ◌≤◌}
use Rattle.std.proofs.lemmas.{Bool.cases_Bool, Bool.false≢true, Bool.or_right, List.Elements.filter-append, List.Elements.filter_agree, List.Sums.sum_by-cons}
use Rattle.sj_core.proofs.{CellLists.has_cell-to_front, CellLists.same_cell-refl, CellLists.same_cell-sym, CellLists.times, CellLists.times-cons, CellLists.times-to_front, Reading.same_cell-is, Sums.tally}
use Rattle.sj_node.proofs.CallerLemmas.{filter-map}
use Rattle.std.proofs.Math.Path.{fun_ext}
use Rattle.sj_base.proofs.Bools.{tally-le}

-- ---- lists of cells

-- cells go before a list, one after another
abbrev pub put_first : List Cell → List Cell → List Cell
put_first new cs = fold (λ kept c. c ∷ kept) cs new

pub has_cell-put_first : (new cs : List Cell) (c : Cell) → has_cell (put_first new cs) c ≡ (has_cell new c || has_cell cs c)
has_cell-put_first [] cs c = refl
has_cell-put_first (x ∷ new) cs c = grind (arith, has_cell-put_first new (x ∷ cs) c)

pub times-put_first : (new cs : List Cell) (c : Cell) → times (put_first new cs) c ≡ times new c + times cs c
times-put_first [] cs c = omega arith
times-put_first (x ∷ new) cs c = let rest = times-put_first new (x ∷ cs) c in let a = times-cons x cs c in let b = times-cons x new c in omega arith

-- a cell that comes to the front later needn't have been in the list
fronted-inside : (cs front back : List Cell) (x : Cell) → has_cell cs x ≡ true → fold to_front (front ++ x ∷ back) cs ≡ fold to_front (front ++ back) cs
fronted-inside [] front back x h = absurd (false≢true h)
fronted-inside (d ∷ cs) front back x h =
    let keep : Cell → Bool = λ e. not (same_cell e d) in
    let rest = fronted-inside cs (d ∷ filter keep front) (filter keep back) x in
    let whole = filter-append keep front (x ∷ back) in
    let short = filter-append keep front back in
    search (arith, cases_Bool, same_cell-sym, rest, whole, short)

pub fronted-put_first : (cs new xs : List Cell) → ((c : Cell) → has_cell new c ≡ true → has_cell cs c ≡ true) → fold to_front (put_first new xs) cs ≡ fold to_front xs cs
fronted-put_first cs [] xs among = refl
fronted-put_first cs (x ∷ new) xs among =
    fronted-put_first cs new (x ∷ xs) (λ c h. among c (or_right (same_cell x c) (has_cell new c) h))
    ∙ fronted-inside cs [] xs x (among x (ap (λ b. b || has_cell new x) (same_cell-refl x)))

-- what a list has once
filter-none : (c : Cell) (cs : List Cell) → times cs c ≡ 0 → filter (λ d. same_cell d c) cs ≡ []
filter-none c [] h = refl
filter-none c (x ∷ cs) h = grind (arith, times-cons x cs c, filter-none c cs)

filter-one : (c : Cell) (cs : List Cell) → has_cell cs c ≡ true → times cs c ≤ 1 → filter (λ d. same_cell d c) cs ≡ c ∷ []
filter-one c [] h once = absurd (false≢true h)
filter-one c (x ∷ cs) h once = grind (arith, times-cons x cs c, filter-none c cs, filter-one c cs, same_cell-is x c)

-- ---- entries by cell

module _ (bytes : Cell → ℕ) where
  abbrev pub entry : (Cell → ℕ) → Cell → NodeEntry
  entry pins c = record { cell = c; bytes = bytes c; pins = pins c }

  abbrev pub entries : (Cell → ℕ) → List Cell → List NodeEntry
  entries pins cs = map (entry pins) cs

  pub entries-has : (pins : Cell → ℕ) (cs : List Cell) (c : Cell) → has_entry (entries pins cs) c ≡ has_cell cs c
  entries-has pins [] c = refl
  entries-has pins (x ∷ cs) c = search (arith, same_cell-sym, entries-has pins cs c)

  pub entries-pins : (pins : Cell → ℕ) (cs : List Cell) (c : Cell) → pins_of (entries pins cs) c ≤ pins c
  entries-pins pins [] c = omega arith
  entries-pins pins (x ∷ cs) c = search (arith, same_cell-is, entries-pins pins cs c)

  pub entries-total : (pins : Cell → ℕ) (cs : List Cell) → total (entries pins cs) ≡ sum_by bytes cs
  entries-total pins [] = refl
  entries-total pins (x ∷ cs) = let a = sum_by-cons (λ (e : NodeEntry). e.bytes) (entry pins x) (entries pins cs) in let b = sum_by-cons bytes x cs in let rest = entries-total pins cs in omega arith

  pub entries-without : (pins : Cell → ℕ) (vs cs : List Cell) → without_all vs (entries pins cs) ≡ entries pins (without vs cs)
  entries-without pins vs cs = filter-map (entry pins) (λ e. not (is_of_cells vs e)) cs

  pub entries-put : (pins : Cell → ℕ) (new cs : List Cell) → ((c : Cell) → has_cell new c ≡ true → pins c ≡ 0) → put_cells new (map bytes new) (entries pins cs) ≡ entries pins (put_first new cs)
  entries-put pins [] cs none = refl
  entries-put pins (x ∷ new) cs none =
      ap (λ (k : ℕ). put_cells new (map bytes new) ((record { cell = x; bytes = bytes x; pins = k }) ∷ entries pins cs)) (sym (none x (ap (λ b. b || has_cell new x) (same_cell-refl x))))
      ∙ entries-put pins new (x ∷ cs) (λ c h. none c (or_right (same_cell x c) (has_cell new c) h))

  entries-to_front : (pins : Cell → ℕ) (c : Cell) (cs : List Cell) → has_cell cs c ≡ true → times cs c ≤ 1 → entry_to_front c (entries pins cs) ≡ entries pins (to_front cs c)
  entries-to_front pins c cs h once =
      let ours : filter (is_of_cell c) (entries pins cs) ≡ entries pins (c ∷ []) = filter-map (entry pins) (is_of_cell c) cs ∙ ap (entries pins) (filter_agree (λ d. nat_eq c.0 d.0) (λ d. same_cell d c) (λ d. same_cell-sym c d) cs ∙ filter-one c cs h once) in
      let rest : without_entry c (entries pins cs) ≡ entries pins (filter (λ d. not (same_cell d c)) cs) = filter-map (entry pins) (λ e. not (is_of_cell c e)) cs ∙ ap (entries pins) (filter_agree (λ d. not (nat_eq c.0 d.0)) (λ d. not (same_cell d c)) (λ d. ap not (same_cell-sym c d)) cs) in
      ap (λ (es : List NodeEntry). es ++ without_entry c (entries pins cs)) ours ∙ ap (λ (es : List NodeEntry). entry pins c ∷ es) rest

  abbrev pub more : (Cell → ℕ) → List Cell → Cell → ℕ
  more pins ds c = pins c + times ds c

  abbrev bumped : (Cell → ℕ) → Cell → Cell → ℕ
  bumped pins c d = pins d + tally (same_cell c d)

  entries-repinned : (pins : Cell → ℕ) (c : Cell) (cs : List Cell) → repinned (λ n. n + 1) c (entries pins cs) ≡ entries (bumped pins c) cs
  entries-repinned pins c [] = refl
  entries-repinned pins c (x ∷ cs) = search (arith, cases_Bool, entries-repinned pins c cs)

  -- one cell comes to the front and is pinned
  entries-taken : (s : Store) (pins : Cell → ℕ) (c : Cell) (cs : List Cell) → has_cell cs c ≡ true → times cs c ≤ 1 → taken (with_entries s (entries pins cs)) c ≡ with_entries s (entries (bumped pins c) (to_front cs c))
  entries-taken s pins c cs h once = ap (λ (es : List NodeEntry). with_entries s (repinned (λ n. n + 1) c es)) (entries-to_front pins c cs h once) ∙ ap (with_entries s) (entries-repinned pins c (to_front cs c))

  -- and so do all, one after another
  pub taken-all : (s : Store) (pins : Cell → ℕ) (ds cs : List Cell) → ((c : Cell) → has_cell ds c ≡ true → has_cell cs c ≡ true) → ((c : Cell) → times cs c ≤ 1) → fold taken (with_entries s (entries pins cs)) ds ≡ with_entries s (entries (more pins ds) (fold to_front cs ds))
  taken-all s pins [] cs there once = ap (λ (f : Cell → ℕ). with_entries s (entries f cs)) (fun_ext {f = pins} {g = more pins []} (λ c. (omega arith)))
  taken-all s pins (d ∷ ds) cs there once =
      let here : has_cell cs d ≡ true = there d (ap (λ b. b || has_cell ds d) (same_cell-refl d)) in
      ap (λ (x : Store). fold taken x ds) (entries-taken s pins d cs here (once d))
      ∙ taken-all s (bumped pins d) ds (to_front cs d) (λ c h. has_cell-to_front cs d c ∙ or_right (same_cell d c) (has_cell cs c) (there c (or_right (same_cell d c) (has_cell ds c) h))) (λ c. times-to_front cs d c (once c))
      ∙ ap (λ (f : Cell → ℕ). with_entries s (entries f (fold to_front (to_front cs d) ds))) (fun_ext {f = more (bumped pins d) ds} {g = more pins (d ∷ ds)} (λ c. (let a = times-cons d ds c in omega arith)))

  pub can_take-all : (s : Store) (pins : Cell → ℕ) (ds cs : List Cell) → ((c : Cell) → has_cell ds c ≡ true → has_cell cs c ≡ true) → ((c : Cell) → times cs c ≤ 1) → ((c : Cell) → pins c + length ds ≤ 1024) → CanTakeAll (with_entries s (entries pins cs)) ds
  can_take-all s pins [] cs there once few = tt
  can_take-all s pins (d ∷ ds) cs there once few =
      let here : has_cell cs d ≡ true = there d (ap (λ b. b || has_cell ds d) (same_cell-refl d)) in (
        entries-has pins cs d ∙ here,
        (let most = entries-pins pins cs d in let bound = few d in omega arith),
        subst (λ (x : Store). CanTakeAll x ds) (sym (entries-taken s pins d cs here (once d)))
            (can_take-all s (bumped pins d) ds (to_front cs d) (λ c h. has_cell-to_front cs d c ∙ or_right (same_cell d c) (has_cell cs c) (there c (or_right (same_cell d c) (has_cell ds c) h))) (λ c. times-to_front cs d c (once c)) (λ c. (let bound = few c in let most = tally-le (same_cell d c) in omega arith))),
      )
