-- Entries of a node that are taken away.
use Rattle.sj_machine.proofs.Words.{[], All, AreUnpinned, arith, Cell, false, get_or, has_entry, is_of_cell, is_of_cells, length, List, NodeEntry, not, pins_of, refl, take, true, without_all, without_entry, ℕ, ◌<◌, ◌∷◌, ◌≡◌}
use Rattle.std.proofs.lemmas.{Bool.cases_Bool, Bool.or_parts, List.Elements.All-filter, List.Elements.All-tail, List.Folds.list_any_at}

-- where the cell has no entry
pub without_entry-absent : (c : Cell) (es : List NodeEntry) → has_entry es c ≡ false → without_entry c es ≡ es
without_entry-absent c [] h = refl
without_entry-absent c (e ∷ es) h = search (arith, or_parts, without_entry-absent c es)

-- a cell none of whose entries is pinned
unpinned-pins : (c : Cell) (es : List NodeEntry) → All (λ e. is_of_cell c e ≡ true → e.pins ≡ 0) es → pins_of es c ≡ 0
unpinned-pins c [] h = refl
unpinned-pins c (e ∷ es) h = (let here = h 0 e (omega arith) in search (arith, cases_Bool, unpinned-pins c es (All-tail (λ (x : NodeEntry). is_of_cell c x ≡ true → x.pins ≡ 0) e es h)))

-- a cell among those whose entries are unpinned, with some of these entries gone
pub unpinned-rest : (cells : List Cell) (es : List NodeEntry) (i : ℕ) (d : Cell) → i < length cells → AreUnpinned cells es → pins_of (without_all (take i cells) es) (get_or cells i d) ≡ 0
unpinned-rest cells es i d inside h =
    let c = get_or cells i d in
    unpinned-pins c (without_all (take i cells) es) (All-filter (λ e. not (is_of_cells (take i cells) e)) (λ e. is_of_cell c e ≡ true → e.pins ≡ 0) es (λ k x within is. h k x within (list_any_at (λ y. is_of_cell y (get_or es k x)) cells i d inside is)))

-- a cell without an entry, with some entries gone
pub absent-rest : (cells : List Cell) (es : List NodeEntry) (c : Cell) → has_entry es c ≡ false → has_entry (without_all cells es) c ≡ false
absent-rest cells [] c h = refl
absent-rest cells (e ∷ es) c h = search (arith, or_parts, cases_Bool, absent-rest cells es c)
