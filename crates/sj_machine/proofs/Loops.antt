-- The loops that change the rows of some cells are the tables in which all rows are renewed by a test.
use Rattle.sj_machine.proofs.Words.{ap, arith, Cell, CellState, get_or, has_cell, if◌then◌else◌, length, List, renewed, sym, with_rows_of, ℕ, ◌<◌, ◌∙◌, ◌≡◌, ◌≤◌}
use Rattle.std.proofs.lemmas.List.{ext_get_or}
use Rattle.sj_core.proofs.{CellLists.cells-written, CellLists.times, Reading.no_row, Tables.length-renewed, Tables.renewed-at}

-- rows that are changed one after another, each once, are the rows all changed at once
pub rows-written : (f : CellState → CellState) (cs : List Cell) (rows : List CellState) → ((c : Cell) → times cs c ≤ 1) → with_rows_of rows cs f ≡ renewed (λ k row. let c : Cell = record { 0 = k } in if has_cell cs c then f row else row) rows
rows-written f cs rows once = cells-written (λ c row. f row) no_row cs rows once

-- a table that is renewed twice
pub renewed-twice : {X : Type 0} (f g h : ℕ → X → X) (rows : List X) (d : X) → ((k : ℕ) → k < length rows → f k (g k (get_or rows k d)) ≡ h k (get_or rows k d)) → renewed f (renewed g rows) ≡ renewed h rows
renewed-twice f g h rows d both =
    ext_get_or d (renewed f (renewed g rows)) (renewed h rows) (length-renewed f (renewed g rows) ∙ length-renewed g rows ∙ sym (length-renewed h rows)) (λ k inside.
    (let first : k < length (renewed g rows) = omega (arith, inside, length-renewed f (renewed g rows)) in
    let before : k < length rows = omega (arith, first, length-renewed g rows) in
    renewed-at f (renewed g rows) k d first ∙ ap (f k) (renewed-at g rows k d before) ∙ both k before ∙ sym (renewed-at h rows k d before)))
