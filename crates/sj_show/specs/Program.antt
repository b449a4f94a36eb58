-- The text of a lowered program: a line for the number of workers, for each cell, each task and each delivery, in this order.
use Rattle.std.specs.Prelude.{ℕ, Option, Some, None, List, [], ◌∷◌, ◌++◌, map, flat_map, codes, decimal}
use Rattle.std.specs.List.{enumerate_from}
use Rattle.sj_base.specs.declared.ids.Cell.{Cell}
use Rattle.sj_base.specs.declared.mode.Access.{Access}
use Rattle.sj_base.specs.declared.program.CellInfo.{CellInfo}
use Rattle.sj_base.specs.declared.program.Delivery.{Delivery}
use Rattle.sj_base.specs.declared.program.Lowered.{Lowered}
use Rattle.sj_base.specs.declared.program.Program.{Program}
use Rattle.sj_job.specs.Form.{mode_word}
use Rattle.sj_show.specs.Words.{codelet_name, integer_word, line_of_words, word_with}
use Rattle.sj_trace.specs.Text.{word}

-- `workers W`
abbrev pub line_of_workers : ℕ → List ℕ
line_of_workers n = line_of_words (codes "workers" ∷ decimal n ∷ [])

-- nothing, or the first of a cell's partial copies, of which there is one for each worker
abbrev pub copies_words : Option Cell → List (List ℕ)
copies_words None = []
copies_words (Some c) = codes "copies" ∷ word (codes "c") c.0 ∷ []

-- `cell cN rR ROWS COLS` or `cell cN rR ROWS COLS copies cM`
abbrev pub line_of_cell : ℕ × CellInfo → List ℕ
line_of_cell p = line_of_words (
    codes "cell" ∷ word (codes "c") p.0 ∷ word (codes "r") p.1.root.0 ∷ decimal p.1.dims.rows ∷ decimal p.1.dims.cols
    ∷ copies_words p.1.partials)

-- `cN:MODE`
abbrev pub access_word : Access → List ℕ
access_word a = word (codes "c") a.cell.0 ++ (58 ∷ mode_word a.mode)

-- `task tN line L prio P CODELET cN:MODE ..` or `task tN line L prio P CODELET(I1,I2,..) cN:MODE ..`
abbrev pub line_of_task : ℕ × Lowered → List ℕ
line_of_task p = line_of_words (
    codes "task" ∷ word (codes "t") p.0 ∷ codes "line" ∷ decimal p.1.line.0 ∷ codes "prio" ∷ integer_word p.1.priority
    ∷ word_with (codelet_name p.1.codelet) p.1.args ∷ map access_word p.1.accesses)

-- `delivery tN rR ROW COL print K`
abbrev pub line_of_delivery : Delivery → List ℕ
line_of_delivery d = line_of_words (
    codes "delivery" ∷ word (codes "t") d.task.0 ∷ word (codes "r") d.root.0 ∷ decimal d.place.0 ∷ decimal d.place.1
    ∷ codes "print" ∷ decimal d.print ∷ [])

-- cells and tasks by their numbers, which are their places
abbrev pub text_of_program : Program → List ℕ
text_of_program p =
    line_of_workers p.workers
    ++ flat_map line_of_cell (enumerate_from 0 p.cells)
    ++ flat_map line_of_task (enumerate_from 0 p.tasks)
    ++ flat_map line_of_delivery p.deliveries
