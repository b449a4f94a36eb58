-- What agrees between the lowering so far and the state of the job, and how far the program has the lowering.
use Rattle.sj_lower.proofs.Words.{Act, add_own, ap, append_assoc, Bool, Cell, cell_of, Cells, cells_after, cond, false, Invalidates, IsPlace, JobState, length, List, Lowered, Lowering, OpenPhase, Option, Plans, Prints, Program, Reduces, refl, Registers, root_of, RootState, rows_added, same_cell, Some, Statement, subst, Tasks, true, Unregisters, with_new_root, with_phase, ℕ, ◌++◌, ◌∙◌, ◌≡◌}
use Rattle.sj_base.proofs.SameIds.{same_cell-is, same_cell-itself}
use Rattle.sj_lower.proofs.{Combined.Phases, Contents.contents_before, Copies.take-more, Folding.Stand, Folding.stand-there, Growing.Grows, Growing.grows-refl, Growing.grows-trans, Holding.HasCells, Holding.HaveRoots, Holding.HaveTheirs, Laid.AreLaid}

-- ---- the program begins with what is lowered so far

pub record Begins (p : Program) (L : Lowering) : Type 0 where
  pub cells : HasCells p L.cells
  pub tasks : List Lowered
  pub all_tasks : p.tasks ≡ L.tasks ++ tasks

-- from a lowering with more cells and tasks
pub begins-less : (p : Program) (L M : Lowering) (ls : List Lowered) → Grows L.cells.rows M.cells.rows → M.tasks ≡ L.tasks ++ ls → Begins p M → Begins p L
begins-less p L M ls g e b = record {
  cells = grows-trans L.cells.rows M.cells.rows p.cells g b.cells;
  tasks = ls ++ b.tasks;
  all_tasks = b.all_tasks ∙ ap (λ ts. ts ++ b.tasks) e ∙ append_assoc L.tasks ls b.tasks;
}

-- the tasks that are more stand in the program
pub stands-more : (p : Program) (L M : Lowering) (ls : List Lowered) → M.tasks ≡ L.tasks ++ ls → Begins p M → Stand p (length L.tasks) ls
stands-more p L M ls e b = stand-there p L.tasks ls b.tasks (b.all_tasks ∙ ap (λ ts. ts ++ b.tasks) e)

pub cells-grow : (a : Act (List ℕ)) (C : Cells) → Grows C.rows (cells_after a C).rows
cells-grow (Registers r) C = take-more (with_new_root r.name r.dims C) r.name r.parts
cells-grow (Plans name p) C = take-more C name p
cells-grow (Reduces name by) C = grows-refl C.rows
cells-grow (Tasks t) C = grows-refl C.rows
cells-grow (Prints name) C = grows-refl C.rows
cells-grow (Invalidates name) C = grows-refl C.rows
cells-grow (Unregisters name) C = grows-refl C.rows

pub begins-own : (p : Program) (S : JobState) (s : Statement (List ℕ)) (L : Lowering) → Begins p (add_own S s L) → Begins p L
begins-own p S s L b = begins-less p L (add_own S s L) (rows_added S (cells_after s.act L.cells) s.line s.act) (cells-grow s.act L.cells) refl b

pub stands-own : (p : Program) (S : JobState) (s : Statement (List ℕ)) (L : Lowering) → Begins p (add_own S s L) → Stand p (length L.tasks) (rows_added S (cells_after s.act L.cells) s.line s.act)
stands-own p S s L b = stands-more p L (add_own S s L) (rows_added S (cells_after s.act L.cells) s.line s.act) refl b

-- ---- what agrees

-- the cell is that of a child of a name's active plan
pub record IsActiveChild (C : Cells) (S : JobState) (c : Cell) : Type 0 where
  pub name : List ℕ
  pub root : RootState
  pub is_root : root_of S name ≡ Some root
  pub place : ℕ × ℕ
  pub placed : IsPlace root.parts place
  pub cell : c ≡ cell_of C name root.parts place

pub record Agrees (p : Program) (L : Lowering) (S : JobState) : Type 0 where
  pub laid : AreLaid L.cells
  pub theirs : HaveTheirs p.workers L.cells L.phase
  pub roots : HaveRoots p L.cells L.phase (length L.tasks) (contents_before p (length L.tasks)) S
  pub opened : (c : Cell) (f : OpenPhase) → L.phase c ≡ Some f → IsActiveChild L.cells S c

-- ---- the phase of one cell

pub phase-own : (c : Cell) (o : Option OpenPhase) (phase : Phases) → with_phase c o phase c ≡ o
phase-own c o phase = ap (λ b. cond b o (phase c)) (same_cell-itself c)

pub phase-other : (c : Cell) (o : Option OpenPhase) (phase : Phases) (d : Cell) → same_cell c d ≡ false → with_phase c o phase d ≡ phase d
phase-other c o phase d e = ap (λ b. cond b o (phase d)) e

-- by whether it is that cell
pub by_cell : (P : Cell → Type 0) (c d : Cell) → P c → (same_cell c d ≡ false → P d) → P d
by_cell P c d own other = by_test (same_cell c d) refl
  where
    by_test : (b : Bool) → same_cell c d ≡ b → P d
    by_test true e = subst P (same_cell-is c d e) own
    by_test false e = other e
