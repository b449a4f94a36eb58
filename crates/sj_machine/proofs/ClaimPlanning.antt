-- What is found in planning a claim.
use Rattle.sj_machine.proofs.Words.{[], Access, All, area, arith, Bool, Cell, CellInfo, cells_of, distinct, filter, has_entry, HasSmallTask, HasSmallWork, is_data, IsSmallCell, lacking, length, List, Lowered, map, no_cell, no_task, not, Program, Proper, Store, sum, sym, Task, task_of, tile_bytes, worked_on, Worker, ◌*◌, ◌<◌, ◌^◌, ◌∙◌, ◌∷◌, ◌≤◌}
use Rattle.std.proofs.lemmas.{List.length-map, List.Elements.All-filter, List.Elements.All-get_or, List.Elements.All-map, List.Elements.All-weaker, List.Sums.count_by-le-length, List.Sums.length-filter, List.Sums.sum-map, List.Sums.sum_by-le}
use Rattle.sj_core.proofs.CellLists.{has_cell-distinct}
use Rattle.sj_machine.proofs.{ClaimFinding.All-of, FewPins.few-operands, Happening.All-has, Written.can-work, Written.works-small}

-- ---- small cells

length-distinct : (xs : List Cell) → length (distinct xs) ≤ length xs
length-distinct [] = omega arith
length-distinct (x ∷ xs) = search (arith, length-distinct xs)

-- each operand of a proper program's task is of a small cell
proper-small : (p : Program) → Proper p → (t : Task) → t.0 < length p.tasks → HasSmallTask p t
proper-small p proper t known = record {
  task = known;
  cells = All-weaker (λ a. a.cell.0 < length p.cells) (λ a. IsSmallCell p a.cell) (λ a inside. record { cell = inside; small = All-get_or (λ (c : CellInfo). area c.dims ≤ 2 ^ 24) p.cells a.cell.0 no_cell inside proper.limits.elements }) (task_of p t).accesses
      (All-get_or (λ (l : Lowered). All (λ a. a.cell.0 < length p.cells) l.accesses) p.tasks t.0 no_task known proper.cells.named);
  few = few-operands p proper t;
}

-- and so a worker can work on it
pub proper-work : (p : Program) → Proper p → (t : Task) → t.0 < length p.tasks → (w : Worker) → w.0 < p.workers → HasSmallWork p t w
proper-work p proper t known w staffed = record { task = proper-small p proper t known; can = can-work p proper t known w staffed; small = works-small p proper t known w staffed }

module _ (p : Program) (t : Task) (w : Worker) (work : HasSmallWork p t w) where
  abbrev cells : List Cell
  cells = cells_of p t w

  pub work-few : length cells ≤ 5
  work-few =
      let kept : Access → Bool = λ a. is_data a.mode in
      omega (arith, length-map (filter kept (task_of p t).accesses) (worked_on p w), length-filter kept (task_of p t).accesses, count_by-le-length kept (task_of p t).accesses, work.task.few)

  -- the cells that are lacking are few and small
  pub lacking-small : (s : Store) → All (IsSmallCell p) (lacking s cells)
  lacking-small s = All-filter (λ c. not (has_entry s.entries c)) (IsSmallCell p) (distinct cells) (All-has (IsSmallCell p) (distinct cells) (λ c has. All-of (IsSmallCell p) cells c
      (All-map (IsSmallCell p) (worked_on p w) (filter (λ a. is_data a.mode) (task_of p t).accesses) (All-filter (λ a. is_data a.mode) (λ a. IsSmallCell p (worked_on p w a)) (task_of p t).accesses work.small)) (sym (has_cell-distinct cells c) ∙ has)))

  pub lacking-sum : (s : Store) → sum (map (tile_bytes p) (lacking s cells)) ≤ 5 * 2 ^ 27
  lacking-sum s =
      let test : Cell → Bool = λ d. not (has_entry s.entries d) in
      omega (arith, sum-map (tile_bytes p) (lacking s cells), sum_by-le (tile_bytes p) (2 ^ 27) (lacking s cells) (λ i d inside. (let bound = (lacking-small s i d inside).small in omega arith)), length-filter test (distinct cells), count_by-le-length test (distinct cells), length-distinct cells, work-few)
