use Rattle.sj_machine.proofs.Words.{distinct, drop, filter, is_entry, length, mark_at, not, ◌++◌, ◌≡◌, ◌≤◌}
use Rattle.sj_machine.proofs.needs.lacking_cells.Given as goal

abbrev pub invariant-loop-i : goal.invariant-loop-i
invariant-loop-i l = record {
  cells : l.lacking ++ filter (λ c. not (is_entry (mark_at l.rows l.n c))) (distinct (drop l.i l.cells)) ≡ filter (λ c. not (is_entry (mark_at l.rows l.n c))) (distinct l.cells);
  few : length l.lacking ≤ l.i;
}
