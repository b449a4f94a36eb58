-- A cell whose old value a task reads has been written by the time that the task may run.
use Rattle.sj_core.proofs.Words.{Access, access, ap, arith, Array, Bool, Cell, cells_of, Codelet, codelet_of, CommuteMode, cond, Conflict, Contains, copy_of, count_by, data_operands, done_by, EarlierAreDone, Equations, false, filter, FitsCodelet, formals_of, found, fresh_cells, gives_value, has_cell, has_written, HasValueBefore, inl, inr, is_output, is_redux, is_scratch, is_written, IsShared, IsTrue, Kernel, length, List, MakesTiles, Manner, map, MayHaveModes, Mode, modes_writing_by, not, own_modes, Program, Proper, R, reads_value, Redux, refl, results, same_cell, Scratch, starts_as_zeros, State, subst, suc, sym, Task, task_of, tasks_of, true, Uses, W, worked_on, Worker, Write, writes, WritesAreCounted, written_cells, zero, ℕ, ℤ, ◌&&◌, ◌<◌, ◌∙◌, ◌≡◌, ◌⊎◌}
use Rattle.std.proofs.lemmas.{List.Sums.length-filter, List.length-map, Bool.false≢true, Bool.Decides.Decides-eqb, List.Elements.All-contains}
use Rattle.sj_codelet.proofs.Table.{codelet_of-kernel}
use Rattle.sj_base.proofs.{Lists.list_any-numbered, Lists.sum_by-agree, Lists.sum_by-map, SameIds.same_cell-is}
use Rattle.sj_core.proofs.{Dependencies.Proper-dependencies, Readiness.Contains-filter, Readiness.list_any-some, Sharing.manner_of, Sharing.operand-has_cell, Sharing.operand-uses, Sharing.operand_for, Sharing.redux-has_copies, Sharing.write_isn't_read, Sums.counted-has}

-- ---- a task's codelet has a new array for each operand that the task writes

-- a test counts as many after a map under which it answers the same
count_by-map : {X Y : Type 0} (f : X → Y) (test : Y → Bool) (test' : X → Bool) (xs : List X) → ((x : X) → test (f x) ≡ test' x) → count_by test (map f xs) ≡ count_by test' xs
count_by-map f test test' xs same =
    sum_by-map (λ y. cond (test y) 1 0) f xs ∙ sum_by-agree (λ x. cond (test (f x)) 1 0) (λ x. cond (test' x) 1 0) (λ x. ap (λ b. cond b 1 0) (same x)) xs

-- a kernel has a new array for each of its own operands that is written
own-count : (eq : Equations) (k : Kernel) → MakesTiles eq k → (args : List ℤ) (ins : List Array) → length (eq (codelet_of k) args ins) ≡ count_by is_written (own_modes k)
own-count eq k makes args ins = makes.count args ins ∙ outputs-count k
  where
    outputs-count : (j : Kernel) → length (filter is_output (formals_of j)) ≡ count_by is_written (own_modes j)
    outputs-count j = search (arith, length-filter, count_by-map)

-- another mode for what is written is as many written operands
writing_by-count : (x : Mode) → is_written x ≡ true → (k : Kernel) → count_by is_written (modes_writing_by x k) ≡ count_by is_written (own_modes k)
writing_by-count x written k = search (arith, count_by-map)

modes-count : (k : Kernel) (modes : List Mode) → MayHaveModes k modes → count_by is_written modes ≡ count_by is_written (own_modes k)
modes-count k modes x = search (arith, writing_by-count)

-- a task that fits its codelet has as many results as written cells
pub results-complete : (eq : Equations) (p : Program) (t : Task) (w : Worker) (held : Cell → Array) (fit : FitsCodelet p (task_of p t)) → MakesTiles eq fit.kernel → length (results eq p t w held) ≡ length (written_cells p t w)
results-complete eq p t w held fit makes =
    let l = task_of p t in
    let ins : List Array = map (found p w held) l.accesses in
    let writes : Access → Bool = λ a. is_written a.mode in
    ap (λ (id : Codelet). length (eq id l.args ins)) (codelet_of-kernel l.codelet fit.kernel fit.codelet)
    ∙ own-count eq fit.kernel makes l.args ins
    ∙ sym (modes-count fit.kernel (map (λ (a : Access). a.mode) l.accesses) fit.modes)
    ∙ count_by-map (λ (a : Access). a.mode) is_written writes l.accesses (λ a. refl)
    ∙ sym (length-filter writes l.accesses)
    ∙ sym (length-map (filter writes l.accesses) (worked_on p w))

-- ---- a cell whose old value a task reads has been written by the time that the task may run

module _ (p : Program) (proper : Proper p) (s : State) (t : Task) (w : Worker) (inside : t.0 < length p.tasks) (staffed : w.0 < p.workers) (earlier : EarlierAreDone p s t) (c : Cell) where
  -- a task conflicts with each later one that uses what it writes by itself
  conflicts : (u : Task) (n : Manner) → Uses p u.0 c.0 Write → Uses p t.0 c.0 n → Conflict p u.0 t.0
  conflicts u n first second = record {
    cell = c.0;
    manner_of_t = Write;
    manner_of_u = n;
    first = first;
    second = second;
    written = λ both. write_isn't_read both.0;
    apart = λ k g. subst IsShared (sym ((Proper-dependencies p proper).manners u.0 c.0 Write k first g.first)) g.shared;
  }

  -- a task that gives the cell a value commutes there, or writes it by itself, whatever its worker
  giver : (u : Task) → u.0 < length p.tasks → (x : Mode) (d : Cell) → Contains (task_of p u).accesses (access x d) → (is_written x && not (is_redux x) && same_cell d c) ≡ true →
      ((x ≡ CommuteMode) × (d ≡ c)) ⊎ (Uses p u.0 c.0 Write × ((v : Worker) → has_cell (written_cells p u v) c ≡ true))
  giver u u_in CommuteMode d has passes = inl (refl, same_cell-is d c passes)
  giver u u_in R d has passes = absurd (false≢true passes)
  giver u u_in Redux d has passes = absurd (false≢true passes)
  giver u u_in Scratch d has passes = absurd (false≢true passes)
  giver u u_in x d has passes =
      let uses = operand-uses p u w x d u_in has refl (λ e. absurd (false≢true e)) in
      let writes : (v : Worker) → has_cell (written_cells p u v) c ≡ true =
      λ v. operand-has_cell (worked_on p v) (λ a. is_written a.mode) (task_of p u).accesses (access x d) c has refl passes in
      inr (subst (λ (q : Cell). Uses p u.0 q.0 Write) (same_cell-is d c passes) uses, writes)

  -- some done task wrote a cell that had a value before a task that uses it
  wrote : (n : Manner) → Uses p t.0 c.0 n → (bound : ℕ) (u : Task) → u.0 < bound → u.0 < t.0 → gives_value (task_of p u) c ≡ true → (v : Task) × (v.0 < t.0) × (has_written p s c v ≡ true)
  wrote n uses zero u below before gives = absurd (omega arith)
  wrote n uses (suc bound) u below before gives =
      let found = list_any-some (λ (a : Access). is_written a.mode && not (is_redux a.mode) && same_cell a.cell c) (task_of p u).accesses gives in
      by_giver found.0 found.1 (giver u (omega (arith, before, inside)) found.0.mode found.0.cell found.1 found.2) (wrote n uses bound)
    where
      by_giver : (a : Access) → Contains (task_of p u).accesses a → ((a.mode ≡ CommuteMode) × (a.cell ≡ c)) ⊎ (Uses p u.0 c.0 Write × ((v : Worker) → has_cell (written_cells p u v) c ≡ true)) →
          ((v : Task) → v.0 < bound → v.0 < t.0 → gives_value (task_of p v) c ≡ true → (v : Task) × (v.0 < t.0) × (has_written p s c v ≡ true)) → (v : Task) × (v.0 < t.0) × (has_written p s c v ≡ true)
      by_giver a has (inr (by_itself, written)) later =
          let done = earlier u before (conflicts u n by_itself uses) in
          (u, before, ap (λ b. b && has_cell (written_cells p u (done_by s u)) c) done ∙ written (done_by s u))
      by_giver a has (inl (commutes, same)) later = search (arith, All-contains)

  -- a cell of the task that it doesn't find as zeros had a value before it, and is used by it
  old_value : has_cell (cells_of p t w) c ≡ true → has_cell (fresh_cells p t w) c ≡ false → HasValueBefore p t c × ((n : Manner) × Uses p t.0 c.0 n)
  old_value has not_fresh =
      let found = operand_for (worked_on p w) (λ a. not (is_scratch a.mode)) (task_of p t).accesses c has in
      let uses = operand-uses p t w found.0.mode found.0.cell inside found.1 found.2 (λ redux. (let c = redux-has_copies p proper.cells t inside found.0.mode found.0.cell found.1 redux in (staffed, c.0, c.1))) in
      (by_mode found.0.mode found.0.cell found.1 found.2 found.3, (manner_of (task_of p t).codelet found.0.mode, subst (λ (q : Cell). Uses p t.0 q.0 (manner_of (task_of p t).codelet found.0.mode)) found.3 uses))
    where
      value : (a : Access) → Contains (task_of p t).accesses a → reads_value a.mode ≡ true → HasValueBefore p t a.cell
      value a has reads = All-contains (λ (b : Access). IsTrue (reads_value b.mode) → HasValueBefore p t b.cell) (task_of p t).accesses a (proper.values.cells t) has reads

      by_mode : (x : Mode) (d : Cell) → Contains (task_of p t).accesses (access x d) → not (is_scratch x) ≡ true → worked_on p w (access x d) ≡ c → HasValueBefore p t c
      by_mode Scratch d has accessed is = absurd (false≢true accessed)
      by_mode W d has accessed is =
          let among : Contains (data_operands (task_of p t)) (access W d) = Contains-filter (λ (a : Access). not (is_scratch a.mode)) (task_of p t).accesses (access W d) refl has in
          let fresh = operand-has_cell (worked_on p w) (λ a. starts_as_zeros a.mode) (data_operands (task_of p t)) (access W d) c among refl ((Decides-eqb d.0 c.0).1 (ap (λ (q : Cell). q.0) is)) in
          absurd (false≢true (sym not_fresh ∙ fresh))
      by_mode Redux d has accessed is = subst (HasValueBefore p t) is (All-contains (λ (b : Access). IsTrue (is_redux b.mode) → (v : Worker) → v.0 < p.workers → HasValueBefore p t (copy_of p b.cell v)) (task_of p t).accesses (access Redux d) (proper.values.copies t) has refl w staffed)
      by_mode x d has accessed is = subst (HasValueBefore p t) is (value (access x d) has refl)

  -- and so it has been written
  pub old_value-written : WritesAreCounted p s → has_cell (cells_of p t w) c ≡ true → has_cell (fresh_cells p t w) c ≡ false → 0 < writes s c
  old_value-written counts has not_fresh =
      let both = old_value has not_fresh in
      let found = wrote both.1.0 both.1.1 t.0 both.0.0 both.0.1 both.0.1 both.0.2 in
      let all = counted-has (has_written p s c) (tasks_of p) (list_any-numbered (λ n. record { 0 = n }) (has_written p s c) found.0.0 (length p.tasks) (omega (arith, found.1, inside)) found.2) in
      omega (arith, counts.counted c)
