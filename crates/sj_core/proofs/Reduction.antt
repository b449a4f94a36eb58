-- A job with a reduction on two workers: a sum to a scalar of which each has a partial copy. While the phase is open, another
-- task has the scalar as a scratch buffer, which is no access. The program is proper.
use Rattle.sj_core.proofs.Words.{[], Access, Add, All, AllPairs, ap, area, arith, Bool, Cell, cell, cell_info, Contains, Contributing, copy_of, data_operands, Deliver, dims_of, false, fits, FitsCodelet, GemmThree, get_or, gives_value, HasDeliveries, HasPhases, HasValueBefore, InitPlus, inl, inr, is_read_only, is_redux, is_some, IsCombine, IsContribution, IsCopyOf, IsInit, IsOfPhase, IsPhase, IsTrue, IsUnaliased, IsWithinLimits, Kernel, kernel_of, List, list_all, list_any, lit<, lit≤, Load, Lowered, map, Mode, NamesCells, nat_eq, nat_le, nat_lt, no_task, None, not, Option, Own, own_modes, Phase, Plus, pos, Program, Proper, R, range_with_len, reads_value, ReadsValues, Redux, refl, RW, same_cell, Scratch, Some, subst, suc, Sum, sym, Task, task_number, task_of, Touches, true, W, Worker, worker, zero, ℕ, ◌&&◌, ◌+◌, ◌<◌, ◌^◌, ◌||◌, ◌∷◌, ◌≡◌, ◌≤◌, ◌⊎◌}
use Rattle.std.proofs.lemmas.{Bool.and_from, Bool.and_parts, Bool.cases_lt, Bool.eqb-true, Bool.false≢true, Bool.le-leb, Bool.ltb-true, List.get_or_past, List.Elements.All-contains, List.Elements.All-from_get_or, List.Elements.All-from_recursion, List.Elements.All-nil, List.Elements.Contains-append_cases, List.Elements.Contains-get_or, List.FromFn.get_or-range_with_len, List.FromFn.length-range_with_len, List.Kept.AllPairs-cons, List.Sums.AllPass-from_list_all}
use Rattle.sj_base.proofs.Bools.{implied}
use Rattle.sj_core.proofs.{Readiness.list_any-some, Worked.a_task, Worked.access, Worked.columns}

-- x, d and s are loaded; the copies of s are filled, x is added to s by a contribution, and the copies are combined;
-- d gets x times x times x in between, with s as scratch; s is printed
abbrev pub job : Program
job = record {
  cells = columns 1 None ∷ columns 1 None ∷ columns 1 (Some (cell 3)) ∷ columns 1 None ∷ columns 1 None ∷ [];
  tasks = a_task Load (pos 2 ∷ []) (access W 0 ∷ []) ∷
      a_task Load (pos 3 ∷ []) (access W 1 ∷ []) ∷
      a_task Load (pos 5 ∷ []) (access W 2 ∷ []) ∷
      a_task InitPlus [] (access W 3 ∷ []) ∷
      a_task InitPlus [] (access W 4 ∷ []) ∷
      a_task Sum [] (access R 0 ∷ access Redux 2 ∷ []) ∷
      a_task GemmThree [] (access R 0 ∷ access R 0 ∷ access R 0 ∷ access Scratch 2 ∷ access RW 1 ∷ []) ∷
      a_task Add [] (access R 3 ∷ access RW 2 ∷ []) ∷
      a_task Add [] (access R 4 ∷ access RW 2 ∷ []) ∷
      a_task Deliver [] (access R 2 ∷ []) ∷
      [];
  deliveries = (record { task = record { 0 = 9 }; root = record { 0 = 2 }; place = (0, 0); print = 0 }) ∷ [];
  workers = 2;
}

abbrev pub phase : Phase
phase = record { cell = cell 2; by = Plus; inits = 3 ∷ 4 ∷ []; contributions = 5 ∷ []; combines = 7 ∷ 8 ∷ [] }

-- ---- computed tests

-- a test that each task's number passes
numbers-pass : (test : ℕ → Bool) → list_all test (range_with_len 0 10) ≡ true → (n : ℕ) → n < 10 → test n ≡ true
numbers-pass test all n inside =
    search (arith, get_or, get_or-range_with_len, AllPass-from_list_all, length-range_with_len)

-- a test that each operand passes, by the number of its task
operands-pass : (of : Lowered → List Access) (none : of no_task ≡ []) (test : ℕ → Access → Bool) → list_all (λ n. list_all (test n) (of (task_number job n))) (range_with_len 0 10) ≡ true → (n : ℕ) (a : Access) → Contains (of (task_number job n)) a → test n a ≡ true
operands-pass of none test all n a (k, within, is) =
    search (arith, cases_lt, job, get_or_past, numbers-pass, AllPass-from_list_all)

abbrev accesses : Lowered → List Access
accesses l = l.accesses

pass : (test : ℕ → Access → Bool) → list_all (λ n. list_all (test n) (accesses (task_number job n))) (range_with_len 0 10) ≡ true → (n : ℕ) (a : Access) → Contains (task_number job n).accesses a → test n a ≡ true
pass test all n a h = operands-pass accesses refl test all n a h

-- s or a copy of it
abbrev touches_s : ℕ → Bool
touches_s n = nat_le 2 n

abbrev has : List ℕ → ℕ → Bool
has xs n = list_any (λ k. nat_eq k n) xs

among : (xs : List ℕ) (n : ℕ) → list_any (λ k. nat_eq k n) xs ≡ true → Contains xs n
among xs n h = let found = list_any-some (λ k. nat_eq k n) xs h in subst (Contains xs) (eqb-true found.0 n found.2) found.1

-- ---- cells and copies

is_s : (n : ℕ) → is_some (cell_info job (cell n)).partials ≡ true → n ≡ 2
is_s n h = search (arith, false≢true)

copy_in : (n : ℕ) → n < 2 → (cell (3 + n) ≡ cell 3) ⊎ (cell (3 + n) ≡ cell 4)
copy_in n h = search arith

-- a partial copy is one of the two of s
copies_are : (q c : Cell) (w : Worker) → IsCopyOf job q c w → (c ≡ cell 2) × ((q ≡ cell 3) ⊎ (q ≡ cell 4))
copies_are q c w copy = search (arith, cell, is_s, job, copy_in)

names_cells : NamesCells job
names_cells =
    search (arith, All-from_get_or, cell, accesses, job, ltb-true, get_or, pass, Contains-get_or, copies_are, implied)

-- ---- codelets, aliases, values

own : (k : Kernel) (l : Lowered) → kernel_of l.codelet ≡ Some k → fits k l.args (map (λ a. dims_of job a.cell) l.accesses) ≡ true → map (λ a. a.mode) l.accesses ≡ own_modes k → FitsCodelet job l
own k l codelet operands modes = record { kernel = k; codelet = codelet; operands = operands; modes = Own modes }

also : {A B : Type 0} → A → B → A × B
also a b = (a, b)

codelets_fit : All (FitsCodelet job) job.tasks
codelets_fit = All-from_recursion (FitsCodelet job) job.tasks
    (also (own Load _ refl refl refl) (also (own Load _ refl refl refl) (also (own Load _ refl refl refl)
    (also (own InitPlus _ refl refl refl) (also (own InitPlus _ refl refl refl)
    (also (record { kernel = Sum; codelet = refl; operands = refl; modes = Contributing Plus refl refl refl })
    (also (own GemmThree _ refl refl refl) (also (own Add _ refl refl refl) (also (own Add _ refl refl refl)
    (also (own Deliver _ refl refl refl) tt))))))))))

pub read-is : (x : Mode) → is_read_only x ≡ true → x ≡ R
read-is x h = search (arith, false≢true)

abbrev apart : List Access → Bool
apart [] = true
apart (a ∷ as') = list_all (λ b. not (nat_eq a.cell.0 b.cell.0) || (is_read_only a.mode && is_read_only b.mode)) as' && apart as'

apart-pairs : (as' : List Access) → apart as' ≡ true → AllPairs (λ a b. IsTrue (same_cell a.cell b.cell) → (a.mode ≡ R) × (b.mode ≡ R)) as'
apart-pairs [] h = λ i j d before within. absurd (omega arith)
apart-pairs (a ∷ as') h =
    let both = and_parts (list_all (λ b. not (nat_eq a.cell.0 b.cell.0) || (is_read_only a.mode && is_read_only b.mode)) as') (apart as') h in
    AllPairs-cons (λ a b. IsTrue (same_cell a.cell b.cell) → (a.mode ≡ R) × (b.mode ≡ R)) a as' (λ k d within same.
    (let reads = and_parts _ _ (implied _ _ (AllPass-from_list_all (λ b. not (nat_eq a.cell.0 b.cell.0) || (is_read_only a.mode && is_read_only b.mode)) as' both.0 k d within) same) in
    (read-is _ reads.0, read-is _ reads.1))) (apart-pairs as' both.1)

unaliased : All IsUnaliased job.tasks
unaliased = All-from_get_or IsUnaliased job.tasks no_task (λ n inside. apart-pairs (data_operands (task_number job n)) (numbers-pass (λ i. apart (data_operands (task_number job i))) refl n inside))

-- a task before n gives the cell a value
abbrev gives_before : ℕ → Cell → Bool
gives_before n c = list_any (λ u. nat_lt u n && gives_value (task_number job u) c) (range_with_len 0 10)

value_before : (t : Task) (c : Cell) → gives_before t.0 c ≡ true → HasValueBefore job t c
value_before t c h =
    let found = list_any-some (λ u. nat_lt u t.0 && gives_value (task_number job u) c) (range_with_len 0 10) h in
    let both = and_parts _ _ found.2 in
    (record { 0 = found.0 }, ltb-true found.0 t.0 both.0, both.1)

reads_values : ReadsValues job
reads_values = record {
  cells = λ t k d within reads. value_before t _ (implied _ _ (pass (λ n a. not (reads_value a.mode) || gives_before n a.cell) refl t.0 (get_or (task_of job t).accesses k d) (Contains-get_or (task_of job t).accesses k d within)) reads);
  copies = λ t k d within redux w staffed.
      (let a = get_or (task_of job t).accesses k d in
      let both = and_parts _ _ (implied _ _ (pass (λ n a. not (is_redux a.mode) || (gives_before n (copy_of job a.cell (worker 0)) && gives_before n (copy_of job a.cell (worker 1)))) refl t.0 a (Contains-get_or (task_of job t).accesses k d within)) redux) in
      by_worker t a.cell both.0 both.1 w.0 staffed);
}
  where
    by_worker : (t : Task) (c : Cell) → gives_before t.0 (copy_of job c (worker 0)) ≡ true → gives_before t.0 (copy_of job c (worker 1)) ≡ true → (w : ℕ) → w < 2 → HasValueBefore job t (copy_of job c (worker w))
    by_worker t c first second zero h = value_before t _ first
    by_worker t c first second (suc zero) h = value_before t _ second
    by_worker t c first second (suc (suc w)) h = absurd (omega arith)

-- ---- the phase

is_phase : IsPhase job phase
is_phase = record {
  inits_by_worker = refl;
  combines_by_worker = refl;
  contributed = lit< tt;
  inits = λ w. init w.0;
  contributions = All-from_recursion (λ n. IsContribution Plus (cell 2) (task_number job n)) phase.contributions (record { kernel = Sum; codelet = refl; contributes = refl; operand = (1, lit< tt, refl) }, tt);
  combines = λ w. combine w.0;
  inits_first = All-from_recursion (λ i. All (λ n. i < n) phase.contributions) phase.inits (All-from_recursion (λ n. 3 < n) phase.contributions (lit< tt, tt), (All-from_recursion (λ n. 4 < n) phase.contributions (lit< tt, tt), tt));
  combines_last = All-from_recursion (λ n. All (λ k. n < k) phase.combines) phase.contributions (All-from_recursion (λ k. 5 < k) phase.combines (lit< tt, (lit< tt, tt)), tt);
  in_worker_order = AllPairs-cons (λ j k. j < k) 7 (8 ∷ []) (All-from_recursion (λ k. 7 < k) (8 ∷ []) (lit< tt, tt)) (AllPairs-cons (λ j k. j < k) 8 [] (All-nil (λ k. 8 < k)) (λ i j d before within. absurd (omega arith)));
  alone = λ n a is_open h touches.
      (let first : 3 ≤ is_open.begun.0 = All-contains (λ k. 3 ≤ k) phase.inits is_open.begun.0 (All-from_recursion (λ k. 3 ≤ k) phase.inits (lit≤ tt, (lit≤ tt, tt))) is_open.begun.1 in
      let last : is_open.unfinished.0 ≤ 8 = All-contains (λ k. k ≤ 8) phase.combines is_open.unfinished.0 (All-from_recursion (λ k. k ≤ 8) phase.combines (lit≤ tt, (lit≤ tt, tt))) is_open.unfinished.1 in
      let tested = operands-pass data_operands refl (λ n a. not (touches_s a.cell.0) || (not (nat_le 3 n && nat_le n 8) || has (3 ∷ 4 ∷ 5 ∷ 7 ∷ 8 ∷ []) n)) refl n a h in
      inl (member n (implied _ _ (implied _ _ tested (touched a touches)) (and_from _ _ (le-leb 3 n (omega (arith, first, is_open.begun.2))) (le-leb n 8 (omega (arith, last, is_open.unfinished.2)))))));
}
  where
    init : (w : ℕ) → w < 2 → IsInit Plus (copy_of job (cell 2) (worker w)) (task_number job (get_or phase.inits w 0))
    init w h = search arith

    combine : (w : ℕ) → w < 2 → IsCombine Plus (copy_of job (cell 2) (worker w)) (cell 2) (task_number job (get_or phase.combines w 0))
    combine w h = search arith

    touched : (a : Access) → Touches job (cell 2) a → touches_s a.cell.0 ≡ true
    touched a b = search (arith, copies_are, cell)

    member : (n : ℕ) → has (3 ∷ 4 ∷ 5 ∷ 7 ∷ 8 ∷ []) n ≡ true → IsOfPhase phase n
    member n h = elim (Contains-append_cases phase.inits (5 ∷ 7 ∷ 8 ∷ []) n (among (3 ∷ 4 ∷ 5 ∷ 7 ∷ 8 ∷ []) n h)) [
      | inl first ↦ inl first
      | inr rest ↦ inr (Contains-append_cases phase.contributions phase.combines n rest)
    ]

has_phases : HasPhases job
has_phases = record {
  phases = phase ∷ [];
  each = All-from_recursion (IsPhase job) (phase ∷ []) (is_phase, tt);
  copies = λ n a c w h copy.
      (let are = copies_are a.cell c w copy in
      let is : nat_le 3 a.cell.0 ≡ true = elim are.1 [ inl e ↦ ap (λ (k : Cell). nat_le 3 k.0) e | inr e ↦ ap (λ (k : Cell). nat_le 3 k.0) e ] in
      (phase, (0, lit< tt, refl), sym are.0, Contains-append_cases phase.inits phase.combines n (among (3 ∷ 4 ∷ 7 ∷ 8 ∷ []) n (implied _ _ (pass (λ n a. not (nat_le 3 a.cell.0) || has (3 ∷ 4 ∷ 7 ∷ 8 ∷ []) n) refl n a h) is))));
  contributions = λ n c h.
      (let tested = and_parts _ _ (pass (λ n a. not (is_redux a.mode) || (nat_eq a.cell.0 2 && nat_eq n 5)) refl n (record { mode = Redux; cell = c }) h) in
      (phase, (0, lit< tt, refl), ap cell (sym (eqb-true c.0 2 tested.0)), (0, lit< tt, sym (eqb-true n 5 tested.1))));
}

-- ---- deliveries and limits

abbrev is_deliver : Option Kernel → Bool
is_deliver (Some Deliver) = true
is_deliver _ = false

has_deliveries : HasDeliveries job
has_deliveries =
    search (arith, eqb-true, job, implied, numbers-pass, is_deliver, pass, cell, get_or, accesses, Contains-get_or, copies_are, false≢true)

is_limited : IsWithinLimits job
is_limited = record { tasks = lit≤ tt; cells = lit≤ tt; elements = All-from_recursion (λ c. area c.dims ≤ 2 ^ 24) job.cells (lit≤ tt, (lit≤ tt, (lit≤ tt, (lit≤ tt, (lit≤ tt, tt))))) }

-- a program with a phase in which a scratch buffer has the reduction's cell is proper
pub is_proper : Proper job
is_proper = record { cells = names_cells; codelets = codelets_fit; unaliased = unaliased; values = reads_values; phases = has_phases; deliveries = has_deliveries; limits = is_limited }
