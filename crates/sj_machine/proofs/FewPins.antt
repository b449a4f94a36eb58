-- A worker pins at most as many cells as a codelet has operands, and so a node's entries have few pins.
use Rattle.sj_machine.proofs.Words.{Access, after, arguments_fit, arith, AtNode, Bool, Cell, cells_of, Claim, count_by, data_operands, dims_fit, dims_of, Drop, End, Event, FitsCodelet, formals_of, get_or, idle_row, inl, inr, is_data, IsMachineFor, length, List, Lowered, Machine, map, Move, Moved, no_task, Node, node_of, OnDisk, opening, pins, pins_on, PinsFew, Program, Proper, Run, same_cell, set, State, subst, sym, Task, task_of, worked_on, Worker, workers_at, workers_of, WorkerState, ℕ, ◌&&◌, ◌≤◌}
use Rattle.std.specs.Prelude.{nat_eq}
use Rattle.std.proofs.lemmas.{Bool.and_parts, Bool.cases_eq, Bool.cases_lt, Bool.eqb-true, List.get_or-replicate, List.get_or-set_other, List.get_or-set_same, List.get_or_past, List.length-map, List.length-replicate, List.length-set, List.Elements.All-get_or, List.FromFn.length-map-range_with_len, List.Sums.count_by-le-length, List.Sums.length-filter, List.Sums.sum_by-le}
use Rattle.sj_core.proofs.Placing.{pins-same}
use Rattle.sj_codelet.proofs.Table.{few-formals}

-- ---- operands

pub few-operands : (p : Program) → Proper p → (t : Task) → length (task_of p t).accesses ≤ 5
few-operands p proper t =
    elim (cases_lt t.0 (length p.tasks)) [
      | inl inside ↦ of_fits (task_of p t) (All-get_or (FitsCodelet p) p.tasks t.0 no_task inside proper.codelets)
      | inr past ↦ subst (λ (l : Lowered). length l.accesses ≤ 5) (sym (get_or_past p.tasks t.0 no_task past)) (omega arith)
    ]
  where
    of_fits : (l : Lowered) → FitsCodelet p l → length l.accesses ≤ 5
    of_fits l fit =
        let ds = map (λ (a : Access). dims_of p a.cell) l.accesses in
        let counted : Bool = nat_eq (length ds) (length (formals_of fit.kernel)) in
        let both = and_parts (counted && arguments_fit fit.kernel l.args ds) (dims_fit fit.kernel l.args ds) fit.operands in
        let first = and_parts counted (arguments_fit fit.kernel l.args ds) both.0 in
        omega (arith, eqb-true (length ds) (length (formals_of fit.kernel)) first.0, few-formals fit.kernel, length-map l.accesses (λ (a : Access). dims_of p a.cell))

pub few-cells : (p : Program) → Proper p → (t : Task) (w : Worker) → length (cells_of p t w) ≤ 5
few-cells p proper t w =
    let test : Access → Bool = λ a. is_data a.mode in
    omega (arith, few-operands p proper t, length-map (data_operands (task_of p t)) (worked_on p w), length-filter test (task_of p t).accesses, count_by-le-length test (task_of p t).accesses)

-- ---- pins of a worker

-- where one worker's row was written
set-few : (ws : List WorkerState) (w v : Worker) (row : WorkerState) → length row.pins ≤ 5 → length (get_or ws v.0 idle_row).pins ≤ 5 → length (get_or (set ws w.0 row) v.0 idle_row).pins ≤ 5
set-few ws w v row few had = search (arith, cases_eq, cases_lt, get_or-set_other, get_or-set_same, get_or_past, length-set)

pub opening-few : (p : Program) (m : Machine) → PinsFew (opening p m)
opening-few p m v = search (arith, cases_lt, get_or-replicate, get_or_past, length-replicate)

-- each event keeps them few
pub few-after : (p : Program) (m : Machine) → Proper p → (s : State) (e : Event) → PinsFew s → PinsFew (after p m s e)
few-after p m proper s (Claim t w) had v = set-few s.workers w v _ (few-cells p proper t w) (had v)
few-after p m proper s (Move c from (AtNode n)) had v = subst (λ (cs : List Cell). length cs ≤ 5) (sym (pins-same s _ _ v)) (had v)
few-after p m proper s (Move c from (OnDisk d)) had v = subst (λ (cs : List Cell). length cs ≤ 5) (sym (pins-same s _ _ v)) (had v)
few-after p m proper s (Moved c from to) had v = subst (λ (cs : List Cell). length cs ≤ 5) (sym (pins-same s _ _ v)) (had v)
few-after p m proper s (Drop c n) had v = had v
few-after p m proper s (Run t w) had v = had v
few-after p m proper s (End t w) had v = set-few s.workers w v _ (omega arith) (had v)

-- ---- pins of an entry

pub pins_on-few : (p : Program) (m : Machine) → IsMachineFor p m → (s : State) → PinsFew s → (n : Node) (c : Cell) → pins_on m s n c ≤ 320
pins_on-few p m machine s few n c =
    let here : Worker → Bool = λ v. nat_eq (node_of m v).0 n.0 in
    let each : (v : Worker) → count_by (λ d. same_cell d c) (pins s v) ≤ 5 = λ v. (let a = count_by-le-length (λ d. same_cell d c) (pins s v) in let b = few v in omega arith) in
    let number : ℕ → Worker = λ i. record { 0 = i } in
    let all = sum_by-le (λ v. count_by (λ d. same_cell d c) (pins s v)) 5 (workers_at m n) (λ i d inside. each (get_or (workers_at m n) i d)) in
    let at_most = machine.few_workers in
    omega (arith, all, at_most, length-filter here (workers_of m), count_by-le-length here (workers_of m), length-map-range_with_len number 0 m.workers)
