-- What an event of a worker leaves as it is of another worker's row.
use Rattle.std.proofs.Common.{◌≡◌, ◌≢◌, ◌<◌, Bool, true, false, refl, sym, ap, ◌∙◌, subst, Option, None, Some, ◌&&◌}
use Rattle.std.proofs.lemmas.Bool.{false≢true, or_left, or_right}
use Rattle.std.proofs.lemmas.Bool.Decides.{Decides-eqb}
use Rattle.std.proofs.lemmas.List.Folds.{list_any_at}
use Rattle.sj_core.proofs.Eviction.{evicted-after}
use Rattle.sj_base.specs.declared.ids.Cell.{Cell}
use Rattle.sj_base.specs.declared.ids.Place.{Place}
use Rattle.sj_base.specs.declared.ids.Place.TheVariants.{Node as AtNode, Disk as OnDisk}
use Rattle.sj_base.specs.declared.ids.Task.{Task}
use Rattle.sj_base.specs.declared.ids.Worker.{Worker}
use Rattle.sj_base.specs.declared.program.Program.{Program}
use Rattle.sj_base.specs.declared.program.Machine.{Machine}
use Rattle.sj_base.specs.declared.trace.Event.{Event}
use Rattle.sj_base.specs.declared.trace.Event.TheVariants.{Claim, Move, Moved, Drop, Run, End}
use Rattle.sj_core.specs.declared.progress.Progress.{Progress}
use Rattle.sj_core.specs.declared.progress.Progress.TheVariants.{Waiting, Claimed, Running, Done}
use Rattle.sj_core.specs.declared.progress.Transfer.{Transfer}
use Rattle.sj_core.specs.Laws.{IsSound}
use Rattle.sj_core.specs.Machine.{CellState, State, WorkerState, cell_state, idle_row, is_running_on, is_task_of, progress, same_worker, transfer, worker_state, writes}
use Rattle.sj_core.proofs.Words.{Invalid, owned_at, with_mark, written_once_more}
use Rattle.sj_core.specs.Needs.{node_of}
use Rattle.sj_core.specs.Operands.{cells_of, written_cells}
use Rattle.sj_core.specs.Program.{has_cell, same_cell}
use Rattle.sj_core.specs.Step.{May, after, arrived, is_read, mover_of, reads_in, same_place}
use Rattle.sj_core.proofs.Claiming.{claim-writes, pinned-at}
use Rattle.sj_core.proofs.Ending.{end-other_worker}
use Rattle.sj_core.proofs.Placing.{writes-same}
use Rattle.sj_core.proofs.Reading.{cells-untouched, moves-it, progress-other, transfer-inside, worker-other}
use Rattle.sj_core.proofs.Dependencies.{Proper-dependencies}
use Rattle.sj_core.proofs.Replicas.{same_worker-is, same_worker-refl}
use Rattle.sj_core.proofs.Running.{run-spares, run-unmoved, run-worker}
use Rattle.sj_core.proofs.Separation.{separated, worker-inside}
use Rattle.sj_board.specs.Sparing.{SparesUsed, is_used, writes_cell}
use Rattle.sj_base.proofs.SameIds.{same_place-itself}
use Rattle.sj_core.proofs.Advancing.{running_on-is}
use Rattle.sj_base.proofs.Bools.{or_false}
use Rattle.sj_core.specs.Arrays.{Arrays}

-- ---- whose event it is

-- the event is one of the worker
abbrev pub IsBy : Machine → State → Worker → Event → Type 0
IsBy m s w (Claim t v) = v ≡ w
IsBy m s w (Move c from to) = mover_of s c from to ≡ w
IsBy m s w (Moved c from to) = mover_of s c from to ≡ w
IsBy m s w (Drop c n) = n ≡ node_of m w
IsBy m s w (Run t v) = v ≡ w
IsBy m s w (End t v) = v ≡ w

-- ---- words on a worker's task

claimed-is : (w v : Worker) → is_task_of v (Claimed w) ≡ true → w ≡ v
claimed-is w v h = same_worker-is w v (or_false (same_worker w v) h)

running-is : (w v : Worker) → is_task_of v (Running w) ≡ true → w ≡ v
running-is w v h = same_worker-is w v h

running-task : (v : Worker) (x : Progress) → is_running_on v x ≡ true → is_task_of v x ≡ true
running-task v Waiting h = absurd (false≢true h)
running-task v (Claimed w) h = absurd (false≢true h)
running-task v (Running w) h = h
running-task v (Done w) h = absurd (false≢true h)

-- ---- what stays of another worker

-- its tasks are as far as they were, it holds what it held, and its cells and what it carries are as they were
pub record StaysFor (p : Program) (m : Machine) (s s' : State) (A A' : Arrays) (v : Worker) : Type 0 where
  pub phase : (u : Task) → is_task_of v (progress s u) ≡ true → progress s' u ≡ progress s u
  pub holds : worker_state s' v ≡ worker_state s v
  pub cells : (u : Task) (c : Cell) → is_running_on v (progress s u) ≡ true → has_cell (cells_of p u v) c ≡ true → A' c (AtNode (node_of m v)) ≡ A c (AtNode (node_of m v))
  pub carried : (x : Transfer) → transfer s v ≡ Some x → A' x.cell x.from ≡ A x.cell x.from
  pub writes : (x : Transfer) → transfer s v ≡ Some x → writes s' x.cell ≡ writes s x.cell

arrived-writes : (to : Place) (row : CellState) → (arrived to row).writes ≡ row.writes
arrived-writes (AtNode n) row = refl
arrived-writes (OnDisk d) row = refl

not-so : (b : Bool) → (b ≡ true → ⊥) → b ≡ false
not-so true f = absurd (f refl)
not-so false f = refl

module _ (p : Program) (m : Machine) (s : State) (A : Arrays) (h : IsSound p m s) (v : Worker) where
  reads-used : (x : Transfer) → transfer s v ≡ Some x → is_used m s x.cell x.from ≡ true
  reads-used x under_way = by_place x.from (list_any_at (λ (row : WorkerState). reads_in row x.cell x.from) s.workers v.0 idle_row (transfer-inside s v x under_way) own)
    where
      own : reads_in (worker_state s v) x.cell x.from ≡ true
      own = ap (λ (o : Option Transfer). elim o as (λ _. Bool) [ None ↦ false | Some move ↦ same_cell move.cell x.cell && same_place move.from x.from ]) under_way
          ∙ ap (λ b. b && same_place x.from x.from) ((Decides-eqb x.cell.0 x.cell.0).1 refl) ∙ same_place-itself x.from

      by_place : (q : Place) → is_read s x.cell q ≡ true → is_used m s x.cell q ≡ true
      by_place (AtNode n) f = or_right _ (is_read s x.cell (AtNode n)) f
      by_place (OnDisk d) f = f

  pins-used : (u : Task) (c : Cell) → v.0 < m.workers → is_task_of v (progress s u) ≡ true → has_cell (cells_of p u v) c ≡ true → is_used m s c (AtNode (node_of m v)) ≡ true
  pins-used u c inside has cell = or_left _ (is_read s c (AtNode (node_of m v))) (pinned-at m s v (node_of m v) c inside refl (h.coherent.cells.pinned u v c has cell))

  -- where the event spares what is used, and writes none of it
  module _ (s' : State) (A' : Arrays) (e : Event) (spares : SparesUsed p m s A e s' A')
      (unwritten-cells : (u : Task) (c : Cell) → is_running_on v (progress s u) ≡ true → has_cell (cells_of p u v) c ≡ true → writes_cell p e c ≡ false)
      (unwritten-moved : (x : Transfer) → transfer s v ≡ Some x → writes_cell p e x.cell ≡ false) where
    task-worker : (u : Task) → is_task_of v (progress s u) ≡ true → v.0 < m.workers
    task-worker u has = subst (λ n. v.0 < n) (sym h.machine.workers) (worker-inside p m h.proper.cells (Proper-dependencies p h.proper) s h.coherent.state h.coherent.workers h.coherent.order u v has)

    spared-cells : (u : Task) (c : Cell) → is_running_on v (progress s u) ≡ true → has_cell (cells_of p u v) c ≡ true → A' c (AtNode (node_of m v)) ≡ A c (AtNode (node_of m v))
    spared-cells u c runs cell =
        let has = running-task v (progress s u) runs in
        (spares c (AtNode (node_of m v)) (pins-used u c (task-worker u has) has cell) (h.coherent.cells.running u v c (running_on-is v (progress s u) runs) cell) (unwritten-cells u c runs cell)).1

    spared-moved : (x : Transfer) → transfer s v ≡ Some x → A' x.cell x.from ≡ A x.cell x.from
    spared-moved x under_way = (spares x.cell x.from (reads-used x under_way) (h.coherent.transfers.source v x under_way) (unwritten-moved x under_way)).1

  module _ (w : Worker) (other : v ≢ w) where
    -- the task that the worker of the event claims, runs or ends isn't the other worker's
    not-mine : (t u : Task) (x : Progress) → progress s t ≡ x → (is_task_of v x ≡ true → w ≡ v) → is_task_of v (progress s u) ≡ true → u ≢ t
    not-mine t u x is mine has same = other (sym (mine (sym (ap (is_task_of v) is) ∙ ap (λ (k : Task). is_task_of v (progress s k)) (sym same) ∙ has)))

    not-waiting : (t u : Task) → progress s t ≡ Waiting → is_task_of v (progress s u) ≡ true → u ≢ t
    not-waiting t u is has same = false≢true (sym (ap (is_task_of v) is) ∙ ap (λ (k : Task). is_task_of v (progress s k)) (sym same) ∙ has)

    pub Step-stays : (e : Event) (s' : State) (A' : Arrays) → IsBy m s w e → May p m s e → s' ≡ after p m s e → SparesUsed p m s A e s' A' → StaysFor p m s s' A A' v
    Step-stays (Claim t x) s' A' by step leaves spares = record {
      phase = λ u has. ap (λ (z : State). progress z u) leaves ∙ progress-other s t u (Claimed x) (not-waiting t u step.waiting has);
      holds = ap (λ (z : State). worker_state z v) leaves ∙ worker-other s x v _ (subst (λ (k : Worker). v ≢ k) (sym by) other);
      cells = spared-cells s' A' (Claim t x) spares (λ u c runs cell. refl) (λ y under_way. refl);
      carried = spared-moved s' A' (Claim t x) spares (λ u c runs cell. refl) (λ y under_way. refl);
      writes = λ y under_way. claim-writes p m s t x s' step (leaves ∙ (evicted-after p m s t x)) y.cell;
    }
    Step-stays (Move c from (AtNode n)) s' A' by step leaves spares = record {
      phase = λ u has. ap (λ (z : State). progress z u) leaves;
      holds = ap (λ (z : State). worker_state z v) leaves ∙ worker-other s (mover_of s c from (AtNode n)) v _ (subst (λ (k : Worker). v ≢ k) (sym by) other);
      cells = spared-cells s' A' (Move c from (AtNode n)) spares (λ u d runs cell. refl) (λ y under_way. refl);
      carried = spared-moved s' A' (Move c from (AtNode n)) spares (λ u d runs cell. refl) (λ y under_way. refl);
      writes = λ y under_way. ap (λ (z : State). writes z y.cell) leaves;
    }
    Step-stays (Move c from (OnDisk d)) s' A' by step leaves spares = record {
      phase = λ u has. ap (λ (z : State). progress z u) leaves;
      holds = ap (λ (z : State). worker_state z v) leaves ∙ worker-other s (mover_of s c from (OnDisk d)) v _ (subst (λ (k : Worker). v ≢ k) (sym by) other);
      cells = spared-cells s' A' (Move c from (OnDisk d)) spares (λ u k runs cell. refl) (λ y under_way. refl);
      carried = spared-moved s' A' (Move c from (OnDisk d)) spares (λ u k runs cell. refl) (λ y under_way. refl);
      writes = λ y under_way. ap (λ (z : State). writes z y.cell) leaves;
    }
    Step-stays (Moved c from to) s' A' by step leaves spares = record {
      phase = λ u has. ap (λ (z : State). progress z u) leaves;
      holds = ap (λ (z : State). worker_state z v) leaves ∙ worker-other s (mover_of s c from to) v _ (subst (λ (k : Worker). v ≢ k) (sym by) other);
      cells = spared-cells s' A' (Moved c from to) spares (λ u d runs cell. refl) (λ y under_way. refl);
      carried = spared-moved s' A' (Moved c from to) spares (λ u d runs cell. refl) (λ y under_way. refl);
      writes = λ y under_way. ap (λ (z : State). writes z y.cell) leaves ∙ writes-same s c (arrived to (cell_state s c)) (arrived-writes to (cell_state s c)) y.cell;
    }
    Step-stays (Drop c n) s' A' by step leaves spares = record {
      phase = λ u has. ap (λ (z : State). progress z u) leaves;
      holds = ap (λ (z : State). worker_state z v) leaves;
      cells = spared-cells s' A' (Drop c n) spares (λ u d runs cell. refl) (λ y under_way. refl);
      carried = spared-moved s' A' (Drop c n) spares (λ u d runs cell. refl) (λ y under_way. refl);
      writes = λ y under_way. ap (λ (z : State). writes z y.cell) leaves ∙ writes-same s c (with_mark (cell_state s c) n Invalid) refl y.cell;
    }
    Step-stays (Run t x) s' A' by step leaves spares =
        let apart : (u : Task) → is_task_of v (progress s u) ≡ true → u ≢ t = λ u has. not-mine t u (Claimed x) step.claimed (λ k. sym by ∙ claimed-is x v k) has in
        record {
          phase = λ u has. ap (λ (z : State). progress z u) leaves ∙ progress-other s t u (Running x) (apart u has);
          holds = run-worker p m s t x s' step leaves v;
          cells = spared-cells s' A' (Run t x) spares (λ u c runs cell. run-spares p m s h t x s' step leaves u v c (apart u (running-task v (progress s u) runs)) (running-task v (progress s u) runs) cell) (run-unmoved p m s h t x s' step leaves v);
          carried = spared-moved s' A' (Run t x) spares (λ u c runs cell. run-spares p m s h t x s' step leaves u v c (apart u (running-task v (progress s u) runs)) (running-task v (progress s u) runs) cell) (run-unmoved p m s h t x s' step leaves v);
          writes = λ y under_way. ap (λ (z : State). writes z y.cell) leaves ∙ ap (λ (row : CellState). row.writes) (cells-untouched s (has_cell (written_cells p t x)) (λ c row. owned_at (node_of m x) row) y.cell (run-unmoved p m s h t x s' step leaves v y under_way));
        }
    Step-stays (End t x) s' A' by step leaves spares =
        let apart : (u : Task) → is_task_of v (progress s u) ≡ true → u ≢ t = λ u has. not-mine t u (Running x) step (λ k. sym by ∙ running-is x v k) has in
        let mine : is_task_of x (progress s t) ≡ true = ap (is_task_of x) step ∙ same_worker-refl x in
        let unwritten : (u : Task) (c : Cell) → is_running_on v (progress s u) ≡ true → has_cell (cells_of p u v) c ≡ true → has_cell (written_cells p t x) c ≡ false = λ u c runs cell.
        not-so (has_cell (written_cells p t x) c) (separated p m h.proper.cells (Proper-dependencies p h.proper) s h.coherent.state h.coherent.workers h.coherent.order u t v x c (apart u (running-task v (progress s u) runs)) (running-task v (progress s u) runs) mine cell) in
        let unmoved : (y : Transfer) → transfer s v ≡ Some y → has_cell (written_cells p t x) y.cell ≡ false = λ y under_way.
        not-so (has_cell (written_cells p t x) y.cell) (λ written. false≢true (sym ((h.coherent.writers.owned t x y.cell step written).unmoved v) ∙ moves-it s v y under_way)) in
        record {
          phase = λ u has. ap (λ (z : State). progress z u) leaves ∙ progress-other s t u (Done x) (apart u has);
          holds = end-other_worker p m s t x s' step leaves v (subst (λ (k : Worker). v ≢ k) (sym by) other);
          cells = spared-cells s' A' (End t x) spares unwritten unmoved;
          carried = spared-moved s' A' (End t x) spares unwritten unmoved;
          writes = λ y under_way. ap (λ (z : State). writes z y.cell) leaves ∙ ap (λ (row : CellState). row.writes) (cells-untouched s (has_cell (written_cells p t x)) (λ c row. written_once_more row) y.cell (unmoved y under_way));
        }
