-- The opening state is coherent.
use Rattle.sj_core.proofs.Words.{[], ap, arith, Cell, cell_state, CellState, Coherent, cond, count_by, dims_of, done_by, Equations, has_cell, has_written, HoldsContent, inl, inr, Invalid, is_active, is_begun, is_coming_by, is_done, is_entry, is_leaving_by, is_task_of, length, List, Machine, mark, no_copy, Node, None, on_disk, opening, Option, order, pins, Program, progress, same_cell, scratch, Some, sym, Task, tasks_of, Transfer, transfer, true, used, Waiting, Worker, worker_state, WorkerState, writes, written_cells, zeros, ◌&&◌, ◌<◌, ◌∙◌, ◌≡◌, ◌⊎◌}
use Rattle.std.proofs.lemmas.{Bool.cases_lt, Bool.false≢true, List.get_or-replicate, List.get_or_past, List.length-replicate, List.Elements.All-replicate}
use Rattle.sj_base.proofs.Lists.{get_or-replicate_same}
use Rattle.sj_core.proofs.{Advancing.claimed-is_mine, Reading.idle_row, Reading.no_row, Replicas.same_worker-refl, Sums.sum-nothing}

module _ (p : Program) (m : Machine) where
  pub waits : (t : Task) → progress (opening p m) t ≡ Waiting
  waits t = get_or-replicate_same (length p.tasks) t.0 Waiting

  idle : (w : Worker) → worker_state (opening p m) w ≡ idle_row
  idle w = get_or-replicate_same m.workers w.0 idle_row

  empty : (n : Node) → order (opening p m) n ≡ []
  empty n = get_or-replicate_same (length m.nodes) n.0 []

  a_row : (c : Cell) → (cell_state (opening p m) c ≡ no_copy (length m.nodes)) ⊎ (cell_state (opening p m) c ≡ no_row)
  a_row c = search (arith, cases_lt, get_or-replicate, no_row, get_or_past, length-replicate)

  pub nowhere : (c : Cell) (n : Node) → mark (opening p m) c n ≡ Invalid
  nowhere c n = search (arith, a_row, no_row, get_or-replicate_same)

  not_stored : (c : Cell) → on_disk (opening p m) c ≡ true → ⊥
  not_stored c h = search (arith, a_row, no_row, false≢true)

  pub unwritten : (c : Cell) → writes (opening p m) c ≡ 0
  unwritten c = elim (a_row c) [ inl row ↦ ap (λ (r : CellState). r.writes) row | inr row ↦ ap (λ (r : CellState). r.writes) row ]

  not_leaving : (w : Worker) (c : Cell) (n : Node) → is_leaving_by w (mark (opening p m) c n) ≡ true → ⊥
  not_leaving w c n h = false≢true (sym (ap (is_leaving_by w) (nowhere c n)) ∙ h)

  not_coming : (w : Worker) (c : Cell) (n : Node) → is_coming_by w (mark (opening p m) c n) ≡ true → ⊥
  not_coming w c n h = false≢true (sym (ap (is_coming_by w) (nowhere c n)) ∙ h)

  not_moving : (w : Worker) (x : Transfer) → transfer (opening p m) w ≡ Some x → ⊥
  not_moving w x h = let none : ◌≡◌ {A = Option Transfer} None (Some x) = sym (ap (λ (row : WorkerState). row.transfer) (idle w)) ∙ h in cc

  not_begun : (t : Task) → is_begun (progress (opening p m) t) ≡ true → ⊥
  not_begun t h = false≢true (sym (ap is_begun (waits t)) ∙ h)

  not_active : (t : Task) → is_active (progress (opening p m) t) ≡ true → ⊥
  not_active t h = false≢true (sym (ap is_active (waits t)) ∙ h)

  not_task_of : (w : Worker) (t : Task) → is_task_of w (progress (opening p m) t) ≡ true → ⊥
  not_task_of w t h = false≢true (sym (ap (is_task_of w) (waits t)) ∙ h)

  not_pinned : (w : Worker) (c : Cell) → has_cell (pins (opening p m) w) c ≡ true → ⊥
  not_pinned w c h = false≢true (sym (ap (λ (row : WorkerState). has_cell row.pins c) (idle w)) ∙ h)

  pub no_scratch : (w : Worker) → scratch (opening p m) w ≡ 0
  no_scratch w = ap (λ (row : WorkerState). row.scratch) (idle w)

  nothing_used : (n : Node) → used p m (opening p m) n ≡ 0
  nothing_used n = search (arith, empty, sum-nothing, no_scratch)

  none_written : (c : Cell) → count_by (has_written p (opening p m) c) (tasks_of p) ≡ 0
  none_written c = sum-nothing (λ t. cond (has_written p (opening p m) c t) 1 0) (λ t. ap (λ x. cond (is_done x && has_cell (written_cells p t (done_by (opening p m) t)) c) 1 0) (waits t)) (tasks_of p)

  not_positive : (c : Cell) → 0 < writes (opening p m) c → ⊥
  not_positive c h = let e = unwritten c in omega arith

  pub opening-coherent : Coherent p m (opening p m)
  opening-coherent = record {
    state = record {
      rows = record {
        tasks = length-replicate (length p.tasks) Waiting;
        cells = length-replicate (length p.cells) (no_copy (length m.nodes));
        orders = length-replicate (length m.nodes) [];
        workers = length-replicate m.workers idle_row;
        marks = All-replicate (λ (row : CellState). length row.marks ≡ length m.nodes) (length p.cells) (no_copy (length m.nodes)) (length-replicate (length m.nodes) Invalid);
      };
      entries = record {
        entries = λ n c. ap (λ (cs : List Cell). has_cell cs c) (empty n) ∙ sym (ap is_entry (nowhere c n));
        once = λ n c. (let e = ap (λ (cs : List Cell). count_by (λ d. same_cell d c) cs) (empty n) in omega arith);
      };
      blocks = record {
        home = λ c h. absurd (not_stored c h);
        aimed = λ w x d h e. absurd (not_moving w x h);
      };
      staff = record { staffed = λ t h. absurd (not_begun t h) };
    };
    writers = record { owned = λ t w c h has. absurd (not_task_of w t (ap (is_task_of w) h ∙ same_worker-refl w)) };
    copies = record { somewhere = λ c h b. absurd (not_positive c h) };
    cells = record { running = λ t w c h has. absurd (not_task_of w t (ap (is_task_of w) h ∙ same_worker-refl w)); claimed = λ t w c h has. absurd (not_task_of w t (ap (is_task_of w) h ∙ claimed-is_mine w)); pinned = λ t w c h has. absurd (not_task_of w t h) };
    pins = record { stays = λ w c h. absurd (not_pinned w c h); own = λ w c h. absurd (not_pinned w c h); coming_here = λ w c n h. absurd (not_coming w c n h); coming_claimed = λ w c n h. absurd (not_coming w c n h); coming_pinned = λ w c n h. absurd (not_coming w c n h) };
    transfers = record { source = λ w x h. absurd (not_moving w x h); target = λ w x h. absurd (not_moving w x h); apart = λ v w x y d e hv hw f g k. absurd (not_moving v x hv) };
    bytes = record { entries = λ n. (let e = nothing_used n in omega arith); leaving = λ n w c h. absurd (not_leaving w c n h) };
    workers = record {
      evicted = λ w c n h. absurd (not_leaving w c n h);
      one_evicts = λ v w c d n hv hw. absurd (not_leaving v c n hv);
      one_task = λ t u w ht hu. absurd (not_task_of w t ht);
      moves_for_claim = λ w x h. absurd (not_moving w x h);
      scratch = λ w. record { own = λ t h. absurd (not_task_of w t h); none = λ h. no_scratch w };
    };
    order = record { earlier = λ t h. absurd (not_begun t h); apart = λ t u ht hu before. absurd (not_active t ht); commuting = λ t u ht hu d. absurd (not_active t ht) };
    counts = record { counted = λ c. unwritten c ∙ sym (none_written c) };
  }

  -- no cell was written, and none is
  pub opening-content : (eq : Equations) → HoldsContent eq p m (opening p m) (λ c q. zeros (dims_of p c))
  opening-content eq = record {
    begun = λ t w c h has. absurd (not_task_of w t (ap (is_task_of w) h ∙ same_worker-refl w));
    alike = λ c q some resting valid. absurd (not_positive c some);
  }
