-- Rows of a run on which nothing has happened.
use Rattle.sj_machine.proofs.Words.{[], ap, Cell, CellState, empty, HasStores, idle_row, IsMachineFor, KeepsStores, length, List, Machine, map, no_copy, Node, node_entry_of, node_size, opening, order, order_in, Program, Progress, Proper, replicate, rows_at_start, scratch, State, state_in, Store, store, store_of, subst, sym, Waiting, workers_at, WorkerState, ◌∙◌, ◌≡◌}
use Rattle.std.proofs.lemmas.{List.get_or-map, List.length-map, List.length-replicate}
use Rattle.sj_base.proofs.{Lists.get_or-replicate_same}
use Rattle.sj_core.proofs.{Opening.no_scratch, Opening.opening-coherent, Sums.sum-nothing}
use Rattle.sj_machine.proofs.{FewPins.opening-few, Happening.orders-in, Happening.rows_in}

-- the rows are those of the opening, and keep what rows keep
pub record AreFirst (p : Program) (m : Machine) (s : State) (nodes : List Store) : Type 0 where
  pub opened : rows_in p m s ≡ rows_at_start p m
  pub keeps : KeepsStores p m s nodes

module _ (p : Program) (m : Machine) (proper : Proper p) (machine : IsMachineFor p m) where
  abbrev first_nodes : List Store
  first_nodes = map (λ size. empty size (length p.cells)) m.nodes

  first_store : (n : Node) → store_of p m (opening p m) n ≡ empty (node_size m n) (length p.cells)
  first_store n =
      ap (λ k. store (node_size m n) k (length p.cells) (map (node_entry_of p m (opening p m) n) (order (opening p m) n))) (sum-nothing (scratch (opening p m)) (no_scratch p m) (workers_at m n))
      ∙ ap (λ (cs : List Cell). store (node_size m n) 0 (length p.cells) (map (node_entry_of p m (opening p m) n) cs)) (get_or-replicate_same (length m.nodes) n.0 [])

  first_stores : HasStores p m (opening p m) first_nodes
  first_stores = record {
    every_node = length-map m.nodes (λ size. empty size (length p.cells));
    stores = λ n inside. get_or-map (λ size. empty size (length p.cells)) m.nodes n.0 0 (store_of p m (opening p m) n) inside ∙ sym (first_store n);
  }

  pub made : (tasks : List Progress) (cells : List CellState) (nodes : List Store) (workers : List WorkerState) → tasks ≡ replicate (length p.tasks) Waiting → cells ≡ replicate (length p.cells) (no_copy (length m.nodes)) → nodes ≡ first_nodes → workers ≡ replicate m.workers idle_row → AreFirst p m (state_in tasks cells nodes workers) nodes
  made tasks cells nodes workers as_tasks as_cells as_nodes as_workers =
      let is : state_in tasks cells nodes workers ≡ opening p m =
      ap (λ (x : List Progress). state_in x cells nodes workers) as_tasks ∙ ap (λ (x : List CellState). state_in (opening p m).tasks x nodes workers) as_cells
      ∙ ap (λ (x : List WorkerState). state_in (opening p m).tasks (opening p m).cells nodes x) as_workers
      ∙ ap (λ (x : List (List Cell)). let z : State = record (opening p m) { orders = x } in z) (ap (map order_in) as_nodes ∙ orders-in p m (opening p m) first_nodes first_stores (length-replicate (length m.nodes) [])) in
      record {
        opened = ap (rows_in p m) is;
        keeps = subst (λ (z : State). KeepsStores p m z nodes) (sym is) (record { sound = record { proper = proper; machine = machine; coherent = opening-coherent p m }; few = opening-few p m; stores = subst (λ (ns : List Store). HasStores p m (opening p m) ns) (sym as_nodes) first_stores });
      }
