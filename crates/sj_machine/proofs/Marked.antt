-- A node's entries are those of the cells of which the marks tell so.
use Rattle.sj_machine.proofs.Words.{ap, AreMarked, arith, Cell, CellState, distinct, filter, get_or, has_entry, is_entry, KeepsStores, lacking, length, List, Machine, mark_at, need_on, Node, node_of, not, order, pins_on, Program, State, Store, store_of, subst, sym, Task, tile_bytes, to_come, Worker, ◌<◌, ◌∙◌, ◌≡◌}
use Rattle.std.proofs.lemmas.{List.Elements.filter_agree}
use Rattle.sj_machine.proofs.{ClaimEntries.entries-has, ClaimFinding.need-same, Happening.store-at}

-- what the marks say is lacking has no entry
pub lacking-marked : (rows : List CellState) (n : Node) (s : Store) → AreMarked rows n s.entries → (cs : List Cell) → filter (λ c. not (is_entry (mark_at rows n c))) (distinct cs) ≡ lacking s cs
lacking-marked rows n s marked cs = filter_agree (λ c. not (is_entry (mark_at rows n c))) (λ c. not (has_entry s.entries c)) (λ c. ap not (sym (marked c))) (distinct cs)

-- so it is of the store of a node in a state
module _ (p : Program) (m : Machine) (s : State) (nodes : List Store) (keeps : KeepsStores p m s nodes) (w : Worker) (n : Node) (at : n ≡ node_of m w) (node d : Store) (read : node ≡ get_or nodes n.0 d) where
  node-inside : n.0 < length m.nodes
  node-inside = subst (λ (k : Node). k.0 < length m.nodes) (sym at) (let some = keeps.sound.machine.some_node in omega arith)

  pub read-store : node ≡ store_of p m s (node_of m w)
  read-store = read ∙ store-at p m s nodes keeps.stores n d node-inside ∙ ap (store_of p m s) at

  pub need-read : (t : Task) → need_on p node t w ≡ to_come p s t w (node_of m w)
  need-read t = ap (λ (x : Store). need_on p x t w) read-store ∙ sym (need-same p m s t w)

  pub marked-at : (rows : List CellState) → rows ≡ s.cells → AreMarked rows n node.entries
  marked-at rows are c =
      ap (λ (x : Store). has_entry x.entries c) (read ∙ store-at p m s nodes keeps.stores n d node-inside)
      ∙ entries-has (tile_bytes p) (pins_on m s n) (order s n) c ∙ keeps.sound.coherent.state.entries.entries n c
      ∙ ap (λ (xs : List CellState). is_entry (mark_at xs n c)) (sym are)
