-- What a plan on a node says of the claim in the state: its cells, its victims, and why it can't be made.
use Rattle.sj_machine.proofs.Words.{[], All, ap, arith, Bool, Cell, cells_of, chosen_on, ClaimPlan, CommutersAreFree, covers, distinct, free, free_bytes, has_cell, has_entry, is_pinned, is_some, is_spare, IsAnswer, IsPlan, lacking, List, list_any, Machine, map, MayClaim, missing, nat_eq, need_on, Node, node_of, node_size, NodeEntry, None, none_leaving, NoRoom, not, ok_or, Option, option_map, order, pins, pins_on, plan_with, planned, Program, refl, reverse, same_cell, scratch, scratch_bytes, shortest_suffix, Some, State, Store, store_of, subst, sum_by, sym, Task, task_of, tile_bytes, to_come, true, victims, victims_for, Worker, workers_at, ℕ, ◌&&◌, ◌+◌, ◌-◌, ◌∙◌, ◌∷◌, ◌≡◌}
use Rattle.std.proofs.lemmas.{List.map-append, List.reverse-append, List.reverse-reverse, List.Elements.filter_agree, List.Sums.sum_by-cons}
use Rattle.sj_core.proofs.{CellLists.times, CellLists.times-has, CellLists.times-none, Readiness.list_any-some, Reading.same_cell-is}
use Rattle.sj_node.proofs.CallerLemmas.{victims-map}
use Rattle.sj_machine.proofs.{ClaimEntries.entries, ClaimEntries.entries-has, ClaimEntries.entries-total, ClaimEntries.entry, Commuting.commuters-alone, Happening.entry-cells, Happening.rows_in}

-- ---- lists

-- a fact of each cell of a list, of one that it has
pub All-of : (P : Cell → Type 0) (xs : List Cell) (c : Cell) → All P xs → has_cell xs c ≡ true → P c
All-of P xs c all h = (let found = list_any-some (λ (d : Cell). same_cell d c) xs h in subst P (found.1.2 ∙ same_cell-is found.0 c found.2) (all found.1.0 found.0 found.1.1))

map-reverse : {X Y : Type 0} (f : X → Y) (xs : List X) → map f (reverse xs) ≡ reverse (map f xs)
map-reverse f [] = refl
map-reverse f (x ∷ xs) = grind (arith, reverse-append (x ∷ []) xs, map-append f (reverse xs) (x ∷ []), map-reverse f xs, reverse-append (f x ∷ []) (map f xs))

-- ---- pins

unpinned-is : (s : State) (c : Cell) (ws : List Worker) → nat_eq (sum_by (λ v. times (pins s v) c) ws) 0 ≡ not (list_any (λ v. has_cell (pins s v) c) ws)
unpinned-is s c [] = refl
unpinned-is s c (v ∷ ws) = grind (arith, sum_by-cons (λ u. times (pins s u) c) v ws, times-has (pins s v) c, times-none (pins s v) c, unpinned-is s c ws)

-- ---- a plan on the node's store

module _ (p : Program) (m : Machine) (s : State) (t : Task) (w : Worker) where
  abbrev n : Node
  n = node_of m w

  abbrev own : Store
  own = store_of p m s n

  missing-lacking : missing p s t w n ≡ lacking own (cells_of p t w)
  missing-lacking = filter_agree (λ c. not (has_cell (order s n) c)) (λ c. not (has_entry own.entries c)) (λ c. ap not (sym (entries-has (tile_bytes p) (pins_on m s n) (order s n) c))) (distinct (cells_of p t w))

  pub need-same : to_come p s t w n ≡ need_on p own t w
  need-same = ap (λ (cs : List Cell). sum_by (tile_bytes p) cs + scratch_bytes p (task_of p t)) missing-lacking

  free-same : free_bytes own ≡ free p m s n
  free-same = ap (λ (k : ℕ). node_size m n - (k + sum_by (scratch s) (workers_at m n))) (entries-total (tile_bytes p) (pins_on m s n) (order s n))

  turned : (o : Option (List Cell)) → option_map reverse (option_map (λ vs. map (λ (e : NodeEntry). e.cell) (reverse vs)) (option_map (entries (tile_bytes p) (pins_on m s n)) o)) ≡ o
  turned None = refl
  turned (Some vs) = ap Some (ap reverse (map-reverse (λ (e : NodeEntry). e.cell) (entries (tile_bytes p) (pins_on m s n) vs) ∙ ap reverse (entry-cells (entry (tile_bytes p) (pins_on m s n)) (λ c. refl) vs)) ∙ reverse-reverse vs)

  pub chosen-same : chosen_on p own t w ≡ victims_for p m s t w
  chosen-same =
      let bytes = tile_bytes p in
      let f = entry bytes (pins_on m s n) in
      let spare : Cell → Bool = λ c. is_spare (cells_of p t w) (f c) in
      let free_of : Cell → Bool = λ c. not (is_pinned m s n c) && not (has_cell (cells_of p t w) c) in
      let same_test : (c : Cell) → spare c ≡ free_of c = λ c. ap (λ b. b && not (has_cell (cells_of p t w) c)) (unpinned-is s c (workers_at m n)) in
      ap (λ o. option_map reverse (option_map (λ vs. map (λ (e : NodeEntry). e.cell) (reverse vs)) o)) (victims-map f (λ e. e.bytes) (is_spare (cells_of p t w)) (order s n) (free_bytes own) (need_on p own t w))
      ∙ turned (victims bytes spare (order s n) (free_bytes own) (need_on p own t w))
      ∙ ap (shortest_suffix (covers bytes (free_bytes own) (need_on p own t w))) (filter_agree spare free_of same_test (order s n))
      ∙ ap (λ (k : ℕ). victims bytes free_of (order s n) k (need_on p own t w)) free-same
      ∙ ap (λ (k : ℕ). victims bytes free_of (order s n) (free p m s n) k) (sym need-same)

  pub planned-same : (evicted : List Cell) → planned p own t w evicted ≡ plan_with p m s t w evicted
  planned-same evicted = ap (λ (cs : List Cell). let plan : ClaimPlan = record { cells = cells_of p t w; missing = cs; bytes = map (tile_bytes p) cs; scratch = scratch_bytes p (task_of p t); victims = evicted } in plan) (sym missing-lacking)

-- ---- the claim

-- what the plan on the node answers to a claim
module _ (p : Program) (m : Machine) (s : State) (t : Task) (w : Worker) (may : MayClaim p m s t w) (free : CommutersAreFree p s t) (settled : none_leaving s (node_of m w) ≡ true) where
  by_victims : (o : Option (List Cell)) → victims_for p m s t w ≡ o → IsAnswer (rows_in p m s) t w (ok_or (option_map (planned p (store_of p m s (node_of m w)) t w) o) NoRoom)
  by_victims None chosen = record { can = tt; plan = tt; why = (free, settled, chosen) }
  by_victims (Some evicted) chosen = record {
    can = record { worker = may.worker; waiting = may.waiting; ready = may.ready; idle = may.idle; fits = may.fits; settled = settled; alone = commuters-alone p s t free; room = ap is_some chosen };
    plan = subst (λ (x : ClaimPlan). IsPlan p m s t w x) (sym (planned-same p m s t w evicted)) (record { chosen = chosen; rest = refl });
    why = tt;
  }

  pub plan-answers : (store : Store) → store ≡ store_of p m s (node_of m w) → IsAnswer (rows_in p m s) t w (ok_or (option_map (planned p store t w) (chosen_on p store t w)) NoRoom)
  plan-answers store is =
      rw is (subst (λ (o : Option (List Cell)). IsAnswer (rows_in p m s) t w (ok_or (option_map (planned p (store_of p m s (node_of m w)) t w) o) NoRoom)) (sym (chosen-same p m s t w)) (by_victims (victims_for p m s t w) refl))
