-- Where of each worker's victims some are known to be gone, and none of the others leaves, nothing does.
use Rattle.sj_machine.proofs.Words.{[], ap, arith, Bool, Cell, CellState, Coherent, drop, false, get_or, has_room, is_gone, is_leaving, is_leaving_at, is_leaving_by, KnownGone, length, List, list_all, Machine, mark, mark_in, Node, node_of, none_leaving, NoneLeavesFor, not, Program, refl, reverse, State, sym, take, true, victims_of, Worker, ℕ, ◌-◌, ◌∙◌, ◌∷◌, ◌≡◌}
use Rattle.std.proofs.lemmas.{Bool.false_from_ne_true, Bool.false≢true, Bool.not-true, List.get_or_default, List.reverse-append, List.take-append-drop, List.Folds.list_all-append, List.Sums.AllPass-from_list_all, List.Sums.list_all-from_AllPass}
use Rattle.sj_core.proofs.{Reading.list_all-has, Reading.no_row, Replicas.leaving-by_some, Replicas.leaving_by-leaves}
use Rattle.sj_replica.specs.Replica.{CellState}
use Rattle.sj_machine.proofs.{Commuting.found-none, GoneVictims.rest-is}

all-turned : (f : Cell → Bool) (xs : List Cell) → list_all f (reverse xs) ≡ list_all f xs
all-turned f [] = refl
all-turned f (x ∷ xs) = grind (arith, reverse-append (x ∷ []) xs, list_all-append f (reverse xs) (x ∷ []), all-turned f xs)

module _ (p : Program) (m : Machine) (s : State) (coherent : Coherent p m s) (n : Node) (gone : List ℕ) (known : KnownGone m s gone) (none : NoneLeavesFor s.cells n s.workers gone) where
  -- a worker of the node has no victim any more
  all-gone : (v : Worker) → n ≡ node_of m v → has_room m s v ≡ true
  all-gone v at =
      let f : Cell → Bool = is_gone m s v in
      let vs : List Cell = victims_of s v in
      let k : ℕ = get_or gone v.0 0 in
      let left : List Cell = take (length vs - k) vs in
      let rest : list_all f left ≡ true = list_all-from_AllPass f left (λ i d inside. stays (get_or left i d) (not-true (is_leaving_at s.cells n (get_or left i d)) (AllPass-from_list_all (λ c. not (is_leaving_at s.cells n c)) left (found-none (is_leaving_at s.cells n) left (none v.0)) i d inside))) in
      grind (arith, all-turned f vs, take-append-drop k (reverse vs), list_all-append f (take k (reverse vs)) (drop k (reverse vs)), known v, rest-is vs k, all-turned f left, rest)
    where
      stays : (c : Cell) → is_leaving_at s.cells n c ≡ false → is_gone m s v c ≡ true
      stays c not_here = search (arith, false≢true, leaving_by-leaves)

  pub none-leaves : none_leaving s n ≡ true
  none-leaves = list_all-from_AllPass (λ (row : CellState). not (is_leaving (mark_in row n))) s.cells (λ i d inside.
      (let c : Cell = record { 0 = i } in
      ap (λ (row : CellState). not (is_leaving (mark_in row n))) (get_or_default s.cells i d no_row inside) ∙ ap not (stays c)))
    where
      stays : (c : Cell) → is_leaving (mark s c n) ≡ false
      stays c = false_from_ne_true (is_leaving (mark s c n)) (λ leaves.
          (let by = leaving-by_some (mark s c n) leaves in
          let evicted = coherent.workers.evicted by.0 c n by.1 in
          let away = list_all-has (is_gone m s by.0) (victims_of s by.0) c (all-gone by.0 evicted.here) evicted.victim in
          false≢true (sym (not-true (is_leaving_by by.0 (mark s c (node_of m by.0))) away) ∙ ap (λ (j : Node). is_leaving_by by.0 (mark s c j)) (sym evicted.here) ∙ by.1)))
