-- The share that is taken of what a deliver task hands over, as the task begins to run.
use Rattle.sj_board.proofs.Words.{[], Access, access, All, ap, arith, Array, AtNode, CanGive, CanHappen, Cell, delivered_cell, Equations, get_or, is_deliver_task, is_delivery, is_some, IsGift, IsSomeAnd, IsTileOf, Keeps, length, List, Lowered, Node, node_of, Option, R, refl, Rows, Run, Some, StandingBy, subst, sym, Task, task_of, tile_at, tile_in, tiles_of, true, Worker, ℕ, ◌<◌, ◌∙◌, ◌∷◌, ◌≡◌}
use Rattle.std.proofs.lemmas.{Bool.false≢true, List.get_or_default}
use Rattle.sj_board.proofs.{Delivering.deliver-reads, EventTiles.tile_there, RunningTiles.run-can_give}

module _ {D : Type 0} {eq : Equations} (size faults mismatches : D → ℕ) (held : D → Option (List ℕ)) (b : StandingBy eq D) (rows : Rows) (tiles : List (List (Option Array))) (spare : ℕ) (keeps : Keeps size faults mismatches held b rows tiles spare) (t : Task) (w : Worker) (can : CanHappen b (Run t w)) (l : Lowered) (is : l ≡ task_of b.program t) (delivers : is_delivery l.codelet ≡ true) where
  abbrev cell : Cell
  cell = delivered_cell b.program t

  -- the task is a deliver task where its codelet is
  hands : is_deliver_task b.program t ≡ true
  hands = sym (ap (λ (x : Lowered). is_delivery x.codelet) is) ∙ delivers

  reads : (task_of b.program t).accesses ≡ access R cell ∷ []
  reads = deliver-reads b.program keeps.sound.run.proper t hands

  give : CanGive b.program w tiles (node_of b.machine w) (access R cell)
  give = subst (λ (xs : List Access). All (CanGive b.program w tiles (node_of b.machine w)) xs) reads (run-can_give size faults mismatches held b rows tiles spare keeps t w can) 0 (access R cell) (omega arith)

  there : is_some (tile_at tiles cell (node_of b.machine w)) ≡ true
  there = give.tile refl

  -- the row of its one operand's cell, and the node, as the code finds them
  module _ (operands : List Access) (listed : operands ≡ l.accesses) (a : Access) (row none : List (Option Array)) (found : row ≡ get_or tiles (get_or operands 0 a).cell.0 none) (n : Node) (at : n ≡ node_of b.machine w) where
    its : row ≡ tiles_of tiles cell
    its =
        found ∙ ap (λ (xs : List Access). get_or tiles (get_or xs 0 a).cell.0 none) (listed ∙ ap (λ (x : Lowered). x.accesses) is ∙ reads)
        ∙ get_or_default tiles cell.0 none [] give.cell

    pub gift-inside : n.0 < length row
    gift-inside = subst (λ (r : List (Option Array)). n.0 < length r) (sym its) (subst (λ (j : Node). j.0 < length (tiles_of tiles cell)) (sym at) give.node)

    found-tile : tile_in row n ≡ tile_at tiles cell (node_of b.machine w)
    found-tile = ap (λ (r : List (Option Array)). tile_in r n) its ∙ ap (λ (j : Node). tile_in (tiles_of tiles cell) j) at

    pub gift-there : is_some (tile_in row n) ≡ true
    gift-there = ap is_some found-tile ∙ there

    pub gift-given : (b' : StandingBy eq D) → b ≡ b' → (x : Array) → tile_in row n ≡ Some x → IsGift held b' t w (Some x)
    gift-given b' same x kept_there = subst (λ (z : StandingBy eq D). IsGift held z t w (Some x)) same (record {
      some = λ yes. subst (λ (o : Option Array). IsSomeAnd o (IsTileOf held b cell (AtNode (node_of b.machine w)))) (sym found-tile ∙ kept_there) (tile_there size faults mismatches held b rows tiles spare keeps cell (node_of b.machine w) there).0;
      none = λ other. absurd (false≢true (sym other ∙ hands));
    })
