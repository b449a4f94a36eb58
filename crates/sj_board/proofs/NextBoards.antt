-- What follows of a board's next step for a worker.
use Rattle.sj_board.proofs.Words.{AnotherGoesOn, ap, arith, AtNode, BoardBy, CanBegin, CanHappen, CanMoveIn, CanMoveOut, claimant_of, Claimed, Dependencies, empty_hand, Equations, false, get_or, Hand, hand_of, IfSome, if◌then◌else◌, is_begun, is_claimed_by, is_moving, is_present, is_running_on, IsMoverOf, IsNext, IsSoundRun, IsWorking, KeepsBoard, List, list_all, Machine, mark, mover_of, Node, node_of, None, not, OnDisk, Option, Program, progress, refl, Run, RunsNone, Some, State, state, subst, sym, Task, Todo, transfer, transfer_of, Wait, Worker, written_cells, ℕ, ◌∙◌, ◌≡◌}
use Rattle.std.specs.Prelude.{is_some}
use Rattle.std.proofs.lemmas.{Bool.and_parts, List.get_or_default}
use Rattle.sj_core.proofs.{Advancing.claimed_by-is, Replicas.coming_by-is, Replicas.leaving_by-is, Replicas.leaving_by-leaves}
use Rattle.sj_board.proofs.{NextSteps.Begins, NextSteps.cell-comes, NextSteps.ComesIn, NextSteps.GoesAway, NextSteps.GoesOut, NextSteps.next-case, NextSteps.NextCase, NextSteps.none-room, NextSteps.victim-leaves, NextSteps.wait-ends, SparingBoards.sound}
use Rattle.sj_base.proofs.Bools.{or_first}

-- what is read of the worker's hand
pub hand-read : {D : Type 0} {eq : Equations} (faults mismatches : D → ℕ) (held : D → Option (List ℕ)) (b : BoardBy eq D) (deps : Dependencies) (footprints : List ℕ) → KeepsBoard faults mismatches held b deps footprints → (w : Worker) → IsWorking b w → (x d : Hand) → x ≡ get_or b.hands w.0 d → (t : Task) → x.task ≡ Some t → (hand_of b w).task ≡ Some t
hand-read faults mismatches held b deps footprints keeps w works x d read t is = ap (λ (h : Hand). h.task) (sym (read ∙ get_or_default b.hands w.0 d empty_hand (let known = works.known in omega (arith, known, keeps.inside.hands_agree.every_worker)))) ∙ is

module _ {D : Type 0} {eq : Equations} (faults mismatches : D → ℕ) (held : D → Option (List ℕ)) (b : BoardBy eq D) (deps : Dependencies) (footprints : List ℕ) (keeps : KeepsBoard faults mismatches held b deps footprints) (size : D → ℕ) (run : IsSoundRun size faults mismatches held b.run) (w : Worker) (runs_none : RunsNone b w) (moves_none : transfer_of b w ≡ None) (t : Task) (has : (hand_of b w).task ≡ Some t) where
  abbrev p : Program
  p = b.run.program

  abbrev m : Machine
  m = b.run.machine

  abbrev s : State
  s = state b.run

  abbrev k : Node
  k = node_of m w

  claimed : progress s t ≡ Claimed w
  claimed = claimed_by-is w (progress s t) (or_first (is_claimed_by w (progress s t)) (is_running_on w (progress s t)) (keeps.inside.hands_agree.has w t has) (subst (λ (o : Option Task). IfSome o (λ u. is_running_on w (progress s u) ≡ false)) has runs_none))

  free : transfer s w ≡ None
  free = sym (ap (λ (o : Option Task). if is_some o then transfer s w else None) has) ∙ moves_none

  -- the event that it begins with can happen, and a move is the worker's
  possible : (todo : Todo) → NextCase p m s t w todo → CanBegin b w todo × IsMoverOf b w todo
  possible todo (GoesOut c d victim only target) =
      let leaving = victim-leaves p m s w c victim in
      let mover : mover_of s c (AtNode k) (OnDisk d) ≡ w = ap claimant_of (leaving_by-is w (mark s c k) leaving) in
      (subst (λ (v : Worker). CanMoveOut p m s c k d v) (sym mover) (record { free = free; leaving = leaving; only = ap not only; target = target }), mover)
  possible todo (ComesIn c from none cell source) =
      let comes = cell-comes p m s w t c cell in
      let mover : mover_of s c from (AtNode k) ≡ w = ap claimant_of (coming_by-is w (mark s c k) comes.0) in
      (subst (λ (v : Worker). CanMoveIn p m s c from k v) (sym mover) (record { own_node = refl; free = free; coming = comes.0; old_value_needed = comes.1; room = none-room p m s w none; source = source }), mover)
  possible todo (GoesAway c victim shared unread) = (record { leaving = leaving_by-leaves w (mark s c k) (victim-leaves p m s w c victim); unread = ap not unread; shared = shared }, tt)
  possible todo (Begins none nothing may) =
      let parts = and_parts (is_present p s t w k) (list_all (λ c. not (is_moving s c)) (written_cells p t w)) may in
      (subst (λ (o : Option Task). IfSome o (λ u. CanHappen b.run (Run u w))) (sym has) (record { claimed = claimed; earlier = run.coherent.order.earlier t (ap is_begun claimed); room = none-room p m s w none; present = parts.0; unmoved = parts.1 }), tt)
  possible todo waits = (tt, tt)

  pub next-can : (todo : Todo) → IsNext p m s t w todo → CanBegin b w todo
  next-can todo next = (possible todo (next-case p m s t w todo next)).0

  pub next-mover : (todo : Todo) → IsNext p m s t w todo → IsMoverOf b w todo
  next-mover todo next = (possible todo (next-case p m s t w todo next)).1

  pub next-ends : (todo : Todo) → IsNext p m s t w todo → todo ≡ Wait → AnotherGoesOn p m s w
  next-ends todo next waits = wait-ends p m s (sound size faults mismatches held b.run run) run.run.swap t w claimed free (subst (λ (x : Todo). IsNext p m s t w x) waits next)
