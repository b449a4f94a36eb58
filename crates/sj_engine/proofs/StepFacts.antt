-- What a step for a claimed task needs of the board.
use Rattle.std.proofs.Common.{◌≡◌, ℕ, ◌+◌, ◌≤◌, List, length, ap, ◌∙◌, subst, Option, arith}
use Rattle.std.specs.Prelude.{IfSome, filter}
use Rattle.std.proofs.lemmas.List.Sums.{count_by-le-length, length-filter}
use Rattle.sj_base.specs.declared.ids.Task.{Task}
use Rattle.sj_base.specs.declared.ids.Worker.{Worker}
use Rattle.sj_base.specs.declared.mode.Access.{Access}
use Rattle.sj_base.specs.declared.program.Program.{Program}
use Rattle.sj_base.specs.declared.program.Lowered.{Lowered}
use Rattle.sj_base.specs.declared.trace.Event.TheVariants.{Run}
use Rattle.sj_base.specs.Mode.{reads_value}
use Rattle.sj_codelet.specs.Frame.{Frame}
use Rattle.sj_core.specs.Program.{task_of}
use Rattle.sj_board.specs.Standing.{CanHappen}
use Rattle.sj_board.specs.Board.{BoardState, hand_of}
use Rattle.sj_board.specs.declared.hand.Hand.{Hand}
use Rattle.sj_engine.specs.Operands.{HasRoomForOperands}
use Rattle.sj_engine.specs.Stage.{HasClaimedRow, row_in}

-- a frame with room for all operands has room for those that are read
pub room-for : (p q : Program) (t : Task) (l : Lowered) (f : Frame) (n : ℕ) → q ≡ p → l ≡ task_of q t → n ≡ length l.accesses → n ≤ f.spare → length (filter (λ (a : Access). reads_value a.mode) (task_of p t).accesses) ≤ f.spare
room-for p q t l f n same is long room =
    let test : Access → _ = λ (a : Access). reads_value a.mode in
    let its : List Access = (task_of p t).accesses in
    let count : n ≡ length its = long ∙ ap (λ (k : Lowered). length k.accesses) is ∙ ap (λ (k : Program). length (task_of k t).accesses) same in
    omega (arith, count, room, length-filter test its, count_by-le-length test its)

-- and when the shares of these are in it, room for the others
pub room-left : (p q : Program) (t : Task) (l : Lowered) (f g : Frame) (n : ℕ) → q ≡ p → l ≡ task_of q t → n ≡ length l.accesses → n ≤ f.spare → g.spare + length g.slots ≡ f.spare → HasRoomForOperands p t g
room-left p q t l f g n same is long room kept =
    let count : n ≡ length (task_of p t).accesses = long ∙ ap (λ (k : Lowered). length k.accesses) is ∙ ap (λ (k : Program). length (task_of k t).accesses) same in
    omega (arith, count, room, kept)

module _ {D : Type 0} (w : Worker) (t : Task) (b x : BoardState D) (ex : x ≡ b) (r : HasClaimedRow w t (row_in b w)) where
  -- where the worker's task can begin to run, it is this one
  pub begins : IfSome (hand_of x w).task (λ u. CanHappen x.run (Run u w)) → CanHappen b.run (Run t w)
  begins can =
      subst (λ (o : Option Task). IfSome o (λ u. CanHappen b.run (Run u w))) (ap (λ (h : Hand). h.task) r.hand)
      (subst (λ (k : BoardState D). IfSome (hand_of k w).task (λ u. CanHappen k.run (Run u w))) ex can)
