-- A worker's next step on a board.
use Rattle.std.specs.Prelude.{◌≡◌, false, ◌&&◌, IfSome, MatchOption}
use Rattle.sj_base.specs.declared.ids.Worker.{Worker}
use Rattle.sj_base.specs.declared.trace.Event.TheVariants.{Drop, Move, Run}
use Rattle.sj_codelet.specs.Kernel.{Equations}
use Rattle.sj_core.specs.Machine.{writes}
use Rattle.sj_core.specs.Needs.{node_of}
use Rattle.sj_core.specs.Step.{mover_of}
use Rattle.sj_board.specs.Standing.{CanHappen, is_node, state}
use Rattle.sj_disk.specs.Lending.{IsInFor}
use Rattle.sj_board.specs.DiskUnits.{lent}
use Rattle.sj_board.specs.declared.todo.Todo.{Todo}
use Rattle.sj_board.specs.declared.todo.Todo.TheVariants.{Discard, Nothing, Start, Transfer, Wait}
use Rattle.sj_board.specs.NextStep.{IsStepFor}
use Rattle.sj_board.specs.Board.{BoardBy, hand_of}

-- the worker's next step: nothing where it has no task
abbrev pub IsTodoOf : {D : Type 0} {eq : Equations} → BoardBy eq D → Worker → Todo → Type 0
IsTodoOf b w todo = MatchOption (hand_of b w).task (todo ≡ Nothing) (λ t. IsStepFor b.run t w todo)

-- where it is a transfer in which a disk takes part, that disk is in
abbrev pub HasDiskIn : {D : Type 0} {eq : Equations} → BoardBy eq D → Todo → Type 0
HasDiskIn b (Transfer c from to n) = (is_node from && is_node to) ≡ false → IsInFor (lent b.run) c.0
HasDiskIn b _ = Unit {0}

-- ---- what follows of it

-- the event that the step begins with can happen
abbrev pub CanBegin : {D : Type 0} {eq : Equations} → BoardBy eq D → Worker → Todo → Type 0
CanBegin b w Nothing = Unit {0}
CanBegin b w (Transfer c from to n) = CanHappen b.run (Move c from to)
CanBegin b w (Discard c) = CanHappen b.run (Drop c (node_of b.run.machine w))
CanBegin b w Wait = Unit {0}
CanBegin b w Start = IfSome (hand_of b w).task (λ t. CanHappen b.run (Run t w))

-- where it is a move, it is the worker's
abbrev pub IsMoverOf : {D : Type 0} {eq : Equations} → BoardBy eq D → Worker → Todo → Type 0
IsMoverOf b w (Transfer c from to n) = mover_of (state b.run) c from to ≡ w
IsMoverOf b w _ = Unit {0}

-- where it is a transfer, so many tasks have written its cell
abbrev pub IsCounted : {D : Type 0} {eq : Equations} → BoardBy eq D → Todo → Type 0
IsCounted b (Transfer c from to n) = n ≡ writes (state b.run) c
IsCounted b _ = Unit {0}
