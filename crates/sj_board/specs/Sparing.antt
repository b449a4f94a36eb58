-- What no event takes away: copies that tasks and transfers work on.
use Rattle.std.specs.Prelude.{◌≡◌, Bool, true, false, ◌||◌, IsTrue, IfSome}
use Rattle.sj_base.specs.declared.ids.Cell.{Cell}
use Rattle.sj_base.specs.declared.ids.Worker.{Worker}
use Rattle.sj_base.specs.declared.ids.Place.{Place}
use Rattle.sj_base.specs.declared.ids.Place.TheVariants.{Node as AtNode, Disk as OnDisk}
use Rattle.sj_base.specs.declared.trace.Event.{Event}
use Rattle.sj_base.specs.declared.trace.Event.TheVariants.{End, Moved, Run}
use Rattle.sj_base.specs.declared.program.Program.{Program}
use Rattle.sj_base.specs.declared.program.Machine.{Machine}
use Rattle.sj_codelet.specs.Kernel.{Equations}
use Rattle.sj_core.specs.Arrays.{Arrays}
use Rattle.sj_core.specs.Machine.{State, is_pinned, transfer}
use Rattle.sj_core.specs.Operands.{written_cells}
use Rattle.sj_core.specs.Program.{has_cell}
use Rattle.sj_core.specs.Step.{has_copy, is_read}
use Rattle.sj_board.specs.Standing.{CanHappen, StandingBy, run_arrays, state, with_event}

-- a claimed or running task pins the copy, or a transfer reads it
abbrev pub is_used : Machine → State → Cell → Place → Bool
is_used m s c (AtNode n) = is_pinned m s n c || is_read s c (AtNode n)
is_used m s c (OnDisk d) = is_read s c (OnDisk d)

-- the event is the beginning or the end of a run that writes the cell
abbrev pub writes_cell : Program → Event → Cell → Bool
writes_cell p (Run t w) c = has_cell (written_cells p t w) c
writes_cell p (End t w) c = has_cell (written_cells p t w) c
writes_cell p _ c = false

-- each copy that is used is still there with its array, but for those that the event's own task writes
abbrev pub SparesUsed : Program → Machine → State → Arrays → Event → State → Arrays → Type 0
SparesUsed p m s A e s' A' = (c : Cell) (q : Place) → is_used m s c q ≡ true → IsTrue (has_copy p m s c q) → writes_cell p e c ≡ false → IsTrue (has_copy p m s' c q) × (A' c q ≡ A c q)

-- it is so of each event that can happen
abbrev pub EventsSpareUsed : {D : Type 0} {eq : Equations} → StandingBy eq D → Type 0
EventsSpareUsed b = (e : Event) → CanHappen b e → SparesUsed b.program b.machine (state b) (run_arrays b) e (state (with_event b e)) (run_arrays (with_event b e))

-- of an event that has happened
abbrev pub Spares : {D : Type 0} {eq : Equations} → StandingBy eq D → Event → StandingBy eq D → Type 0
Spares old e new = SparesUsed old.program old.machine (state old) (run_arrays old) e (state new) (run_arrays new)

-- of the end of the worker's transfer
abbrev pub SparesMoved : {D : Type 0} {eq : Equations} → Worker → StandingBy eq D → StandingBy eq D → Type 0
SparesMoved w old new = IfSome (transfer (state old) w) (λ x. Spares old (Moved x.cell x.from x.to) new)
