-- What the steps of a task keep: laws of all proper programs, machines and coherent states.
use Rattle.sj_base.specs.declared.ids.Cell.{Cell}
use Rattle.std.specs.Prelude.{◌≡◌, ℕ, ◌<◌, ◌≤◌, Bool, false, true, FitsSigned, None, Some, IsTrue, List, [], ◌∷◌, ◌++◌, length, All, Contains}
use Rattle.std.specs.Int.{w64}
use Rattle.sj_base.specs.declared.program.Codelet.{Codelet}
use Rattle.sj_codelet.specs.declared.kernel.Kernel.{Kernel}
use Rattle.sj_codelet.specs.Kernel.{Equations, kernel_of}
use Rattle.sj_codelet.specs.Laws.{AllMakeTiles, CommutingCommute, ContributingContribute, ReductionsReduce}
use Rattle.sj_base.specs.declared.ids.Task.{Task}
use Rattle.sj_base.specs.declared.ids.Node.{Node}
use Rattle.sj_base.specs.declared.ids.Worker.{Worker}
use Rattle.sj_base.specs.declared.ids.DiskNo.{DiskNo}
use Rattle.sj_base.specs.declared.ids.Place.{Place}
use Rattle.sj_base.specs.declared.program.Program.{Program}
use Rattle.sj_base.specs.declared.program.Machine.{Machine}
use Rattle.sj_core.specs.Machine.{State, cell_state, progress, mark, transfer, is_valid}
use Rattle.sj_core.specs.Proper.{Proper, IsMachineFor, HasSwapFor, IsOpenAt, IsPhase, IsPlain, Phase, gives_value}
use Rattle.sj_base.specs.Mode.{reads_value, is_in_order, access}
use Rattle.sj_core.specs.Arrays.{Arrays, HoldsContent, arrays_after, arrays_of, content}
use Rattle.sj_core.specs.Coherent.{Coherent}
use Rattle.sj_core.specs.Step.{May, a_transfer, after, cell_after, disk_of, has_copy, mover_of}
use Rattle.sj_base.specs.declared.mode.Mode.TheVariants.{R}
use Rattle.sj_base.specs.declared.mode.Access.{Access}
use Rattle.sj_base.specs.declared.ids.Place.TheVariants.{Node as AtNode, Disk as OnDisk}
use Rattle.sj_base.specs.declared.trace.Event.{Event}
use Rattle.sj_base.specs.declared.trace.Event.TheVariants.{Claim, Drop, End, Move, Moved, Run}
use Rattle.sj_base.specs.Array.{Array}
use Rattle.sj_core.specs.declared.progress.Progress.TheVariants.{Claimed, Running}
use Rattle.sj_core.specs.Program.{task_of}
use Rattle.sj_core.specs.Needs.{node_of}
use Rattle.sj_core.specs.Operands.{worked_on}
use Rattle.sj_core.specs.Fold.{after_chosen, held_in, held_before, given}
use Rattle.sj_core.specs.Bound.{HasAtMostThreePerTaskAndFivePerOperand}
use Rattle.sj_core.specs.Legal.{IsComplete, IsFinished, IsLegal, state_of}

-- a coherent state of a proper program on a machine for it
pub record IsSound (p : Program) (m : Machine) (s : State) : Type 0 where
  pub proper : Proper p
  pub machine : IsMachineFor p m
  pub coherent : Coherent p m s

-- the fact holds after each claim from a coherent state
abbrev pub IsKeptByClaims : (Program → Machine → State → Type 0) → Type 0
IsKeptByClaims Fact = (p : Program) (m : Machine) (s : State) (t : Task) (w : Worker) → IsSound p m s → May p m s (Claim t w) → Fact p m (after p m s (Claim t w))

-- the fact holds after each run that begins in a coherent state
abbrev pub IsKeptByRuns : (Program → Machine → State → Type 0) → Type 0
IsKeptByRuns Fact = (p : Program) (m : Machine) (s : State) (t : Task) (w : Worker) → IsSound p m s → May p m s (Run t w) → Fact p m (after p m s (Run t w))

-- the fact holds after each end in a coherent state
abbrev pub IsKeptByEnds : (Program → Machine → State → Type 0) → Type 0
IsKeptByEnds Fact = (p : Program) (m : Machine) (s : State) (t : Task) (w : Worker) → IsSound p m s → May p m s (End t w) → Fact p m (after p m s (End t w))

-- the fact holds after each move into a node that begins in a coherent state
abbrev pub IsKeptByMovesIn : (Program → Machine → State → Type 0) → Type 0
IsKeptByMovesIn Fact = (p : Program) (m : Machine) (s : State) (c : Cell) (from : Place) (n : Node) → IsSound p m s → May p m s (Move c from (AtNode n)) → Fact p m (after p m s (Move c from (AtNode n)))

-- the fact holds after each move out to a disk that begins in a coherent state
abbrev pub IsKeptByMovesOut : (Program → Machine → State → Type 0) → Type 0
IsKeptByMovesOut Fact = (p : Program) (m : Machine) (s : State) (c : Cell) (from : Place) (d : DiskNo) → IsSound p m s → May p m s (Move c from (OnDisk d)) → Fact p m (after p m s (Move c from (OnDisk d)))

-- the fact holds after each move that ends in a coherent state
abbrev pub IsKeptByEndedMoves : (Program → Machine → State → Type 0) → Type 0
IsKeptByEndedMoves Fact = (p : Program) (m : Machine) (s : State) (c : Cell) (from to : Place) → IsSound p m s → May p m s (Moved c from to) → Fact p m (after p m s (Moved c from to))

-- the fact holds after each drop in a coherent state
abbrev pub IsKeptByDrops : (Program → Machine → State → Type 0) → Type 0
IsKeptByDrops Fact = (p : Program) (m : Machine) (s : State) (c : Cell) (n : Node) → IsSound p m s → May p m s (Drop c n) → Fact p m (after p m s (Drop c n))

-- each event changes the row of each cell of the table as `cell_after` says
abbrev pub EventsChangeRows : Type 0
EventsChangeRows = (p : Program) (m : Machine) (s : State) (e : Event) (c : Cell) → c.0 < length s.cells → cell_state (after p m s e) c ≡ cell_after p m s e c (cell_state s c)

-- ---- the set of a program's codelets

-- a set that has these codelets has the one of this id
abbrev pub is_known : (Kernel → Bool) → Codelet → Bool
is_known has id = elim (kernel_of id) [ None ↦ false | Some kernel ↦ has kernel ]

-- the set has each codelet of the program and obeys, with these equations, the laws of a set; and each argument of a task is an
-- i64
pub record IsLawful (eq : Equations) (has : Kernel → Bool) (p : Program) : Type 0 where
  pub known : All (λ l. IsTrue (is_known has l.codelet)) p.tasks
  pub arguments : All (λ l. All (FitsSigned w64) l.args) p.tasks
  pub making : AllMakeTiles eq has
  pub commuting : CommutingCommute eq has
  pub contributing : ContributingContribute eq has
  pub reducing : ReductionsReduce eq has

-- each event that may happen in a coherent state whose arrays are what the tasks leave leaves such arrays, by the laws of the
-- program's set
abbrev pub EventsKeepContent : Type 0
EventsKeepContent = (eq : Equations) (has : Kernel → Bool) (p : Program) (m : Machine) (s : State) (A : Arrays) (e : Event) → IsSound p m s → IsLawful eq has p → HoldsContent eq p m s A → May p m s e → HoldsContent eq p m (after p m s e) (arrays_after eq p m A e)

-- ---- what a task finds

-- the task runs on the worker, or is claimed by it and the cell is valid on the worker's node
pub data HasAtHand (m : Machine) (s : State) (t : Task) (w : Worker) (c : Cell) : Type 0 where
  Works : progress s t ≡ Running w → HasAtHand m s t w c
  Brought : progress s t ≡ Claimed w → IsTrue (is_valid (mark s c (node_of m w))) → HasAtHand m s t w c

-- each operand whose old value a task reads has on its worker's node what the tasks that are done leave in the cell that is
-- worked on
abbrev pub FindsContent : Type 0
FindsContent = (eq : Equations) (p : Program) (m : Machine) (s : State) (A : Arrays) (t : Task) (w : Worker) (a : Access) → IsSound p m s → HoldsContent eq p m s A → Contains (task_of p t).accesses a → IsTrue (reads_value a.mode) → HasAtHand m s t w (worked_on p w a) → A (worked_on p w a) (AtNode (node_of m w)) ≡ content eq p s (worked_on p w a)

-- the cell is no partial copy, and no phase of it is open at the task of this number
pub record IsSettled (p : Program) (n : ℕ) (c : Cell) : Type 0 where
  pub plain : IsPlain p c
  pub closed : (f : Phase) → IsPhase p f → f.cell ≡ c → ¬ IsOpenAt f n

-- and where such an operand stands in the order of tasks, that is the array that its cell holds after all tasks before
abbrev pub FindsEarlierTasks : Type 0
FindsEarlierTasks = (eq : Equations) (has : Kernel → Bool) (p : Program) (m : Machine) (s : State) (A : Arrays) (t : Task) (w : Worker) (a : Access) → IsSound p m s → HoldsContent eq p m s A → IsLawful eq has p → Contains (task_of p t).accesses a → IsTrue (reads_value a.mode) → IsTrue (is_in_order a.mode) → IsSettled p t.0 a.cell → HasAtHand m s t w a.cell → A a.cell (AtNode (node_of m w)) ≡ held_before eq p t.0 a.cell

-- a task that reads one cell and does nothing else has on its worker's node the array that it hands over
abbrev pub DeliversGiven : Type 0
DeliversGiven = (eq : Equations) (has : Kernel → Bool) (p : Program) (m : Machine) (s : State) (A : Arrays) (t : Task) (w : Worker) (c : Cell) → IsSound p m s → HoldsContent eq p m s A → IsLawful eq has p → (task_of p t).accesses ≡ access R c ∷ [] → HasAtHand m s t w c → A c (AtNode (node_of m w)) ≡ given eq p t

-- what such a cell holds after all tasks below n doesn't depend on the workers of contributions
abbrev pub TakesAnyWorker : Type 0
TakesAnyWorker = (eq : Equations) (has : Kernel → Bool) (p : Program) (n : ℕ) (c : Cell) (by : Task → Worker) → Proper p → IsLawful eq has p → n ≤ length p.tasks → IsSettled p n c → 0 < p.workers → ((u : Task) → (by u).0 < p.workers) → held_in p (after_chosen eq p (λ u. true) by n) c ≡ held_before eq p n c

-- ---- whole traces

-- a trace that is one event longer is legal exactly where the trace is, and the event may happen in the state that it leaves
pub record LegalByOneMore (p : Program) (m : Machine) (trace : List Event) (e : Event) : Type 0 where
  pub both_suffice : IsLegal p m trace → May p m (state_of p m trace) e → IsLegal p m (trace ++ e ∷ [])
  pub trace_is_legal : IsLegal p m (trace ++ e ∷ []) → IsLegal p m trace
  pub event_may_happen : IsLegal p m (trace ++ e ∷ []) → May p m (state_of p m trace) e

abbrev pub TracesGoOn : Type 0
TracesGoOn = (p : Program) (m : Machine) (trace : List Event) (e : Event) → LegalByOneMore p m trace e

-- in a coherent state a transfer that is under way is the one that its event speaks of
abbrev pub MovesHaveOneWorker : Type 0
MovesHaveOneWorker = (p : Program) (m : Machine) (s : State) (c : Cell) (from to : Place) (w : Worker) → Coherent p m s → transfer s w ≡ Some (a_transfer c from to) → w ≡ mover_of s c from to

-- where the blocks fit, each cell of the program has its disk
abbrev pub EachCellHasDisk : Type 0
EachCellHasDisk = (p : Program) (m : Machine) (c : Cell) → HasSwapFor p m → c.0 < length p.cells → (d : DiskNo) × (disk_of p m c ≡ Some d)

-- a legal trace has at most three events for each task and five for each operand
abbrev pub LegalTracesAreBounded : Type 0
LegalTracesAreBounded = (p : Program) (m : Machine) (trace : List Event) → Proper p → IsMachineFor p m → IsLegal p m trace → HasAtMostThreePerTaskAndFivePerOperand p trace

-- a cell's disk is one of the machine's
abbrev pub DisksAreOfMachine : Type 0
DisksAreOfMachine = (p : Program) (m : Machine) (c : Cell) (d : DiskNo) → disk_of p m c ≡ Some d → d.0 < length m.disks

-- the array of a cell after all tasks of the program in submission order, with each contribution by worker 0
abbrev pub final : Equations → Program → Cell → Array
final eq p c = held_before eq p (length p.tasks) c

-- each cell to which a task gives a value has a copy, and each holds what all tasks leave, unless the cell is a
-- partial copy
pub record HoldsFinal (eq : Equations) (p : Program) (m : Machine) (s : State) (A : Arrays) : Type 0 where
  pub somewhere : (t : Task) (c : Cell) → IsTrue (gives_value (task_of p t) c) → (q : Place) × IsTrue (has_copy p m s c q)
  pub alike : (t : Task) (c : Cell) (q : Place) → IsTrue (gives_value (task_of p t) c) → IsPlain p c → IsTrue (has_copy p m s c q) → A c q ≡ final eq p c

-- it is so where all tasks are done
abbrev pub CompleteHoldsFinal : Type 0
CompleteHoldsFinal = (eq : Equations) (has : Kernel → Bool) (p : Program) (m : Machine) (s : State) (A : Arrays) → IsSound p m s → HoldsContent eq p m s A → IsLawful eq has p → IsComplete s → HoldsFinal eq p m s A

-- each legal trace of a proper program leaves a coherent state
abbrev pub TracesKeepCoherence : Type 0
TracesKeepCoherence = (p : Program) (m : Machine) (trace : List Event) → Proper p → IsMachineFor p m → IsLegal p m trace → Coherent p m (state_of p m trace)

-- and arrays that are what the tasks leave, by the laws of the program's set
abbrev pub TracesKeepContent : Type 0
TracesKeepContent = (eq : Equations) (has : Kernel → Bool) (p : Program) (m : Machine) (trace : List Event) → Proper p → IsMachineFor p m → IsLawful eq has p → IsLegal p m trace → HoldsContent eq p m (state_of p m trace) (arrays_of eq p m trace)

-- and where it is complete, the cells hold what all tasks leave
abbrev pub CompleteTracesHoldFinal : Type 0
CompleteTracesHoldFinal = (eq : Equations) (has : Kernel → Bool) (p : Program) (m : Machine) (trace : List Event) → Proper p → IsMachineFor p m → IsLawful eq has p → IsFinished p m trace → HoldsFinal eq p m (state_of p m trace) (arrays_of eq p m trace)
