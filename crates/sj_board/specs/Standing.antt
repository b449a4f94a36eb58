-- A run as contracts see it: its program and its machine, the events so far, and the disks; its type names the equations of
-- its codelets.
use Rattle.std.specs.Prelude.{◌≡◌, ℕ, Bool, true, false, Option, None, IfSome, IsSome, IsSomeAnd, All, List, [], ◌∷◌, ◌++◌, length, replicate}
use Rattle.sj_base.specs.declared.ids.Cell.{Cell}
use Rattle.sj_base.specs.declared.ids.Place.{Place}
use Rattle.sj_base.specs.declared.ids.Place.TheVariants.{Node as AtNode, Disk as OnDisk}
use Rattle.sj_base.specs.declared.ids.Worker.{Worker}
use Rattle.sj_base.specs.declared.trace.Event.{Event}
use Rattle.sj_base.specs.declared.trace.Event.TheVariants.{Moved}
use Rattle.sj_base.specs.declared.tile.Dims.{Dims}
use Rattle.sj_base.specs.declared.program.Program.{Program}
use Rattle.sj_base.specs.declared.program.Machine.{Machine}
use Rattle.sj_base.specs.Array.{Array}
use Rattle.sj_base.specs.Recorded.{Recorded}
use Rattle.sj_codelet.specs.Kernel.{Equations, out}
use Rattle.sj_core.specs.Arrays.{Arrays, arrays_of}
use Rattle.sj_core.specs.Legal.{state_of}
use Rattle.sj_core.specs.Machine.{State, transfer}
use Rattle.sj_core.specs.Program.{dims_of}
use Rattle.sj_core.specs.Step.{May}
use Rattle.sj_disk.specs.Directory.{DiskState}
use Rattle.sj_disk.specs.Lending.{LendingState}

-- a run by these equations, which its type names, since they are functions, and no model's value holds one: `out` says of each
-- disk whether a worker has it in hand, and `disks` tells of such a one what it was when it was taken; `opened` is the disks as
-- they were when the run was made
pub record StandingBy (eq : Equations) (D : Type 0) : Type 0 where
  pub program : Program
  pub machine : Machine
  pub trace : List Event
  pub disks : DiskState D
  pub out : List Bool
  pub opened : List D

-- by the table's equations
abbrev pub Standing : Type 0 → Type 0
Standing D = StandingBy out D

abbrev pub standing : {D : Type 0} (eq : Equations) → Program → Machine → Recorded → LendingState D → DiskState D → StandingBy eq D
standing eq p m trace lent opened = record { program = p; machine = m; trace = trace.events; disks = lent.set; out = lent.out; opened = opened.disks }

-- nothing has happened, and each disk is in
abbrev pub starting : {D : Type 0} (eq : Equations) → Program → Machine → DiskState D → StandingBy eq D
starting eq p m disks = record { program = p; machine = m; trace = []; disks = disks; out = replicate (length disks.disks) false; opened = disks.disks }

-- the state that the events leave
abbrev pub state : {D : Type 0} {eq : Equations} → StandingBy eq D → State
state b = state_of b.program b.machine b.trace

-- the arrays that the events leave
abbrev pub run_arrays : {D : Type 0} {eq : Equations} → StandingBy eq D → Arrays
run_arrays {D} {eq} b = arrays_of eq b.program b.machine b.trace

-- one event more
abbrev pub with_event : {D : Type 0} {eq : Equations} → StandingBy eq D → Event → StandingBy eq D
with_event b e = record b { trace = b.trace ++ e ∷ [] }

-- the event is legal now
abbrev pub CanHappen : {D : Type 0} {eq : Equations} → StandingBy eq D → Event → Type 0
CanHappen b e = May b.program b.machine (state b) e

-- all disks told their bytes when the run was made; the function is the member `held` of their type
abbrev pub AllTell : {D : Type 0} {eq : Equations} → (D → Option (List ℕ)) → StandingBy eq D → Type 0
AllTell held b = All (λ x. IsSome (held x)) b.opened

-- the array has the cell's dimensions and, where all disks tell, is the one that the cell has at the place
pub record IsTileOf {D : Type 0} {eq : Equations} (held : D → Option (List ℕ)) (b : StandingBy eq D) (c : Cell) (q : Place) (a : Array) : Type 0 where
  pub dims : a.dims ≡ dims_of b.program c
  pub array : AllTell held b → a ≡ run_arrays b c q

-- a share of the cell's tile at a node; none of its block on a disk
abbrev pub IsShareOf : {D : Type 0} {eq : Equations} → (D → Option (List ℕ)) → StandingBy eq D → Cell → Place → Option Array → Type 0
IsShareOf held b c (AtNode n) share = IsSomeAnd share (IsTileOf held b c (AtNode n))
IsShareOf held b c (OnDisk d) share = share ≡ None

-- ---- moves

-- the place is a node
abbrev pub is_node : Place → Bool
is_node (AtNode n) = true
is_node (OnDisk d) = false

-- the worker's transfer brings a cell to a node
abbrev pub IsMovingIn : {D : Type 0} {eq : Equations} → StandingBy eq D → Worker → Type 0
IsMovingIn b w = IsSomeAnd (transfer (state b) w) (λ x. is_node x.to ≡ true)

-- the worker's transfer brings a cell to a disk
abbrev pub IsMovingOut : {D : Type 0} {eq : Equations} → StandingBy eq D → Worker → Type 0
IsMovingOut b w = IsSomeAnd (transfer (state b) w) (λ x. is_node x.to ≡ false)

-- the worker's transfer brings a cell from a disk
abbrev pub IsFetching : {D : Type 0} {eq : Equations} → StandingBy eq D → Worker → Type 0
IsFetching b w = IsSomeAnd (transfer (state b) w) (λ x. is_node x.from ≡ false)

-- the array is that of the cell of the worker's transfer, at its source
abbrev pub IsTileMoved : {D : Type 0} {eq : Equations} → (D → Option (List ℕ)) → StandingBy eq D → Worker → Array → Type 0
IsTileMoved held b w a = IfSome (transfer (state b) w) (λ x. IsTileOf held b x.cell x.from a)

-- these are the dimensions of the cell of the worker's transfer
abbrev pub HasDimsMoved : {D : Type 0} {eq : Equations} → StandingBy eq D → Worker → Dims → Type 0
HasDimsMoved b w dims = IfSome (transfer (state b) w) (λ x. dims ≡ dims_of b.program x.cell)

-- the worker's transfer has ended, and nothing else has happened
abbrev pub HasMoved : {D : Type 0} {eq : Equations} → Worker → StandingBy eq D → StandingBy eq D → Type 0
HasMoved w old new = IfSome (transfer (state old) w) (λ x. new ≡ with_event old (Moved x.cell x.from x.to))
