-- The operands of a task, from shares of the tiles whose old value it reads.
use Rattle.std.specs.Prelude.{◌≡◌, ◌+◌, ◌++◌, ◌≤◌, ◌<◌, ◌^◌, List, [], ◌∷◌, length, map, filter, MatchBool, if◌then◌else◌}
use Rattle.std.specs.List.{AllZip}
use Rattle.sj_base.specs.declared.ids.Cell.{Cell}
use Rattle.sj_base.specs.declared.ids.Task.{Task}
use Rattle.sj_base.specs.declared.ids.Worker.{Worker}
use Rattle.sj_base.specs.declared.mode.Access.{Access}
use Rattle.sj_base.specs.declared.program.Program.{Program}
use Rattle.sj_base.specs.Array.{Array, area, zeros}
use Rattle.sj_base.specs.Mode.{is_written, reads_value}
use Rattle.sj_codelet.specs.Frame.{Frame, Slot, own, shared}
use Rattle.sj_core.specs.Operands.{worked_on}
use Rattle.sj_core.specs.Program.{dims_of, task_of}
use Rattle.sj_board.specs.Shares.{IsShare}

-- the accesses of a task whose old value is read, in order
abbrev pub read_operands : Program → Task → List Access
read_operands p t = filter (λ a. reads_value a.mode) (task_of p t).accesses

-- shares of the operands of a task whose old value it reads, in order
abbrev pub AreSharesOf : Program → Task → List Slot → Type 0
AreSharesOf p t slots = AllZip (IsShare p) (read_operands p t) slots

-- what these operands hold for a worker, where the cells hold that
abbrev pub held_for : Program → Worker → (Cell → Array) → List Access → List Array
held_for p w held accesses = map (λ a. held (worked_on p w a)) accesses

-- an operand made of its share: shared on where it is only read, and else the task's own
abbrev pub operand_from : Access → Array → Slot
operand_from a x = if is_written a.mode then own x else shared x

-- the first of the shares, and those after it
abbrev pub first_share : Program → Access → List Array → Array
first_share p a [] = zeros (dims_of p a.cell)
first_share p a (x ∷ xs) = x

abbrev pub later_shares : List Array → List Array
later_shares [] = []
later_shares (x ∷ xs) = xs

-- the operands of these accesses in order: zeros where the old value isn't read, and else made of the shares in their order
abbrev pub operands_from : Program → List Access → List Array → List Slot
operands_from p [] shares = []
operands_from p (a ∷ accesses) shares =
    if reads_value a.mode then operand_from a (first_share p a shares) ∷ operands_from p accesses (later_shares shares)
    else own (zeros (dims_of p a.cell)) ∷ operands_from p accesses shares

-- one operand is made: of the last share, where its old value is read, and else zeros
pub record TakesLast (a : Access) (old new : List Slot) (slot : Slot) : Type 0 where
  pub share : Array
  pub taken : old ≡ new ++ shared share ∷ []
  pub made : slot ≡ operand_from a share

pub record IsFresh (p : Program) (a : Access) (old new : List Slot) (slot : Slot) : Type 0 where
  pub stays : new ≡ old
  pub made : slot ≡ own (zeros (dims_of p a.cell))

abbrev pub MakesOperand : Program → Access → List Slot → List Slot → Slot → Type 0
MakesOperand p a old new slot = MatchBool (reads_value a.mode) (TakesLast a old new slot) (IsFresh p a old new slot)

-- a frame with room for all operands of a task, those that it has among them
abbrev pub HasRoomForOperands : Program → Task → Frame → Type 0
HasRoomForOperands p t f = length (task_of p t).accesses ≤ f.spare + length f.slots

-- the access names a cell of the program, whose array isn't too large
pub record IsSmall (p : Program) (a : Access) : Type 0 where
  pub cell : a.cell.0 < length p.cells
  pub small : area (dims_of p a.cell) ≤ 2 ^ 24
