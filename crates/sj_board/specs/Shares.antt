-- Shares that a task takes of tiles as it begins to run, and gives back as it ends.
use Rattle.std.specs.Prelude.{◌≡◌, ℕ, ◌<◌, ◌∷◌, false, IsTrue, All, is_some, Option, Some, List, [], map, length, unwrap_or}
use Rattle.std.specs.List.{AllZip}
use Rattle.sj_base.specs.declared.ids.Cell.{Cell}
use Rattle.sj_base.specs.declared.ids.Node.{Node}
use Rattle.sj_base.specs.declared.ids.Task.{Task}
use Rattle.sj_base.specs.declared.ids.Worker.{Worker}
use Rattle.sj_base.specs.declared.ids.Place.TheVariants.{Node as AtNode}
use Rattle.sj_base.specs.declared.mode.Access.{Access}
use Rattle.sj_base.specs.declared.program.Program.{Program}
use Rattle.sj_base.specs.Array.{Array}
use Rattle.sj_codelet.specs.Frame.{Slot, arrays, shared}
use Rattle.sj_base.specs.Mode.{reads_value, reads_of}
use Rattle.sj_codelet.specs.Kernel.{Equations}
use Rattle.sj_core.specs.Needs.{node_of}
use Rattle.sj_core.specs.Program.{dims_of, task_of, written_operands}
use Rattle.sj_core.specs.Operands.{results, worked_on}
use Rattle.sj_core.specs.Arrays.{held_at}
use Rattle.sj_machine.specs.Operands.{CanWorkOn, written_among}
use Rattle.sj_board.specs.Standing.{AllTell, StandingBy, run_arrays}
use Rattle.sj_board.specs.Tiles.{tile_at, tiles_of, with_tile, with_tiles_of}

-- ---- shares

-- the tile that is kept of a cell at a node
abbrev pub kept_at : List (List (Option Array)) → Node → Cell → Array
kept_at tiles n c = unwrap_or (tile_at tiles c n) (record { dims = record { rows = 0; cols = 0 }; elements = [] })

-- shares of the tiles at a node on which a worker works for those operands whose old value is read, in order
abbrev pub shares_at : Program → Worker → List (List (Option Array)) → Node → List Access → List Slot
shares_at p w tiles n accesses = map (λ a. shared (kept_at tiles n (worked_on p w a))) (reads_of accesses)

-- a share can be given of what a worker works on for the operand: its place is there and, where the old value is
-- read, a tile
pub record CanGive (p : Program) (w : Worker) (tiles : List (List (Option Array))) (n : Node) (a : Access) : Type 0 where
  pub works : CanWorkOn p w a
  pub cell : (worked_on p w a).0 < length tiles
  pub node : n.0 < length (tiles_of tiles (worked_on p w a))
  pub tile : IsTrue (reads_value a.mode) → IsTrue (is_some (tile_at tiles (worked_on p w a) n))

-- the operand is a share of the tile that the worker works on, at its node: it has the dimensions of the operand's cell and,
-- where all disks tell, is the array there
pub record IsShareIn {D : Type 0} {eq : Equations} (held : D → Option (List ℕ)) (b : StandingBy eq D) (w : Worker) (a : Access) (slot : Slot) : Type 0 where
  pub shared : slot.owned ≡ false
  pub dims : slot.array.dims ≡ dims_of b.program a.cell
  pub array : AllTell held b → slot.array ≡ run_arrays b (worked_on b.program w a) (AtNode (node_of b.machine w))

-- shares of the operands of a task whose old value is read, in order
abbrev pub AreSharesFor : {D : Type 0} {eq : Equations} → (D → Option (List ℕ)) → StandingBy eq D → Task → Worker → List Slot → Type 0
AreSharesFor held b t w slots = AllZip (IsShareIn held b w) (reads_of (task_of b.program t).accesses) slots

-- ---- what a task gives back

-- none of the operands is the task's own
abbrev pub AreShared : List Slot → Type 0
AreShared slots = All (λ s. s.owned ≡ false) slots

-- the operand is a share, of its cell's dimensions
pub record IsShare (p : Program) (a : Access) (slot : Slot) : Type 0 where
  pub shared : slot.owned ≡ false
  pub dims : slot.array.dims ≡ dims_of p a.cell

-- shares of a running task's results, in the order of its written operands
pub record AreResultsFor {D : Type 0} {eq : Equations} (held : D → Option (List ℕ)) (b : StandingBy eq D) (t : Task) (w : Worker) (slots : List Slot) : Type 0 where
  pub each : AllZip (IsShare b.program) (written_operands (task_of b.program t)) slots
  pub told : AllTell held b → arrays slots ≡ results eq b.program t w (held_at (run_arrays b) (AtNode (node_of b.machine w)))

-- these tiles in the places of these cells at a node
abbrev pub put_each : Node → List Cell → List Array → List (List (Option Array)) → List (List (Option Array))
put_each n [] news tiles = tiles
put_each n (c ∷ cells) [] tiles = tiles
put_each n (c ∷ cells) (a ∷ news) tiles = with_tiles_of (put_each n cells news tiles) c (λ places. with_tile places n (Some a))

-- these operands can be put in the places of what a worker works on for its written operands, at a node
pub record CanPutBack (p : Program) (w : Worker) (tiles : List (List (Option Array))) (n : Node) (accesses : List Access) (slots : List Slot) : Type 0 where
  pub works : All (CanWorkOn p w) accesses
  pub cells : All (λ a. (worked_on p w a).0 < length tiles) accesses
  pub places : All (λ places. n.0 < length places) tiles
  pub shares : AreShared slots
  pub count : length slots ≡ length (written_among p w accesses)
