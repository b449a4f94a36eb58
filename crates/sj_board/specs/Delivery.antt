-- Deliver tasks, and what they hand over.
use Rattle.std.specs.Prelude.{◌≡◌, ℕ, Bool, true, false, IsTrue, IsSomeAnd, Option, Some, None, List, slice_index_or}
use Rattle.sj_base.specs.declared.ids.Cell.{Cell}
use Rattle.sj_base.specs.declared.ids.Task.{Task}
use Rattle.sj_base.specs.declared.ids.Worker.{Worker}
use Rattle.sj_base.specs.declared.ids.Place.TheVariants.{Node as AtNode}
use Rattle.sj_base.specs.declared.program.Codelet.{Codelet}
use Rattle.sj_base.specs.declared.program.Program.{Program}
use Rattle.sj_base.specs.Array.{Array}
use Rattle.sj_codelet.specs.Kernel.{kernel_of}
use Rattle.sj_codelet.specs.declared.kernel.Kernel.{Kernel}
use Rattle.sj_codelet.specs.declared.kernel.Kernel.TheVariants.{Deliver}
use Rattle.sj_codelet.specs.Kernel.{Equations}
use Rattle.sj_core.specs.Needs.{node_of}
use Rattle.sj_core.specs.Operands.{cells_of}
use Rattle.sj_core.specs.Program.{task_of}
use Rattle.sj_board.specs.Standing.{IsTileOf, StandingBy}

abbrev pub is_deliver : Kernel → Bool
is_deliver Deliver = true
is_deliver _ = false

-- the codelet hands its operand over
abbrev pub is_delivery : Codelet → Bool
is_delivery id = elim (kernel_of id) [ None ↦ false | Some k ↦ is_deliver k ]

abbrev pub is_deliver_task : Program → Task → Bool
is_deliver_task p t = is_delivery (task_of p t).codelet

-- the cell of a deliver task's one operand
abbrev pub delivered_cell : Program → Task → Cell
delivered_cell p t = slice_index_or (cells_of p t (record { 0 = 0 })) 0 (record { 0 = 0 })

-- what a task hands over as it ends: the tile of its operand at its worker's node where it is a deliver task, else nothing
pub record IsGift {D : Type 0} {eq : Equations} (held : D → Option (List ℕ)) (b : StandingBy eq D) (t : Task) (w : Worker) (gift : Option Array) : Type 0 where
  pub some : IsTrue (is_deliver_task b.program t) → IsSomeAnd gift (IsTileOf held b (delivered_cell b.program t) (AtNode (node_of b.machine w)))
  pub none : is_deliver_task b.program t ≡ false → gift ≡ None
