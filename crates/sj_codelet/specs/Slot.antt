-- What contracts see of an operand.
use Rattle.sj_codelet.specs.declared.frame.FrameOperand.{FrameOperand}
use Rattle.sj_codelet.specs.declared.frame.FrameOperand.TheVariants.{Shared, Own}
use Rattle.sj_codelet.specs.Frame.{Slot, shared, own}

-- an operand's array, and whether it is the task's own
abbrev pub slot_of : FrameOperand → Slot
slot_of (Shared tile) = shared tile.value
slot_of (Own tile) = own tile
