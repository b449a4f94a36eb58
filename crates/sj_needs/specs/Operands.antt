-- The bytes that a task's operands need on a node, one operand after another.
use Rattle.std.specs.Prelude.{ℕ, Bool, ◌&&◌, List, if◌then◌else◌}
use Rattle.std.specs.List.{list_any}
use Rattle.sj_base.specs.declared.ids.Cell.{Cell}
use Rattle.sj_base.specs.declared.mode.Access.{Access}
use Rattle.sj_base.specs.declared.program.Program.{Program}
use Rattle.sj_base.specs.Mode.{is_data}
use Rattle.sj_core.specs.Needs.{tile_bytes}
use Rattle.sj_core.specs.Program.{same_cell}

-- one of the operands is an access to the cell, and not a scratch buffer
abbrev pub is_accessed : List Access → Cell → Bool
is_accessed accesses c = list_any (λ a. is_data a.mode && same_cell a.cell c) accesses

-- the bytes of an operand before these: none where it is an access to a cell that one of these accesses again
abbrev pub bytes_before : Program → List Access → Access → ℕ
bytes_before p later a = if is_data a.mode && is_accessed later a.cell then 0 else tile_bytes p a.cell
