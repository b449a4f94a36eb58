use Rattle.std.proofs.Common.{◌≡◌, ◌<◌, ◌≤◌, length, slice_index_or}
use Rattle.sj_base.specs.declared.ids.Task.{Task}
use Rattle.sj_core.specs.Needs.{footprint}
use Rattle.sj_needs.proofs.footprint.footprints_of.Given as goal

abbrev pub invariant-loop-i : goal.invariant-loop-i
invariant-loop-i l = (length l.bytes.items ≡ l.i) × ((t : Task) → t.0 < l.i → slice_index_or l.bytes.items t.0 0 ≡ footprint l.program t) × ((t : Task) → t.0 < l.i → footprint l.program t ≤ 18446744073709551615)
