use Rattle.std.proofs.Common.{◌≡◌, ◌+◌, ◌≤◌, ℕ, List, Some, length, slice_range, ap, ◌∙◌, arith}
use Rattle.sj_edge.specs.Held.{written}
use Rattle.sj_edge.specs.Memory.{Keeping}
use Rattle.sj_edge.proofs.Ranges.{length-slice_range, written-itself}
use Rattle.sj_edge.proofs.memory_disk.MemDiskDisk.write.Goals as goal

pub returns-then-next_is_refused-clause-changes_no_byte_outside :
    goal.returns-then-next_is_refused-clause-changes_no_byte_outside
returns-then-next_is_refused-clause-changes_no_byte_outside c =
    let xs : List ℕ = c.self.inside.bytes in
    let at : ℕ = c.args.at in
    let n : ℕ = length c.args.bytes.now in
    let same_length : length xs ≡ length c.args.self.now.bytes = ap (λ (d : Keeping). length d.bytes) c.self.view_is in
    let in_range : at + n ≤ length xs = omega arith in
    let zs : List ℕ = slice_range xs at (at + n) in
    (zs, length-slice_range xs at n in_range, ap Some (written-itself xs at n in_range) ∙ ap (λ (d : Keeping). Some (written at zs d.bytes)) c.self.view_is)
