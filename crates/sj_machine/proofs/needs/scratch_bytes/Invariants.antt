use Rattle.sj_machine.proofs.Words.{filter, is_scratch, sum_by, take, tile_bytes, ◌*◌, ◌^◌, ◌≡◌, ◌≤◌}
use Rattle.sj_machine.proofs.needs.scratch_bytes.Given as goal

abbrev pub invariant-loop-access : goal.invariant-loop-access
invariant-loop-access l = (l.bytes ≡ sum_by (λ a. tile_bytes l.program a.cell) (filter (λ a. is_scratch a.mode) (take l.access-index l.accesses))) × (l.bytes ≤ l.access-index * 2 ^ 27)
