use Rattle.sj_machine.proofs.Words.{Access, ap, filter, is_scratch, List, sum_by, tile_bytes, ◌∙◌}
use Rattle.sj_machine.proofs.plan.scratch_for.Goals as goal

pub returns-clause-bytes : goal.returns-clause-bytes
returns-clause-bytes c = c.scratch_bytes.ensures.bytes ∙ ap (λ (xs : List Access). sum_by (λ a. tile_bytes c.args.program.now a.cell) (filter (λ a. is_scratch a.mode) xs)) c.accesses_of.ensures
