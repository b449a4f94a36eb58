use Rattle.std.proofs.Common.{arith}
use Rattle.std.proofs.lemmas.Grind.{common_steps}
use Rattle.sj_pool.proofs.Queues.{split-front, split-back}
use Rattle.sj_pool.proofs.chunk.Chunk.split.Goals as goal

pub returns-then-place-half-clause-entries : goal.returns-then-place-half-clause-entries
returns-then-place-half-clause-entries c =
    let parts = split-front c.args.self.now c.args.half c.args.place c.args.entry (omega arith) c.requires.half in
    grind (arith, common_steps, parts)

pub returns-else-place-half-clause-entries : goal.returns-else-place-half-clause-entries
returns-else-place-half-clause-entries c =
    let parts = split-back c.args.self.now c.args.half c.args.place c.args.entry (omega arith) c.requires.half in
    grind (arith, common_steps, parts)
