use Rattle.sj_pool.proofs.Least.{least-insert}
use Rattle.sj_pool.proofs.chunk.least_inserted.Goals as goal

pub returns : goal.returns
returns c = least-insert c.least_with.result c.args.place c.args.entry.now c.args.entries.now c.least_with.ensures
