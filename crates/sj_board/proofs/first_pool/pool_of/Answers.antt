use Rattle.sj_board.proofs.Opening.{first-can}
use Rattle.sj_board.proofs.first_pool.pool_of.Goals as goal

pub put_each-requires-clause-can : goal.put_each-requires-clause-can
put_each-requires-clause-can c = first-can c.args.program.now c.requires.workers c.args.ready.now c.requires.first c.in_ok-pool.pool c.args.count c.requires.count c.in_ok-pool.ensures
