use Rattle.std.proofs.Common.{arith}
use Rattle.std.proofs.lemmas.Grind.{common_steps}
use Rattle.sj_pool.proofs.Queues.{first-at, rest-at, none-at}
use Rattle.sj_pool.proofs.chunk.take_from_list.Goals as goal

pub returns-in-None-clause-taken : goal.returns-in-None-clause-taken
returns-in-None-clause-taken c = grind (arith, common_steps, none-at c.args.room c.args.list.now.items)

pub returns-in-None-clause-rest : goal.returns-in-None-clause-rest
returns-in-None-clause-rest c = grind (arith, common_steps, none-at c.args.room c.args.list.now.items)

pub returns-in-Some-clause-taken : goal.returns-in-Some-clause-taken
returns-in-Some-clause-taken c = grind (arith, common_steps, first-at c.args.room c.args.list.now.items c.remove.result)

pub returns-in-Some-clause-rest : goal.returns-in-Some-clause-rest
returns-in-Some-clause-rest c = grind (arith, common_steps, rest-at c.args.room c.args.list.now.items)
