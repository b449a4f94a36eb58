use Rattle.sj_pool.proofs.Queues.{by_urgency-behind}
use Rattle.sj_pool.proofs.queue.put_behind.Goals as goal

pub put_in_tail-requires-clause-in_order : goal.put_in_tail-requires-clause-in_order
put_in_tail-requires-clause-in_order c = λ p. by_urgency-behind c.args.list.now.items c.args.tail.now (c.requires.in_order p)
