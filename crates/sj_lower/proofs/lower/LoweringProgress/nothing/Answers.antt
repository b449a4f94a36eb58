use Rattle.sj_lower.proofs.Words.{arith}
use Rattle.sj_lower.proofs.Preparations.{copied-none}
use Rattle.sj_lower.proofs.lower.LoweringProgress.nothing.Goals as goal

pub returns-clause-at : goal.returns-clause-at
returns-clause-at c = λ T. record {
  lays = c.none.ensures.lays T;
  few_cells = omega arith;
  actives = (c.nothing.ensures T).actives;
  follows = λ e. c.nothing.ensures T;
  few_tasks = λ e. omega arith;
  prints = omega (arith, (c.nothing.ensures T).prints);
  copied = copied-none c.args.workers;
}
