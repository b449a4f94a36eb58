use Rattle.sj_lower.proofs.Words.{sym}
use Rattle.sj_lower.proofs.Preparations.{begin-valued, begin-unvalued}
use Rattle.sj_lower.proofs.prepare.begin_count.Goals as goal

pub returns-then-valued : goal.returns-then-valued
returns-then-valued c = λ by first cell line. sym (begin-valued by first cell c.args.valued c.args.workers line c.if-valued.true)

pub returns : goal.returns
returns c = λ by first cell line. sym (begin-unvalued by first cell c.args.valued c.args.workers line c.if-valued.false)
