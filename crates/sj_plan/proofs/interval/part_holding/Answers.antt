use Rattle.sj_plan.proofs.Splitting.{held_by_longer, held_by_shorter, lies_alone}
use Rattle.sj_plan.proofs.interval.part_holding.Goals as goal

pub returns-then-x-covered-clause-holds : goal.returns-then-x-covered-clause-holds
returns-then-x-covered-clause-holds c =
    (held_by_longer c.args.items c.args.parts c.args.x c.requires.some_parts c.if-x-covered.true).1

pub returns-then-x-covered-clause-alone : goal.returns-then-x-covered-clause-alone
returns-then-x-covered-clause-alone c = λ k below lies.
    lies_alone c.args.items c.args.parts c.args.x k _ lies (held_by_longer c.args.items c.args.parts c.args.x c.requires.some_parts c.if-x-covered.true).1

pub returns-clause-in_parts : goal.returns-clause-in_parts
returns-clause-in_parts c =
    (held_by_shorter c.args.items c.args.parts c.args.x c.requires.some_parts c.requires.in_items c.if-x-covered.false).0

pub returns-clause-holds : goal.returns-clause-holds
returns-clause-holds c =
    (held_by_shorter c.args.items c.args.parts c.args.x c.requires.some_parts c.requires.in_items c.if-x-covered.false).1

pub returns-clause-alone : goal.returns-clause-alone
returns-clause-alone c = λ k below lies.
    lies_alone c.args.items c.args.parts c.args.x k _ lies (held_by_shorter c.args.items c.args.parts c.args.x c.requires.some_parts c.requires.in_items c.if-x-covered.false).1
