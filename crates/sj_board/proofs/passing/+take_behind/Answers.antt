use Rattle.sj_board.proofs.Words.{ap, count_entries, IsPoolOf, IsTakenBehind, None, Pooled, rules, Some, subst, sym, ◌<◌, ◌∙◌}
use Rattle.sj_board.proofs.{PassedTasks.back-absent, PassedTasks.back-known, PassedTasks.back-task, PassedTasks.fewer, PassedTasks.pool-taken, PassedTasks.put-behind, PassedTasks.taken-none, PassedTasks.taken-some, Pooling.none-contains}
use Rattle.sj_board.proofs.passing.+take_behind.Goals as goal

pub returns-in_default : goal.returns-in_default
returns-in_default t c =
    subst (λ (q : Pooled). IsTakenBehind c.args.program.now c.args.passed.now c.args.w.0 c.args.room c.args.pool.now q None) (sym c.take.ensures.rest)
    (taken-none c.args.program.now c.args.passed.now c.args.w.0 c.args.room c.args.pool.now c.requires.pool (sym c.take.ensures.task ∙ c.in_default.is) (c.in_default.ensures.none.0 (search rules)))

pub returns-then-not-is_among : goal.returns-then-not-is_among
returns-then-not-is_among t c =
    subst (λ (q : Pooled). IsTakenBehind c.args.program.now c.args.passed.now c.args.w.0 c.args.room c.args.pool.now q (Some c.in-Some.t)) (sym c.take.ensures.rest)
    (taken-some c.args.program.now c.args.passed.now c.args.w.0 c.args.room c.args.pool.now c.requires.pool c.in-Some.t (sym c.take.ensures.task ∙ c.in-Some.is) (sym c.is_among.ensures ∙ c.if-not-is_among.true) c.is_most_urgent.ensures)

pub take_behind-other-requires : goal.take_behind-other-requires
take_behind-other-requires t c =
    let gives = sym c.take.ensures.task ∙ c.in-Some.is in
    let less : count_entries c.take.new.self.queues < count_entries c.args.pool.now.queues =
    subst (λ (q : Pooled). count_entries q.queues < count_entries c.args.pool.now.queues) (sym c.take.ensures.rest) (fewer c.args.program.now c.args.passed.now c.args.w.0 c.args.room c.args.pool.now c.requires.pool c.in-Some.t gives) in
    (search (rules, less), (c.requires.worker, (c.requires.bytes, (subst (IsPoolOf c.args.program.now) (sym c.take.ensures.rest) (pool-taken c.args.program.now c.args.passed.now c.args.w.0 c.args.room c.args.pool.now c.requires.pool), ap (λ (q : Pooled). q.policy) c.take.ensures.rest ∙ c.requires.policy))))

pub put_ready-requires-clause-task : goal.put_ready-requires-clause-task
put_ready-requires-clause-task t c = back-task c.args.program.now c.args.passed.now c.args.w.0 c.args.room c.args.pool.now c.requires.pool c.in-Some.t (sym c.take.ensures.task ∙ c.in-Some.is) c.requires.worker (sym c.is_among.ensures ∙ c.if-not-is_among.false) c.take_behind-other.new.pool c.take_behind-other.result (subst (λ (q : Pooled). IsTakenBehind c.args.program.now c.args.passed.now c.args.w.0 c.args.room q c.take_behind-other.new.pool c.take_behind-other.result) c.take.ensures.rest c.take_behind-other.ensures)

pub put_ready-requires-clause-absent : goal.put_ready-requires-clause-absent
put_ready-requires-clause-absent t c = none-contains c.take_behind-other.new.pool.queues c.in-Some.t (back-absent c.args.program.now c.args.passed.now c.args.w.0 c.args.room c.args.pool.now c.requires.pool c.in-Some.t (sym c.take.ensures.task ∙ c.in-Some.is) c.requires.worker (sym c.is_among.ensures ∙ c.if-not-is_among.false) c.take_behind-other.new.pool c.take_behind-other.result (subst (λ (q : Pooled). IsTakenBehind c.args.program.now c.args.passed.now c.args.w.0 c.args.room q c.take_behind-other.new.pool c.take_behind-other.result) c.take.ensures.rest c.take_behind-other.ensures))

pub put_ready-requires-clause-known_task : goal.put_ready-requires-clause-known_task
put_ready-requires-clause-known_task t c = back-known c.args.program.now c.args.passed.now c.args.w.0 c.args.room c.args.pool.now c.requires.pool c.in-Some.t (sym c.take.ensures.task ∙ c.in-Some.is) c.requires.worker (sym c.is_among.ensures ∙ c.if-not-is_among.false) c.take_behind-other.new.pool c.take_behind-other.result (subst (λ (q : Pooled). IsTakenBehind c.args.program.now c.args.passed.now c.args.w.0 c.args.room q c.take_behind-other.new.pool c.take_behind-other.result) c.take.ensures.rest c.take_behind-other.ensures)

pub returns : goal.returns
returns t c = subst (λ (q : Pooled). IsTakenBehind c.args.program.now c.args.passed.now c.args.w.0 c.args.room c.args.pool.now q c.take_behind-other.result) (sym c.put_ready.ensures) (put-behind c.args.program.now c.args.passed.now c.args.w.0 c.args.room c.args.pool.now c.requires.pool c.in-Some.t (sym c.take.ensures.task ∙ c.in-Some.is) c.requires.worker (sym c.is_among.ensures ∙ c.if-not-is_among.false) c.take_behind-other.new.pool c.take_behind-other.result (subst (λ (q : Pooled). IsTakenBehind c.args.program.now c.args.passed.now c.args.w.0 c.args.room q c.take_behind-other.new.pool c.take_behind-other.result) c.take.ensures.rest c.take_behind-other.ensures))
