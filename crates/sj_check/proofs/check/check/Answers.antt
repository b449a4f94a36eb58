use Rattle.sj_check.proofs.Words.{IsFinished, IsOk, Rows, subst, take}
use Rattle.sj_check.proofs.Traces.{fronts-legal}
use Rattle.sj_check.proofs.check.check.Goals as goal

finished : (c : goal.After-let_go) → IsOk c.check_by-checked.result → IsFinished c.args.program.value c.args.machine c.args.trace.now.events
finished c = subst (λ (r : Rows). IsOk c.check_by-checked.result → IsFinished r.program r.machine c.args.trace.now.events) c.in_ok-checker.ensures c.check_by-checked.ensures.finished

pub returns-clause-each_state_is_coherent : goal.returns-clause-each_state_is_coherent
returns-clause-each_state_is_coherent c = λ ok n.
    c.traces.ensures.keep_coherence c.args.program.value c.args.machine (take n c.args.trace.now.events) c.requires.proper c.requires.machine (fronts-legal _ _ c.args.trace.now.events (finished c ok).legal n)

pub returns-clause-each_state_has_its_content : goal.returns-clause-each_state_has_its_content
returns-clause-each_state_has_its_content c = λ ok eq has lawful n.
    c.traces.ensures.keep_content eq has c.args.program.value c.args.machine (take n c.args.trace.now.events) c.requires.proper c.requires.machine lawful (fronts-legal _ _ c.args.trace.now.events (finished c ok).legal n)

pub returns-clause-holds_what_all_tasks_leave : goal.returns-clause-holds_what_all_tasks_leave
returns-clause-holds_what_all_tasks_leave c = λ ok eq has lawful.
    c.traces.ensures.hold_final eq has c.args.program.value c.args.machine c.args.trace.now.events c.requires.proper c.requires.machine lawful (finished c ok)
