use Rattle.sj_check.proofs.Words.{arith, Bool, IsComplete, Judges, subst, sym, ◌∙◌}
use Rattle.std.proofs.lemmas.Bool.{false≢true}
use Rattle.sj_check.proofs.Traces.{all-seen, first-bad, one-more}
use Rattle.sj_check.proofs.check.check_by.Goals as goal

pub loop-i-preserved : goal.loop-i-preserved
loop-i-preserved c =
    one-more c.args.checker.now c.args.trace.now.events c.loop-i.i c.loop-i.checker c.loop-i.invariant c.states.ensures.go_on c.get-event.result c.get-event.ensures c.step.new.self
    (subst (λ (b : Bool). Judges c.loop-i.checker c.get-event.result b c.step.new.self) c.if-not-branch.false c.in_ok-step.ensures)

pub returns-then-not-branch-clause-refused : goal.returns-then-not-branch-clause-refused
returns-then-not-branch-clause-refused c =
    first-bad c.args.checker.now c.args.trace.now.events c.loop-i.i c.loop-i.checker c.loop-i.invariant c.states.ensures.go_on c.get-event.result c.get-event.ensures c.step.new.self (omega (arith, c.loop-i-test.true, c.len-i-end.ensures))
    (subst (λ (b : Bool). Judges c.loop-i.checker c.get-event.result b c.step.new.self) c.if-not-branch.true c.in_ok-step.ensures)

pub returns-then-is_complete-clause-finished : goal.returns-then-is_complete-clause-finished
returns-then-is_complete-clause-finished c = λ ok.
    let seen = all-seen c.args.checker.now c.args.trace.now.events c.loop-i.i c.loop-i.checker c.loop-i.invariant (omega (arith, c.loop-i-test.false, c.len-i-end.ensures)) in
    record { legal = seen.0; complete = subst IsComplete seen.1 (c.is_complete.ensures.0 c.if-is_complete.true) }

pub returns-else-is_complete-clause-refused : goal.returns-else-is_complete-clause-refused
returns-else-is_complete-clause-refused c =
    let seen = all-seen c.args.checker.now c.args.trace.now.events c.loop-i.i c.loop-i.checker c.loop-i.invariant (omega (arith, c.loop-i-test.false, c.len-i-end.ensures)) in
    record { legal = seen.0; undone = λ finished. false≢true (sym c.if-is_complete.false ∙ c.is_complete.ensures.1 (subst IsComplete (sym seen.1) finished.complete)) }
