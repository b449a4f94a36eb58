use Rattle.sj_check.proofs.Words.{Dependencies, End, has_happened, Rows, subst, sym, Watches}
use Rattle.sj_check.proofs.{Counting.running-ready, Keeping.watches-ended}
use Rattle.sj_check.proofs.checker.Checker.end_run.Goals as goal

pub set_done-requires : goal.set_done-requires
set_done-requires c =
    let old = c.self.inside in
    running-ready old.rows.program old.rows.state old.deps c.self.invariant.counts old.rows.machine c.is_sound.ensures.coherent c.args.t c.args.w (c.may_end.ensures.0 c.if-not-may_end.false)

pub invariant_of-self : goal.invariant_of-self
invariant_of-self c =
    let old = c.self.inside in
    subst (λ (r : Rows). Watches r old.homes.items old.tasks.items c.set_done.new.deps) (sym c.end.ensures)
    (subst (λ (deps : Dependencies). Watches (has_happened old.rows (End c.args.t c.args.w)) old.homes.items old.tasks.items deps) (sym c.set_done.ensures)
    (watches-ended old.rows old.homes.items old.tasks.items old.deps c.self.invariant c.args.t c.args.w (c.may_end.ensures.0 c.if-not-may_end.false)))
