use Rattle.sj_check.proofs.Words.{Rows, subst, sym, Watches}
use Rattle.sj_check.proofs.Keeping.{watches-begun}
use Rattle.sj_check.proofs.checker.Checker.begin_run.Goals as goal

pub invariant_of-self : goal.invariant_of-self
invariant_of-self c =
    let old = c.self.inside in
    subst (λ (r : Rows). Watches r old.homes.items old.tasks.items old.deps) (sym c.run.ensures)
    (watches-begun old.rows old.homes.items old.tasks.items old.deps c.self.invariant c.args.t c.args.w (c.run_is_legal.ensures.0 c.if-not-run_is_legal.false))
