use Rattle.sj_check.proofs.Words.{Claim, ClaimPlan, HappensLegally, has_happened, IfErr, IsRefused, IsWhy, List, MayHappen, OnOk, Option, refl, Result, Rows, subst, sym, Task, Watches, Why}
use Rattle.sj_check.proofs.{Keeping.watches-claimed, Legality.why-not}
use Rattle.sj_check.proofs.checker.Checker.claim.Goals as goal

pub returns-in_default : goal.returns-in_default
returns-in_default c =
    let r = c.self.inside.rows in
    subst (λ (old : Rows). IsRefused old (Claim c.args.t c.args.w) old) c.self.view_is
    (record {
      illegal = why-not r.program r.machine r.state c.args.t c.args.w c.in_default.field-0 (subst (λ (found : Result ClaimPlan Why). IfErr found (IsWhy r.program r.machine r.state c.args.t c.args.w)) c.in_default.is c.in_ok-plan.ensures.why);
      nothing = refl;
    })

may : (c : goal.After-set_task) → MayHappen c.self.inside.rows (Claim c.args.t c.args.w)
may c = subst (λ (found : Result ClaimPlan Why). OnOk found (MayHappen c.self.inside.rows (Claim c.args.t c.args.w))) c.in-Ok.is c.in_ok-plan.ensures.can

pub invariant_of-self-2 : goal.invariant_of-self-2
invariant_of-self-2 c =
    let old = c.self.inside in
    subst (λ (r : Rows). Watches r old.homes.items c.set_task.new.tasks.items old.deps) (sym c.in_ok-claim.ensures.ok)
    (subst (λ (ts : List (Option Task)). Watches (has_happened old.rows (Claim c.args.t c.args.w)) old.homes.items ts old.deps) (sym c.set_task.ensures)
    (watches-claimed old.rows old.homes.items old.tasks.items old.deps c.self.invariant c.args.t c.args.w c.is_sound.ensures.coherent (may c)))

pub returns : goal.returns
returns c = subst (λ (r : Rows). HappensLegally r (Claim c.args.t c.args.w) c.claim.new.self) c.self.view_is (record { legal = may c; happens = c.in_ok-claim.ensures.ok })
