use Rattle.sj_lower.proofs.Words.{all_closed, closing_by, inl, inr, Prepares, subst, sym}
use Rattle.std.proofs.lemmas.Result.{on_ok_weaker}
use Rattle.sj_meaning.specs.declared.job.Act.{Act}
use Rattle.sj_lower.proofs.lower.LoweringProgress.close_by.Goals as goal

pub returns-in-Print : goal.returns-in-Print
returns-in-Print c =
    let g = c.args.self.now in
    let r = c.close_root-in-Print in
    let P : Act → Type 0 = λ a. Prepares g r.new.self c.args.line (all_closed g.workers (closing_by g.lowerer.actives.items a)) in
    elim c.in-Print.is [
      | inl is ↦ on_ok_weaker r.result (subst P (sym is)) r.ensures
      | inr other ↦ elim other [
        | inl is ↦ on_ok_weaker r.result (subst P (sym is)) r.ensures
        | inr is ↦ on_ok_weaker r.result (subst P (sym is)) r.ensures
      ]
    ]
