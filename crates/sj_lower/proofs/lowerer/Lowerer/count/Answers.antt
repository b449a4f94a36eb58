use Rattle.sj_lower.proofs.Words.{act_seen, Active, active_at, ap, Kept, length, MayComeNext, no_active, Parts, rows_added, rules, subst, sym, ◌*◌, ◌∙◌, ◌≡◌}
use Rattle.std.specs.Prelude.{vec_len}
use Rattle.std.proofs.lemmas.List.{get_or_read}
use Rattle.sj_lower.proofs.Counting.{count-print}
use Rattle.sj_lower.proofs.lowerer.Lowerer.count.Goals as goal

pub returns-in-Plan : goal.returns-in-Plan
returns-in-Plan c = λ S L C line next.
    c.count_plan.ensures S L C line (subst (λ (a : Kept). MayComeNext c.args.roots.now c.args.self.now a S L) c.in-Plan.is next)
    ∙ ap (λ (a : Kept). length (rows_added S C line (act_seen c.args.roots.now (vec_len c.args.self.now.actives) a))) (sym c.in-Plan.is)

pub returns-in-Print : goal.returns-in-Print
returns-in-Print c = λ S L C line next.
    let as' = c.args.self.now.actives.items in
    let r = c.in-Print.root in
    let at : c.index.result.now ≡ active_at as' r.0 = get_or_read as' r.0 c.index.result.now (search rules) (search rules) no_active in
    let plan : c.parts-parts.result ≡ (active_at as' r.0).tracked.parts = c.parts-parts.ensures.parts ∙ ap (λ (a : Active). a.tracked.parts) at in
    ap (λ (p : Parts). p.r * p.c) plan
    ∙ count-print c.args.roots.now c.args.self.now r S L C line (subst (λ (a : Kept). MayComeNext c.args.roots.now c.args.self.now a S L) c.in-Print.is next)
    ∙ ap (λ (a : Kept). length (rows_added S C line (act_seen c.args.roots.now (vec_len c.args.self.now.actives) a))) (sym c.in-Print.is)
