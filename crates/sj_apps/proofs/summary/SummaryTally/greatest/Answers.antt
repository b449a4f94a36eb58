use Rattle.std.proofs.Common.{rules, ◌≡◌, ◌∙◌, ap, sym, w64, of_z, to_z, Some}
use Rattle.std.proofs.lemmas.Int.{wraps}
use Rattle.sj_codelet.specs.MinPlus.{inf}
use Rattle.sj_apps.specs.Summary.{maximum}
use Rattle.sj_apps.proofs.Tallying.{maximum_is, no_numbers}
use Rattle.sj_apps.proofs.summary.SummaryTally.greatest.Goals as goal

pub returns-then-self-eq9223372036854775807 : goal.returns-then-self-eq9223372036854775807
returns-then-self-eq9223372036854775807 c = λ xs t.
    let none : c.args.self.lowest ≡ inf = search (rules, wraps) in
    sym (ap maximum (no_numbers xs (sym t.lowest_is ∙ none)))

pub returns-else-self-eq9223372036854775807 : goal.returns-else-self-eq9223372036854775807
returns-else-self-eq9223372036854775807 c = λ xs t.
    let same : to_z w64 (of_z w64 c.args.self.highest) ≡ c.args.self.highest = search rules in
    ap Some (same ∙ t.highest_is) ∙ maximum_is xs t.fit (λ e. c.if-self-eq9223372036854775807.false (ap (of_z w64) (t.lowest_is ∙ e)))
