use Rattle.std.proofs.Common.{rules, ◌≡◌, ◌∙◌, ap, refl, w64, of_z, to_z}
use Rattle.std.proofs.lemmas.Int.{wraps}
use Rattle.std.specs.Int.{int_max, int_min}
use Rattle.sj_apps.proofs.Tallying.{below_inf, tallied_inf, tallied_number}
use Rattle.sj_apps.proofs.summary.SummaryTally.with.Goals as goal

pub returns-then-element-eq9223372036854775807 : goal.returns-then-element-eq9223372036854775807
returns-then-element-eq9223372036854775807 c = λ xs.
    let a = c.args in
    tallied_inf xs a.element a.self.infs _ a.self.sum a.self.lowest a.self.highest _ _ _ c.ranges.element (search (rules, wraps)) refl (search rules) (search rules) (search rules)

pub returns : goal.returns
returns c = λ xs.
    let a = c.args in
    let e : to_z w64 (of_z w64 a.element) ≡ a.element = search rules in
    let l : to_z w64 (of_z w64 a.self.lowest) ≡ a.self.lowest = search rules in
    let h : to_z w64 (of_z w64 a.self.highest) ≡ a.self.highest = search rules in
    let lowest : to_z w64 (of_z w64 c.min.result) ≡ c.min.result = search rules in
    let highest : to_z w64 (of_z w64 c.max.result) ≡ c.max.result = search rules in
    let number = below_inf a.element c.ranges.element (λ is. c.if-element-eq9223372036854775807.false (ap (of_z w64) is)) in
    tallied_number xs a.element a.self.infs a.self.sum a.self.lowest a.self.highest _ _ _ c.ranges.element number (search (rules, wraps))
    (lowest ∙ c.min.ensures.value ∙ (λ i. int_min (l i) (e i))) (highest ∙ c.max.ensures.value ∙ (λ i. int_max (h i) (e i)))
