use Rattle.std.proofs.Common.{rules, ◌≡◌, ◌++◌, ◌∙◌, ap, w64, to_z, of_z, FitsSigned}
use Rattle.std.proofs.lemmas.Int.{to_z-of_z}
use Rattle.sj_top.specs.Output.{element_text}
use Rattle.sj_top.proofs.Rows.{joined_behind}
use Rattle.sj_top.proofs.output.write_elements.Goals as goal

pub returns-in_ok-write_more-in-Some : goal.returns-in_ok-write_more-in-Some
returns-in_ok-write_more-in-Some c =
    let fits : FitsSigned w64 c.in-Some.first.now = search rules in
    let same : to_z w64 (of_z w64 c.in-Some.first.now) ≡ c.in-Some.first.now = to_z-of_z _ _ fits in
    joined_behind _ _ _ c.args.elements.now c.in-Some.first.now c.in-Some.more.now (search rules)
    (c.in_ok-write_element-in-Some.ensures ∙ ap (λ z. c.args.text.now.items ++ element_text z) same) c.in_ok-write_more-in-Some.ensures
