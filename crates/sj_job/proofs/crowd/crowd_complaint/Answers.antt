use Rattle.std.proofs.Common.{◌≡◌, ◌∷◌, ◌∙◌, ap, sym, subst, codes, rules, w64, FitsSigned}
use Rattle.std.specs.Prelude.{Err, IfSome}
use Rattle.std.proofs.lemmas.Int.{to_z-of_z}
use Rattle.sj_job.specs.Crowd.{call_reasons}
use Rattle.sj_job.specs.Judge.{first_of}
use Rattle.sj_job.specs.Names.{scope_in}
use Rattle.sj_job.specs.Reading.{act_in}
use Rattle.sj_job.proofs.Crowding.{complained, no-words, no-codelet, no-operands, seen, unnumbered}
use Rattle.sj_job.proofs.crowd.crowd_complaint.Goals as goal

pub returns-in_default : goal.returns-in_default
returns-in_default g c =
    let s = scope_in c.args.names.now in
    ap (λ ws. act_in g.C.Codelets.has s (codes "task" ∷ ws)) c.in_default.ensures
    ∙ no-words g.C.Codelets.has s

pub returns-in_default-bracketed : goal.returns-in_default-bracketed
returns-in_default-bracketed g c =
    let s = scope_in c.args.names.now in
    ap (λ ws. act_in g.C.Codelets.has s (codes "task" ∷ ws)) c.in-Some.ensures
    ∙ no-codelet g.C.Codelets.has s c.in-Some.first.now c.in-Some.rest (sym c.bracketed.ensures.parts ∙ c.in_default-bracketed.is)

pub returns-in_default-crowd_of : goal.returns-in_default-crowd_of
returns-in_default-crowd_of g c =
    let s = scope_in c.args.names.now in
    ap (λ ws. act_in g.C.Codelets.has s (codes "task" ∷ ws)) c.in-Some.ensures
    ∙ no-operands g.C.Codelets.has s c.in-Some.first.now c.in-Some.rest _ (sym c.bracketed.ensures.parts ∙ c.in-Some-bracketed.is) (sym c.crowd_of.ensures ∙ c.in_default-crowd_of.is)

pub returns-in_default-numbers_of : goal.returns-in_default-numbers_of
returns-in_default-numbers_of g c =
    let s = scope_in c.args.names.now in
    let h = seen s c.in-Some.first.now c.in-Some.rest c.in-Some-bracketed.codelet c.in-Some-bracketed.args c.in-Some-crowd_of.crowd c.in-Some-crowd_of.priority (sym c.bracketed.ensures.parts ∙ c.in-Some-bracketed.is) (sym c.crowd_of.ensures ∙ c.in-Some-crowd_of.is) in
    ap (λ ws. act_in g.C.Codelets.has s (codes "task" ∷ ws)) c.in-Some.ensures
    ∙ unnumbered g.C.Codelets.has s _ _ _ h.1 c.in_default-numbers_of.ensures.lacks

pub returns : goal.returns
returns g c =
    let s = scope_in c.args.names.now in
    let h = seen s c.in-Some.first.now c.in-Some.rest c.in-Some-bracketed.codelet c.in-Some-bracketed.args c.in-Some-crowd_of.crowd c.in-Some-crowd_of.priority (sym c.bracketed.ensures.parts ∙ c.in-Some-bracketed.is) (sym c.crowd_of.ensures ∙ c.in-Some-crowd_of.is) in
    let numbers = c.in-Some-numbers_of in
    let wide : FitsSigned w64 numbers.priority = search rules in
    let same = to_z-of_z w64 numbers.priority wide ∙ numbers.ensures.priority in
    subst (λ ws. IfSome c.call_complaint.result (λ why. act_in g.C.Codelets.has s (codes "task" ∷ ws) ≡ Err why)) (sym c.in-Some.ensures)
    (complained g.C.Codelets.has s (c.in-Some.first.now ∷ c.in-Some.rest) _ c.in-Some-crowd_of.crowd h.1 numbers.ensures.has numbers.count numbers.ensures.count c.call_complaint.result
    (c.call_complaint.ensures ∙ ap (λ p. first_of (call_reasons g.C.Codelets.has s c.in-Some-bracketed.codelet c.in-Some-crowd_of.crowd numbers.count p)) same))
