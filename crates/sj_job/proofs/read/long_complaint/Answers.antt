use Rattle.std.proofs.Common.{◌≡◌, ◌∷◌, ◌∙◌, ap, sym, subst, not, Err, IfSome, bytes_eq, codes, true}
use Rattle.std.proofs.lemmas.Slice.Eq.{bytes_eq-Decides}
use Rattle.sj_base.proofs.Bools.{not_not}
use Rattle.sj_job.specs.Names.{scope_in}
use Rattle.sj_job.specs.Reading.{act_in}
use Rattle.sj_job.specs.Word.{words}
use Rattle.sj_job.proofs.read.long_complaint.Goals as goal

pub returns : goal.returns
returns g c =
    let same : bytes_eq c.in_ok-first.first.now c.as_slice.result.now ≡ true = sym (not_not (bytes_eq c.in_ok-first.first.now c.as_slice.result.now)) ∙ ap not (sym c.ne.ensures ∙ c.if-ne.false) in
    let first : c.in_ok-first.first.now ≡ codes "task" = (bytes_eq-Decides c.in_ok-first.first.now c.as_slice.result.now).0 same ∙ c.as_slice.ensures in
    let line : words c.args.line.now ≡ codes "task" ∷ c.in_ok-first.rest = sym c.of-words.ensures ∙ c.in_ok-first.ensures ∙ ap (λ w. w ∷ c.in_ok-first.rest) first in
    subst (λ ws. IfSome c.crowd_complaint.result (λ why. act_in g.C.Codelets.has (scope_in c.args.names.now) ws ≡ Err why)) (sym line) c.crowd_complaint.ensures
