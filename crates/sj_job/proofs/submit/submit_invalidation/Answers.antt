use Rattle.std.proofs.Common.{◌∙◌, ap, sym}
use Rattle.sj_job.specs.Judge.{first_of, name_reasons}
use Rattle.sj_job.specs.Names.{scope_in}
use Rattle.sj_meaning.specs.Table.{root_in}
use Rattle.sj_meaning.proofs.Finding.{is-root}
use Rattle.sj_job.proofs.Submitting.{invalidated}
use Rattle.sj_job.proofs.submit.submit_invalidation.Goals as goal

pub invalidate-requires-clause-root : goal.invalidate-requires-clause-root
invalidate-requires-clause-root c = is-root c.args.names.now.roots c.bytes.result.now c.in_ok-root.root c.in_ok-root.ensures.root

pub returns-clause-ok : goal.returns-clause-ok
returns-clause-ok c = λ has.
    invalidated has c.args.names.now _ c.args.name.now c.in_ok-root.root
    (ap (root_in c.args.names.now.roots) (sym c.bytes.ensures) ∙ c.in_ok-root.ensures.root)
    (ap (λ q. first_of (name_reasons (scope_in c.args.names.now) q)) (sym c.bytes.ensures) ∙ c.in_ok-root.ensures.none)
    c.invalidate.ensures.roots c.invalidate.ensures.names
