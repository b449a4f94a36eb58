use Rattle.std.proofs.Common.{◌∙◌, ap, sym}
use Rattle.sj_job.specs.Judge.{first_of, redux_reasons}
use Rattle.sj_job.specs.Names.{scope_in}
use Rattle.sj_meaning.specs.Table.{root_in}
use Rattle.sj_meaning.proofs.Finding.{is-root}
use Rattle.sj_job.proofs.Submitting.{reduced}
use Rattle.sj_job.proofs.submit.submit_reduction.Goals as goal

pub reduce-requires-clause-root : goal.reduce-requires-clause-root
reduce-requires-clause-root c = is-root c.args.names.now.roots c.bytes.result.now c.in_ok-root.root c.in_ok-root.ensures.root

pub returns-clause-ok : goal.returns-clause-ok
returns-clause-ok c = λ has.
    reduced has c.args.names.now _ c.args.name.now c.args.by c.in_ok-root.root
    (ap (root_in c.args.names.now.roots) (sym c.bytes.ensures) ∙ c.in_ok-root.ensures.root)
    (ap (λ q. first_of (redux_reasons (scope_in c.args.names.now) q)) (sym c.bytes.ensures) ∙ c.in_ok-root.ensures.none)
    c.reduce.ensures.roots c.reduce.ensures.names
