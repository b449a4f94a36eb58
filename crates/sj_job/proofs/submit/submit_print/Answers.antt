use Rattle.std.proofs.Common.{◌∙◌, ap, sym}
use Rattle.sj_job.specs.Judge.{first_of, print_reasons}
use Rattle.sj_job.specs.Names.{scope_in}
use Rattle.sj_meaning.specs.Table.{root_in}
use Rattle.sj_job.proofs.Submitting.{printed}
use Rattle.sj_job.proofs.submit.submit_print.Goals as goal

pub returns-clause-ok : goal.returns-clause-ok
returns-clause-ok c = λ has.
    printed has c.args.names.now _ c.args.name.now c.in_ok-root.root
    (ap (root_in c.args.names.now.roots) (sym c.bytes.ensures) ∙ c.in_ok-root.ensures.root)
    (ap (λ q. first_of (print_reasons (scope_in c.args.names.now) q)) (sym c.bytes.ensures) ∙ c.in_ok-root.ensures.none)
    c.print.ensures.roots c.print.ensures.names
