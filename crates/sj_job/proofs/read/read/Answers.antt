use Rattle.sj_job.specs.Word.{lines}
use Rattle.sj_meaning.specs.State.{start}
use Rattle.sj_meaning.specs.View.{statements_of}
use Rattle.sj_job.proofs.Submitting.{weaker_ok}
use Rattle.sj_job.proofs.Welling.{well_from_reading}
use Rattle.sj_job.proofs.read.read.Goals as goal

pub returns-clause-well : goal.returns-clause-well
returns-clause-well g c =
    weaker_ok c.read_statements.result (λ job e. well_from_reading g.C.Codelets.has 0 start c.in_ok-settings.number (lines c.in_ok-settings.rest.now) (statements_of job) e) c.read_statements.ensures.ok
