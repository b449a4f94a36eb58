use Rattle.std.proofs.Common.{subst}
use Rattle.std.proofs.lemmas.Result.{IfOk-weaker}
use Rattle.sj_meaning.specs.View.{statements_of}
use Rattle.sj_ready.specs.Input.{CanBeGenerated, HasJob}
use Rattle.sj_ready.proofs.Known.{well-in}
use Rattle.sj_ready.proofs.ready.job_of.Goals as goal

pub returns-in-Generated-clause-well : goal.returns-in-Generated-clause-well
returns-in-Generated-clause-well g c =
    let can : CanBeGenerated g.C.Codelets.has c.in-Generated.application = subst (HasJob g.C.Codelets.has) c.in-Generated.is c.requires.input in
    IfOk-weaker c.generated.result _ _ (λ job w. well-in g.C.Codelets.has can.every (statements_of job) w) c.generated.ensures.well
