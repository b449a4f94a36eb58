use Rattle.std.proofs.Common.{true, List, subst, sym, ℕ}
use Rattle.std.proofs.lemmas.Result.{IfOk-weaker}
use Rattle.sj_meaning.specs.Act.{Statement}
use Rattle.sj_meaning.specs.State.{start}
use Rattle.sj_job.specs.Well.{IsWell}
use Rattle.sj_apps.proofs.Generating.{paths-well, product-well}
use Rattle.sj_apps.proofs.application.Application.job.Goals as goal

pub returns-in-Product-clause-well : goal.returns-in-Product-clause-well
returns-in-Product-clause-well c =
    let a = c.args.self.now in
    IfOk-weaker c.product.result _ _ (λ job e. subst (λ (ss : List (Statement (List ℕ))). IsWell (λ _. true) 0 start ss) (sym e) (product-well a.n a.tile a.seed c.requires)) c.product.ensures.statements

pub returns-in-Paths-clause-well : goal.returns-in-Paths-clause-well
returns-in-Paths-clause-well c =
    let a = c.args.self.now in
    IfOk-weaker c.paths.result _ _ (λ job e. subst (λ (ss : List (Statement (List ℕ))). IsWell (λ _. true) 0 start ss) (sym e) (paths-well a.n a.tile a.seed c.requires)) c.paths.ensures.statements
