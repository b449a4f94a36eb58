use Rattle.sj_steal.proofs.Passes.{new_in_place}
use Rattle.sj_steal.proofs.shared.Shared.make.Goals as goal

pub returns-clause-in_place : goal.returns-clause-in_place
returns-clause-in_place c = new_in_place _ _ c.in_ok-passes.ensures
