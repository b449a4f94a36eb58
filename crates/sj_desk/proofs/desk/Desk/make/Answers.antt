use Rattle.sj_desk.proofs.Places.{new_in_place}
use Rattle.sj_desk.proofs.desk.Desk.make.Goals as goal

pub returns-clause-in_place : goal.returns-clause-in_place
returns-clause-in_place g c = new_in_place _ _ c.deal-list.ensures
