use Rattle.std.proofs.Common.{sym, subst}
use Rattle.sj_disk.specs.Lending.{LendingState, NoneIsOut}
use Rattle.sj_disk.proofs.lending_set.LendingSet.any_is_out.Goals as goal

pub returns : goal.returns
returns g c =
    let P = λ (s : LendingState g.row.D.Denot). NoneIsOut s in
    ((λ none. subst P c.self.view_is (c.any_is_out.ensures.0 none)), (λ none. c.any_is_out.ensures.1 (subst P (sym c.self.view_is) none)))
