use Rattle.sj_board.proofs.UnitPuts.{untouched-comes, untouched-keeps, untouched-as}
use Rattle.sj_board.proofs.run_state.RunState.put_untouched.Goals as goal

pub put_back-requires : goal.put_back-requires
put_back-requires g c = untouched-comes _ _ _ _ _ _ _ _ c.self.invariant c.args.w _ c.self.view_is c.args.unit c.requires.untouched c.is_as_it_was.ensures

pub invariant_of-self : goal.invariant_of-self
invariant_of-self g c = untouched-keeps _ _ _ _ _ _ _ _ c.self.invariant c.args.w _ c.self.view_is c.args.unit c.requires.untouched c.put_back.new.self c.put_back.ensures.back

pub returns : goal.returns
returns g c = untouched-as _ _ _ _ _ _ _ _ c.self.invariant c.args.w _ c.self.view_is c.args.unit c.requires.untouched c.put_back.new.self c.put_back.ensures.back
