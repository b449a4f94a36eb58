use Rattle.sj_board.proofs.Words.{has_back, lent, Standing, subst, ◌≡◌}
use Rattle.sj_board.proofs.UnitPuts.{read-back, read-cause, read-comes, read-counted, read-keeps, read-tiles}
use Rattle.sj_board.proofs.run_state.RunState.put_read.Goals as goal

pub put_back-requires : goal.put_back-requires
put_back-requires g c = read-comes _ _ _ _ _ _ _ _ c.self.invariant c.args.w _ c.self.view_is _ c.transfer.ensures c.unwrap-x.result c.unwrap-x.ensures c.args.unit c.args.outcome c.disk_at-d.result c.disk_at-d.ensures c.requires.fetched.0 c.requires.fetched.1

pub invariant_of-self : goal.invariant_of-self
invariant_of-self g c = read-keeps _ _ _ _ _ _ _ _ c.self.invariant c.args.w _ c.self.view_is _ c.transfer.ensures c.unwrap-x.result c.unwrap-x.ensures c.args.unit c.args.outcome c.disk_at-d.result c.disk_at-d.ensures c.requires.fetched.0 c.requires.fetched.1 c.put_back.new.self c.put_back.ensures.fetches

pub returns-clause-back : goal.returns-clause-back
returns-clause-back g c = subst (λ (b : Standing _). c.put_back.new.self ≡ has_back (lent b) c.args.unit) c.self.view_is c.put_back.ensures.back

pub returns-clause-tile : goal.returns-clause-tile
returns-clause-tile g c = read-tiles _ _ _ _ _ _ _ _ c.self.invariant c.args.w _ c.self.view_is _ c.transfer.ensures c.unwrap-x.result c.unwrap-x.ensures c.args.unit c.args.outcome c.disk_at-d.result c.disk_at-d.ensures c.put_back.new.self c.put_back.ensures.fetches

pub returns-clause-given_back : goal.returns-clause-given_back
returns-clause-given_back g c = read-back _ _ _ _ _ _ _ _ c.self.invariant c.args.w _ c.self.view_is _ c.transfer.ensures c.unwrap-x.result c.unwrap-x.ensures c.args.unit c.args.outcome c.disk_at-d.result c.disk_at-d.ensures c.requires.fetched.0 c.requires.fetched.1 c.put_back.new.self c.put_back.ensures.fetches

pub returns-clause-counts : goal.returns-clause-counts
returns-clause-counts g c = read-counted _ _ _ _ _ _ _ _ c.self.invariant c.args.w _ c.self.view_is _ c.transfer.ensures c.unwrap-x.result c.unwrap-x.ensures c.args.unit c.args.outcome c.disk_at-d.result c.disk_at-d.ensures c.requires.fetched.0 c.requires.fetched.1 c.put_back.new.self c.put_back.ensures.fetches c.extent-extent.ensures.laid_out

pub returns-clause-cause : goal.returns-clause-cause
returns-clause-cause g c = read-cause _ _ _ _ _ _ _ _ c.self.invariant c.args.w _ c.self.view_is _ c.transfer.ensures c.unwrap-x.result c.unwrap-x.ensures c.args.unit c.args.outcome c.disk_at-d.result c.disk_at-d.ensures c.requires.fetched.0 c.requires.fetched.1 c.put_back.new.self c.put_back.ensures.fetches c.extent-extent.ensures.laid_out
