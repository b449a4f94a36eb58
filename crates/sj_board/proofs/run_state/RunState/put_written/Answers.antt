use Rattle.sj_board.proofs.Words.{has_back, lent, Standing, subst, ◌≡◌}
use Rattle.sj_board.proofs.UnitPuts.{wrote-back, wrote-cause, wrote-comes, wrote-counted, wrote-keeps, wrote-written}
use Rattle.sj_board.proofs.run_state.RunState.put_written.Goals as goal

pub put_back-requires : goal.put_back-requires
put_back-requires g c = wrote-comes _ _ _ _ _ _ _ _ c.self.invariant c.args.w _ c.self.view_is _ c.transfer.ensures c.unwrap-x.result c.unwrap-x.ensures c.args.unit c.args.outcome c.requires.stored c.disk_at-d.result c.disk_at-d.ensures

pub invariant_of-self : goal.invariant_of-self
invariant_of-self g c = wrote-keeps _ _ _ _ _ _ _ _ c.self.invariant c.args.w _ c.self.view_is _ c.transfer.ensures c.unwrap-x.result c.unwrap-x.ensures c.args.unit c.args.outcome c.requires.stored c.disk_at-d.result c.disk_at-d.ensures c.put_back.new.self c.put_back.ensures.stores

pub returns-clause-back : goal.returns-clause-back
returns-clause-back g c = subst (λ (b : Standing _). c.put_back.new.self ≡ has_back (lent b) c.args.unit) c.self.view_is c.put_back.ensures.back

pub returns-clause-written : goal.returns-clause-written
returns-clause-written g c = wrote-written _ _ _ _ _ _ _ _ c.self.invariant c.args.w _ c.self.view_is _ c.transfer.ensures c.unwrap-x.result c.unwrap-x.ensures c.args.unit c.args.outcome c.requires.stored c.disk_at-d.result c.disk_at-d.ensures c.put_back.new.self c.put_back.ensures.stores

pub returns-clause-given_back : goal.returns-clause-given_back
returns-clause-given_back g c = wrote-back _ _ _ _ _ _ _ _ c.self.invariant c.args.w _ c.self.view_is _ c.transfer.ensures c.unwrap-x.result c.unwrap-x.ensures c.args.unit c.args.outcome c.requires.stored c.disk_at-d.result c.disk_at-d.ensures c.put_back.new.self c.put_back.ensures.stores

pub returns-clause-counts : goal.returns-clause-counts
returns-clause-counts g c = wrote-counted _ _ _ _ _ _ _ _ c.self.invariant c.args.w _ c.self.view_is _ c.transfer.ensures c.unwrap-x.result c.unwrap-x.ensures c.args.unit c.args.outcome c.requires.stored c.disk_at-d.result c.disk_at-d.ensures c.put_back.new.self c.put_back.ensures.stores c.extent-extent.ensures.laid_out

pub returns-clause-cause : goal.returns-clause-cause
returns-clause-cause g c = wrote-cause _ _ _ _ _ _ _ _ c.self.invariant c.args.w _ c.self.view_is _ c.transfer.ensures c.unwrap-x.result c.unwrap-x.ensures c.args.unit c.args.outcome c.requires.stored c.disk_at-d.result c.disk_at-d.ensures c.put_back.new.self c.put_back.ensures.stores c.extent-extent.ensures.laid_out
