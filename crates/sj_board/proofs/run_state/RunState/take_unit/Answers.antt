use Rattle.sj_base.proofs.Options.{IfSome-at}
use Rattle.sj_disk.proofs.Lent.{is-given}
use Rattle.sj_board.proofs.Words.{TakesOut}
use Rattle.sj_board.proofs.{UnitPuts.found-in, UnitPuts.take-block, UnitPuts.take-keeps, UnitPuts.take-reserved, UnitPuts.take-takes}
use Rattle.sj_board.proofs.run_state.RunState.take_unit.Goals as goal

pub take_out-requires : goal.take_out-requires
take_out-requires g c = record { reserved = take-reserved _ _ _ _ _ _ _ _ c.self.invariant c.args.w _ c.self.view_is _ c.transfer.ensures c.unwrap-x.result c.unwrap-x.ensures c.requires.moves }

pub unwrap-requires : goal.unwrap-requires
unwrap-requires g c = is-given c.self.inside.disks c.take_out.new.self c.unwrap-x.result.cell.0 c.take_out.result (found-in _ _ _ _ _ _ _ _ c.self.invariant c.args.w _ c.self.view_is _ c.transfer.ensures c.unwrap-x.result c.unwrap-x.ensures c.requires.disk_in) c.take_out.ensures.none

pub invariant_of-self : goal.invariant_of-self
invariant_of-self g c = take-keeps _ _ _ _ _ _ _ _ c.self.invariant c.args.w _ c.self.view_is _ c.transfer.ensures c.unwrap-x.result c.unwrap-x.ensures c.requires.moves c.unwrap.result c.take_out.new.self (IfSome-at (λ u. TakesOut c.unwrap-x.result.cell u c.self.inside.disks c.take_out.new.self) c.take_out.result c.unwrap.result c.unwrap.ensures c.take_out.ensures.some)

pub returns-clause-takes : goal.returns-clause-takes
returns-clause-takes g c = (take-takes _ _ _ _ _ _ _ _ c.self.invariant c.args.w _ c.self.view_is _ c.transfer.ensures c.unwrap-x.result c.unwrap-x.ensures c.requires.moves c.unwrap.result c.take_out.new.self (IfSome-at (λ u. TakesOut c.unwrap-x.result.cell u c.self.inside.disks c.take_out.new.self) c.take_out.result c.unwrap.result c.unwrap.ensures c.take_out.ensures.some))

pub returns-clause-block : goal.returns-clause-block
returns-clause-block g c = take-block _ _ _ _ _ _ _ _ c.self.invariant c.args.w _ c.self.view_is _ c.transfer.ensures c.unwrap-x.result c.unwrap-x.ensures c.requires.moves c.unwrap.result c.take_out.new.self (IfSome-at (λ u. TakesOut c.unwrap-x.result.cell u c.self.inside.disks c.take_out.new.self) c.take_out.result c.unwrap.result c.unwrap.ensures c.take_out.ensures.some)
