use Rattle.std.proofs.Common.{◌∙◌}
use Rattle.sj_board.specs.declared.fault.RunFault.TheVariants.{OutOfMemory}
use Rattle.sj_engine.proofs.BoardTurns.{failed-row, failed-turn}
use Rattle.std.proofs.Common.{ap}
use Rattle.sj_board.specs.Board.{BoardState}
use Rattle.sj_engine.proofs.BoardTurns.{nothing-happened}
use Rattle.sj_engine.proofs.shared_board.SharedBoard.fail_without_memory.Goals as goal

pub returns-clause-turn : goal.returns-clause-turn
returns-clause-turn g c = failed-turn g.D.Disk.size g.D.Disk.faults g.D.Disk.mismatches g.D.Disk.held c.args.w c.args.self.now c.deref_mut.result.now c.fail.new.self OutOfMemory (c.deref_mut.ensures.value ∙ c.self.view_is) c.fail.ensures

pub returns-clause-row : goal.returns-clause-row
returns-clause-row g c = failed-row g.D.Disk.size g.D.Disk.faults g.D.Disk.mismatches g.D.Disk.held c.args.w c.args.self.now c.deref.result.now c.deref_mut.result.now c.fail.new.self (c.deref.ensures ∙ c.self.view_is) (c.deref_mut.ensures.value ∙ c.self.view_is) c.is_sound.ensures c.requires.worker OutOfMemory c.fail.ensures c.requires.works c.requires.none_given c.requires.no_unit

pub returns-clause-no_event : goal.returns-clause-no_event
returns-clause-no_event g c = nothing-happened c.args.self.now c.deref_mut.result.now c.fail.new.self (c.deref_mut.ensures.value ∙ c.self.view_is) (ap (λ (k : BoardState g.row.D.Denot). k.run) c.fail.ensures)
