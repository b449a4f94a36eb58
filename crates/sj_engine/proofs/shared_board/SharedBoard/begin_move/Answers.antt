use Rattle.std.proofs.Common.{◌∙◌, ap}
use Rattle.sj_base.specs.declared.trace.Event.TheVariants.{Move}
use Rattle.sj_board.specs.Tiles.{array_in}
use Rattle.sj_board.specs.Board.{BoardState}
use Rattle.sj_engine.proofs.BoardTurns.{happened}
use Rattle.sj_engine.proofs.StepTurns.{move-counts, move-lent, move-row, move-share, move-turn}
use Rattle.sj_engine.proofs.shared_board.SharedBoard.begin_move.Goals as goal

pub returns-in-Ok-clause-turn : goal.returns-in-Ok-clause-turn
returns-in-Ok-clause-turn g c = move-turn g.D.Disk.size g.D.Disk.faults g.D.Disk.mismatches g.D.Disk.held c.args.w c.args.self.now c.deref.result.now c.deref_mut.result.now c.begin_move.new.self c.args.t c.args.x.cell c.args.x.from c.args.x.to (c.deref.ensures ∙ c.self.view_is) (c.deref_mut.ensures.value ∙ c.self.view_is) c.is_sound.ensures c.requires.worker c.requires.claimed c.requires.can c.requires.mover c.in-Ok.ensures.ok c.in-Ok.ensures.spares

pub returns-in-Ok-clause-moves : goal.returns-in-Ok-clause-moves
returns-in-Ok-clause-moves g c = move-row g.D.Disk.size g.D.Disk.faults g.D.Disk.mismatches g.D.Disk.held c.args.w c.args.self.now c.deref.result.now c.deref_mut.result.now c.begin_move.new.self c.args.t c.args.x.cell c.args.x.from c.args.x.to (c.deref.ensures ∙ c.self.view_is) (c.deref_mut.ensures.value ∙ c.self.view_is) c.is_sound.ensures c.requires.worker c.requires.claimed c.requires.can c.requires.mover c.in-Ok.ensures.ok

pub returns-in-Ok-clause-share : goal.returns-in-Ok-clause-share
returns-in-Ok-clause-share g c = move-share g.D.Disk.size g.D.Disk.faults g.D.Disk.mismatches g.D.Disk.held c.args.w c.args.self.now c.deref.result.now c.deref_mut.result.now c.begin_move.new.self c.args.t c.args.x.cell c.args.x.from c.args.x.to (c.deref.ensures ∙ c.self.view_is) (c.deref_mut.ensures.value ∙ c.self.view_is) c.is_sound.ensures c.requires.worker c.requires.claimed c.requires.can c.requires.mover c.in-Ok.ensures.ok (array_in c.in-Ok.share) c.in-Ok.ensures.share

pub returns-in-Ok-clause-counts : goal.returns-in-Ok-clause-counts
returns-in-Ok-clause-counts g c = move-counts g.D.Disk.size g.D.Disk.faults g.D.Disk.mismatches g.D.Disk.held c.args.w c.args.self.now c.deref.result.now c.deref_mut.result.now c.begin_move.new.self c.args.t c.args.x.cell c.args.x.from c.args.x.to (c.deref.ensures ∙ c.self.view_is) (c.deref_mut.ensures.value ∙ c.self.view_is) c.is_sound.ensures c.requires.worker c.requires.claimed c.requires.can c.requires.mover c.in-Ok.ensures.ok

pub returns-in-Ok-clause-disks_stay : goal.returns-in-Ok-clause-disks_stay
returns-in-Ok-clause-disks_stay g c = move-lent g.D.Disk.size g.D.Disk.faults g.D.Disk.mismatches g.D.Disk.held c.args.w c.args.self.now c.deref.result.now c.deref_mut.result.now c.begin_move.new.self c.args.t c.args.x.cell c.args.x.from c.args.x.to (c.deref.ensures ∙ c.self.view_is) (c.deref_mut.ensures.value ∙ c.self.view_is) c.is_sound.ensures c.requires.worker c.requires.claimed c.requires.can c.requires.mover c.in-Ok.ensures.ok

pub returns-in-Ok-clause-event : goal.returns-in-Ok-clause-event
returns-in-Ok-clause-event g c = happened c.args.self.now c.deref_mut.result.now c.begin_move.new.self (c.deref_mut.ensures.value ∙ c.self.view_is) (λ k. Move c.args.x.cell c.args.x.from c.args.x.to) (ap (λ (k : BoardState g.row.D.Denot). k.run) c.in-Ok.ensures.ok)
