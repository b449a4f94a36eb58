use Rattle.std.proofs.Common.{◌∙◌, refl}
use Rattle.sj_base.specs.declared.trace.Event.TheVariants.{Drop}
use Rattle.sj_core.specs.Needs.{node_of}
use Rattle.sj_engine.proofs.BoardTurns.{dropped-row, has_event-turn}
use Rattle.std.proofs.Common.{ap}
use Rattle.sj_board.specs.Board.{BoardState}
use Rattle.sj_engine.proofs.BoardTurns.{happened}
use Rattle.sj_engine.proofs.shared_board.SharedBoard.discard.Goals as goal

pub returns-clause-turn : goal.returns-clause-turn
returns-clause-turn g c =
    has_event-turn g.D.Disk.size g.D.Disk.faults g.D.Disk.mismatches g.D.Disk.held c.args.w c.args.self.now c.deref.result.now c.deref_mut.result.now c.drop_copy.new.self (λ b. Drop c.args.cell (node_of b.run.machine c.args.w))
    (c.deref.ensures ∙ c.self.view_is) (c.deref_mut.ensures.value ∙ c.self.view_is) c.is_sound.ensures refl c.requires.can c.drop_copy.ensures.drops c.drop_copy.ensures.spares

pub returns-clause-row : goal.returns-clause-row
returns-clause-row g c =
    dropped-row g.D.Disk.size g.D.Disk.faults g.D.Disk.mismatches g.D.Disk.held c.args.w c.args.self.now c.deref_mut.result.now c.drop_copy.new.self c.args.t c.args.cell (c.deref_mut.ensures.value ∙ c.self.view_is) c.requires.claimed c.drop_copy.ensures.drops

pub returns-clause-event : goal.returns-clause-event
returns-clause-event g c = (c.args.cell, happened c.args.self.now c.deref_mut.result.now c.drop_copy.new.self (c.deref_mut.ensures.value ∙ c.self.view_is) (λ b. Drop c.args.cell (node_of b.run.machine c.args.w)) (ap (λ (k : BoardState g.row.D.Denot). k.run) c.drop_copy.ensures.drops))
