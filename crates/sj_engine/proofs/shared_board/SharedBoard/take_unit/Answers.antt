use Rattle.std.proofs.Common.{◌∙◌}
use Rattle.sj_engine.proofs.UnitTurns.{take-busy, take-in, take-moves, take-none, took-carried, took-no_event, took-turn, took-unit}
use Rattle.sj_engine.proofs.shared_board.SharedBoard.take_unit.Goals as goal

pub take_unit-requires : goal.take_unit-requires
take_unit-requires g c = record {
  busy = take-busy g.D.Disk.held c.args.w c.args.self.now c.deref_mut.result.now c.args.t c.args.x (c.deref_mut.ensures.value ∙ c.self.view_is) c.requires.worker c.requires.moves;
  none = take-none g.D.Disk.held c.args.w c.args.self.now c.deref_mut.result.now c.args.t c.args.x (c.deref_mut.ensures.value ∙ c.self.view_is) c.requires.worker c.requires.moves;
  moves = take-moves g.D.Disk.held c.args.w c.args.self.now c.deref_mut.result.now c.args.t c.args.x (c.deref_mut.ensures.value ∙ c.self.view_is) c.requires.worker c.requires.moves c.requires.disk;
  disk_in = take-in g.D.Disk.held c.args.w c.args.self.now c.deref_mut.result.now c.args.t c.args.x (c.deref_mut.ensures.value ∙ c.self.view_is) c.requires.worker c.requires.moves c.requires.disk_in;
}

pub returns-clause-turn : goal.returns-clause-turn
returns-clause-turn g c = took-turn g.D.Disk.held c.args.w c.args.self.now c.deref_mut.result.now c.args.t c.args.x (c.deref_mut.ensures.value ∙ c.self.view_is) c.requires.worker c.requires.moves c.deref.result.now c.take_unit.new.self c.take_unit.result g.D.Disk.size g.D.Disk.faults g.D.Disk.mismatches (c.deref.ensures ∙ c.self.view_is) c.is_sound.ensures c.take_unit.ensures.takes c.take_unit.ensures.unit c.take_unit.ensures.block

pub returns-clause-no_event : goal.returns-clause-no_event
returns-clause-no_event g c = took-no_event g.D.Disk.held c.args.w c.args.self.now c.deref_mut.result.now c.args.t c.args.x (c.deref_mut.ensures.value ∙ c.self.view_is) c.requires.worker c.requires.moves c.deref.result.now c.take_unit.new.self c.take_unit.result g.D.Disk.size g.D.Disk.faults g.D.Disk.mismatches (c.deref.ensures ∙ c.self.view_is) c.is_sound.ensures c.take_unit.ensures.takes c.take_unit.ensures.unit c.take_unit.ensures.block

pub returns-clause-unit : goal.returns-clause-unit
returns-clause-unit g c = took-unit g.D.Disk.held c.args.w c.args.self.now c.deref_mut.result.now c.args.t c.args.x (c.deref_mut.ensures.value ∙ c.self.view_is) c.requires.worker c.requires.moves c.deref.result.now c.take_unit.new.self c.take_unit.result g.D.Disk.size g.D.Disk.faults g.D.Disk.mismatches (c.deref.ensures ∙ c.self.view_is) c.is_sound.ensures c.take_unit.ensures.takes c.take_unit.ensures.unit c.take_unit.ensures.block

pub returns-clause-carried : goal.returns-clause-carried
returns-clause-carried g c = took-carried g.D.Disk.held c.args.w c.args.self.now c.deref_mut.result.now c.args.t c.args.x (c.deref_mut.ensures.value ∙ c.self.view_is) c.requires.worker c.requires.moves c.deref.result.now c.take_unit.new.self c.take_unit.result g.D.Disk.size g.D.Disk.faults g.D.Disk.mismatches (c.deref.ensures ∙ c.self.view_is) c.is_sound.ensures c.take_unit.ensures.takes c.take_unit.ensures.unit c.take_unit.ensures.block
