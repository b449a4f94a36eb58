use Rattle.std.proofs.Common.{◌∙◌, ap}
use Rattle.sj_disk.specs.Lending.{LendingState}
use Rattle.sj_engine.proofs.Outcomes.{ends, none-has, none-unit}
use Rattle.sj_engine.proofs.closing.ended.Goals as goal

pub close-delivered-requires : goal.close-delivered-requires
close-delivered-requires g c = record { idle = none-has g.D.Disk.size g.D.Disk.faults g.D.Disk.mismatches g.D.Disk.held c.args.board c.requires.sound.board c.requires.sound.counts c.requires.stopped; no_unit = none-unit g.D.Disk.size g.D.Disk.faults g.D.Disk.mismatches g.D.Disk.held c.args.board c.requires.sound.board c.requires.sound.counts c.requires.stopped }

pub returns : goal.returns
returns g c = ends g.D.Disk.size g.D.Disk.faults g.D.Disk.mismatches g.D.Disk.held c.args.board c.requires.sound.board c.requires.sound.counts c.requires.stopped c.close-delivered.result.0.pairs c.close-delivered.ensures.each c.close-delivered.result.3 c.close-delivered.ensures.fault c.result_of.result c.result_of.ensures c.close-delivered.result.1.events c.close-delivered.ensures.trace c.close.result.items (c.close.ensures ∙ ap (λ (s : LendingState _). s.set.disks) c.close-delivered.ensures.disks)
