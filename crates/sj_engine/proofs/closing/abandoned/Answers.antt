use Rattle.std.proofs.Common.{◌∙◌, ap, refl}
use Rattle.sj_disk.specs.Lending.{LendingState}
use Rattle.sj_engine.proofs.Outcomes.{abandons}
use Rattle.sj_engine.proofs.closing.abandoned.Goals as goal

pub returns : goal.returns
returns g c = abandons g.D.Disk.size g.D.Disk.faults g.D.Disk.mismatches g.D.Disk.held c.args.board c.is_sound.ensures _ refl c.close-delivered.result.0.pairs c.close-delivered.result.1.events c.close-delivered.ensures.trace c.close.result.items (c.close.ensures ∙ ap (λ (s : LendingState _). s.set.disks) c.close-delivered.ensures.disks)
