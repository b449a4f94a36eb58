use Rattle.std.proofs.Common.{subst}
use Rattle.std.specs.Int.{w64}
use Rattle.std.specs.Prelude.{All, FitsSigned}
use Rattle.sj_base.specs.Array.{Array}
use Rattle.sj_disk.specs.Units.{UnitStores}
use Rattle.sj_engine.specs.Stage.{IsCarried}
use Rattle.sj_engine.specs.Stepping.{IsUnitFor}
use Rattle.sj_engine.specs.Workplace.{board_key}
use Rattle.sj_engine.proofs.DeskTurns.{at-both}
use Rattle.sj_engine.proofs.workplace.Workplace.store.Goals as goal

pub write_out-requires-clause-stored : goal.write_out-requires-clause-stored
write_out-requires-clause-stored g c = at-both (λ r. IsUnitFor (board_key c.args.self.now) c.args.self.now.worker c.args.t c.args.x r c.args.unit c.args.writes) (λ r. IsCarried g.D.Disk.held (board_key c.args.self.now) c.args.x r c.args.share.value) _ (λ r u carried. record {
  before = c.args.unit;
  holds = u.holds;
  array = c.args.share.value;
  carried = carried;
  fits = subst (λ (a : Array). All (FitsSigned w64) a.elements) c.deref.ensures c.measured.ensures.fits;
  count = c.args.writes;
  counts = u.counts;
  stores = subst (λ (a : Array). UnitStores g.D.Disk.size g.D.Disk.faults g.D.Disk.mismatches g.D.Disk.held c.args.writes a.elements c.store-outcome.result c.args.unit c.store-outcome.new.self) c.deref-2.ensures c.store-outcome.ensures;
}) c.requires.unit c.requires.share
