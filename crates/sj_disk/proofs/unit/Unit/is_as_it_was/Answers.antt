use Rattle.std.proofs.Common.{subst}
use Rattle.sj_disk.specs.Units.{IsWorkedOn, UnitState, unit_state}
use Rattle.sj_disk.proofs.Uniting.{worked-same}
use Rattle.sj_disk.proofs.unit.Unit.is_as_it_was.Goals as goal

pub returns : goal.returns
returns g c =
    let u = unit_state c.self.inside.disk c.self.inside.cell c.self.inside.extent in
    let worked = worked-same g.D.Disk.size g.D.Disk.faults g.D.Disk.mismatches g.D.Disk.held u c.self.invariant in
    subst (λ (s : UnitState g.row.D.Denot). IsWorkedOn g.D.Disk.size g.D.Disk.faults g.D.Disk.mismatches g.D.Disk.held s s) c.self.view_is worked
