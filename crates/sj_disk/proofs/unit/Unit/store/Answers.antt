use Rattle.std.proofs.Common.{◌≡◌, length, sym, subst}
use Rattle.sj_disk.specs.Directory.{with_store}
use Rattle.sj_disk.specs.Units.{UnitState, UnitStores, unit_state}
use Rattle.sj_disk.proofs.Uniting.{sound-stored, unit-change, unit-stores}
use Rattle.sj_disk.proofs.unit.Unit.store.Goals as goal

pub returns : goal.returns
returns g c =
    let u = unit_state c.self.inside.disk c.self.inside.cell c.self.inside.extent in
    let xs = c.args.tile.now.elements in
    let y = c.write_on-result.new.disk in
    let r = c.write_on-result.result in
    let many = subst (λ (s : UnitState g.row.D.Denot). length xs ≡ s.extent.length) (sym c.self.view_is) c.requires.whole in
    let w = unit-change g.D.Disk.size g.D.Disk.faults g.D.Disk.mismatches g.D.Disk.held u c.args.writes _ xs r y c.elements.ensures.elements many c.write_on-result.ensures.writes in
    let stores = unit-stores g.D.Disk.size g.D.Disk.faults g.D.Disk.mismatches g.D.Disk.held u c.self.invariant c.args.writes xs many r y w c.is_ok.result c.is_ok.ensures.value c.write_on-result.ensures.refused in
    subst (λ (s : UnitState g.row.D.Denot). UnitStores g.D.Disk.size g.D.Disk.faults g.D.Disk.mismatches g.D.Disk.held c.args.writes xs r s (unit_state y u.cell (with_store u.extent c.args.writes c.is_ok.result))) c.self.view_is stores

pub invariant_of-self : goal.invariant_of-self
invariant_of-self g c =
    let u = unit_state c.self.inside.disk c.self.inside.cell c.self.inside.extent in
    let xs = c.args.tile.now.elements in
    let y = c.write_on-result.new.disk in
    let r = c.write_on-result.result in
    let many = subst (λ (s : UnitState g.row.D.Denot). length xs ≡ s.extent.length) (sym c.self.view_is) c.requires.whole in
    let w = unit-change g.D.Disk.size g.D.Disk.faults g.D.Disk.mismatches g.D.Disk.held u c.args.writes _ xs r y c.elements.ensures.elements many c.write_on-result.ensures.writes in
    sound-stored g.D.Disk.size g.D.Disk.faults g.D.Disk.mismatches g.D.Disk.held u c.self.invariant c.args.writes xs many r y w c.is_ok.result c.is_ok.ensures.value
