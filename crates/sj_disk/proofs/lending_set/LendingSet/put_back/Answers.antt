use Rattle.std.proofs.Common.{◌≡◌, ◌<◌, ◌∙◌, ℕ, Some, length, ap, sym, subst}
use Rattle.std.specs.Prelude.{slice_set}
use Rattle.std.specs.Vec.{vec_len}
use Rattle.std.proofs.lemmas.Option.{slice_get_within}
use Rattle.sj_base.specs.declared.ids.Cell.{Cell}
use Rattle.sj_base.specs.declared.ids.DiskNo.{DiskNo}
use Rattle.sj_disk.specs.Calls.{Fetches, Stores}
use Rattle.sj_disk.specs.Directory.{disk_state}
use Rattle.sj_disk.specs.Lending.{IsTaken, LendingState, has_back, lending}
use Rattle.sj_disk.specs.Rack.{Racked}
use Rattle.sj_disk.specs.Sound.{AreSoundDisks}
use Rattle.sj_disk.specs.Units.{IsSoundUnit, IsWorkedOn, UnitFetches, UnitState, UnitStores, unit_state}
use Rattle.sj_disk.proofs.Returning.{has-fetched, has-stored, is-sound-back, within-directory}
use Rattle.sj_disk.proofs.lending_set.LendingSet.put_back.Goals as goal

pub put-requires : goal.put-requires
put-requires g c =
    let r = c.into_parts-disk.result in
    let was = subst (λ (s : LendingState g.row.D.Denot). IsTaken s c.requires.before) (sym c.self.view_is) c.requires.taken in
    let same = ap (λ (u : UnitState g.row.D.Denot). u.extent.disk) c.into_parts-disk.ensures.parts ∙ c.requires.worked.disk_number_stays in
    subst (λ (d : DiskNo). d.0 < length c.self.inside.rack.disks) (sym same) (slice_get_within c.self.inside.rack.disks c.requires.before.extent.disk.0 c.requires.before.disk was.its_disk)

pub index_mut-requires : goal.index_mut-requires
index_mut-requires g c =
    let was = subst (λ (s : LendingState g.row.D.Denot). IsTaken s c.requires.before) (sym c.self.view_is) c.requires.taken in
    let same = ap (λ (u : UnitState g.row.D.Denot). u.cell) c.into_parts-disk.ensures.parts ∙ c.requires.worked.cell_stays in
    let inside = subst (λ (n : ℕ). c.requires.before.cell.0 < n) (sym c.self.inside.directory.ok.0) (within-directory c.self.inside.directory.items c.requires.before.cell.0 c.requires.before.extent was.its_extent) in
    subst (λ (q : Cell). q.0 < vec_len c.self.inside.directory) (sym same) inside

pub invariant_of-self : goal.invariant_of-self
invariant_of-self g c =
    let r = c.into_parts-disk.result in
    let inside = c.self.inside in
    let u = unit_state r.disk r.cell r.extent in
    let was = subst (λ (s : LendingState g.row.D.Denot). IsTaken s c.requires.before) (sym c.self.view_is) c.requires.taken in
    let sound = subst (λ (v : UnitState g.row.D.Denot). IsSoundUnit g.D.Disk.size g.D.Disk.held v) (sym c.into_parts-disk.ensures.parts) c.into_parts-disk.ensures.sound in
    let worked = subst (λ (v : UnitState g.row.D.Denot). IsWorkedOn g.D.Disk.size g.D.Disk.faults g.D.Disk.mismatches g.D.Disk.held c.requires.before v) (sym c.into_parts-disk.ensures.parts) c.requires.worked in
    let back = is-sound-back g.D.Disk.size g.D.Disk.faults g.D.Disk.mismatches g.D.Disk.held inside.rack.disks inside.sizes.items inside.taken.items inside.directory.items inside.rack.out c.self.invariant c.requires.before u was sound worked in
    subst (λ (k : Racked g.row.D.Denot). AreSoundDisks g.D.Disk.size g.D.Disk.held k.disks inside.sizes.items inside.taken.items (slice_set inside.directory.items r.cell.0 (Some r.extent))) (sym c.put.ensures) back

pub returns-clause-back : goal.returns-clause-back
returns-clause-back g c =
    let r = c.into_parts-disk.result in
    let inside = c.self.inside in
    let u = unit_state r.disk r.cell r.extent in
    let before = lending (disk_state inside.rack.disks inside.taken.items inside.directory.items) inside.rack.out in
    let after = λ (k : Racked g.row.D.Denot). lending (disk_state k.disks inside.taken.items (slice_set inside.directory.items r.cell.0 (Some r.extent))) k.out in
    let there : after c.put.new.self ≡ has_back before u = ap after c.put.ensures in
    subst (λ (s : LendingState g.row.D.Denot). after c.put.new.self ≡ has_back s c.args.unit) c.self.view_is (subst (λ (v : UnitState g.row.D.Denot). after c.put.new.self ≡ has_back before v) c.into_parts-disk.ensures.parts there)

pub returns-clause-stores : goal.returns-clause-stores
returns-clause-stores g c before writes xs result was stores =
    let r = c.into_parts-disk.result in
    let inside = c.self.inside in
    let u = unit_state r.disk r.cell r.extent in
    let here = subst (λ (s : LendingState g.row.D.Denot). IsTaken s before) (sym c.self.view_is) was in
    let sound = subst (λ (v : UnitState g.row.D.Denot). IsSoundUnit g.D.Disk.size g.D.Disk.held v) (sym c.into_parts-disk.ensures.parts) c.into_parts-disk.ensures.sound in
    let did = subst (λ (v : UnitState g.row.D.Denot). UnitStores g.D.Disk.size g.D.Disk.faults g.D.Disk.mismatches g.D.Disk.held writes xs result before v) (sym c.into_parts-disk.ensures.parts) stores in
    let P = λ (s : LendingState g.row.D.Denot) (k : Racked g.row.D.Denot). Stores g.D.Disk.size g.D.Disk.faults g.D.Disk.mismatches g.D.Disk.held before.cell.0 writes xs result s.set (disk_state k.disks inside.taken.items (slice_set inside.directory.items r.cell.0 (Some r.extent))) before.extent in
    let done = has-stored g.D.Disk.size g.D.Disk.faults g.D.Disk.mismatches g.D.Disk.held inside.rack.disks inside.sizes.items inside.taken.items inside.directory.items inside.rack.out c.self.invariant before u here sound did.is_worked_on writes xs result did in
    subst (λ (s : LendingState g.row.D.Denot). P s c.put.new.self) c.self.view_is (subst (λ (k : Racked g.row.D.Denot). P (lending (disk_state inside.rack.disks inside.taken.items inside.directory.items) inside.rack.out) k) (sym c.put.ensures) done)

pub returns-clause-fetches : goal.returns-clause-fetches
returns-clause-fetches g c before writes xs result was fetches =
    let r = c.into_parts-disk.result in
    let inside = c.self.inside in
    let u = unit_state r.disk r.cell r.extent in
    let here = subst (λ (s : LendingState g.row.D.Denot). IsTaken s before) (sym c.self.view_is) was in
    let sound = subst (λ (v : UnitState g.row.D.Denot). IsSoundUnit g.D.Disk.size g.D.Disk.held v) (sym c.into_parts-disk.ensures.parts) c.into_parts-disk.ensures.sound in
    let did = subst (λ (v : UnitState g.row.D.Denot). UnitFetches g.D.Disk.size g.D.Disk.faults g.D.Disk.mismatches g.D.Disk.held writes xs result before v) (sym c.into_parts-disk.ensures.parts) fetches in
    let P = λ (s : LendingState g.row.D.Denot) (k : Racked g.row.D.Denot). Fetches g.D.Disk.size g.D.Disk.faults g.D.Disk.mismatches g.D.Disk.held before.cell.0 writes xs result s.set (disk_state k.disks inside.taken.items (slice_set inside.directory.items r.cell.0 (Some r.extent))) before.extent in
    let done = has-fetched g.D.Disk.size g.D.Disk.faults g.D.Disk.mismatches g.D.Disk.held inside.rack.disks inside.sizes.items inside.taken.items inside.directory.items inside.rack.out c.self.invariant before u here sound did.is_worked_on writes xs result did in
    subst (λ (s : LendingState g.row.D.Denot). P s c.put.new.self) c.self.view_is (subst (λ (k : Racked g.row.D.Denot). P (lending (disk_state inside.rack.disks inside.taken.items inside.directory.items) inside.rack.out) k) (sym c.put.ensures) done)
