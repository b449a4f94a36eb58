use Rattle.std.proofs.Common.{◌≡◌, ap, false, length, replicate, sym, subst}
use Rattle.sj_disk.specs.Directory.{DiskState, disk_state}
use Rattle.sj_disk.specs.Lending.{lending}
use Rattle.sj_disk.specs.Rack.{Racked}
use Rattle.sj_disk.specs.Sound.{AreSoundDisks}
use Rattle.sj_disk.proofs.lending_set.LendingSet.make.Goals as goal

pub invariant_of-result : goal.invariant_of-result
invariant_of-result g c =
    let parts = c.into_parts-disks.result in
    subst (λ (r : Racked g.row.D.Denot). AreSoundDisks g.D.Disk.size g.D.Disk.held r.disks parts.sizes.items parts.taken.items parts.directory.items) (sym c.in-Ok.ensures.ok) c.into_parts-disks.ensures.sound

pub returns-in-Ok-clause-ok : goal.returns-in-Ok-clause-ok
returns-in-Ok-clause-ok g c =
    let parts = c.into_parts-disks.result in
    let whole = λ (r : Racked g.row.D.Denot). lending (disk_state r.disks parts.taken.items parts.directory.items) r.out in
    subst (λ (s : DiskState g.row.D.Denot). whole c.in-Ok.rack ≡ lending s (replicate (length s.disks) false)) c.into_parts-disks.ensures.parts (ap whole c.in-Ok.ensures.ok)
