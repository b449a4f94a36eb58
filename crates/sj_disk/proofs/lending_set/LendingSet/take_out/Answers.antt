use Rattle.std.proofs.Common.{◌≡◌, Some, ap, ◌∙◌, sym}
use Rattle.sj_disk.specs.Directory.{extent_of}
use Rattle.sj_disk.proofs.Returning.{sound-taken}
use Rattle.sj_disk.proofs.lending_set.LendingSet.take_out.Goals as goal

pub of-requires : goal.of-requires
of-requires g c =
    let found : extent_of c.self.inside.directory.items c.args.cell.0 ≡ Some c.known_extent-extent.result = ap (λ es. extent_of es c.args.cell.0) (sym c.deref.ensures.value) ∙ c.known_extent-extent.ensures in
    sound-taken g.D.Disk.size g.D.Disk.faults g.D.Disk.mismatches g.D.Disk.held c.self.inside.rack.disks c.self.inside.sizes.items c.self.inside.taken.items c.self.inside.directory.items c.args.cell c.known_extent-extent.result c.in_ok-disk.disk c.self.invariant found c.in_ok-disk.ensures.was_in.0
