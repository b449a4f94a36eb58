use Rattle.std.proofs.Common.{◌≡◌, ℕ, ℤ, List, ◌++◌, Some, length, take, drop, sym, ap, ◌∙◌, subst, arith, true}
use Rattle.std.proofs.Math.Seq.{take-append_seam}
use Rattle.sj_base.proofs.Options.{IfSome-from}
use Rattle.sj_disk.specs.Calls.{Fetches}
use Rattle.sj_disk.specs.declared.directory.Extent.{Extent}
use Rattle.sj_disk.specs.Directory.{DiskState, disk_state, last_store}
use Rattle.sj_disk.proofs.Sounding.{fetched, inside-disk, inside-fits, looked-up, sound-look}
use Rattle.sj_disk.proofs.disk_set.DiskSet.fetch.Goals as goal

-- the extent has room for just these elements, and its last store ended well with this count
abbrev WasStored : List ℤ → ℕ → Extent → Type 0
WasStored xs writes e = (length xs ≡ e.length) × (e.last_store ≡ Some (last_store writes true))

pub fetch_on-requires-clause-in_range : goal.fetch_on-requires-clause-in_range
fetch_on-requires-clause-in_range g c x ex =
    let e = c.known_extent-extent.result in
    let cell : ℕ = c.args.cell.0 in
    let xs = c.args.tile.now.elements in
    let k = looked-up (WasStored xs c.args.writes) c.deref.result.now c.self.inside.directory.items cell e c.args.self.now c.deref.ensures.value (ap (λ (s : DiskState g.row.D.Denot). s.directory) c.self.view_is) c.known_extent-extent.ensures c.requires.stored in
    let many : length c.elements_mut.result.now ≡ e.length = ap length c.elements_mut.ensures.elements ∙ k.2.0 in
    let h = inside-disk g.D.Disk.size g.D.Disk.faults g.D.Disk.mismatches g.D.Disk.held c.self.inside.disks.items c.self.inside.sizes.items c.self.inside.taken.items c.self.inside.directory.items cell e x c.self.invariant k.0 ex in
    omega arith

pub fetch_on-requires-clause-fits : goal.fetch_on-requires-clause-fits
fetch_on-requires-clause-fits g c =
    let e = c.known_extent-extent.result in
    let cell : ℕ = c.args.cell.0 in
    let xs = c.args.tile.now.elements in
    let k = looked-up (WasStored xs c.args.writes) c.deref.result.now c.self.inside.directory.items cell e c.args.self.now c.deref.ensures.value (ap (λ (s : DiskState g.row.D.Denot). s.directory) c.self.view_is) c.known_extent-extent.ensures c.requires.stored in
    let many : length c.elements_mut.result.now ≡ e.length = ap length c.elements_mut.ensures.elements ∙ k.2.0 in
    let h = inside-fits g.D.Disk.size g.D.Disk.faults g.D.Disk.mismatches g.D.Disk.held c.self.inside.disks.items c.self.inside.sizes.items c.self.inside.taken.items c.self.inside.directory.items cell e c.self.invariant k.0 in
    omega arith

pub invariant_of-self : goal.invariant_of-self
invariant_of-self g c = sound-look g.D.Disk.size g.D.Disk.faults g.D.Disk.mismatches g.D.Disk.held _ _ c.known_extent-extent.result.disk.0 c.self.inside.disks.items c.fetch_on.new.disks.items c.self.inside.sizes.items c.self.inside.taken.items c.self.inside.directory.items c.fetch_on.ensures.looks c.self.invariant

pub returns-clause-fetches : goal.returns-clause-fetches
returns-clause-fetches g c =
    let e = c.known_extent-extent.result in
    let cell : ℕ = c.args.cell.0 in
    let xs = c.args.tile.now.elements in
    let ys = c.fetch_on.new.elements in
    let k = looked-up (WasStored xs c.args.writes) c.deref.result.now c.self.inside.directory.items cell e c.args.self.now c.deref.ensures.value (ap (λ (s : DiskState g.row.D.Denot). s.directory) c.self.view_is) c.known_extent-extent.ensures c.requires.stored in
    let many : length ys ≡ e.length = c.fetch_on.auto.elements ∙ ap length c.elements_mut.ensures.elements ∙ k.2.0 in
    let after = disk_state c.fetch_on.new.disks.items c.self.inside.taken.items c.self.inside.directory.items in
    let fetches = fetched g.D.Disk.size g.D.Disk.faults g.D.Disk.mismatches g.D.Disk.held c.self.inside.disks.items c.fetch_on.new.disks.items c.self.inside.sizes.items c.self.inside.taken.items c.self.inside.directory.items cell e c.args.writes ys c.fetch_on.result k.0 many k.2.1 c.self.invariant c.fetch_on.ensures.looks c.fetch_on.ensures.gives c.fetch_on.ensures.refused c.fetch_on.ensures.undamaged c.fetch_on.ensures.fits in
    let lent = take (length xs) (ys ++ drop (length ys) xs) in
    let whole : lent ≡ ys = ap (λ n. take n (ys ++ drop (length ys) xs)) (k.2.0 ∙ sym many) ∙ take-append_seam ys (drop (length ys) xs) in
    let before = disk_state c.self.inside.disks.items c.self.inside.taken.items c.self.inside.directory.items in
    let P = λ (zs : List ℤ) (s : DiskState g.row.D.Denot). Fetches g.D.Disk.size g.D.Disk.faults g.D.Disk.mismatches g.D.Disk.held cell c.args.writes zs c.fetch_on.result s after e in
    IfSome-from (Fetches g.D.Disk.size g.D.Disk.faults g.D.Disk.mismatches g.D.Disk.held cell c.args.writes lent c.fetch_on.result c.args.self.now after) _ e k.1 (subst (λ (s : DiskState g.row.D.Denot). P lent s) c.self.view_is (subst (λ (zs : List ℤ). P zs before) (sym whole) fetches))
