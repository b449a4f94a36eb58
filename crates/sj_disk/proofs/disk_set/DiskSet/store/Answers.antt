use Rattle.std.proofs.Common.{◌≡◌, ℕ, ℤ, Bool, List, Some, length, sym, ap, ◌∙◌, subst, arith}
use Rattle.sj_disk.specs.declared.directory.Extent.{Extent}
use Rattle.sj_disk.specs.Directory.{DiskState, disk_state, with_store}
use Rattle.sj_disk.specs.Calls.{Stores}
use Rattle.sj_disk.specs.Sound.{AreSoundDisks}
use Rattle.std.specs.Prelude.{slice_set}
use Rattle.sj_base.proofs.Options.{IfSome-from}
use Rattle.sj_disk.proofs.Sounding.{inside-disk, inside-fits, looked-up, sound-store, store-change, stored}
use Rattle.sj_disk.proofs.disk_set.DiskSet.store.Goals as goal

-- the extent has room for just these elements
abbrev HasLength : List ℤ → Extent → Type 0
HasLength xs e = length xs ≡ e.length

pub store_on-result-requires-clause-in_range : goal.store_on-result-requires-clause-in_range
store_on-result-requires-clause-in_range g c x ex =
    let e = c.known_extent-extent.result in
    let cell : ℕ = c.args.cell.0 in
    let k = looked-up (HasLength c.args.tile.now.elements) c.deref.result.now c.self.inside.directory.items cell e c.args.self.now c.deref.ensures.value (ap (λ (s : DiskState g.row.D.Denot). s.directory) c.self.view_is) c.known_extent-extent.ensures c.requires.reserved in
    let many : length c.elements.result.now ≡ e.length = ap length c.elements.ensures.elements ∙ k.2 in
    let h = inside-disk g.D.Disk.size g.D.Disk.faults g.D.Disk.mismatches g.D.Disk.held c.self.inside.disks.items c.self.inside.sizes.items c.self.inside.taken.items c.self.inside.directory.items cell e x c.self.invariant k.0 ex in
    omega arith

pub store_on-result-requires-clause-fits : goal.store_on-result-requires-clause-fits
store_on-result-requires-clause-fits g c =
    let e = c.known_extent-extent.result in
    let cell : ℕ = c.args.cell.0 in
    let k = looked-up (HasLength c.args.tile.now.elements) c.deref.result.now c.self.inside.directory.items cell e c.args.self.now c.deref.ensures.value (ap (λ (s : DiskState g.row.D.Denot). s.directory) c.self.view_is) c.known_extent-extent.ensures c.requires.reserved in
    let many : length c.elements.result.now ≡ e.length = ap length c.elements.ensures.elements ∙ k.2 in
    let h = inside-fits g.D.Disk.size g.D.Disk.faults g.D.Disk.mismatches g.D.Disk.held c.self.inside.disks.items c.self.inside.sizes.items c.self.inside.taken.items c.self.inside.directory.items cell e c.self.invariant k.0 in
    omega arith

pub invariant_of-self : goal.invariant_of-self
invariant_of-self g c =
    let e = c.known_extent-extent.result in
    let cell : ℕ = c.args.cell.0 in
    let xs = c.args.tile.now.elements in
    let r = c.store_on-result.result in
    let old = c.self.inside.disks.items in
    let new = c.store_on-result.new.disks.items in
    let sizes = c.self.inside.sizes.items in
    let taken = c.self.inside.taken.items in
    let directory = c.self.inside.directory.items in
    let k = looked-up (HasLength c.args.tile.now.elements) c.deref.result.now c.self.inside.directory.items cell e c.args.self.now c.deref.ensures.value (ap (λ (s : DiskState g.row.D.Denot). s.directory) c.self.view_is) c.known_extent-extent.ensures c.requires.reserved in
    let ch = store-change g.D.Disk.size g.D.Disk.faults g.D.Disk.mismatches g.D.Disk.held old new cell e c.args.writes _ xs r c.elements.ensures.elements k.2 c.store_on-result.ensures.writes in
    let sound = sound-store g.D.Disk.size g.D.Disk.faults g.D.Disk.mismatches g.D.Disk.held old new sizes taken directory cell e c.args.writes xs r k.0 k.2 c.self.invariant ch in
    subst (λ (ok : Bool). AreSoundDisks g.D.Disk.size g.D.Disk.held new sizes taken (slice_set directory cell (Some (with_store e c.args.writes ok)))) (sym c.is_ok.ensures.value) sound

pub returns : goal.returns
returns g c =
    let e = c.known_extent-extent.result in
    let cell : ℕ = c.args.cell.0 in
    let xs = c.args.tile.now.elements in
    let r = c.store_on-result.result in
    let old = c.self.inside.disks.items in
    let new = c.store_on-result.new.disks.items in
    let sizes = c.self.inside.sizes.items in
    let taken = c.self.inside.taken.items in
    let directory = c.self.inside.directory.items in
    let k = looked-up (HasLength c.args.tile.now.elements) c.deref.result.now c.self.inside.directory.items cell e c.args.self.now c.deref.ensures.value (ap (λ (s : DiskState g.row.D.Denot). s.directory) c.self.view_is) c.known_extent-extent.ensures c.requires.reserved in
    let ch = store-change g.D.Disk.size g.D.Disk.faults g.D.Disk.mismatches g.D.Disk.held old new cell e c.args.writes _ xs r c.elements.ensures.elements k.2 c.store_on-result.ensures.writes in
    let after = disk_state new taken (slice_set directory cell (Some (with_store e c.args.writes c.is_ok.result))) in
    let stores = stored g.D.Disk.size g.D.Disk.faults g.D.Disk.mismatches g.D.Disk.held old new sizes taken directory cell e c.args.writes xs r k.0 k.2 c.self.invariant ch c.is_ok.result c.is_ok.ensures.value c.store_on-result.ensures.refused in
    IfSome-from (Stores g.D.Disk.size g.D.Disk.faults g.D.Disk.mismatches g.D.Disk.held cell c.args.writes xs r c.args.self.now after) _ e k.1 (subst (λ (s : DiskState g.row.D.Denot). Stores g.D.Disk.size g.D.Disk.faults g.D.Disk.mismatches g.D.Disk.held cell c.args.writes xs r s after e) c.self.view_is stores)
