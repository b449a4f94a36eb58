use Rattle.std.proofs.Common.{List, ℕ, Option, map, length, sym, ap, ◌∙◌, subst}
use Rattle.sj_disk.specs.declared.directory.Extent.{Extent}
use Rattle.sj_disk.specs.Sound.{AreFilled, AreSoundDisks}
use Rattle.sj_disk.proofs.Reserving.{none-of, sound-made}
use Rattle.sj_disk.proofs.disk_set.DiskSet.make.Goals as goal

pub invariant_of-result : goal.invariant_of-result
invariant_of-result g c =
    let size = g.D.Disk.size in
    let held = g.D.Disk.held in
    let disks = c.args.disks.items in
    let s = c.in-Ok.ensures in
    let filled = subst (λ (xs : List g.row.D.Denot). AreFilled size held xs) c.deref.ensures.value s.filled in
    let made = sound-made size held disks c.in-Ok.sizes.items c.requires.few (s.sizes ∙ ap (map size) c.deref.ensures.value) s.bounded filled in
    let zeros = subst (λ (ns : List ℕ). AreSoundDisks size held disks c.in-Ok.sizes.items ns _) (sym (c.in-Ok-zeros.ensures ∙ ap none-of (c.len.ensures ∙ sym c.deref.ensures.len ∙ ap length c.deref.ensures.value))) made in
    subst (λ (es : List (Option Extent)). AreSoundDisks size held disks c.in-Ok.sizes.items c.in-Ok-zeros.taken.items es) (sym c.new.ensures.items) zeros
