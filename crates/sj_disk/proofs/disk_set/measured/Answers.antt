use Rattle.std.proofs.Common.{◌≡◌, ◌++◌, ◌∷◌, [], Fits, w64, ap, ◌∙◌, arith, rules}
use Rattle.std.proofs.Math.Facts.{Fits-lt-pow}
use Rattle.std.proofs.lemmas.Option.{slice_get_within}
use Rattle.sj_disk.proofs.Reserving.{bounded-more, filled-more, sizes-more}
use Rattle.sj_disk.proofs.disk_set.measured.Goals as goal

pub loop-disk-preserved : goal.loop-disk-preserved
loop-disk-preserved g c =
    let inv = c.loop-disk.invariant in
    let d = c.disk-item.result in
    let before = c.loop-disk.sizes.items in
    let more : c.push.new.self.items ≡ before ++ g.D.Disk.size d ∷ [] = c.in_ok-push.ensures.items ∙ ap (λ n. before ++ n ∷ []) c.size.ensures.size in
    let fits : Fits w64 c.size.result = search rules in (
      sizes-more g.D.Disk.size g.D.Disk.held c.args.disks.now c.loop-disk.disk-index d before c.push.new.self.items (omega arith) c.disk-item.is inv.0 more,
      bounded-more g.D.Disk.size g.D.Disk.held before c.push.new.self.items c.size.result (Fits-lt-pow {w = w64} fits) c.in_ok-push.ensures.items inv.1,
      filled-more g.D.Disk.size g.D.Disk.held c.args.disks.now c.loop-disk.disk-index d (omega arith) c.disk-item.is c.size.ensures.told_bytes_fill_the_size inv.2,
    )

pub returns-clause-filled : goal.returns-clause-filled
returns-clause-filled g c k x e =
    let inside = slice_get_within c.args.disks.now k x e in
    c.loop-disk.invariant.2 k x (omega arith) e
