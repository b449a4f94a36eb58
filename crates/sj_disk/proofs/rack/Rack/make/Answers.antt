use Rattle.std.proofs.Common.{List, ◌++◌, ◌∙◌, ap, false, map}
use Rattle.sj_disk.specs.Rack.{Shelved, shelved}
use Rattle.sj_disk.proofs.Racking.{all_in}
use Rattle.sj_disk.proofs.rack.Rack.make.Goals as goal

pub returns-clause-ok : goal.returns-clause-ok
returns-clause-ok g c =
    all_in c.args.disks.items c.fill.new.shelves.items
    (c.fill.ensures.shelves ∙ ap (λ (ss : List (Shelved g.row.D.Denot)). ss ++ map (λ x. shelved x false) c.args.disks.items) c.in-Ok.ensures.items)
