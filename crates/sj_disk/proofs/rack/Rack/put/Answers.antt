use Rattle.std.proofs.Common.{false}
use Rattle.sj_disk.proofs.Racking.{shelf_set}
use Rattle.sj_disk.proofs.rack.Rack.put.Goals as goal

pub returns : goal.returns
returns g c = shelf_set c.self.inside.shelves.items c.args.d.0 c.args.self.now c.self.view_is c.of.result c.args.disk false c.of.ensures
