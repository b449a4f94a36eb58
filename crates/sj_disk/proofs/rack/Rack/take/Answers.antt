use Rattle.sj_disk.proofs.Racking.{takes, was_in}
use Rattle.sj_disk.proofs.rack.Rack.take.Goals as goal

pub returns-clause-was_in : goal.returns-clause-was_in
returns-clause-was_in g c = was_in c.self.inside.shelves.items c.args.d.0 c.args.self.now c.self.view_is c.index_mut.result.now c.take.new.self c.requires c.index_mut.ensures.value c.take.ensures.out c.take.result c.take.ensures.some

pub returns-clause-takes : goal.returns-clause-takes
returns-clause-takes g c = takes c.self.inside.shelves.items c.args.d.0 c.args.self.now c.self.view_is c.index_mut.result.now c.take.new.self c.requires c.index_mut.ensures.value c.take.ensures.out c.take.result
