use Rattle.sj_steal.specs.Facts.{put_through, taken_through}
use Rattle.sj_steal.proofs.Passes.{balanced}
use Rattle.sj_steal.proofs.shared.Shared.close.Goals as goal

pub returns : goal.returns
returns g c = let stakes = c.gathered-stakes.result.items in record { balanced = balanced c.drained.result (put_through stakes) (taken_through stakes) c.args.passes.items c.drained.ensures c.gathered-stakes.ensures.put c.gathered-stakes.ensures.taken }
