use Rattle.sj_job.proofs.Marks.{set-in-all}
use Rattle.sj_job.proofs.track.Tracked.is_valued.Goals as goal

pub returns-in-All : goal.returns-in-All
returns-in-All c = set-in-all c.self.inside.parts c.self.inside.marks c.args.self.now (c.args.i, c.args.j) c.self.view_is c.in-All.is c.requires
