use Rattle.sj_job.proofs.Marks.{is-all, not-all}
use Rattle.sj_job.proofs.track.Tracked.is_all.Goals as goal

pub returns-in-All : goal.returns-in-All
returns-in-All c = is-all c.self.inside.parts c.self.inside.marks c.args.self.now c.self.view_is c.in-All.is

pub returns-in_default : goal.returns-in_default
returns-in_default c = not-all c.self.inside.parts c.self.inside.marks c.args.self.now c.self.invariant c.self.view_is c.in_default.not-All
