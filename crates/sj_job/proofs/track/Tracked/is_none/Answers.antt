use Rattle.sj_job.proofs.Marks.{is-none, not-none}
use Rattle.sj_job.proofs.track.Tracked.is_none.Goals as goal

pub returns-in-Blank : goal.returns-in-Blank
returns-in-Blank c = is-none c.self.inside.parts c.self.inside.marks c.args.self.now c.self.view_is c.in-Blank.is

pub returns-in_default : goal.returns-in_default
returns-in_default c = not-none c.self.inside.parts c.self.inside.marks c.args.self.now c.self.invariant c.self.view_is c.in_default.not-Blank
