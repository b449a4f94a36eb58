use Rattle.std.proofs.Common.{◌≡◌, ◌∙◌, ap, sym, rules, get_or, false}
use Rattle.sj_job.specs.Track.{track_by, AreMixed}
use Rattle.sj_job.proofs.Marks.{wrote-in-all, wrote-last}
use Rattle.sj_job.proofs.track.Tracked.write.Goals as goal

pub returns-in-All : goal.returns-in-All
returns-in-All c = wrote-in-all c.self.inside.parts c.self.inside.marks c.args.self.now (c.args.i, c.args.j) c.self.view_is c.in-All.is c.requires

pub returns-then-blank-eq1 : goal.returns-then-blank-eq1
returns-then-blank-eq1 c =
    let p = c.self.inside.parts in
    let mixed : AreMixed p c.in-Mixed.marks.items c.in-Mixed.blank = rw c.in-Mixed.is at c.self.invariant.1 in
    let view = sym (ap (track_by p) c.in-Mixed.is) ∙ c.self.view_is in
    let unset : get_or c.in-Mixed.marks.items c.number-place.result false ≡ false = search rules in
    wrote-last p c.in-Mixed.marks.items c.in-Mixed.blank c.args.self.now (c.args.i, c.args.j) c.number-place.result mixed view c.requires (c.number-place.ensures.number) unset c.if-blank-eq1.true
