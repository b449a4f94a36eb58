use Rattle.sj_job.proofs.Last.{last-place}
use Rattle.sj_job.proofs.spell.last_place.Goals as goal

pub returns : goal.returns
returns c = last-place c.args.byte c.args.word.now c.memrchr.result c.memrchr.ensures
