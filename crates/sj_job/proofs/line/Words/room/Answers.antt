use Rattle.std.proofs.Common.{◌≡◌, ap, arith, length}
use Rattle.sj_job.specs.Word.{words}
use Rattle.sj_job.proofs.Dividing.{few-words}
use Rattle.sj_job.proofs.line.Words.room.Goals as goal

pub returns : goal.returns
returns c =
    let count : length (words c.self.inside.line.now) ≡ length c.args.self.now = ap length c.self.view_is in
    omega (arith, few-words c.self.inside.line.now, count)
