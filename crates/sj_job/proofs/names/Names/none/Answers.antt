use Rattle.std.proofs.Common.{refl, rules}
use Rattle.sj_job.specs.declared.names.Names.{Names}
use Rattle.sj_job.proofs.Seen.{sees_start}
use Rattle.sj_job.proofs.names.Names.none.Goals as goal

pub returns : goal.returns
returns c =
    let new : Names = record { statements = 0; roots = c.none.result; standings = c.new.result } in
    sees_start new refl c.none.ensures (search rules)
