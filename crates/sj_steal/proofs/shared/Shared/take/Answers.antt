use Rattle.std.proofs.Common.{Result, Ok, Err, OnErr}
use Rattle.sj_base.specs.declared.ids.Task.{Task}
use Rattle.sj_steal.specs.declared.shared.Empty.{Empty}
use Rattle.sj_steal.proofs.shared.Shared.take.Goals as goal

at_error : (r : Result Task Empty) (P : Type 0) → P → OnErr r P
at_error (Ok t) P known = tt
at_error (Err e) P known = known

pub returns-in_default-clause-empty : goal.returns-in_default-clause-empty
returns-in_default-clause-empty g c = at_error c.take_from_others.result _ c.in_default.ensures.empty
