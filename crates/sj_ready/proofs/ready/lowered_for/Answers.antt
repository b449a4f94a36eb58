use Rattle.std.proofs.Common.{subst, sym}
use Rattle.sj_base.specs.declared.program.Program.{Program}
use Rattle.sj_codelet.specs.Kernel.{out}
use Rattle.sj_core.specs.Laws.{IsLawful}
use Rattle.sj_meaning.specs.Table.{Table}
use Rattle.sj_meaning.specs.View.{statements_of}
use Rattle.sj_lower.specs.Delivering.{DeliversPrinted}
use Rattle.sj_ready.proofs.ready.lowered_for.Goals as goal

pub returns-clause-prints : goal.returns-clause-prints
returns-clause-prints c = λ has lawful some.
    let l = c.in_ok-program.ensures in
    let ss = statements_of c.args.job in
    let same = c.in_ok-program-2.ensures in
    let prints = l.prints has (subst (IsLawful out has) same lawful) some in
    subst (λ (T : Table). DeliversPrinted T c.in_ok-program-2.program.value ss) (sym l.roots)
    (subst (λ (p : Program). DeliversPrinted c.args.job.roots p ss) (sym same) prints)
