use Rattle.std.proofs.Common.{IsTrue, arith, rules}
use Rattle.sj_codelet.specs.Kernel.{formals_of}
use Rattle.sj_kernels.specs.Last.{writes_last_alone}
use Rattle.sj_kernels.proofs.Last.{ran_last_alone}
use Rattle.sj_kernels.proofs.runs.run_kernel.Goals as goal

pub returns-in_default : goal.returns-in_default
returns-in_default c =
    let taken = c.take_own-last in
    let alone : IsTrue (writes_last_alone (formals_of c.args.kernel)) = search rules in
    ran_last_alone c.args.kernel c.args.args.now c.args.frame.now c.push_own.new.self taken.new.self.slots taken.result c.write_last.new.last alone c.requires.ready taken.ensures.slots c.push_own.ensures.slots (omega arith) c.write_last.ensures
