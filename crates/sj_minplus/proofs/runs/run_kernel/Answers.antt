use Rattle.std.proofs.Common.{IsTrue, not, arith, refl}
use Rattle.std.proofs.lemmas.Bool.{false≢true}
use Rattle.sj_codelet.specs.declared.kernel.Kernel.{Kernel}
use Rattle.sj_codelet.specs.declared.kernel.Kernel.TheVariants.{Butterfly, GemmThree, Deliver}
use Rattle.sj_codelet.specs.Kernel.{formals_of}
use Rattle.sj_kernels.specs.Has.{ring_has}
use Rattle.sj_kernels.specs.Last.{writes_last_alone}
use Rattle.sj_kernels.proofs.Last.{ran_last_alone}
use Rattle.sj_minplus.proofs.runs.run_kernel.Goals as goal

min_plus-alone : (k : Kernel) → IsTrue (not (ring_has k)) → IsTrue (writes_last_alone (formals_of k))
min_plus-alone Butterfly h = absurd (false≢true h)
min_plus-alone GemmThree h = absurd (false≢true h)
min_plus-alone Deliver h = absurd (false≢true h)
min_plus-alone k h = refl

pub returns : goal.returns
returns c =
    let taken = c.take_own-last in
    let alone = min_plus-alone c.args.kernel c.requires.known in
    ran_last_alone c.args.kernel c.args.args.now c.args.frame.now c.push_own.new.self taken.new.self.slots taken.result c.write_last.new.last alone c.requires.ready taken.ensures.slots c.push_own.ensures.slots (omega arith) c.write_last.ensures
