use Rattle.std.proofs.Common.{◌≡◌, [], ◌∷◌, length, refl, ap, arith}
use Rattle.std.proofs.lemmas.List.{length-append}
use Rattle.sj_codelet.specs.declared.kernel.Kernel.TheVariants.{Butterfly}
use Rattle.sj_codelet.specs.declared.formal.Formal.TheVariants.{RW}
use Rattle.sj_codelet.specs.Frame.{own}
use Rattle.sj_codelet.proofs.Operands.{operands_are, ready_before, ends_owned_from_ready}
use Rattle.sj_kernels.proofs.runs.run_butterfly.Goals as goal

pub take_own-x-requires : goal.take_own-x-requires
take_own-x-requires c =
    let slots = c.args.frame.now.slots in
    let before = c.take_own-y.new.self.slots in
    let y = c.take_own-y.result in
    let e = c.take_own-y.ensures.slots in
    let n = operands_are Butterfly c.args._args.now slots c.requires in
    let l : length before ≡ 1 = omega (arith, ap length e, length-append before (own y ∷ [])) in
    let ready = rw e at c.requires.ready in
    ends_owned_from_ready (RW ∷ []) before refl l (ready_before (RW ∷ []) (RW ∷ []) before (own y ∷ []) l ready)
