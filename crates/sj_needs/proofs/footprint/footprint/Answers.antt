use Rattle.std.proofs.lemmas.List.{take_rest}
use Rattle.std.proofs.Common.{List, ◌+◌, ◌∙◌, ap, get_or, arith}
use Rattle.sj_base.specs.declared.mode.Access.{Access}
use Rattle.sj_base.specs.declared.mode.Mode.TheVariants.{R}
use Rattle.sj_needs.specs.Operands.{bytes_before}
use Rattle.sj_needs.proofs.Footprints.{needs-from}
use Rattle.sj_needs.proofs.footprint.footprint.Goals as goal

pub loop-i-preserved : goal.loop-i-preserved
loop-i-preserved c =
    let p = c.args.program.now in
    let xs = c.accesses_of-accesses.result.now in
    let i = c.loop-i.i in
    let first : Access = record { mode = R; cell = record { 0 = 0 } } in
    let step = needs-from p xs i first c.loop-i-test.true in
    let own = c.bytes_before-bytes.ensures.bytes ∙ ap (λ (later : List Access). bytes_before p later (get_or xs i first)) (take_rest xs (i + 1)) in
    (omega (arith, step, own, c.loop-i.invariant.0), omega (arith, c.bytes_before-bytes.ensures.small, c.loop-i.invariant.1))
