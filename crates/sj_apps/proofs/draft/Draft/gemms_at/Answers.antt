use Rattle.std.proofs.Common.{arith}
use Rattle.sj_apps.specs.Generated.{gemm_act}
use Rattle.sj_apps.proofs.Telling.{tells-mapped}
use Rattle.sj_apps.proofs.draft.Draft.gemms_at.Goals as goal

pub loop-k-preserved : goal.loop-k-preserved
loop-k-preserved c =
    let h = c.in_ok-gemm.ensures.tells in
    let long = h.long in
    (tells-mapped _ _ _ (gemm_act c.args.i c.args.j) c.loop-k.k c.loop-k.invariant.0 h, omega arith)
