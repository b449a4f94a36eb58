use Rattle.std.proofs.Common.{ℕ, ◌+◌, ◌≤◌, arith}
use Rattle.std.proofs.lemmas.Bool.Decides.{nat_tests}
use Rattle.sj_base.specs.declared.tile.Dims.{Dims}
use Rattle.sj_base.specs.Array.{array}
use Rattle.sj_base.proofs.Pasting.{pasted_none, pasted_step}
use Rattle.sj_kernels.proofs.placement.paste.Goals as goal

pub loop-i-init : goal.loop-i-init
loop-i-init c =
    let w = c.args.window in
    pasted_none (array c.args.old_dims c.args.old.now) (w.old_row, w.old_col) (record { rows = w.rows; cols = w.cols }) (array c.args.new_dims c.args.new.now) (w.new_row, w.new_col) c.requires.new_whole

pub loop-i-preserved : goal.loop-i-preserved
loop-i-preserved c =
    let w = c.args.window in
    let d : Dims = record { rows = w.rows; cols = w.cols } in
    let old = array c.args.old_dims c.args.old.now in
    let new = array c.args.new_dims c.args.new.now in
    let from : ℕ × ℕ = (w.old_row, w.old_col) in
    let to : ℕ × ℕ = (w.new_row, w.new_col) in
    let fits : w.new_col + w.cols ≤ c.args.new_dims.cols = grind (arith, nat_tests) in
    pasted_step old from d new to c.loop-i.i _ _ c.place-to.result c.place-start.result c.loop-i.new c.copy.new.y
    (omega arith) fits c.place-to.ensures.place c.place-to.ensures.within c.place-start.ensures.place (omega arith) (omega arith) (omega arith) c.copy.ensures c.loop-i.invariant
