use Rattle.std.proofs.Common.{◌≡◌, ◌≤◌, ℕ, ◌+◌, ◌*◌, refl, ap, arith}
use Rattle.std.proofs.Math.Nat.{mul-le-mul_left}
use Rattle.sj_codelet.proofs.Rows.{begun_no_row, begun_row}
use Rattle.sj_codelet.proofs.Filling.{listing_from_begun}
use Rattle.sj_kernels.specs.Panels.{panel_element}
use Rattle.sj_kernels.proofs.Panels.{part_row}
use Rattle.sj_kernels.proofs.product.pack.Goals as goal

pub loop-l-init : goal.loop-l-init
loop-l-init c = begun_no_row c.args.columns.len _ c.args.tile.now

pub loop-l-preserved : goal.loop-l-preserved
loop-l-preserved c =
    let a = c.args in
    let l = c.loop-l.l in
    let below : l + 1 ≤ a.rows = omega arith in
    begun_row l a.columns.len _ (panel_element a.n a.columns a.matrix.now) a.tile.now c.loop-l.tile c.copy_from_slice.new.self (omega arith) c.loop-l.invariant
    (part_row a.n l (l * a.n + a.columns.first) (l * a.n + a.columns.first + a.columns.len) a.columns a.matrix.now c.copy_from_slice.new.self c.copy_from_slice.ensures.after refl refl (omega (arith, mul-le-mul_left a.n below)))

pub returns : goal.returns
returns c =
    let a = c.args in
    let all : c.loop-l.l ≡ a.rows = omega arith in
    let same : c.loop-l.l * a.columns.len ≡ a.rows * a.columns.len = ap (λ (q : ℕ). q * a.columns.len) all in
    listing_from_begun (c.loop-l.l * a.columns.len) (panel_element a.n a.columns a.matrix.now) a.tile.now c.loop-l.tile (omega arith) (omega arith) c.loop-l.invariant
