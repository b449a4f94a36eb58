use Rattle.std.proofs.Common.{ℕ, ℤ, ◌+◌, ◌*◌, pos, ◌+ℤ◌, ◌*ℤ◌, length, to_z, of_z, w64, ap, ◌∙◌, arith}
use Rattle.std.specs.List.{between}
use Rattle.std.proofs.lemmas.Int.{to_z-of_z}
use Rattle.std.proofs.lemmas.Nat.{rows}
use Rattle.sj_base.specs.Array.{array}
use Rattle.sj_codelet.specs.Ring.{wrap}
use Rattle.sj_codelet.specs.Equations.{loadfill}
use Rattle.sj_codelet.proofs.Filling.{each_listing}
use Rattle.sj_codelet.proofs.Rows.{begun_no_row, begun_row, row_from_listing, length-row, grid_from_begun}
use Rattle.sj_kernels.proofs.Places.{along_row, passed_start}
use Rattle.sj_kernels.proofs.placement.loadfill.Goals as goal

pub loop-i-init : goal.loop-i-init
loop-i-init c = begun_no_row c.args.dims.cols _ c.args.x.now

pub loop-i-preserved : goal.loop-i-preserved
loop-i-preserved c =
    let i = c.loop-i.i in
    let n = c.args.dims.cols in
    let a = to_z w64 (of_z w64 c.args.a) in
    let b = to_z w64 (of_z w64 c.args.b) in
    let r0 = to_z w64 (of_z w64 c.args.r0) in
    let c0 = to_z w64 (of_z w64 c.args.c0) in
    let cols = to_z w64 (of_z w64 c.args.cols) in
    let f = λ (r : ℕ) (j : ℕ). wrap (a +ℤ (b *ℤ (((r0 +ℤ pos r) *ℤ cols) +ℤ (c0 +ℤ pos j)))) in
    let s = to_z w64 (of_z w64 c.row_start-start.result) in
    let begin = passed_start _ _ c.row_start-start.ensures in
    let g = λ (j : ℕ). wrap (s +ℤ (b *ℤ pos j)) in
    let taken = between (i * n) (i * n + n) c.loop-i.x in
    begun_row i n _ _ c.args.x.now c.loop-i.x c.fill.new.x (omega arith) c.loop-i.invariant
    (row_from_listing i n (length taken) f g c.fill.new.x (length-row i n c.loop-i.x (grind (arith, rows))) (c.fill.ensures ∙ each_listing taken g) (λ j l. along_row a b (r0 +ℤ pos i) c0 cols s j begin))

pub returns : goal.returns
returns c =
    let a = c.args in
    let r = c.ranges in
    let x = array a.dims a.x.now in
    let f = λ (q : ℕ) (j : ℕ). wrap (to_z w64 (of_z w64 a.a) +ℤ (to_z w64 (of_z w64 a.b) *ℤ (((to_z w64 (of_z w64 a.r0) +ℤ pos q) *ℤ to_z w64 (of_z w64 a.cols)) +ℤ (to_z w64 (of_z w64 a.c0) +ℤ pos j)))) in
    grid_from_begun a.dims.rows a.dims.cols c.loop-i.i f a.x.now c.loop-i.x c.requires c.loop-i-test.false c.loop-i.auto.i-end c.loop-i.invariant
    ∙ ap (λ (z : ℤ). (loadfill z (to_z w64 (of_z w64 a.b)) (to_z w64 (of_z w64 a.r0)) (to_z w64 (of_z w64 a.c0)) (to_z w64 (of_z w64 a.cols)) x).elements) (to_z-of_z w64 a.a r.a)
    ∙ ap (λ (z : ℤ). (loadfill a.a z (to_z w64 (of_z w64 a.r0)) (to_z w64 (of_z w64 a.c0)) (to_z w64 (of_z w64 a.cols)) x).elements) (to_z-of_z w64 a.b r.b)
    ∙ ap (λ (z : ℤ). (loadfill a.a a.b z (to_z w64 (of_z w64 a.c0)) (to_z w64 (of_z w64 a.cols)) x).elements) (to_z-of_z w64 a.r0 r.r0)
    ∙ ap (λ (z : ℤ). (loadfill a.a a.b a.r0 z (to_z w64 (of_z w64 a.cols)) x).elements) (to_z-of_z w64 a.c0 r.c0)
    ∙ ap (λ (z : ℤ). (loadfill a.a a.b a.r0 a.c0 z x).elements) (to_z-of_z w64 a.cols r.cols)
