use Rattle.std.proofs.Common.{◌≡◌, ◌+◌, ◌-◌, ◌*◌, ◌≤◌, length, arith, refl, ◌∙◌, take, drop}
use Rattle.std.proofs.lemmas.Grind.{rows}
use Rattle.std.proofs.lemmas.Int.{to_z-of_z}
use Rattle.std.proofs.lemmas.Nat.{mul-add-lt, row_fits}
use Rattle.std.specs.Int.{int_min}
use Rattle.sj_base.specs.Array.{at}
use Rattle.sj_codelet.specs.MinPlus.{plus}
use Rattle.sj_minplus.proofs.Matrices.{rows_more, row_rest, row_done, length_slice, at_slice}
use Rattle.sj_minplus.proofs.ways.relax_rows_by.Goals as goal

pub overflow_mul-via : goal.overflow_mul-via
overflow_mul-via c = omega (arith, mul-add-lt (c.args.first + c.loop-i.i) c.args.n c.args.k (c.args.first + c.args.rows) (omega arith) (omega arith))

pub overflow_add-via-in-loop-i : goal.overflow_add-via-in-loop-i
overflow_add-via-in-loop-i c = omega (arith, mul-add-lt (c.args.first + c.loop-i.i) c.args.n c.args.k (c.args.first + c.args.rows) (omega arith) (omega arith))

pub bounds-d-first : goal.bounds-d-first
bounds-d-first c = omega (arith, mul-add-lt (c.args.first + c.loop-i.i) c.args.n c.args.k (c.args.first + c.args.rows) (omega arith) (omega arith))

pub overflow_mul-i : goal.overflow_mul-i
overflow_mul-i c = let w = length c.args.through.now in omega (arith, row_fits c.loop-i.i w c.args.rows w (omega arith) (omega arith))

pub overflow_mul-i-in-loop-i : goal.overflow_mul-i-in-loop-i
overflow_mul-i-in-loop-i c = let w = length c.args.through.now in omega (arith, row_fits c.loop-i.i w c.args.rows w (omega arith) (omega arith))

pub overflow_add-i : goal.overflow_add-i
overflow_add-i c = let w = length c.args.through.now in omega (arith, row_fits c.loop-i.i w c.args.rows w (omega arith) (omega arith))

pub slice_bounds-relax_either-start : goal.slice_bounds-relax_either-start
slice_bounds-relax_either-start c = let w = length c.args.through.now in omega (arith, row_fits c.loop-i.i w c.args.rows w (omega arith) (omega arith))

pub slice_bounds-relax_either-end : goal.slice_bounds-relax_either-end
slice_bounds-relax_either-end c = let w = length c.args.through.now in omega (arith, row_fits c.loop-i.i w c.args.rows w (omega arith) (omega arith))

pub loop-i-preserved : goal.loop-i-preserved
loop-i-preserved c =
    let n = length c.args.through.now in
    let i = c.loop-i.i in
    let fits : i * n + n ≤ length c.loop-i.a = grind (arith, rows) in
    let long : length (take (i * n + n - i * n) (drop (i * n) c.loop-i.a)) ≡ n = length_slice (i * n) (i * n + n) n c.loop-i.a (omega arith) fits in
    rows_more (λ i j. int_min (at c.args.a.now (i * length c.args.through.now + j)) (plus (at c.args.d.now ((c.args.first + i) * c.args.n + c.args.k)) (at c.args.through.now j))) n i (i * n) (i * n + n - i * n) c.args.a.now c.loop-i.a c.relax_either.new.row refl (omega arith) fits (c.relax_either.auto.row ∙ long) (λ j below. let read : at (take (i * n + n - i * n) (drop (i * n) c.loop-i.a)) j ≡ at c.args.a.now (i * n + j) = at_slice (i * n) (i * n + n - i * n) c.loop-i.a j (omega arith) ∙ row_rest _ _ _ _ _ c.loop-i.invariant j in grind (arith, to_z-of_z, c.relax_either.ensures j)) c.loop-i.invariant

pub returns : goal.returns
returns c = λ i j above inside. row_done _ _ _ _ _ c.loop-i.invariant i j (omega arith) inside
