use Rattle.std.proofs.Common.{◌≡◌, ℕ, ◌+◌, ◌*◌, length, arith, refl}
use Rattle.std.specs.Int.{int_min}
use Rattle.std.proofs.lemmas.Int.{to_z-of_z}
use Rattle.std.proofs.lemmas.Nat.{row_fits}
use Rattle.sj_base.specs.Array.{at}
use Rattle.sj_codelet.specs.MinPlus.{plus}
use Rattle.sj_minplus.specs.Short.{raised}
use Rattle.sj_minplus.proofs.Matrices.{at_slice}
use Rattle.sj_minplus.proofs.Products.{least_step, least_two_steps}
use Rattle.sj_minplus.proofs.product.relax_by_pairs.Goals as goal

pub overflow_mul-first : goal.overflow_mul-first
overflow_mul-first c = let w = length c.args.c.now in omega (arith, row_fits c.loop-l.l w (length c.args.a.now) w (omega arith) (omega arith))

pub overflow_mul-first-in-loop-l : goal.overflow_mul-first-in-loop-l
overflow_mul-first-in-loop-l c = let w = length c.args.c.now in omega (arith, row_fits c.loop-l.l w (length c.args.a.now) w (omega arith) (omega arith))

pub overflow_add-first : goal.overflow_add-first
overflow_add-first c = let w = length c.args.c.now in omega (arith, row_fits c.loop-l.l w (length c.args.a.now) w (omega arith) (omega arith))

pub slice_bounds-first-start : goal.slice_bounds-first-start
slice_bounds-first-start c = let w = length c.args.c.now in omega (arith, row_fits c.loop-l.l w (length c.args.a.now) w (omega arith) (omega arith))

pub slice_bounds-first-end : goal.slice_bounds-first-end
slice_bounds-first-end c = let w = length c.args.c.now in omega (arith, row_fits c.loop-l.l w (length c.args.a.now) w (omega arith) (omega arith))

pub overflow_mul-second : goal.overflow_mul-second
overflow_mul-second c = let w = length c.args.c.now in omega (arith, row_fits (c.loop-l.l + 1) w (length c.args.a.now) w (omega arith) (omega arith))

pub overflow_mul-second-in-loop-l : goal.overflow_mul-second-in-loop-l
overflow_mul-second-in-loop-l c = let w = length c.args.c.now in omega (arith, row_fits (c.loop-l.l + 1) w (length c.args.a.now) w (omega arith) (omega arith))

pub overflow_add-second : goal.overflow_add-second
overflow_add-second c = let w = length c.args.c.now in omega (arith, row_fits (c.loop-l.l + 1) w (length c.args.a.now) w (omega arith) (omega arith))

pub slice_bounds-second-start : goal.slice_bounds-second-start
slice_bounds-second-start c = let w = length c.args.c.now in omega (arith, row_fits (c.loop-l.l + 1) w (length c.args.a.now) w (omega arith) (omega arith))

pub slice_bounds-second-end : goal.slice_bounds-second-end
slice_bounds-second-end c = let w = length c.args.c.now in omega (arith, row_fits (c.loop-l.l + 1) w (length c.args.a.now) w (omega arith) (omega arith))

pub loop-l-preserved : goal.loop-l-preserved
loop-l-preserved c = record {
  within = omega arith;
  value = λ j below.
      let w = length c.args.c.now in
      let sum = λ (q : ℕ). plus (at c.args.a.now q) (at c.args.b.now (q * w + j)) in
      let one : sum c.loop-l.l ≡ sum c.loop-l.l = refl in
      let e : raised (at c.relax_low_twice.new.row j) ≡ int_min (int_min (raised (at c.loop-l.c j)) (sum c.loop-l.l)) (sum (c.loop-l.l + 1)) = grind (arith, to_z-of_z, at_slice, c.relax_low_twice.ensures.value j) in
      least_two_steps sum c.loop-l.l (raised (at c.args.c.now j)) (raised (at c.loop-l.c j)) (sum c.loop-l.l) (sum (c.loop-l.l + 1)) (raised (at c.relax_low_twice.new.row j)) (c.loop-l.invariant.value j below) e refl refl;
  low = c.relax_low_twice.ensures.low;
}

pub overflow_mul-l : goal.overflow_mul-l
overflow_mul-l c = let w = length c.args.c.now in omega (arith, row_fits c.loop-l.l w (length c.args.a.now) w (omega arith) (omega arith))

pub overflow_mul-l-then-l-a : goal.overflow_mul-l-then-l-a
overflow_mul-l-then-l-a c = let w = length c.args.c.now in omega (arith, row_fits c.loop-l.l w (length c.args.a.now) w (omega arith) (omega arith))

pub overflow_add-l-then-l-a : goal.overflow_add-l-then-l-a
overflow_add-l-then-l-a c = let w = length c.args.c.now in omega (arith, row_fits c.loop-l.l w (length c.args.a.now) w (omega arith) (omega arith))

pub slice_bounds-relax_low-start : goal.slice_bounds-relax_low-start
slice_bounds-relax_low-start c = let w = length c.args.c.now in omega (arith, row_fits c.loop-l.l w (length c.args.a.now) w (omega arith) (omega arith))

pub slice_bounds-relax_low-end : goal.slice_bounds-relax_low-end
slice_bounds-relax_low-end c = let w = length c.args.c.now in omega (arith, row_fits c.loop-l.l w (length c.args.a.now) w (omega arith) (omega arith))

pub returns-then-l-a-clause-value : goal.returns-then-l-a-clause-value
returns-then-l-a-clause-value c = λ j below.
    let w = length c.args.c.now in
    let sum = λ (q : ℕ). plus (at c.args.a.now q) (at c.args.b.now (q * w + j)) in
    let all : c.loop-l.l + 1 ≡ length c.args.a.now = omega arith in
    let e : raised (at c.relax_low.new.row j) ≡ int_min (raised (at c.loop-l.c j)) (sum c.loop-l.l) = grind (arith, to_z-of_z, at_slice, c.relax_low.ensures.value j) in
    rw (← all) (least_step sum c.loop-l.l (raised (at c.args.c.now j)) (raised (at c.loop-l.c j)) (sum c.loop-l.l) (raised (at c.relax_low.new.row j)) (c.loop-l.invariant.value j below) e refl)
