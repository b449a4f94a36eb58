use Rattle.std.proofs.Common.{◌+◌, ◌*◌, length, w64, to_z, rules, refl, ◌∙◌, arith}
use Rattle.std.proofs.lemmas.Nat.{mul-add-lt}
use Rattle.sj_base.specs.Array.{at}
use Rattle.sj_kernels.proofs.Panels.{column_none, column_more, pair_is}
use Rattle.sj_kernels.proofs.product.two_columns.Goals as goal

pub loop-l-init : goal.loop-l-init
loop-l-init c =
    let a = c.args in
    record {
      c0 = column_none a.n a.j a.a.now a.b.now (at a.c.now 0) (search rules);
      c1 = column_none a.n (a.j + 1) a.a.now a.b.now (at a.c.now 1) (search rules);
      d0 = column_none a.n a.j a.e.now a.b.now (at a.d.now 0) (search rules);
      d1 = column_none a.n (a.j + 1) a.e.now a.b.now (at a.d.now 1) (search rules);
    }

pub overflow_mul-place : goal.overflow_mul-place
overflow_mul-place c = let a = c.args in omega (arith, mul-add-lt c.loop-l.l a.n (a.j + 1) (length a.a.now) (omega arith) (omega arith))

pub overflow_add-place : goal.overflow_add-place
overflow_add-place c = let a = c.args in omega (arith, mul-add-lt c.loop-l.l a.n (a.j + 1) (length a.a.now) (omega arith) (omega arith))

pub offset_bounds-b-place : goal.offset_bounds-b-place
offset_bounds-b-place c = let a = c.args in omega (arith, mul-add-lt c.loop-l.l a.n (a.j + 1) (length a.a.now) (omega arith) (omega arith))

pub bounds-b-place : goal.bounds-b-place
bounds-b-place c = let a = c.args in omega (arith, mul-add-lt c.loop-l.l a.n (a.j + 1) (length a.a.now) (omega arith) (omega arith))

pub overflow_add-place-in-loop-l : goal.overflow_add-place-in-loop-l
overflow_add-place-in-loop-l c = let a = c.args in omega (arith, mul-add-lt c.loop-l.l a.n (a.j + 1) (length a.a.now) (omega arith) (omega arith))

pub offset_bounds-b-place-in-loop-l : goal.offset_bounds-b-place-in-loop-l
offset_bounds-b-place-in-loop-l c = let a = c.args in omega (arith, mul-add-lt c.loop-l.l a.n (a.j + 1) (length a.a.now) (omega arith) (omega arith))

pub bounds-b-place-in-loop-l : goal.bounds-b-place-in-loop-l
bounds-b-place-in-loop-l c = let a = c.args in omega (arith, mul-add-lt c.loop-l.l a.n (a.j + 1) (length a.a.now) (omega arith) (omega arith))

pub offset_bounds-b-place-in-loop-l-2 : goal.offset_bounds-b-place-in-loop-l-2
offset_bounds-b-place-in-loop-l-2 c = let a = c.args in omega (arith, mul-add-lt c.loop-l.l a.n (a.j + 1) (length a.a.now) (omega arith) (omega arith))

pub bounds-b-place-in-loop-l-2 : goal.bounds-b-place-in-loop-l-2
bounds-b-place-in-loop-l-2 c = let a = c.args in omega (arith, mul-add-lt c.loop-l.l a.n (a.j + 1) (length a.a.now) (omega arith) (omega arith))

pub overflow_add-place-in-loop-l-2 : goal.overflow_add-place-in-loop-l-2
overflow_add-place-in-loop-l-2 c = let a = c.args in omega (arith, mul-add-lt c.loop-l.l a.n (a.j + 1) (length a.a.now) (omega arith) (omega arith))

pub offset_bounds-b-place-in-loop-l-3 : goal.offset_bounds-b-place-in-loop-l-3
offset_bounds-b-place-in-loop-l-3 c = let a = c.args in omega (arith, mul-add-lt c.loop-l.l a.n (a.j + 1) (length a.a.now) (omega arith) (omega arith))

pub bounds-b-place-in-loop-l-3 : goal.bounds-b-place-in-loop-l-3
bounds-b-place-in-loop-l-3 c = let a = c.args in omega (arith, mul-add-lt c.loop-l.l a.n (a.j + 1) (length a.a.now) (omega arith) (omega arith))

pub loop-l-preserved : goal.loop-l-preserved
loop-l-preserved c =
    let a = c.args in
    let l = c.loop-l.l in
    let place = l * a.n + a.j in
    record {
      c0 = column_more a.n a.j l place a.a.now a.b.now (at a.c.now 0) (to_z w64 c.loop-l.c0-bits) _ c.with_product-c0.ensures c.loop-l.invariant.c0 refl (search rules) (search rules);
      c1 = column_more a.n (a.j + 1) l (place + 1) a.a.now a.b.now (at a.c.now 1) (to_z w64 c.loop-l.c1-bits) _ c.with_product-c1.ensures c.loop-l.invariant.c1 (omega arith) (search rules) (search rules);
      d0 = column_more a.n a.j l place a.e.now a.b.now (at a.d.now 0) (to_z w64 c.loop-l.d0-bits) _ c.with_product-d0.ensures c.loop-l.invariant.d0 refl (search rules) (search rules);
      d1 = column_more a.n (a.j + 1) l (place + 1) a.e.now a.b.now (at a.d.now 1) (to_z w64 c.loop-l.d1-bits) _ c.with_product-d1.ensures c.loop-l.invariant.d1 (omega arith) (search rules) (search rules);
    }

pub returns : goal.returns
returns c =
    let a = c.args in
    let l = c.loop-l.l in
    let i = c.loop-l.invariant in
    record {
      first = c.copy_from_slice.ensures.after ∙ pair_is a.n a.j l a.a.now a.b.now a.c.now _ _ (omega arith) i.c0 i.c1;
      second = c.copy_from_slice-2.ensures.after ∙ pair_is a.n a.j l a.e.now a.b.now a.d.now _ _ (omega arith) i.d0 i.d1;
    }
