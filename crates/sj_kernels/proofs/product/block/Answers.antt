use Rattle.std.proofs.Common.{◌≡◌, ◌+◌, ◌*◌, ◌-◌, length, w64, rules, refl, ◌∙◌, arith}
use Rattle.std.proofs.lemmas.Int.{to_z-of_z}
use Rattle.std.proofs.lemmas.Nat.{mul-add-lt}
use Rattle.sj_base.specs.Array.{at}
use Rattle.sj_kernels.proofs.Panels.{column_none, sums_more, sums_of, block_is}
use Rattle.sj_kernels.proofs.product.block.Goals as goal
use Rattle.sj_kernels.proofs.product.block.Goals.{then-a-eq1, else-a-eq1}

pub loop-h-init : goal.loop-h-init
loop-h-init c =
    let a = c.args in
    record {
      upper = record {
        left = column_none a.n a.j a.a.now a.b.now (at a.c.now 0) (search rules);
        middle = column_none a.n (a.j + 1) a.a.now a.b.now (at a.c.now 1) (search rules);
        right = column_none a.n (a.j + 2) a.a.now a.b.now (at a.c.now 2) (search rules);
      };
      lower = record {
        left = column_none a.n a.j a.e.now a.b.now (at a.d.now 0) (search rules);
        middle = column_none a.n (a.j + 1) a.e.now a.b.now (at a.d.now 1) (search rules);
        right = column_none a.n (a.j + 2) a.e.now a.b.now (at a.d.now 2) (search rules);
      };
    }

pub with_term-upper-requires : goal.with_term-upper-requires
with_term-upper-requires c =
    let a = c.args in
    record { within = omega (arith, mul-add-lt (c.loop-h.h * 2) a.n (a.j + 2) (length a.a.now) (omega arith) (omega arith)) }

pub with_term-lower-requires : goal.with_term-lower-requires
with_term-lower-requires c =
    let a = c.args in
    record { within = omega (arith, mul-add-lt (c.loop-h.h * 2) a.n (a.j + 2) (length a.a.now) (omega arith) (omega arith)) }

pub with_term-upper-requires-in-loop-h : goal.with_term-upper-requires-in-loop-h
with_term-upper-requires-in-loop-h c =
    let a = c.args in
    record { within = omega (arith, mul-add-lt (c.loop-h.h * 2 + 1) a.n (a.j + 2) (length a.a.now) (omega arith) (omega arith)) }

pub with_term-lower-requires-in-loop-h : goal.with_term-lower-requires-in-loop-h
with_term-lower-requires-in-loop-h c =
    let a = c.args in
    record { within = omega (arith, mul-add-lt (c.loop-h.h * 2 + 1) a.n (a.j + 2) (length a.a.now) (omega arith) (omega arith)) }

pub overflow_mul-place : goal.overflow_mul-place
overflow_mul-place c = let a = c.args in omega (arith, mul-add-lt (c.loop-h.h * 2) a.n (a.j + 2) (length a.a.now) (omega arith) (omega arith))

pub overflow_add-place : goal.overflow_add-place
overflow_add-place c = let a = c.args in omega (arith, mul-add-lt (c.loop-h.h * 2) a.n (a.j + 2) (length a.a.now) (omega arith) (omega arith))

pub overflow_add-place-in-loop-h : goal.overflow_add-place-in-loop-h
overflow_add-place-in-loop-h c = let a = c.args in omega (arith, mul-add-lt (c.loop-h.h * 2 + 1) a.n (a.j + 2) (length a.a.now) (omega arith) (omega arith))

pub overflow_add-place-in-loop-h-2 : goal.overflow_add-place-in-loop-h-2
overflow_add-place-in-loop-h-2 c = let a = c.args in omega (arith, mul-add-lt (c.loop-h.h * 2 + 1) a.n (a.j + 2) (length a.a.now) (omega arith) (omega arith))

pub overflow_mul-l-then-a-eq1 : goal.overflow_mul-l-then-a-eq1
overflow_mul-l-then-a-eq1 c = let a = c.args in omega (arith, mul-add-lt (length a.a.now - 1) a.n (a.j + 2) (length a.a.now) (omega arith) (omega arith))

pub overflow_add-l-then-a-eq1 : goal.overflow_add-l-then-a-eq1
overflow_add-l-then-a-eq1 c = let a = c.args in omega (arith, mul-add-lt (length a.a.now - 1) a.n (a.j + 2) (length a.a.now) (omega arith) (omega arith))

pub overflow_mul-l-then-a-eq1-2 : goal.overflow_mul-l-then-a-eq1-2
overflow_mul-l-then-a-eq1-2 c = let a = c.args in omega (arith, mul-add-lt (length a.a.now - 1) a.n (a.j + 2) (length a.a.now) (omega arith) (omega arith))

pub overflow_add-l-then-a-eq1-2 : goal.overflow_add-l-then-a-eq1-2
overflow_add-l-then-a-eq1-2 c = let a = c.args in omega (arith, mul-add-lt (length a.a.now - 1) a.n (a.j + 2) (length a.a.now) (omega arith) (omega arith))

pub with_term-upper-requires-then-a-eq1 : goal.with_term-upper-requires-then-a-eq1
with_term-upper-requires-then-a-eq1 c =
    let a = c.args in
    record { within = omega (arith, mul-add-lt (length a.a.now - 1) a.n (a.j + 2) (length a.a.now) (omega arith) (omega arith)) }

pub with_term-lower-requires-then-a-eq1 : goal.with_term-lower-requires-then-a-eq1
with_term-lower-requires-then-a-eq1 c =
    let a = c.args in
    record { within = omega (arith, mul-add-lt (length a.a.now - 1) a.n (a.j + 2) (length a.a.now) (omega arith) (omega arith)) }

pub loop-h-preserved : goal.loop-h-preserved
loop-h-preserved c =
    let a = c.args in
    let l = c.loop-h.h * 2 in
    let place = l * a.n + a.j in
    let next : place + a.n ≡ (l + 1) * a.n + a.j = omega arith in
    let two : l + 1 + 1 ≡ (c.loop-h.h + 1) * 2 = omega arith in
    let upper = sums_more a.n a.j l place a.a.now a.b.now a.c.now c.loop-h.upper c.with_term-upper.result _ c.with_term-upper.ensures (to_z-of_z w64 (at a.a.now l) (search rules)) refl c.loop-h.invariant.upper in
    let lower = sums_more a.n a.j l place a.e.now a.b.now a.d.now c.loop-h.lower c.with_term-lower.result _ c.with_term-lower.ensures (to_z-of_z w64 (at a.e.now l) (search rules)) refl c.loop-h.invariant.lower in
    record {
      upper = sums_of a.n a.j (l + 1 + 1) _ a.a.now a.b.now a.c.now _ _ refl two
          (sums_more a.n a.j (l + 1) (place + a.n) a.a.now a.b.now a.c.now c.with_term-upper.result c.with_term-upper-in-loop-h.result _ c.with_term-upper-in-loop-h.ensures (to_z-of_z w64 (at a.a.now (l + 1)) (search rules)) next upper);
      lower = sums_of a.n a.j (l + 1 + 1) _ a.e.now a.b.now a.d.now _ _ refl two
          (sums_more a.n a.j (l + 1) (place + a.n) a.e.now a.b.now a.d.now c.with_term-lower.result c.with_term-lower-in-loop-h.result _ c.with_term-lower-in-loop-h.ensures (to_z-of_z w64 (at a.e.now (l + 1)) (search rules)) next lower);
    }

pub returns-clause-first : goal.returns-clause-first
returns-clause-first c =
    let a = c.args in
    let k = length a.a.now in
    c.copy_from_slice.ensures.after ∙ block_is a.n a.j a.a.now a.b.now a.c.now c.if-a-eq1.upper (elim c.if-a-eq1.branch [
      | then-a-eq1 w ↦ (
          let l = k - 1 in
          let before : c.loop-h.h * 2 ≡ l = omega arith in
          let after : l + 1 ≡ k = omega arith in
          let old = sums_of a.n a.j (c.loop-h.h * 2) l a.a.now a.b.now a.c.now c.loop-h.upper c.loop-h.upper refl before c.loop-h.invariant.upper in
          sums_of a.n a.j (l + 1) k a.a.now a.b.now a.c.now _ _ w.upper-is after
          (sums_more a.n a.j l (l * a.n + a.j) a.a.now a.b.now a.c.now c.loop-h.upper w.with_term-upper-then-a-eq1.result _ w.with_term-upper-then-a-eq1.ensures (to_z-of_z w64 (at a.a.now l) (search rules)) refl old))
      | else-a-eq1 w ↦ sums_of a.n a.j (c.loop-h.h * 2) k a.a.now a.b.now a.c.now _ _ w.upper-is (omega arith) c.loop-h.invariant.upper
    ])

pub returns-clause-second : goal.returns-clause-second
returns-clause-second c =
    let a = c.args in
    let k = length a.e.now in
    c.copy_from_slice-2.ensures.after ∙ block_is a.n a.j a.e.now a.b.now a.d.now c.if-a-eq1.lower (elim c.if-a-eq1.branch [
      | then-a-eq1 w ↦ (
          let l = length a.a.now - 1 in
          let before : c.loop-h.h * 2 ≡ l = omega arith in
          let after : l + 1 ≡ k = omega arith in
          let old = sums_of a.n a.j (c.loop-h.h * 2) l a.e.now a.b.now a.d.now c.loop-h.lower c.loop-h.lower refl before c.loop-h.invariant.lower in
          sums_of a.n a.j (l + 1) k a.e.now a.b.now a.d.now _ _ w.lower-is after
          (sums_more a.n a.j l (l * a.n + a.j) a.e.now a.b.now a.d.now c.loop-h.lower w.with_term-lower-then-a-eq1.result _ w.with_term-lower-then-a-eq1.ensures (to_z-of_z w64 (at a.e.now l) (search rules)) refl old))
      | else-a-eq1 w ↦ sums_of a.n a.j (c.loop-h.h * 2) k a.e.now a.b.now a.d.now _ _ w.lower-is (omega arith) c.loop-h.invariant.lower
    ])
