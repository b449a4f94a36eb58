use Rattle.std.proofs.Common.{◌≡◌, ℕ, ◌+◌, length, rules, ap, ◌∙◌, arith}
use Rattle.std.proofs.lemmas.Int.{wraps}
use Rattle.sj_base.specs.Array.{at}
use Rattle.sj_codelet.proofs.Filling.{begun_none, begun_step, listing_from_begun}
use Rattle.sj_kernels.specs.Panels.{column_sum}
use Rattle.sj_kernels.proofs.Panels.{column_of}
use Rattle.sj_kernels.proofs.product.last_columns.Goals as goal

pub returns-then-c-eq1-clause-first : goal.returns-then-c-eq1-clause-first
returns-then-c-eq1-clause-first c =
    let a = c.args in
    let xs = a.c.now in
    let g = λ (q : ℕ). column_sum a.n a.a.now a.b.now (a.j + q) (length a.a.now) (at xs q) in
    let first : a.j ≡ a.j + 0 = omega arith in
    listing_from_begun 1 g xs _ (omega arith) (omega arith) (begun_step 0 g xs xs _ (begun_none g xs) (omega arith) (λ _.
    column_of a.n a.j (length a.a.now) a.a.now a.b.now (at xs 0) _ c.column.result c.column.ensures (search (rules, wraps))
    ∙ ap (λ (p : ℕ). column_sum a.n a.a.now a.b.now p (length a.a.now) (at xs 0)) first))

pub returns-then-c-eq1-clause-second : goal.returns-then-c-eq1-clause-second
returns-then-c-eq1-clause-second c =
    let a = c.args in
    let xs = a.d.now in
    let g = λ (q : ℕ). column_sum a.n a.e.now a.b.now (a.j + q) (length a.e.now) (at xs q) in
    let first : a.j ≡ a.j + 0 = omega arith in
    listing_from_begun 1 g xs _ (omega arith) (omega arith) (begun_step 0 g xs xs _ (begun_none g xs) (omega arith) (λ _.
    column_of a.n a.j (length a.e.now) a.e.now a.b.now (at xs 0) _ c.column-then-c-eq1.result c.column-then-c-eq1.ensures (search (rules, wraps))
    ∙ ap (λ (p : ℕ). column_sum a.n a.e.now a.b.now p (length a.e.now) (at xs 0)) first))

pub returns-else-c-eq1-clause-first : goal.returns-else-c-eq1-clause-first
returns-else-c-eq1-clause-first c =
    let xs = c.args.c.now in
    listing_from_begun 0 _ xs xs (omega arith) (omega arith) (begun_none _ xs)

pub returns-else-c-eq1-clause-second : goal.returns-else-c-eq1-clause-second
returns-else-c-eq1-clause-second c =
    let xs = c.args.d.now in
    listing_from_begun 0 _ xs xs (omega arith) (omega arith) (begun_none _ xs)
