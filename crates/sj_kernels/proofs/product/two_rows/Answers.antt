use Rattle.std.proofs.Common.{◌≡◌, ◌+◌, ◌*◌, ◌-◌, ◌/◌, ℕ, ℤ, length, refl, ap, ◌∙◌, arith}
use Rattle.std.specs.List.{between}
use Rattle.std.proofs.lemmas.List.Edits.{length-between}
use Rattle.sj_base.specs.Array.{at}
use Rattle.sj_codelet.specs.Listing.{listing}
use Rattle.sj_codelet.proofs.Filling.{begun, same_listing}
use Rattle.sj_codelet.proofs.Rows.{begun_no_row, begun_row, at-row_begun}
use Rattle.sj_kernels.specs.Panels.{column_sum}
use Rattle.sj_kernels.specs.Rows.{row_product}
use Rattle.sj_kernels.proofs.Panels.{last_part, at-last_part}
use Rattle.sj_kernels.proofs.product.two_rows.Goals as goal

pub loop-q-init : goal.loop-q-init
loop-q-init c = record { first = begun_no_row 3 _ c.args.c.now; second = begun_no_row 3 _ c.args.d.now }

pub loop-q-preserved : goal.loop-q-preserved
loop-q-preserved c =
    let a = c.args in
    let n = length a.c.now in
    let q = c.loop-q.q in
    let i = c.loop-q.invariant in
    let f = row_product n a.a.now a.b.now a.c.now in
    let g = row_product n a.e.now a.b.now a.d.now in
    record {
      first = begun_row q 3 _ f a.c.now c.loop-q.c c.block.new.c (omega arith) i.first (c.block.ensures.first ∙ same_listing 3 _ (λ p. f (q * 3 + p)) (λ p h. ap (λ (z : ℤ). column_sum n a.a.now a.b.now (q * 3 + p) (length a.a.now) z) (at-row_begun q 3 f a.c.now c.loop-q.c p i.first h)));
      second = begun_row q 3 _ g a.d.now c.loop-q.d c.block.new.d (omega arith) i.second (c.block.ensures.second ∙ same_listing 3 _ (λ p. g (q * 3 + p)) (λ p h. ap (λ (z : ℤ). column_sum n a.e.now a.b.now (q * 3 + p) (length a.e.now) z) (at-row_begun q 3 g a.d.now c.loop-q.d p i.second h)));
    }

pub returns-clause-first : goal.returns-clause-first
returns-clause-first c =
    let a = c.args in
    let n = length a.c.now in
    let j = n / 3 * 3 in
    let ys = a.c.now in
    let zs = c.loop-q.c in
    let f = row_product n a.a.now a.b.now ys in
    let here : c.loop-q.q * 3 ≡ j = omega arith in
    let done : zs ≡ begun j f ys = c.loop-q.invariant.first ∙ ap (λ (k : ℕ). begun k f ys) here in
    let long : length (between j n zs) ≡ n - j = length-between zs j n (omega arith) in
    let row = c.last_columns.ensures.first ∙ ap (λ (k : ℕ). listing k (λ p. column_sum n a.a.now a.b.now (j + p) (length a.a.now) (at (between j n zs) p))) long
    ∙ same_listing (n - j) _ (λ p. f (j + p)) (λ p h. ap (λ (z : ℤ). column_sum n a.a.now a.b.now (j + p) (length a.a.now) z) (at-last_part j n f ys zs p done (omega arith) (omega arith))) in
    last_part j (n - j) (n - j) f ys zs c.last_columns.new.c refl (omega arith) done row

pub returns-clause-second : goal.returns-clause-second
returns-clause-second c =
    let a = c.args in
    let n = length a.c.now in
    let j = n / 3 * 3 in
    let ys = a.d.now in
    let zs = c.loop-q.d in
    let f = row_product n a.e.now a.b.now ys in
    let here : c.loop-q.q * 3 ≡ j = omega arith in
    let done : zs ≡ begun j f ys = c.loop-q.invariant.second ∙ ap (λ (k : ℕ). begun k f ys) here in
    let long : length (between j n zs) ≡ n - j = length-between zs j n (omega arith) in
    let row = c.last_columns.ensures.second ∙ ap (λ (k : ℕ). listing k (λ p. column_sum n a.e.now a.b.now (j + p) (length a.e.now) (at (between j n zs) p))) long
    ∙ same_listing (n - j) _ (λ p. f (j + p)) (λ p h. ap (λ (z : ℤ). column_sum n a.e.now a.b.now (j + p) (length a.e.now) z) (at-last_part j n f ys zs p done (omega arith) (omega arith))) in
    last_part j (n - j) (n - j) f ys zs c.last_columns.new.d refl (omega arith) done row
    ∙ ap (λ (k : ℕ). listing (length ys) (row_product k a.e.now a.b.now ys)) (let wide : n ≡ length ys = omega arith in wide)
