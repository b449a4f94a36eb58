use Rattle.std.proofs.Common.{◌≡◌, ℕ, ◌+◌, ◌*◌, ◌-◌, ◌<◌, ◌≤◌, ℤ, pos, List, ◌++◌, length, drop, refl, sym, ap, ◌∙◌, arith}
use Rattle.std.specs.List.{between}
use Rattle.std.proofs.lemmas.List.{get_or-drop}
use Rattle.std.proofs.Math.Nat.{mul-le-mul_left}
use Rattle.sj_base.specs.Array.{at}
use Rattle.sj_codelet.specs.Listing.{listing}
use Rattle.sj_codelet.proofs.Filling.{begun, same_listing, listing_from_begun}
use Rattle.sj_codelet.proofs.Rows.{begun_no_row, begun_row, at-row_begun, listing-add, length-row}
use Rattle.sj_kernels.specs.Panels.{with_terms_within, row_within}
use Rattle.sj_kernels.proofs.Panels.{within_is, row_part}
use Rattle.sj_kernels.proofs.product.add_tile.Goals as goal

pub slice_bounds-add_to_rows-end : goal.slice_bounds-add_to_rows-end
slice_bounds-add_to_rows-end c =
    let two : c.loop-pair.pair * 2 + 2 ≤ c.args.sides.m = omega arith in
    omega (arith, mul-le-mul_left c.args.sides.k two)

pub slice_bounds-add_to_rows-end-in-loop-pair : goal.slice_bounds-add_to_rows-end-in-loop-pair
slice_bounds-add_to_rows-end-in-loop-pair c =
    let two : c.loop-pair.pair * 2 + 2 ≤ c.args.sides.m = omega arith in
    omega (arith, mul-le-mul_left c.args.sides.k two)

pub slice_bounds-both-end : goal.slice_bounds-both-end
slice_bounds-both-end c =
    let two : c.loop-pair.pair * 2 + 2 ≤ c.args.sides.m = omega arith in
    omega (arith, mul-le-mul_left c.args.sides.n two)

pub loop-pair-init : goal.loop-pair-init
loop-pair-init c = begun_no_row (2 * c.args.sides.n) _ c.args.c.now

pub loop-pair-preserved : goal.loop-pair-preserved
loop-pair-preserved c =
    let a = c.args in
    let n = a.sides.n in
    let k = a.sides.k in
    let p = c.loop-pair.pair in
    let F = with_terms_within a.columns a.sides a.rows a.a.now a.tile.now a.c.now in
    let s = p * (2 * n) in
    let both = between s (s + 2 * n) c.loop-pair.c in
    let u = p * (2 * k) + a.rows.first in
    let two : p * 2 + 2 ≤ a.sides.m = omega arith in
    let fits : u + k + a.rows.len ≤ length a.a.now = omega (arith, mul-le-mul_left k two) in
    let read = λ (j : ℕ) (h : j < 2 * n). at-row_begun p (2 * n) F a.c.now c.loop-pair.c j c.loop-pair.invariant h in
    let upper : listing n (row_within a.columns (between u (u + a.rows.len) a.a.now) a.tile.now both) ≡ listing n (λ j. F (s + j)) =
    same_listing n _ _ (λ j h.
    let same : p * 2 * n + j ≡ s + j = omega arith in
    within_is a.columns a.rows a.sides (p * 2) j u (u + a.rows.len) a.a.now a.tile.now a.c.now both _ h (read j (omega arith) ∙ ap (λ (q : ℕ). at a.c.now q) (sym same)) (omega arith) refl (omega arith) refl ∙ ap F same) in
    let lower : listing n (row_within a.columns (between (u + k) (u + k + a.rows.len) a.a.now) a.tile.now (drop n both)) ≡ listing n (λ j. F (s + (n + j))) =
    same_listing n _ _ (λ j h.
    let same : (p * 2 + 1) * n + j ≡ s + (n + j) = omega arith in
    within_is a.columns a.rows a.sides (p * 2 + 1) j (u + k) (u + k + a.rows.len) a.a.now a.tile.now a.c.now (drop n both) _ h (get_or-drop n both j (pos 0) ∙ read (n + j) (omega arith) ∙ ap (λ (q : ℕ). at a.c.now q) (sym same)) (omega arith) refl fits refl ∙ ap F same) in
    let sum : n + n ≡ 2 * n = omega arith in
    let new : c.add_to_rows.new.c ≡ listing (2 * n) (λ j. F (s + j)) =
    c.add_to_rows.ensures ∙ ap (λ (xs : List ℤ). xs ++ listing n (row_within a.columns (between (u + k) (u + k + a.rows.len) a.a.now) a.tile.now (drop n both))) upper
    ∙ ap (λ (xs : List ℤ). listing n (λ j. F (s + j)) ++ xs) lower
    ∙ sym (listing-add n n (λ j. F (s + j))) ∙ ap (λ (q : ℕ). listing q (λ j. F (s + j))) sum in
    begun_row p (2 * n) _ F a.c.now c.loop-pair.c c.add_to_rows.new.c (omega arith) c.loop-pair.invariant new

pub returns-then-sides-eq1 : goal.returns-then-sides-eq1
returns-then-sides-eq1 c =
    let a = c.args in
    let n = a.sides.n in
    let i = a.sides.m - 1 in
    let F = with_terms_within a.columns a.sides a.rows a.a.now a.tile.now a.c.now in
    let last : c.loop-pair.pair * 2 ≡ i = omega arith in
    let at_last : c.loop-pair.pair * (2 * n) ≡ i * n = omega (arith, ap (λ (q : ℕ). q * n) last) in
    let inv = c.loop-pair.invariant ∙ ap (λ (q : ℕ). begun q F a.c.now) at_last in
    let one : i + 1 ≡ a.sides.m = omega arith in
    let whole : (i + 1) * n ≡ a.sides.m * n = ap (λ (q : ℕ). q * n) one in
    let deep : (i + 1) * a.sides.k ≡ a.sides.m * a.sides.k = ap (λ (q : ℕ). q * a.sides.k) one in
    let s = i * a.sides.k + a.rows.first in
    let row = between (i * n) (i * n + n) c.loop-pair.c in
    let to = a.columns.first + a.columns.len in
    let new = row_part n to (to - a.columns.first) a.columns (between s (s + a.rows.len) a.a.now) a.tile.now row (between a.columns.first to row) c.one_row.new.c (length-row i n c.loop-pair.c (omega arith)) c.requires.columns_within refl (omega arith) refl c.one_row.ensures in
    let made = new ∙ same_listing n _ (λ j. F (i * n + j)) (λ j h. within_is a.columns a.rows a.sides i j s (s + a.rows.len) a.a.now a.tile.now a.c.now row _ h (at-row_begun i n F a.c.now c.loop-pair.c j inv h) refl refl (omega arith) refl) in
    listing_from_begun ((i + 1) * n) F a.c.now _ (omega arith) (omega arith) (begun_row i n _ F a.c.now c.loop-pair.c _ (omega arith) inv made)

pub returns-else-sides-eq1 : goal.returns-else-sides-eq1
returns-else-sides-eq1 c =
    let a = c.args in
    let n = a.sides.n in
    let even : c.loop-pair.pair * 2 ≡ a.sides.m = omega arith in
    let whole : c.loop-pair.pair * (2 * n) ≡ a.sides.m * n = omega (arith, ap (λ (q : ℕ). q * n) even) in
    listing_from_begun (c.loop-pair.pair * (2 * n)) (with_terms_within a.columns a.sides a.rows a.a.now a.tile.now a.c.now) a.c.now c.loop-pair.c (omega arith) (omega arith) c.loop-pair.invariant
