use Rattle.std.proofs.Common.{◌≡◌, ℕ, ◌+◌, ◌*◌, ◌/◌, ◌%◌, ◌≤◌, ℤ, pos, ◌+ℤ◌, ◌*ℤ◌, w64, List, length, min, refl, sym, ap, ◌∙◌, arith}
use Rattle.std.specs.List.{between}
use Rattle.std.proofs.Math.Nat.{mul-le-mul_left}
use Rattle.std.proofs.lemmas.Nat.{div-add-mod'}
use Rattle.std.proofs.lemmas.Int.{int_wrap_fits}
use Rattle.std.proofs.lemmas.Grind.{common_steps}
use Rattle.sj_base.specs.Array.{at}
use Rattle.sj_codelet.specs.Listing.{listing}
use Rattle.sj_codelet.specs.Ring.{wrap, sum_below}
use Rattle.sj_codelet.proofs.Integers.{int_add-zero}
use Rattle.sj_codelet.proofs.Filling.{same_listing, at-listing, listing_from_elements}
use Rattle.sj_kernels.specs.declared.product.Sides.{Sides}
use Rattle.sj_kernels.specs.declared.product.Span.{Span}
use Rattle.sj_kernels.specs.Panels.{with_terms}
use Rattle.sj_kernels.proofs.Panels.{panel_more}
use Rattle.sj_kernels.proofs.product.gemm.Goals as goal

-- the element at a position with the first l terms
so_far : ℕ → ℕ → List ℤ → List ℤ → List ℤ → ℕ → ℕ → ℤ
so_far k n a b c l q = wrap (at c q +ℤ sum_below l (λ r. at a (q / n * k + r) *ℤ at b (r * n + q % n)))

pub loop-p-init : goal.loop-p-init
unfolding so_far
loop-p-init c =
    let a = c.args in
    let F = so_far a.k a.n a.a.now a.b.now a.c.now in
    let none : 0 ≡ min (0 * 32) a.k = omega arith in
    listing_from_elements (length a.c.now) (F (min (0 * 32) a.k)) a.c.now refl (λ q h.
    sym (sym (ap (λ (l : ℕ). F l q) none) ∙ ap (λ (z : ℤ). wrap z) (int_add-zero (at a.c.now q)) ∙ int_wrap_fits w64 (at a.c.now q) (c.read_all.ensures q h)))

pub slice_bounds-panel-end : goal.slice_bounds-panel-end
slice_bounds-panel-end c =
    let h : c.loop-p.p * 32 + c.min-len.result ≤ c.args.k = grind (arith, common_steps) in
    omega (arith, mul-le-mul_left c.args.n h)

pub loop-p-preserved : goal.loop-p-preserved
unfolding so_far
loop-p-preserved c =
    let a = c.args in
    let p = c.loop-p.p in
    let zs = c.loop-p.c in
    let len = c.min-len.result in
    let sides : Sides = record { m = a.m; k = a.k; n = a.n } in
    let rows : Span = record { first = p * 32; len = len } in
    let F = so_far a.k a.n a.a.now a.b.now a.c.now in
    let fits : p * 32 + len ≤ a.k = grind (arith, common_steps) in
    let before : min (p * 32) a.k ≡ p * 32 = omega arith in
    let after : p * 32 + len ≡ min ((p + 1) * 32) a.k = omega arith in
    let same : length zs ≡ length a.c.now = omega arith in
    let from = p * 32 * a.n in
    let panel = between from (from + len * a.n) a.b.now in
    c.add_panel.ensures ∙ ap (λ (q : ℕ). listing q (with_terms sides rows a.a.now panel zs)) same
    ∙ same_listing (length a.c.now) (with_terms sides rows a.a.now panel zs) (F (min ((p + 1) * 32) a.k)) (λ q h.
    panel_more sides rows a.a.now a.b.now panel a.c.now zs from (from + len * a.n) q (omega arith) refl refl refl
    (ap (λ (xs : List ℤ). at xs q) c.loop-p.invariant ∙ at-listing (length a.c.now) (F (min (p * 32) a.k)) q (pos 0) h ∙ ap (λ (l : ℕ). F l q) before)
    ∙ ap (λ (l : ℕ). F l q) after)

pub returns : goal.returns
unfolding so_far listing
returns c =
    let a = c.args in
    let p = c.loop-p.p in
    let F = so_far a.k a.n a.a.now a.b.now a.c.now in
    let all : min (p * 32) a.k ≡ a.k = grind (arith, common_steps) in
    let f = λ (r : ℕ) (q : ℕ). sum_below a.k (λ l. at a.a.now (r * a.k + l) *ℤ at a.b.now (l * a.n + q)) in
    c.loop-p.invariant ∙ ap (λ (l : ℕ). listing (length a.c.now) (F l)) all ∙ ap (λ (q : ℕ). listing q (F a.k)) c.requires.target
    ∙ same_listing (a.m * a.n) (F a.k) (λ q. wrap (at a.c.now (q / a.n * a.n + q % a.n) +ℤ f (q / a.n) (q % a.n))) (λ q h. sym (ap (λ (r : ℕ). wrap (at a.c.now r +ℤ f (q / a.n) (q % a.n))) (div-add-mod' q a.n)))
