use Rattle.std.proofs.Common.{◌≡◌, ℕ, ◌+◌, ◌*◌, ◌%◌, ◌<◌, ◌≤◌, Bool, true, false, cond, nat_lt, ℤ, pos, List, length, take, refl, sym, ap, ◌∙◌, arith}
use Rattle.std.proofs.lemmas.List.{length-take-le}
use Rattle.std.proofs.Math.Nat.{mul-le-mul_left}
use Rattle.std.proofs.lemmas.Nat.{mod_below}
use Rattle.std.proofs.lemmas.Grind.{common_steps}
use Rattle.std.proofs.lemmas.Bool.Decides.{nat_tests}
use Rattle.sj_base.specs.Array.{at}
use Rattle.sj_codelet.specs.Listing.{listing}
use Rattle.sj_codelet.proofs.Filling.{same_listing, at-listing, listing_from_elements}
use Rattle.sj_kernels.specs.declared.product.Span.{Span}
use Rattle.sj_kernels.specs.Panels.{panel_element, with_terms, with_terms_within}
use Rattle.sj_kernels.proofs.Panels.{whole_width, tile_more}
use Rattle.sj_kernels.proofs.product.add_panel.Goals as goal

pub returns-then-n-le-TILE_COLUMNS : goal.returns-then-n-le-TILE_COLUMNS
returns-then-n-le-TILE_COLUMNS c =
    let a = c.args in
    c.add_tile.ensures ∙ same_listing (length a.c.now) _ (with_terms a.sides a.rows a.a.now a.panel.now a.c.now) (λ p h. whole_width a.sides a.rows a.a.now a.panel.now a.c.now p (omega arith))

pub loop-t-init : goal.loop-t-init
loop-t-init c =
    let a = c.args in
    let new = with_terms a.sides a.rows a.a.now a.panel.now a.c.now in
    listing_from_elements (length a.c.now) (λ p. cond (nat_lt (p % a.sides.n) (0 * 64)) (new p) (at a.c.now p)) a.c.now refl (λ p h.
    let no : nat_lt (p % a.sides.n) (0 * 64) ≡ false = grind (arith, nat_tests) in
    sym (ap (λ (b : Bool). cond b (new p) (at a.c.now p)) no))

pub loop-t-preserved : goal.loop-t-preserved
loop-t-preserved c =
    let a = c.args in
    let t = c.loop-t.t in
    let columns : Span = record { first = t * 64; len = c.min-len.result } in
    let tile = c.pack.new.tile in
    let zs = c.loop-t.c in
    let F = λ (p : ℕ). cond (nat_lt (p % a.sides.n) (t * 64)) (with_terms a.sides a.rows a.a.now a.panel.now a.c.now p) (at a.c.now p) in
    let same : length zs ≡ length a.c.now = omega arith in
    let w = c.min-len.result in
    let narrow : w ≤ 64 = omega arith in
    let room : length (take (a.rows.len * w) c.loop-t.packed) ≡ a.rows.len * w = length-take-le (a.rows.len * w) c.loop-t.packed (omega (arith, mul-le-mul_left a.rows.len narrow)) in
    let packed : tile ≡ listing (a.rows.len * w) (panel_element a.sides.n columns a.panel.now) = c.pack.ensures ∙ ap (λ (q : ℕ). listing q (panel_element a.sides.n columns a.panel.now)) room in
    let G = with_terms_within columns a.sides a.rows a.a.now tile zs in
    c.add_tile-in-loop-t.ensures ∙ ap (λ (q : ℕ). listing q G) same
    ∙ same_listing (length a.c.now) G (λ p. cond (nat_lt (p % a.sides.n) ((t + 1) * 64)) (with_terms a.sides a.rows a.a.now a.panel.now a.c.now p) (at a.c.now p)) (λ p h.
    tile_more a.sides a.rows columns a.a.now a.panel.now tile a.c.now zs t p (omega arith) refl c.min-len.ensures packed (ap (λ (xs : List ℤ). at xs p) c.loop-t.invariant ∙ at-listing (length a.c.now) F p (pos 0) h))

pub returns : goal.returns
returns c =
    let a = c.args in
    let n = a.sides.n in
    let t = c.loop-t.t in
    let new = with_terms a.sides a.rows a.a.now a.panel.now a.c.now in
    let all : n ≤ t * 64 = grind (arith, common_steps) in
    c.loop-t.invariant ∙ same_listing (length a.c.now) (λ p. cond (nat_lt (p % n) (t * 64)) (new p) (at a.c.now p)) new (λ p h.
    let inside : p < a.sides.m * n = omega arith in
    let some : 0 < n = grind arith in
    let below = mod_below p n some in
    let yes : nat_lt (p % n) (t * 64) ≡ true = grind (arith, nat_tests) in
    ap (λ (b : Bool). cond b (new p) (at a.c.now p)) yes)
