use Rattle.std.proofs.Common.{◌≡◌, ℕ, ◌+◌, ◌*◌, ◌/◌, ◌%◌, ◌<◌, Bool, true, false, cond, nat_lt, length, refl, sym, ap, ◌∙◌, arith}
use Rattle.std.proofs.lemmas.Nat.{mod_below}
use Rattle.std.proofs.lemmas.Bool.Decides.{nat_tests}
use Rattle.std.proofs.Math.Nat.{mul_comm}
use Rattle.sj_base.specs.Array.{at}
use Rattle.sj_codelet.specs.Listing.{listing}
use Rattle.sj_codelet.proofs.Filling.{same_listing, listing_from_elements}
use Rattle.sj_kernels.specs.Turned.{turned}
use Rattle.sj_kernels.proofs.Turns.{turned_step}
use Rattle.sj_kernels.proofs.placement.transpose.Goals as goal

pub loop-t-init : goal.loop-t-init
loop-t-init c =
    let a = c.args in
    let new = turned a.m a.n a.a.now in
    listing_from_elements (length a.b.now) (λ p. cond (nat_lt (p % a.m) (0 * 16)) (new p) (at a.b.now p)) a.b.now refl (λ p h.
    let no : nat_lt (p % a.m) (0 * 16) ≡ false = grind (arith, nat_tests) in
    sym (ap (λ (t : Bool). cond t (new p) (at a.b.now p)) no))

pub loop-t-preserved : goal.loop-t-preserved
loop-t-preserved c =
    let a = c.args in
    let t = c.loop-t.t in
    turned_step (t * 16) 16 ((t + 1) * 16) a.m a.n (length c.loop-t.b) a.a.now a.b.now c.loop-t.b _ (omega arith) (omega arith) c.loop-t.invariant c.turn.ensures

pub loop-t-2-init : goal.loop-t-2-init
loop-t-2-init c =
    let a = c.args in
    let here : c.loop-t.t * 16 ≡ a.m / 16 * 2 * 8 = omega arith in
    c.loop-t.invariant ∙ ap (λ (q : ℕ). listing (length a.b.now) (λ p. cond (nat_lt (p % a.m) q) (turned a.m a.n a.a.now p) (at a.b.now p))) here

pub loop-t-2-preserved : goal.loop-t-2-preserved
loop-t-2-preserved c =
    let a = c.args in
    let t = c.loop-t-2.t in
    turned_step (t * 8) 8 ((t + 1) * 8) a.m a.n (length c.loop-t-2.b) a.a.now a.b.now c.loop-t-2.b _ (omega arith) (omega arith) c.loop-t-2.invariant c.turn-in-loop-t-2.ensures

pub loop-i-init : goal.loop-i-init
loop-i-init c =
    let a = c.args in
    let here : c.loop-t-2.t * 8 ≡ a.m / 8 * 8 = omega arith in
    c.loop-t-2.invariant ∙ ap (λ (q : ℕ). listing (length a.b.now) (λ p. cond (nat_lt (p % a.m) q) (turned a.m a.n a.a.now p) (at a.b.now p))) here

pub loop-i-preserved : goal.loop-i-preserved
loop-i-preserved c =
    let a = c.args in
    let i = c.loop-i.i in
    turned_step i 1 (i + 1) a.m a.n (length c.loop-i.b) a.a.now a.b.now c.loop-i.b _ (omega arith) refl c.loop-i.invariant c.turn-in-loop-i.ensures

pub returns : goal.returns
unfolding listing
returns c =
    let a = c.args in
    let i = c.loop-i.i in
    let new = turned a.m a.n a.a.now in
    let all : i ≡ a.m = omega arith in
    let area : length a.b.now ≡ a.n * a.m = omega (arith, mul_comm a.m a.n) in
    c.loop-i.invariant ∙ same_listing (length a.b.now) (λ p. cond (nat_lt (p % a.m) i) (new p) (at a.b.now p)) new (λ p h.
    let some : 0 < a.m = grind arith in
    let below = mod_below p a.m some in
    let yes : nat_lt (p % a.m) i ≡ true = grind (arith, nat_tests) in
    ap (λ (t : Bool). cond t (new p) (at a.b.now p)) yes)
    ∙ ap (λ (q : ℕ). listing q new) area
