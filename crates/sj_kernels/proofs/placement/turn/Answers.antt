use Rattle.std.proofs.Common.{◌≡◌, ℕ, ◌+◌, ◌*◌, ◌≤◌, length, refl, ap, ◌∙◌, arith}
use Rattle.std.specs.List.{between}
use Rattle.std.proofs.lemmas.List.Edits.{length-between}
use Rattle.std.proofs.Math.Nat.{mul-le-mul_left}
use Rattle.sj_base.specs.Array.{at}
use Rattle.sj_codelet.specs.Listing.{listing}
use Rattle.sj_codelet.proofs.Filling.{listing_from_begun}
use Rattle.sj_codelet.proofs.Rows.{begun_no_row, begun_row, length-row}
use Rattle.sj_kernels.specs.Turned.{turned_within}
use Rattle.sj_kernels.proofs.Turns.{turned_row}
use Rattle.sj_kernels.proofs.placement.turn.Goals as goal

pub slice_bounds-rows-end : goal.slice_bounds-rows-end
slice_bounds-rows-end c = omega (arith, mul-le-mul_left c.args.n c.requires.within)

pub loop-j-init : goal.loop-j-init
loop-j-init c = begun_no_row c.args.m _ c.args.b.now

pub loop-j-preserved : goal.loop-j-preserved
loop-j-preserved c =
    let a = c.args in
    let m = a.m in
    let n = a.n in
    let j = c.loop-j.j in
    let zs = c.loop-j.b in
    let F = turned_within a.first a.len m n a.a.now a.b.now in
    let s = a.first * n in
    let e = s + a.len * n in
    let taken = between a.first (a.first + a.len) (between (j * m) (j * m + m) zs) in
    let next : j + 1 ≤ n = omega arith in
    let room : j * m + m ≤ length zs = omega (arith, mul-le-mul_left m next) in
    let long : e ≤ length a.a.now = omega (arith, mul-le-mul_left n c.requires.within) in
    let inner : length (between (j * m) (j * m + m) zs) ≡ m = length-row j m zs room in
    let seg : length taken ≡ a.len = length-between (between (j * m) (j * m + m) zs) a.first (a.first + a.len) (omega arith) ∙ omega arith in
    let part = c.column.ensures ∙ ap (λ (q : ℕ). listing q (λ i. at (between s e a.a.now) (i * n + j))) seg in
    begun_row j m _ F a.b.now zs _ (omega arith) c.loop-j.invariant (turned_row a.first a.len m n j s e _ a.a.now a.b.now zs (between s e a.a.now) c.column.new.row room c.requires.within c.loop-j-test.true (omega arith) refl refl long refl c.loop-j.invariant part)

pub returns : goal.returns
returns c =
    let a = c.args in
    let all : c.loop-j.j ≡ a.n = omega arith in
    let whole : c.loop-j.j * a.m ≡ a.m * a.n = omega (arith, ap (λ (q : ℕ). q * a.m) all) in
    listing_from_begun (c.loop-j.j * a.m) (turned_within a.first a.len a.m a.n a.a.now a.b.now) a.b.now c.loop-j.b (omega arith) (omega arith) c.loop-j.invariant
