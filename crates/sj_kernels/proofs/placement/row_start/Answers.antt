use Rattle.std.proofs.Common.{◌≡◌, ℕ, ℤ, ap, ◌∙◌, ◌+◌, ◌*◌, ◌%◌, pos, ◌+ℤ◌, ◌*ℤ◌, to_z, of_z, w64, arith, rules}
use Rattle.std.proofs.lemmas.Int.{wraps, to_z-of_z, wrapping_add-bits, wrapping_mul-bits}
use mir.ValLaws.{of_z_fits}
use Rattle.sj_codelet.specs.Ring.{wrap}
use Rattle.sj_kernels.proofs.Places.{start_is}
use Rattle.sj_kernels.proofs.placement.row_start.Goals as goal

pub returns : goal.returns
returns c =
    let a = c.args in
    let m : ℕ = 18446744073709551616 in
    let row = (of_z w64 a.r0 + a.i) % m in
    let part = (row * of_z w64 a.cols) % m in
    let place = (part + of_z w64 a.c0) % m in
    let term = (of_z w64 a.b * place) % m in
    let e1 : to_z w64 row ≡ wrap (a.r0 +ℤ pos a.i) = search (rules, wraps, wrapping_add-bits w64) in
    let e2 : to_z w64 part ≡ wrap (to_z w64 row *ℤ a.cols) = search (rules, wraps) in
    let e3 : to_z w64 place ≡ wrap (to_z w64 part +ℤ a.c0) = search (rules, wraps) in
    let e4 : to_z w64 term ≡ wrap (a.b *ℤ to_z w64 place) =
    wrapping_mul-bits w64 (of_z w64 a.b) place (of_z_fits w64 a.b c.ranges.b).fits (omega arith) ∙ ap (λ (z : ℤ). wrap (z *ℤ to_z w64 place)) (to_z-of_z w64 a.b c.ranges.b) in
    let e5 : to_z w64 ((of_z w64 a.a + term) % m) ≡ wrap (a.a +ℤ to_z w64 term) =
    wrapping_add-bits w64 (of_z w64 a.a) term (of_z_fits w64 a.a c.ranges.a).fits (omega arith) ∙ ap (λ (z : ℤ). wrap (z +ℤ to_z w64 term)) (to_z-of_z w64 a.a c.ranges.a) in
    start_is a.a a.b (a.r0 +ℤ pos a.i) a.c0 a.cols (to_z w64 row) (to_z w64 part) (to_z w64 place) (to_z w64 term) _ e1 e2 e3 e4 e5
