use Rattle.std.proofs.Common.{◌≡◌, ◌+◌, ◌*◌, ◌%◌, ℤ, ◌+ℤ◌, ◌*ℤ◌, w64, to_z, of_z, ap, ◌∙◌, arith}
use Rattle.std.proofs.lemmas.Int.{to_z-of_z, wrapping_add-bits, wrapping_mul-bits, int_wrap-add_right}
use mir.ValLaws.{of_z_fits}
use Rattle.sj_codelet.specs.Ring.{wrap}
use Rattle.sj_kernels.proofs.scalar.with_product.Goals as goal

pub returns : goal.returns
returns c =
    let a = c.args in
    let p = (of_z w64 a.x * of_z w64 a.y) % 18446744073709551616 in
    let product : to_z w64 p ≡ wrap (a.x *ℤ a.y) =
    wrapping_mul-bits w64 (of_z w64 a.x) (of_z w64 a.y) (of_z_fits w64 a.x c.ranges.x).fits (of_z_fits w64 a.y c.ranges.y).fits
    ∙ ap (λ (z : ℤ). wrap (z *ℤ to_z w64 (of_z w64 a.y))) (to_z-of_z w64 a.x c.ranges.x) ∙ ap (λ (z : ℤ). wrap (a.x *ℤ z)) (to_z-of_z w64 a.y c.ranges.y) in
    let sum : to_z w64 ((of_z w64 a.total + p) % 18446744073709551616) ≡ wrap (a.total +ℤ to_z w64 p) =
    wrapping_add-bits w64 (of_z w64 a.total) p (of_z_fits w64 a.total c.ranges.total).fits (omega arith) ∙ ap (λ (z : ℤ). wrap (z +ℤ to_z w64 p)) (to_z-of_z w64 a.total c.ranges.total) in
    sum ∙ ap (λ (z : ℤ). wrap (a.total +ℤ z)) product ∙ int_wrap-add_right w64 a.total (a.x *ℤ a.y)
