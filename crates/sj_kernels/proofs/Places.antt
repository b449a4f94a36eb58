-- Elements that are a linear function of their place.
use Rattle.std.proofs.Common.{◌≡◌, ℕ, ℤ, pos, ◌+ℤ◌, ◌*ℤ◌, w64, to_z, of_z, sym, ap, ◌∙◌, arith}
use Rattle.std.proofs.lemmas.Int.{ints, int_wrap-add_left, int_wrap-add_right, int_wrap-mul_left, int_wrap-mul_right, to_z-of_z, SFits-int_wrap}
use Rattle.sj_codelet.specs.Ring.{wrap}
use Rattle.sj_codelet.proofs.Integers.{int_mul_add}

-- one wrapping operation after another
pub start_is : (a b r c0 cols row part place term start : ℤ) → row ≡ wrap r → part ≡ wrap (row *ℤ cols) → place ≡ wrap (part +ℤ c0) → term ≡ wrap (b *ℤ place) → start ≡ wrap (a +ℤ term) → start ≡ wrap (a +ℤ (b *ℤ ((r *ℤ cols) +ℤ c0)))
start_is a b r c0 cols row part place term start e1 e2 e3 e4 e5 =
    let p : part ≡ wrap (r *ℤ cols) = e2 ∙ ap (λ (z : ℤ). wrap (z *ℤ cols)) e1 ∙ int_wrap-mul_left w64 r cols in
    let q : place ≡ wrap ((r *ℤ cols) +ℤ c0) = e3 ∙ ap (λ (z : ℤ). wrap (z +ℤ c0)) p ∙ int_wrap-add_left w64 (r *ℤ cols) c0 in
    let t : term ≡ wrap (b *ℤ ((r *ℤ cols) +ℤ c0)) = e4 ∙ ap (λ (z : ℤ). wrap (b *ℤ z)) q ∙ int_wrap-mul_right w64 b ((r *ℤ cols) +ℤ c0) in
    e5 ∙ ap (λ (z : ℤ). wrap (a +ℤ z)) t ∙ int_wrap-add_right w64 a (b *ℤ ((r *ℤ cols) +ℤ c0))

-- along a row from its start
pub along_row : (a b r c0 cols start : ℤ) (j : ℕ) → start ≡ wrap (a +ℤ (b *ℤ ((r *ℤ cols) +ℤ c0))) → wrap (start +ℤ (b *ℤ pos j)) ≡ wrap (a +ℤ (b *ℤ ((r *ℤ cols) +ℤ (c0 +ℤ pos j))))
along_row a b r c0 cols start j e =
    let place = (r *ℤ cols) +ℤ c0 in
    let step = b *ℤ pos j in
    let sum : (r *ℤ cols) +ℤ (c0 +ℤ pos j) ≡ place +ℤ pos j = omega (arith, ints) in
    let parts : b *ℤ (place +ℤ pos j) ≡ (b *ℤ place) +ℤ step = int_mul_add place (pos j) b in
    let regroup : (a +ℤ (b *ℤ place)) +ℤ step ≡ a +ℤ ((b *ℤ place) +ℤ step) = omega (arith, ints) in
    ap (λ (z : ℤ). wrap (z +ℤ step)) e ∙ int_wrap-add_left w64 (a +ℤ (b *ℤ place)) step
    ∙ ap (λ (z : ℤ). wrap z) regroup ∙ sym (ap (λ (z : ℤ). wrap (a +ℤ z)) (ap (λ (z : ℤ). b *ℤ z) sum ∙ parts))

-- a start that was passed on
pub passed_start : (s z : ℤ) → s ≡ wrap z → to_z w64 (of_z w64 s) ≡ wrap z
passed_start s z e = ap (λ (y : ℤ). to_z w64 (of_z w64 y)) e ∙ to_z-of_z w64 (wrap z) (SFits-int_wrap w64 z)
