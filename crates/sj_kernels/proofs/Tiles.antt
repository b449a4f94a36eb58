-- What a kernel over slices makes of a whole tile.
use Rattle.std.proofs.Common.{◌≡◌, ℕ, ℤ, ◌+ℤ◌, ◌*ℤ◌, List, length, to_z, of_z, w64, FitsSigned, sym, ap, ◌∙◌, arith}
use Rattle.std.proofs.lemmas.Int.{to_z-of_z}
use Rattle.sj_base.specs.declared.tile.Dims.{Dims}
use Rattle.sj_base.specs.Array.{Array, array, area, at, each}
use Rattle.sj_base.specs.Lending.{written_over}
use Rattle.sj_codelet.specs.declared.window.Window.{Window}
use Rattle.sj_codelet.specs.Ring.{wrap, sum_below}
use Rattle.sj_codelet.specs.Equations.{vector, matrix, axpy, dot, gemm3, loadfill, paste}
use Rattle.sj_codelet.proofs.Operands.{each_of_elements, with_all}
use Rattle.std.proofs.lemmas.List.FromFn.{length-map-range_with_len}

-- a number as a call passes it on
abbrev pub passed : ℤ → ℤ
passed z = to_z w64 (of_z w64 z)

pub axpy_on_tiles : (a b : ℤ) (x y : Array) (xs ys new : List ℤ) → xs ≡ x.elements → ys ≡ y.elements → length y.elements ≡ area y.dims → a ≡ b → new ≡ (axpy a (vector xs) (vector ys)).elements → written_over y new ≡ axpy b x y
axpy_on_tiles a b x y xs ys new ex ey whole same e =
    ap (λ (zs : List ℤ). written_over y zs) (e ∙ ap (λ (zs : List ℤ). (axpy a (vector zs) (vector ys)).elements) ex ∙ ap (λ (zs : List ℤ). (axpy a (vector x.elements) (vector zs)).elements) ey)
    ∙ each_of_elements y (λ p. wrap (at y.elements p +ℤ (a *ℤ at x.elements p))) whole ∙ ap (λ (z : ℤ). axpy z x y) same

pub dot_on_tiles : (x y s : Array) (xs ys ss new : List ℤ) → xs ≡ x.elements → ys ≡ y.elements → ss ≡ s.elements → length x.elements ≡ area x.dims → length s.elements ≡ area s.dims → new ≡ (dot (vector xs) (vector ys) (vector ss)).elements → written_over s new ≡ dot x y s
dot_on_tiles x y s xs ys ss new ex ey es wx ws e =
    let n : area (vector x.elements).dims ≡ area x.dims = omega arith in
    let f = λ (k : ℕ) (p : ℕ). wrap (at s.elements p +ℤ sum_below k (λ q. at x.elements q *ℤ at y.elements q)) in
    ap (λ (zs : List ℤ). written_over s zs) (e ∙ ap (λ (zs : List ℤ). (dot (vector zs) (vector ys) (vector ss)).elements) ex ∙ ap (λ (zs : List ℤ). (dot (vector x.elements) (vector zs) (vector ss)).elements) ey ∙ ap (λ (zs : List ℤ). (dot (vector x.elements) (vector y.elements) (vector zs)).elements) es)
    ∙ each_of_elements s (f (area (vector x.elements).dims)) ws ∙ ap (λ (k : ℕ). each s.dims (f k)) n

pub gemm3_on_tiles : (m k l n : ℕ) (a b d y : Array) (as' bs ds ys new : List ℤ) → as' ≡ a.elements → bs ≡ b.elements → ds ≡ d.elements → ys ≡ y.elements
    → m ≡ y.dims.rows → k ≡ a.dims.cols → l ≡ b.dims.cols → n ≡ y.dims.cols → d.dims.cols ≡ y.dims.cols → length y.elements ≡ area y.dims
    → new ≡ (gemm3 (matrix m k as') (matrix k l bs) (matrix l n ds) (matrix m n ys)).elements → written_over y new ≡ gemm3 a b d y
gemm3_on_tiles m k l n a b d y as' bs ds ys new ea eb ed ey em ek el en cols whole e =
    let v = λ (q : ℕ) (r : ℕ) (s : ℕ) (t : ℕ) (u : ℕ) (w : List ℤ) (x : List ℤ) (z : List ℤ) (o : List ℤ). (gemm3 (matrix q r w) (matrix r s x) (matrix s t z) (matrix q u o)).elements in
    let same : new ≡ (gemm3 a b d y).elements =
    e ∙ ap (λ (w : List ℤ). v m k l n n w bs ds ys) ea ∙ ap (λ (w : List ℤ). v m k l n n a.elements w ds ys) eb ∙ ap (λ (w : List ℤ). v m k l n n a.elements b.elements w ys) ed ∙ ap (λ (w : List ℤ). v m k l n n a.elements b.elements d.elements w) ey
    ∙ ap (λ (q : ℕ). v q k l n n a.elements b.elements d.elements y.elements) em ∙ ap (λ (q : ℕ). v y.dims.rows q l n n a.elements b.elements d.elements y.elements) ek
    ∙ ap (λ (q : ℕ). v y.dims.rows a.dims.cols q n n a.elements b.elements d.elements y.elements) el
    ∙ ap (λ (q : ℕ). v y.dims.rows a.dims.cols b.dims.cols q n a.elements b.elements d.elements y.elements) (en ∙ sym cols)
    ∙ ap (λ (q : ℕ). v y.dims.rows a.dims.cols b.dims.cols d.dims.cols q a.elements b.elements d.elements y.elements) en in
    let long : length (gemm3 a b d y).elements ≡ length y.elements = length-map-range_with_len _ 0 (area y.dims) ∙ sym whole in
    ap (λ (zs : List ℤ). written_over y zs) same ∙ with_all y (gemm3 a b d y).elements long

pub loadfill_on_tile : (args : List ℤ) (x : Array) (xs new : List ℤ) (d : Dims) → xs ≡ x.elements → d ≡ x.dims → length x.elements ≡ area x.dims
    → FitsSigned w64 (at args 0) → FitsSigned w64 (at args 1) → FitsSigned w64 (at args 2) → FitsSigned w64 (at args 3) → FitsSigned w64 (at args 4)
    → new ≡ (loadfill (passed (at args 0)) (passed (at args 1)) (passed (at args 2)) (passed (at args 3)) (passed (at args 4)) (array d xs)).elements
    → written_over x new ≡ loadfill (at args 0) (at args 1) (at args 2) (at args 3) (at args 4) x
loadfill_on_tile args x xs new d ex ed whole f0 f1 f2 f3 f4 e =
    let v = λ (a : ℤ) (b : ℤ) (r : ℤ) (q : ℤ) (n : ℤ). (loadfill a b r q n x).elements in
    let same : new ≡ (loadfill (at args 0) (at args 1) (at args 2) (at args 3) (at args 4) x).elements =
    e ∙ ap (λ (q : Dims). (loadfill (passed (at args 0)) (passed (at args 1)) (passed (at args 2)) (passed (at args 3)) (passed (at args 4)) (array q xs)).elements) ed
    ∙ ap (λ (z : ℤ). v z (passed (at args 1)) (passed (at args 2)) (passed (at args 3)) (passed (at args 4))) (to_z-of_z w64 (at args 0) f0)
    ∙ ap (λ (z : ℤ). v (at args 0) z (passed (at args 2)) (passed (at args 3)) (passed (at args 4))) (to_z-of_z w64 (at args 1) f1)
    ∙ ap (λ (z : ℤ). v (at args 0) (at args 1) z (passed (at args 3)) (passed (at args 4))) (to_z-of_z w64 (at args 2) f2)
    ∙ ap (λ (z : ℤ). v (at args 0) (at args 1) (at args 2) z (passed (at args 4))) (to_z-of_z w64 (at args 3) f3)
    ∙ ap (λ (z : ℤ). v (at args 0) (at args 1) (at args 2) (at args 3) z) (to_z-of_z w64 (at args 4) f4) in
    let long : length (v (at args 0) (at args 1) (at args 2) (at args 3) (at args 4)) ≡ length x.elements = length-map-range_with_len _ 0 (area x.dims) ∙ sym whole in
    ap (λ (zs : List ℤ). written_over x zs) same ∙ with_all x (v (at args 0) (at args 1) (at args 2) (at args 3) (at args 4)) long

pub paste_on_tiles : (w v : Window) (x y : Array) (xs ys new : List ℤ) (d e : Dims) → w ≡ v → d ≡ x.dims → xs ≡ x.elements → e ≡ y.dims → ys ≡ y.elements → length y.elements ≡ area y.dims
    → new ≡ (paste w (array d xs) (array e ys)).elements → written_over y new ≡ paste v x y
paste_on_tiles w v x y xs ys new d e ew ed ex ee ey whole is =
    let same : new ≡ (paste v x y).elements =
    is ∙ ap (λ (u : Window). (paste u (array d xs) (array e ys)).elements) ew ∙ ap (λ (q : Dims). (paste v (array q xs) (array e ys)).elements) ed ∙ ap (λ (zs : List ℤ). (paste v (array x.dims zs) (array e ys)).elements) ex
    ∙ ap (λ (q : Dims). (paste v x (array q ys)).elements) ee ∙ ap (λ (zs : List ℤ). (paste v x (array y.dims zs)).elements) ey in
    let long : length (paste v x y).elements ≡ length y.elements = length-map-range_with_len _ 0 (area y.dims) ∙ sym whole in
    ap (λ (zs : List ℤ). written_over y zs) same ∙ with_all y (paste v x y).elements long
