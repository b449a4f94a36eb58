-- The laws of the codelets of `least`, on arrays.
use Rattle.std.proofs.Common.{◌≡◌, ℕ, zero, suc, ◌/◌, ◌%◌, ◌<◌, ℤ, length, refl, sym, ap, ◌∙◌, arith, pos, ◌≤ℤ◌}
use Rattle.std.specs.Int.{int_min}
use Rattle.std.proofs.lemmas.Int.{ints, clamps}
use Rattle.std.proofs.lemmas.List.FromFn.{fill_by_all}
use Rattle.std.proofs.lemmas.Nat.{div-add-mod'}
use Rattle.sj_base.specs.declared.tile.Dims.{Dims}
use Rattle.sj_base.specs.Array.{Array, array, area, at, element, each, grid}
use Rattle.sj_codelet.specs.MinPlus.{inf, plus, least_below}
use Rattle.sj_codelet.specs.Equations.{lowest, mingemm, all_inf}
use Rattle.sj_codelet.proofs.Elements.{at-each, same_each}
use Rattle.sj_minplus.specs.Matrix.{least_entry}

-- ---- numbers

pub int_min_comm : (x y : ℤ) → int_min x y ≡ int_min y x
int_min_comm x y = omega (arith, ints, clamps)

pub int_min_assoc : (x y z : ℤ) → int_min (int_min x y) z ≡ int_min x (int_min y z)
int_min_assoc x y z = omega (arith, ints, clamps)

pub int_min_swap : (x y z : ℤ) → int_min (int_min x y) z ≡ int_min (int_min x z) y
int_min_swap x y z = omega (arith, ints, clamps)

pub int_min_inf : (x : ℤ) → x ≤ℤ inf → int_min x inf ≡ x
int_min_inf x h = omega (arith, ints, clamps)

through_inf : (v x i u : ℤ) → v ≤ℤ inf → i ≡ inf → u ≡ int_min i x → int_min v x ≡ int_min v u
through_inf v x i u h e k = rw (k, e) (omega (arith, ints, clamps))

-- a number may be taken out of the least
pub least_out : (n : ℕ) (z w : ℤ) (f : ℕ → ℤ) → least_below n (int_min z w) f ≡ int_min z (least_below n w f)
least_out zero z w f = refl
least_out (suc n) z w f = ap (λ x. int_min x (f n)) (least_out n z w f) ∙ int_min_assoc z (least_below n w f) (f n)

least_last : (n : ℕ) (z w : ℤ) (f : ℕ → ℤ) → least_below n (int_min z w) f ≡ int_min (least_below n z f) w
least_last zero z w f = refl
least_last (suc n) z w f = ap (λ x. int_min x (f n)) (least_last n z w f) ∙ int_min_swap (least_below n z f) w (f n)

-- two may be taken in either order
pub least_swap : (n m : ℕ) (z : ℤ) (f g : ℕ → ℤ) → least_below n (least_below m z f) g ≡ least_below m (least_below n z g) f
least_swap zero m z f g = refl
least_swap (suc n) m z f g =
    ap (λ x. int_min x (g n)) (least_swap n m z f g) ∙ sym (least_last m (least_below n z g) (g n) f)

-- ---- arrays

element-grid : (d : Dims) (g : ℕ → ℕ → ℤ) (p : ℕ) → p < area d → element (grid d g) (p / d.cols) (p % d.cols) ≡ g (p / d.cols) (p % d.cols)
element-grid d g p h =
    ap (at (grid d g).elements) (div-add-mod' p d.cols) ∙ at-each d (λ q. g (q / d.cols) (q % d.cols)) p h

-- no element is above `inf`
pub record IsBelowInf (x : Array) : Type 0 where
  pub below : (p : ℕ) → p < area x.dims → at x.elements p ≤ℤ inf
  pub whole : length x.elements ≡ area x.dims

each_of_itself : (x : Array) → length x.elements ≡ area x.dims → each x.dims (at x.elements) ≡ x
each_of_itself x long =
    ap (array x.dims) (sym (fill_by_all (at x.elements) x.elements (area x.dims) (pos 0) long (λ p l. refl)))

-- ---- lowest

pub lowest_comm : (x y : Array) → x.dims ≡ y.dims → lowest x y ≡ lowest y x
lowest_comm x y d =
    same_each y.dims (λ p. int_min (at y.elements p) (at x.elements p)) (λ p. int_min (at x.elements p) (at y.elements p)) (λ p l. int_min_comm (at y.elements p) (at x.elements p))
    ∙ ap (λ e. each e (λ p. int_min (at x.elements p) (at y.elements p))) (sym d)

pub lowest_assoc : (x y z : Array) → y.dims ≡ z.dims → lowest x (lowest y z) ≡ lowest (lowest x y) z
lowest_assoc x y z d =
    same_each z.dims (λ p. int_min (at (lowest y z).elements p) (at x.elements p)) (λ p. int_min (at z.elements p) (at (lowest x y).elements p)) (λ p l.
    let within : p < area y.dims = rw d l in
    ap (λ v. int_min v (at x.elements p)) (at-each z.dims (λ q. int_min (at z.elements q) (at y.elements q)) p l)
    ∙ int_min_assoc (at z.elements p) (at y.elements p) (at x.elements p)
    ∙ ap (int_min (at z.elements p)) (sym (at-each y.dims (λ q. int_min (at y.elements q) (at x.elements q)) p within)))

pub lowest_unit : (x : Array) → IsBelowInf x → lowest (all_inf x.dims) x ≡ x
lowest_unit x h =
    same_each x.dims (λ p. int_min (at x.elements p) (at (all_inf x.dims).elements p)) (at x.elements) (λ p l.
    ap (int_min (at x.elements p)) (at-each x.dims (λ q. inf) p l) ∙ int_min_inf (at x.elements p) (h.below p l))
    ∙ each_of_itself x h.whole

pub lowest_swap : (x y v : Array) → lowest y (lowest x v) ≡ lowest x (lowest y v)
lowest_swap x y v =
    same_each v.dims (λ p. int_min (at (lowest x v).elements p) (at y.elements p)) (λ p. int_min (at (lowest y v).elements p) (at x.elements p)) (λ p l.
    ap (λ w. int_min w (at y.elements p)) (at-each v.dims (λ q. int_min (at v.elements q) (at x.elements q)) p l)
    ∙ int_min_swap (at v.elements p) (at x.elements p) (at y.elements p)
    ∙ ap (λ w. int_min w (at x.elements p)) (sym (at-each v.dims (λ q. int_min (at v.elements q) (at y.elements q)) p l)))

-- what it makes of the unit, combined with v, is what it makes of v
pub lowest_contributes : (x v : Array) → IsBelowInf v → lowest x v ≡ lowest (lowest x (all_inf v.dims)) v
lowest_contributes x v h =
    same_each v.dims (λ p. int_min (at v.elements p) (at x.elements p)) (λ p. int_min (at v.elements p) (at (lowest x (all_inf v.dims)).elements p)) (λ p l.
    let u = at-each v.dims (λ q. int_min (at (all_inf v.dims).elements q) (at x.elements q)) p l in
    let i = at-each v.dims (λ q. inf) p l in
    through_inf (at v.elements p) (at x.elements p) (at (all_inf v.dims).elements p) (at (lowest x (all_inf v.dims)).elements p) (h.below p l) i u)

-- ---- mingemm

-- the sums of row i with column j
abbrev sums : Array → Array → ℕ → ℕ → ℕ → ℤ
sums a b i j = λ l. plus (element a i l) (element b l j)

pub mingemm_swap : (a b d e c : Array) → mingemm d e (mingemm a b c) ≡ mingemm a b (mingemm d e c)
mingemm_swap a b d e c =
    same_each c.dims (λ p. least_entry d e (mingemm a b c) (p / c.dims.cols) (p % c.dims.cols)) (λ p. least_entry a b (mingemm d e c) (p / c.dims.cols) (p % c.dims.cols)) (λ p l.
    let i = p / c.dims.cols in
    let j = p % c.dims.cols in
    ap (λ v. least_below d.dims.cols v (sums d e i j)) (element-grid c.dims (least_entry a b c) p l)
    ∙ least_swap d.dims.cols a.dims.cols (element c i j) (sums a b i j) (sums d e i j)
    ∙ ap (λ v. least_below a.dims.cols v (sums a b i j)) (sym (element-grid c.dims (least_entry d e c) p l)))

pub mingemm_contributes : (a b v : Array) → IsBelowInf v → mingemm a b v ≡ lowest (mingemm a b (all_inf v.dims)) v
mingemm_contributes a b v h =
    same_each v.dims (λ p. least_entry a b v (p / v.dims.cols) (p % v.dims.cols)) (λ p. int_min (at v.elements p) (at (mingemm a b (all_inf v.dims)).elements p)) (λ p l.
    let i = p / v.dims.cols in
    let j = p % v.dims.cols in
    let unit = ap (at (all_inf v.dims).elements) (div-add-mod' p v.dims.cols) ∙ at-each v.dims (λ q. inf) p l in
    ap (λ w. least_below a.dims.cols w (sums a b i j)) (ap (at v.elements) (div-add-mod' p v.dims.cols) ∙ sym (int_min_inf (at v.elements p) (h.below p l)))
    ∙ least_out a.dims.cols (at v.elements p) inf (sums a b i j)
    ∙ ap (λ w. int_min (at v.elements p) (least_below a.dims.cols w (sums a b i j))) (sym unit)
    ∙ ap (int_min (at v.elements p)) (sym (at-each v.dims (λ q. least_entry a b (all_inf v.dims) (q / v.dims.cols) (q % v.dims.cols)) p l)))
