-- What a codelet makes of tiles is tiles: each of its new arrays has all its elements, and each element is an i64. A lemma serves
-- a form of equation.
use Rattle.std.proofs.Common.{◌≡◌, ℕ, zero, suc, ◌+◌, ◌*◌, Bool, true, ◌&&◌, ℤ, pos, ◌≤ℤ◌, List, [], ◌∷◌, length, map, get_or, refl, ap, subst, sym, ◌∙◌, All, FitsSigned, IsTrue, nat_eq, if◌then◌else◌, arith}
use Rattle.std.proofs.Common.{lit<, w64}
use Rattle.std.specs.List.{AllByRecursion, range_with_len}
use Rattle.std.specs.Int.{int_min}
use Rattle.std.proofs.lemmas.List.{get_or-map, get_or_past, length-map, length-replicate}
use Rattle.std.proofs.lemmas.List.Elements.{All-cons, All-get_or, All-head, All-map, All-nil, All-replicate, All-tail}
use Rattle.std.proofs.lemmas.List.FromFn.{length-map-range_with_len}
use Rattle.std.proofs.lemmas.{Bool.cases_lt, Bool.Decides.nat_tests, Bool.Decides.Decides-eqb, Int.SFits-int_wrap, Int.clamps, Int.ints}
use Rattle.sj_base.specs.declared.tile.Dims.{Dims}
use Rattle.sj_base.specs.Array.{Array, array, area, at, each, element, zeros}
use Rattle.sj_codelet.specs.declared.kernel.Kernel.{Kernel}
use Rattle.sj_codelet.specs.declared.kernel.Kernel.TheVariants.{Load, LoadFill, Paste}
use Rattle.sj_codelet.specs.Equations.{after_turns, lowest, paste}
use Rattle.sj_codelet.specs.Kernel.{arguments_fit, dims_at, dims_fit, fits, formals_of, new_arrays, operand, out}
use Rattle.sj_codelet.specs.Laws.{IsTile, MakesTiles}
use Rattle.sj_codelet.specs.MinPlus.{inf, least, least_below, plus}
use Rattle.sj_codelet.specs.Ring.{wrap}
use Rattle.sj_codelet.specs.Window.{window_of}
use Rattle.sj_codelet.proofs.Table.{each_dims, dims_at-each_dims, new_arrays-count, new_arrays-dims, out-kernel}

abbrev pub IsLong : ℤ → Type 0
IsLong z = FitsSigned w64 z

-- what fits has as many operands as formals, and their dimensions fit
pub fits-parts : (n m : ℕ) (b c : Bool) → (nat_eq n m && b && c) ≡ true → (n ≡ m) × (c ≡ true)
fits-parts n m b c h = search (arith, nat_tests)

-- ---- numbers

zero-long : IsLong (pos 0)
zero-long = record { sfits = lit< tt }

pub inf-long : IsLong inf
inf-long = record { sfits = lit< tt }

wrap-long : (z : ℤ) → IsLong (wrap z)
wrap-long z = SFits-int_wrap w64 z

min-long : (x y : ℤ) → IsLong x → IsLong y → IsLong (int_min x y)
min-long x y hx hy = search (arith, IsLong, ints, clamps)

long-between : (z : ℤ) → least ≤ℤ z → z ≤ℤ inf → IsLong z
long-between b low high = search (arith, ints)

-- the sum of min-plus is kept between the least i64 and the greatest below `inf`, or is `inf`
plus-long : (x y : ℤ) → IsLong (plus x y)
plus-long x y = search (arith, IsLong, inf-long, long-between, ints, clamps)

least_below-long : (n : ℕ) (z : ℤ) (f : ℕ → ℤ) → IsLong z → ((k : ℕ) → IsLong (f k)) → IsLong (least_below n z f)
least_below-long zero z f hz hf = hz
least_below-long (suc n) z f hz hf = min-long (least_below n z f) (f n) (least_below-long n z f hz hf) (hf n)

either-long : (b : Bool) (x y : ℤ) → IsLong x → IsLong y → IsLong (if b then x else y)
either-long b x y hx hy = search arith

-- ---- arrays

-- an array of this many elements, each of them an i64
pub tile : (d : Dims) (f : ℕ → ℤ) → ((p : ℕ) → IsLong (f p)) → IsTile (each d f)
tile d f h = record { whole = length-map-range_with_len f 0 (area d); in_range = All-map IsLong f (range_with_len 0 (area d)) (λ i e l. h (get_or (range_with_len 0 (area d)) i e)) }

abbrev none : Array
none = array (record { rows = 0; cols = 0 }) []

pub zeros-tile : (d : Dims) → IsTile (zeros d)
zeros-tile d = record { whole = length-replicate (area d) (pos 0); in_range = All-replicate IsLong (area d) (pos 0) zero-long }

-- an element of a tile, and what stands for one beyond its end
at-long : (a : Array) → IsTile a → (p : ℕ) → IsLong (at a.elements p)
at-long a h p = search (arith, cases_lt, All-get_or, IsLong, get_or_past, zero-long)

-- an operand, and what stands for one that isn't there
pub operand-tile : (ins : List Array) → All IsTile ins → (n : ℕ) → IsTile (operand ins n)
operand-tile ins h n = search (arith, cases_lt, All-get_or, none, get_or_past, All-nil, IsLong)

element-long : (a : Array) → IsTile a → (i j : ℕ) → IsLong (element a i j)
element-long a h i j = at-long a h (i * a.dims.cols + j)

turns-tile : (n : ℕ) (turn : ℕ → Array → Array) (a : Array) → IsTile a → ((k : ℕ) (m : Array) → IsTile m → IsTile (turn k m)) → IsTile (after_turns n turn a)
turns-tile zero turn a h step = h
turns-tile (suc n) turn a h step = step n (after_turns n turn a) (turns-tile n turn a h step)

-- as many elements as there are arguments, where that is what fits
loaded : (args : List ℤ) (ins : List Array) → All IsLong args → IsTrue (fits Load args (map (λ a. a.dims) ins)) → IsTile (array (operand ins 0).dims args)
loaded args ins h k = search (arith, get_or-map, none, length-map, nat_tests)

lesser-tile : (x y : Array) → IsTile x → IsTile y → IsTile (lowest x y)
lesser-tile x y hx hy = tile y.dims _ (λ p. min-long _ _ (at-long y hy p) (at-long x hx p))

pasted-tile : (args : List ℤ) (ins : List Array) → All IsTile ins → IsTile (paste (window_of args) (operand ins 0) (operand ins 1))
pasted-tile args ins h =
    tile (operand ins 1).dims _ (λ p. either-long _ _ _ (element-long (operand ins 0) (operand-tile ins h 0) _ _) (at-long (operand ins 1) (operand-tile ins h 1) _))

ruleset tiles = (tile, zeros-tile, turns-tile, lesser-tile, loaded, operand-tile)

ruleset longs = (wrap-long, min-long, plus-long, least_below-long, either-long, inf-long, at-long, element-long)

-- the new arrays of a codelet are tiles where its operands are
pub new_arrays-tiles : (k : Kernel) (args : List ℤ) (ins : List Array) → All IsLong args → IsTrue (fits k args (map (λ a. a.dims) ins)) → All IsTile ins → All IsTile (new_arrays k args ins)
new_arrays-tiles Paste args ins ha f h = All-cons IsTile _ [] (pasted-tile args ins h) (All-nil IsTile)
new_arrays-tiles k args ins ha f h = search (arith, All-cons, All-nil, tiles, longs)

-- and the table obeys that law
pub out-makes_tiles : (k : Kernel) → MakesTiles out k
out-makes_tiles k = record {
  count = λ args ins. ap length (out-kernel k args ins) ∙ new_arrays-count k args ins;
  tiles = λ args ins long call. subst (All IsTile) (sym (out-kernel k args ins)) (new_arrays-tiles k args ins long call.fits call.tiles);
  dims = λ args ins call.
      (let parts = fits-parts (length (each_dims ins)) (length (formals_of k)) (arguments_fit k args (each_dims ins)) (dims_fit k args (each_dims ins)) call.fits in
      ap each_dims (out-kernel k args ins) ∙ new_arrays-dims k args ins (sym (length-map ins (λ (x : Array). x.dims)) ∙ parts.0) parts.1);
}

-- ---- the same of their number alone

-- each array has all its elements
abbrev pub AreWhole : List Array → Type 0
AreWhole xs = AllByRecursion (λ (a : Array). length a.elements ≡ area a.dims) xs

-- the same of one, as a search finds it
record HasAll (a : Array) : Type 0 where
  whole : length a.elements ≡ area a.dims

whole-from_all : (xs : List Array) → All HasAll xs → AreWhole xs
whole-from_all [] h = tt
whole-from_all (a ∷ xs) h = ((All-head HasAll a xs h).whole, whole-from_all xs (All-tail HasAll a xs h))

all-each : (d : Dims) (f : ℕ → ℤ) → HasAll (each d f)
all-each d f = record { whole = length-map-range_with_len f 0 (area d) }

all-zeros : (d : Dims) → HasAll (zeros d)
all-zeros d = record { whole = length-replicate (area d) (pos 0) }

all-operand : (ins : List Array) → AreWhole ins → (n : ℕ) → HasAll (operand ins n)
all-operand [] w n = record { whole = refl }
all-operand (a ∷ ins) w zero = record { whole = w.0 }
all-operand (a ∷ ins) w (suc n) = all-operand ins w.1 n

all-turns : (n : ℕ) (turn : ℕ → Array → Array) (a : Array) → HasAll a → ((k : ℕ) (m : Array) → HasAll (turn k m)) → HasAll (after_turns n turn a)
all-turns zero turn a h step = h
all-turns (suc n) turn a h step = step n (after_turns n turn a)

all-loaded : (args : List ℤ) (ins : List Array) → arguments_fit Load args (each_dims ins) ≡ true → HasAll (array (operand ins 0).dims args)
all-loaded args ins f =
    record { whole = (Decides-eqb (length args) (area (dims_at (each_dims ins) 0))).0 f ∙ ap area (dims_at-each_dims ins 0) }

all-pasted : (args : List ℤ) (ins : List Array) → HasAll (paste (window_of args) (operand ins 0) (operand ins 1))
all-pasted args ins = record { whole = length-map-range_with_len _ 0 (area (operand ins 1).dims) }

ruleset alls = (all-each, all-zeros, all-operand, all-turns, all-loaded, all-pasted)

have-all : (k : Kernel) (args : List ℤ) (ins : List Array) → arguments_fit k args (each_dims ins) ≡ true → AreWhole ins → All HasAll (new_arrays k args ins)
have-all LoadFill args ins f w = search (arith, All-cons, All-nil, alls)
have-all k args ins f w = search (arith, All-cons, All-nil, alls)

pub new_arrays-whole : (k : Kernel) (args : List ℤ) (ins : List Array) → arguments_fit k args (each_dims ins) ≡ true → AreWhole ins → AreWhole (new_arrays k args ins)
new_arrays-whole k args ins f w = whole-from_all (new_arrays k args ins) (have-all k args ins f w)
