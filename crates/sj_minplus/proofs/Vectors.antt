-- Vectors of lanes, which stand as bits between two operations.
use Rattle.std.proofs.Common.{◌≡◌, ℕ, ◌<◌, ◌+◌, ◌%◌, ◌^◌, Bool, true, false, List, [], ◌∷◌, suc, subst, map, ℤ, pos, negsuc, ◌⊎◌, inl, inr, ⊎_elim, ◌+ℤ◌, ◌-ℤ◌, ◌-◌, ◌≤ℤ◌, ◌<ℤ◌, length, get_or, cond, if◌then◌else◌, FitsSigned, to_z, of_z, ap, sym, ◌∙◌, arith, refl}
use Rattle.std.specs.Int.{w64, int_wrap, int_min, int_max}
use Rattle.std.specs.Int.Signed.{lt_z}
use lib.Lanes.{zip2, sel_l}
use Rattle.std.proofs.lemmas.List.{get_or-map, length-map}
use Rattle.std.proofs.lemmas.Bool.{cases_lt}
use Rattle.std.proofs.lemmas.Simd.{length-zip2, length-sel_l, get_or-sel_l, get_or-zip2}
use Rattle.std.proofs.lemmas.Int.{ints, clamps, to_z-of_z, wrapping_add_onto, wrapping_sub_onto, SFits-int_wrap, int_wrap_fits}
use Rattle.sj_base.specs.Array.{at}
use Rattle.sj_base.proofs.Numbers.{of_z-below}
use Rattle.sj_codelet.specs.MinPlus.{inf, greatest, least, plus}
use Rattle.sj_minplus.specs.Lanes.{AreLanes}
use Rattle.sj_minplus.proofs.Rows.{all_from}
use Rattle.sj_minplus.proofs.Lowered.{fits_within}
use Rattle.sj_minplus.specs.LeastLaws.{below_inf}

-- the lanes as bits
abbrev pub bits_of : List ℤ → List ℕ
bits_of xs = map (of_z w64) xs

pub at_bits : (xs : List ℤ) (i : ℕ) → AreLanes xs → i < 8 → get_or (bits_of xs) i 0 ≡ of_z w64 (at xs i)
at_bits xs i l h = let long = l.long in get_or-map (of_z w64) xs i (pos 0) 0 (omega arith)

length_bits : (xs : List ℤ) → AreLanes xs → length (bits_of xs) ≡ 8
length_bits xs l = length-map xs (of_z w64) ∙ l.long

pub lane_fits : (xs : List ℤ) → AreLanes xs → (i : ℕ) → i < 8 → FitsSigned w64 (at xs i)
lane_fits xs l i h = let long = l.long in l.fit i (pos 0) (omega arith)

pub lane_back : (xs : List ℤ) → AreLanes xs → (i : ℕ) → i < 8 → to_z w64 (of_z w64 (at xs i)) ≡ at xs i
lane_back xs l i h = let f = lane_fits xs l i h in rw to_z-of_z

fits_either : (t : Bool) (a b : ℤ) → FitsSigned w64 a → FitsSigned w64 b → FitsSigned w64 (if t then a else b)
fits_either true a b f g = f
fits_either false a b f g = g

back_either : (t : Bool) (a b : ℕ) → to_z w64 (cond t a b) ≡ (if t then to_z w64 a else to_z w64 b)
back_either true a b = refl
back_either false a b = refl

-- by lane, eight numbers that fit
pub lanes_from : (xs : List ℤ) (f : ℕ → ℤ) → length xs ≡ 8 → ((i : ℕ) → i < 8 → at xs i ≡ f i) → ((i : ℕ) → i < 8 → FitsSigned w64 (f i)) → AreLanes xs
lanes_from xs f long e g = record {
  long = long;
  fit = all_from (FitsSigned w64) xs (λ p h. rw (e p (omega arith)) (g p (omega arith)));
}

-- ---- a selection by a test t of two vectors

abbrev pub selected : (ℕ → ℕ → Bool) → List ℤ → List ℤ → List ℤ → List ℤ → List ℤ
selected t x y u v = map (to_z w64) (sel_l (zip2 t (bits_of x) (bits_of y)) (bits_of u) (bits_of v))

length_sel : (t : ℕ → ℕ → Bool) (x y u v : List ℤ) → AreLanes x → AreLanes y → AreLanes u → AreLanes v → length (sel_l (zip2 t (bits_of x) (bits_of y)) (bits_of u) (bits_of v)) ≡ 8
length_sel t x y u v lx ly lu lv =
    let a = length_bits x lx in
    let b = length_bits y ly in
    let d = length_bits u lu in
    let e = length_bits v lv in
    let z = length-zip2 t (bits_of x) (bits_of y) (omega arith) in
    omega (arith, length-sel_l (zip2 t (bits_of x) (bits_of y)) (bits_of u) (bits_of v) (omega arith) (omega arith))

pub at_selected : (t : ℕ → ℕ → Bool) (x y u v : List ℤ) → AreLanes x → AreLanes y → AreLanes u → AreLanes v → (i : ℕ) → i < 8 → at (selected t x y u v) i ≡ (if t (of_z w64 (at x i)) (of_z w64 (at y i)) then at u i else at v i)
at_selected t x y u v lx ly lu lv i h =
    let a = length_bits x lx in
    let b = length_bits y ly in
    let d = length_bits u lu in
    let e = length_bits v lv in
    let s = length_sel t x y u v lx ly lu lv in
    let z = length-zip2 t (bits_of x) (bits_of y) (omega arith) in
    let test : get_or (zip2 t (bits_of x) (bits_of y)) i false ≡ t (of_z w64 (at x i)) (of_z w64 (at y i)) =
    get_or-zip2 t (bits_of x) (bits_of y) i 0 0 false (omega arith) (omega arith) ∙ ap (λ n. t n (get_or (bits_of y) i 0)) (at_bits x i lx h) ∙ ap (t (of_z w64 (at x i))) (at_bits y i ly h) in
    get_or-map (to_z w64) (sel_l (zip2 t (bits_of x) (bits_of y)) (bits_of u) (bits_of v)) i 0 (pos 0) (omega arith)
    ∙ ap (to_z w64) (get_or-sel_l (zip2 t (bits_of x) (bits_of y)) (bits_of u) (bits_of v) i 0 (omega arith) (omega arith) (omega arith))
    ∙ back_either (get_or (zip2 t (bits_of x) (bits_of y)) i false) (get_or (bits_of u) i 0) (get_or (bits_of v) i 0)
    ∙ ap (λ q. if q then to_z w64 (get_or (bits_of u) i 0) else to_z w64 (get_or (bits_of v) i 0)) test
    ∙ ap (λ n. if t (of_z w64 (at x i)) (of_z w64 (at y i)) then n else to_z w64 (get_or (bits_of v) i 0)) (ap (to_z w64) (at_bits u i lu h) ∙ lane_back u lu i h)
    ∙ ap (λ n. if t (of_z w64 (at x i)) (of_z w64 (at y i)) then at u i else n) (ap (to_z w64) (at_bits v i lv h) ∙ lane_back v lv i h)

pub lanes_selected : (t : ℕ → ℕ → Bool) (x y u v : List ℤ) → AreLanes x → AreLanes y → AreLanes u → AreLanes v → AreLanes (selected t x y u v)
lanes_selected t x y u v lx ly lu lv =
    lanes_from (selected t x y u v) (λ i. if t (of_z w64 (at x i)) (of_z w64 (at y i)) then at u i else at v i) (length-map (sel_l (zip2 t (bits_of x) (bits_of y)) (bits_of u) (bits_of v)) (to_z w64) ∙ length_sel t x y u v lx ly lu lv) (at_selected t x y u v lx ly lu lv) (λ i h. fits_either (t (of_z w64 (at x i)) (of_z w64 (at y i))) (at u i) (at v i) (lane_fits u lu i h) (lane_fits v lv i h))

-- ---- an operation on two vectors

abbrev pub zipped : (ℕ → ℕ → ℕ) → List ℤ → List ℤ → List ℤ
zipped f x y = map (to_z w64) (zip2 f (bits_of x) (bits_of y))

length_zipped : (f : ℕ → ℕ → ℕ) (x y : List ℤ) → AreLanes x → AreLanes y → length (zip2 f (bits_of x) (bits_of y)) ≡ 8
length_zipped f x y lx ly =
    let a = length_bits x lx in
    let b = length_bits y ly in
    length-zip2 f (bits_of x) (bits_of y) (omega arith) ∙ a

at_zipped : (f : ℕ → ℕ → ℕ) (x y : List ℤ) → AreLanes x → AreLanes y → (i : ℕ) → i < 8 → at (zipped f x y) i ≡ to_z w64 (f (of_z w64 (at x i)) (of_z w64 (at y i)))
at_zipped f x y lx ly i h =
    let a = length_bits x lx in
    let b = length_bits y ly in
    let z = length_zipped f x y lx ly in
    get_or-map (to_z w64) (zip2 f (bits_of x) (bits_of y)) i 0 (pos 0) (omega arith)
    ∙ ap (to_z w64) (get_or-zip2 f (bits_of x) (bits_of y) i 0 0 0 (omega arith) (omega arith) ∙ ap (λ n. f n (get_or (bits_of y) i 0)) (at_bits x i lx h) ∙ ap (f (of_z w64 (at x i))) (at_bits y i ly h))

-- what each lane is, where the operation wraps the result of g
pub at_wrapped : (f : ℕ → ℕ → ℕ) (g : ℤ → ℤ → ℤ) → ((a b : ℤ) → FitsSigned w64 a → FitsSigned w64 b → to_z w64 (f (of_z w64 a) (of_z w64 b)) ≡ int_wrap w64 (g a b)) → (x y : List ℤ) → AreLanes x → AreLanes y → (i : ℕ) → i < 8 → at (zipped f x y) i ≡ int_wrap w64 (g (at x i) (at y i))
at_wrapped f g wraps x y lx ly i h =
    at_zipped f x y lx ly i h ∙ wraps (at x i) (at y i) (lane_fits x lx i h) (lane_fits y ly i h)

pub lanes_wrapped : (f : ℕ → ℕ → ℕ) (g : ℤ → ℤ → ℤ) → ((a b : ℤ) → FitsSigned w64 a → FitsSigned w64 b → to_z w64 (f (of_z w64 a) (of_z w64 b)) ≡ int_wrap w64 (g a b)) → (x y : List ℤ) → AreLanes x → AreLanes y → AreLanes (zipped f x y)
lanes_wrapped f g wraps x y lx ly =
    lanes_from (zipped f x y) (λ i. int_wrap w64 (g (at x i) (at y i))) (length-map (zip2 f (bits_of x) (bits_of y)) (to_z w64) ∙ length_zipped f x y lx ly) (at_wrapped f g wraps x y lx ly) (λ i h. SFits-int_wrap w64 (g (at x i) (at y i)))

pub wraps_sum : (a b : ℤ) → FitsSigned w64 a → FitsSigned w64 b → to_z w64 ((of_z w64 a + of_z w64 b) % 2 ^ 64) ≡ int_wrap w64 (a +ℤ b)
wraps_sum a b f g = wrapping_add_onto w64 (of_z w64 a) b (of_z-below a f) g ∙ ap (λ z. int_wrap w64 (z +ℤ b)) (rw to_z-of_z)

pub wraps_difference : (a b : ℤ) → FitsSigned w64 a → FitsSigned w64 b → to_z w64 ((of_z w64 a + (2 ^ 64 - of_z w64 b)) % 2 ^ 64) ≡ int_wrap w64 (a -ℤ b)
wraps_difference a b f g = wrapping_sub_onto w64 (of_z w64 a) b (of_z-below a f) g ∙ ap (λ z. int_wrap w64 (z -ℤ b)) (rw to_z-of_z)

-- ---- the sum of min-plus in one lane

high_sum : (a b kept : ℤ) → pos 0 ≤ℤ a → a <ℤ inf → least ≤ℤ b → kept ≡ (if lt_z (greatest -ℤ a) b then greatest -ℤ a else b) → kept +ℤ a ≡ int_max least (int_min greatest (a +ℤ b))
high_sum a b kept h k l e = grind (arith, ints, clamps)

low_sum : (a b kept : ℤ) → a <ℤ pos 0 → b ≤ℤ inf → b <ℤ inf → kept ≡ (if lt_z b (least -ℤ a) then least -ℤ a else b) → kept +ℤ a ≡ int_max least (int_min greatest (a +ℤ b))
low_sum a b kept h k l e = grind (arith, ints, clamps)

-- the sum as it is made in a lane, where neither number is `inf`
pub record IsSum (a b room floor high low kept sum : ℤ) : Type 0 where
  pub room_is : room ≡ int_wrap w64 (greatest -ℤ a)
  pub floor_is : floor ≡ int_wrap w64 (least -ℤ a)
  pub high_is : high ≡ (if lt_z room b then room else b)
  pub low_is : low ≡ (if lt_z b floor then floor else b)
  pub kept_is : kept ≡ (if lt_z a (pos 0) then low else high)
  pub sum_is : sum ≡ int_wrap w64 (kept +ℤ a)

wrap_exact : (z : ℤ) → least ≤ℤ z → z ≤ℤ inf → int_wrap w64 z ≡ z
wrap_exact z h k = int_wrap_fits w64 z (fits_within z h k)

clamped_exact : (z : ℤ) → int_wrap w64 (int_max least (int_min greatest z)) ≡ int_max least (int_min greatest z)
clamped_exact z = wrap_exact (int_max least (int_min greatest z)) (omega (arith, ints, clamps)) (omega (arith, ints, clamps))

sum_high : (a b room floor high low kept sum : ℤ) → IsSum a b room floor high low kept sum → pos 0 ≤ℤ a → a <ℤ inf → least ≤ℤ b → sum ≡ int_max least (int_min greatest (a +ℤ b))
sum_high a b room floor high low kept sum s h k l =
    let exact : room ≡ greatest -ℤ a = s.room_is ∙ wrap_exact (greatest -ℤ a) (omega (arith, ints)) (omega (arith, ints)) in
    let test : lt_z a (pos 0) ≡ false = grind (arith, ints) in
    let chosen : kept ≡ (if lt_z (greatest -ℤ a) b then greatest -ℤ a else b) = s.kept_is ∙ ap (λ t. if t then low else high) test ∙ s.high_is ∙ ap (λ r. if lt_z r b then r else b) exact in
    s.sum_is ∙ ap (int_wrap w64) (high_sum a b kept h k l chosen) ∙ clamped_exact (a +ℤ b)

sum_low : (a b room floor high low kept sum : ℤ) → IsSum a b room floor high low kept sum → a <ℤ pos 0 → least ≤ℤ a → b <ℤ inf → sum ≡ int_max least (int_min greatest (a +ℤ b))
sum_low a b room floor high low kept sum s h k l =
    let exact : floor ≡ least -ℤ a = s.floor_is ∙ wrap_exact (least -ℤ a) (omega (arith, ints)) (omega (arith, ints)) in
    let test : lt_z a (pos 0) ≡ true = grind (arith, ints) in
    let chosen : kept ≡ (if lt_z b (least -ℤ a) then least -ℤ a else b) = s.kept_is ∙ ap (λ t. if t then low else high) test ∙ s.low_is ∙ ap (λ r. if lt_z b r then r else b) exact in
    s.sum_is ∙ ap (int_wrap w64) (low_sum a b kept h (omega (arith, ints)) l chosen) ∙ clamped_exact (a +ℤ b)

finite_plus : (a b : ℤ) → a <ℤ inf → b <ℤ inf → plus a b ≡ int_max least (int_min greatest (a +ℤ b))
finite_plus a b h k = grind (arith, ints, clamps)

plus_inf : (a b : ℤ) → (a ≡ inf) ⊎ (b ≡ inf) → plus a b ≡ inf
plus_inf a b e = grind (arith, ints, clamps)

below_or_inf : (z : ℤ) → z ≤ℤ inf → (z <ℤ inf) ⊎ (z ≡ inf)
below_or_inf (pos n) h =
    ⊎_elim (λ l. inl (omega (arith, ints))) (λ g. inr (ap pos (omega (arith, ints)))) (cases_lt n 9223372036854775807)
below_or_inf (negsuc n) h = inl (omega (arith, ints))

-- `inf` where either is, and else the sum
with_inf : (a b sum : ℤ) → a ≤ℤ inf → b ≤ℤ inf → (a <ℤ inf → b <ℤ inf → sum ≡ plus a b) → (if lt_z greatest b then inf else if lt_z greatest a then inf else sum) ≡ plus a b
with_inf a b sum h k e =
    ⊎_elim (λ (l : b <ℤ inf).
    let t : lt_z greatest b ≡ false = grind (arith, ints) in
    ap (λ q. if q then inf else if lt_z greatest a then inf else sum) t
    ∙ ⊎_elim (λ (m : a <ℤ inf). let u : lt_z greatest a ≡ false = grind (arith, ints) in ap (λ q. if q then inf else sum) u ∙ e m l) (λ (i : a ≡ inf). let u : lt_z greatest a ≡ true = grind (arith, ints) in ap (λ q. if q then inf else sum) u ∙ sym (plus_inf a b (inl i))) (below_or_inf a h)) (λ (i : b ≡ inf).
    let t : lt_z greatest b ≡ true = grind (arith, ints) in
    ap (λ q. if q then inf else if lt_z greatest a then inf else sum) t ∙ sym (plus_inf a b (inr i))) (below_or_inf b k)

above_least : (z : ℤ) → FitsSigned w64 z → least ≤ℤ z
above_least (pos n) f = omega (arith, ints)
above_least (negsuc n) f = let h = f.sfits in omega (arith, ints)

sum_either : (a b room floor high low kept sum : ℤ) → IsSum a b room floor high low kept sum → FitsSigned w64 a → FitsSigned w64 b → a <ℤ inf → b <ℤ inf → sum ≡ plus a b
sum_either (pos n) b room floor high low kept sum s f g h k =
    sum_high (pos n) b room floor high low kept sum s (omega (arith, ints)) h (above_least b g) ∙ sym (finite_plus (pos n) b h k)
sum_either (negsuc n) b room floor high low kept sum s f g h k =
    sum_low (negsuc n) b room floor high low kept sum s (omega (arith, ints)) (above_least (negsuc n) f) k ∙ sym (finite_plus (negsuc n) b h k)

pub lane_plus : (a b room floor high low kept sum known result : ℤ) → IsSum a b room floor high low kept sum → known ≡ (if lt_z greatest a then inf else sum) → result ≡ (if lt_z greatest b then inf else known) → FitsSigned w64 a → FitsSigned w64 b → result ≡ plus a b
lane_plus a b room floor high low kept sum known result s k r f g =
    r
    ∙ ap (λ z. if lt_z greatest b then inf else z) k
    ∙ with_inf a b sum (below_inf a f) (below_inf b g) (λ h l. sum_either a b room floor high low kept sum s f g h l)

-- ---- a vector as it is passed to a call

passed_list : (xs : List ℤ) → ((k : ℕ) → k < length xs → FitsSigned w64 (at xs k)) → map (to_z w64) (bits_of xs) ≡ xs
passed_list [] h = refl
passed_list (x ∷ xs) h =
    let f = h 0 (omega arith) in
    let here : to_z w64 (of_z w64 x) ≡ x = rw to_z-of_z in
    ap (λ z. z ∷ map (to_z w64) (bits_of xs)) here ∙ ap (λ zs. x ∷ zs) (passed_list xs (λ k l. h (suc k) (omega arith)))

pub passed : (xs : List ℤ) → AreLanes xs → map (to_z w64) (bits_of xs) ≡ xs
passed xs l = passed_list xs (λ k h. l.fit k (pos 0) h)

pub lanes_passed : (xs : List ℤ) → AreLanes xs → AreLanes (map (to_z w64) (bits_of xs))
lanes_passed xs l = subst AreLanes (sym (passed xs l)) l
