-- One element more, and the bounds of what was gone through.
use Rattle.std.proofs.Common.{◌≡◌, ◌≤ℤ◌, ℕ, ◌+◌, ◌≤◌, ℤ, pos, ◌+ℤ◌, true, false, cond, not, List, [], ◌∷◌, ◌++◌, length, take, Some, refl, sym, ap, ◌∙◌, arith, FitsSigned, w64}
use Rattle.std.specs.Int.{int_max, int_min}
use Rattle.std.specs.List.{filter, fold}
use Rattle.std.specs.Prelude.{All}
use Rattle.std.proofs.lemmas.Bool.{not-true}
use Rattle.std.proofs.lemmas.Int.{fold-int_min_bounds, ints, int_wrap-add_left}
use Rattle.std.proofs.lemmas.List.{append-nil, length-append, length-take}
use Rattle.std.proofs.lemmas.List.Elements.{All-append, All-filter, All-cons, All-head, All-nil, filter-append, filter_passes}
use Rattle.std.proofs.lemmas.List.Sums.{count_by-le-length, fold-append, length-filter}
use Rattle.sj_codelet.specs.MinPlus.{inf, is_inf, least}
use Rattle.sj_codelet.specs.Ring.{wrap}
use Rattle.sj_apps.specs.Summary.{AreTallied, count_of_inf, maximum, minimum, numbers, exact_sum}

-- ---- which elements are `inf`

pub below_inf : (x : ℤ) → FitsSigned w64 x → ¬ (x ≡ inf) → is_inf x ≡ false
below_inf x f n = grind (arith, ints)

-- ---- one more

infs_same : (xs : List ℤ) (x : ℤ) → is_inf x ≡ false → count_of_inf (xs ++ x ∷ []) ≡ count_of_inf xs
infs_same xs x e =
    ap length (filter-append is_inf xs (x ∷ []) ∙ ap (λ b. filter is_inf xs ++ cond b (x ∷ []) []) e ∙ append-nil (filter is_inf xs))

infs_more : (xs : List ℤ) (x : ℤ) → is_inf x ≡ true → count_of_inf (xs ++ x ∷ []) ≡ count_of_inf xs + 1
infs_more xs x e =
    ap length (filter-append is_inf xs (x ∷ []) ∙ ap (λ b. filter is_inf xs ++ cond b (x ∷ []) []) e) ∙ length-append (filter is_inf xs) (x ∷ [])

numbers_more : (xs : List ℤ) (x : ℤ) → is_inf x ≡ false → numbers (xs ++ x ∷ []) ≡ numbers xs ++ x ∷ []
numbers_more xs x e = filter-append (λ y. not (is_inf y)) xs (x ∷ []) ∙ ap (λ b. numbers xs ++ cond (not b) (x ∷ []) []) e

numbers_same : (xs : List ℤ) (x : ℤ) → is_inf x ≡ true → numbers (xs ++ x ∷ []) ≡ numbers xs
numbers_same xs x e =
    filter-append (λ y. not (is_inf y)) xs (x ∷ []) ∙ ap (λ b. numbers xs ++ cond (not b) (x ∷ []) []) e ∙ append-nil (numbers xs)

pub tallied_inf : (xs : List ℤ) (x : ℤ) (infs infs' : ℕ) (sum lowest highest sum' lowest' highest' : ℤ) → FitsSigned w64 x → x ≡ inf → infs' ≡ infs + 1 → sum' ≡ sum → lowest' ≡ lowest → highest' ≡ highest
    → AreTallied xs infs sum lowest highest → AreTallied (xs ++ x ∷ []) infs' sum' lowest' highest'
tallied_inf xs x infs infs' sum lowest highest sum' lowest' highest' f is more s l h t =
    let e : is_inf x ≡ true = ap is_inf is in
    let same = numbers_same xs x e in
    record {
      fit = All-append (FitsSigned w64) xs (x ∷ []) t.fit (All-cons (FitsSigned w64) x [] f (All-nil (FitsSigned w64)));
      infs_are = more ∙ ap (λ n. n + 1) t.infs_are ∙ sym (infs_more xs x e);
      sum_is = s ∙ t.sum_is ∙ ap (λ ns. wrap (exact_sum ns)) (sym same);
      lowest_is = l ∙ t.lowest_is ∙ ap (fold int_min inf) (sym same);
      highest_is = h ∙ t.highest_is ∙ ap (fold int_max least) (sym same);
    }

pub tallied_number : (xs : List ℤ) (x : ℤ) (infs : ℕ) (sum lowest highest sum' lowest' highest' : ℤ) → FitsSigned w64 x → is_inf x ≡ false → sum' ≡ wrap (sum +ℤ x) → lowest' ≡ int_min lowest x → highest' ≡ int_max highest x
    → AreTallied xs infs sum lowest highest → AreTallied (xs ++ x ∷ []) infs sum' lowest' highest'
tallied_number xs x infs sum lowest highest sum' lowest' highest' f e s l h t =
    let more = numbers_more xs x e in
    record {
      fit = All-append (FitsSigned w64) xs (x ∷ []) t.fit (All-cons (FitsSigned w64) x [] f (All-nil (FitsSigned w64)));
      infs_are = t.infs_are ∙ sym (infs_same xs x e);
      sum_is =
          s ∙ ap (λ z. wrap (z +ℤ x)) t.sum_is ∙ int_wrap-add_left w64 (exact_sum (numbers xs)) x
          ∙ ap wrap (sym (fold-append (λ a y. a +ℤ y) (pos 0) (numbers xs) (x ∷ [])) ∙ ap exact_sum (sym more));
      lowest_is = l ∙ ap (λ z. int_min z x) t.lowest_is ∙ sym (fold-append int_min inf (numbers xs) (x ∷ [])) ∙ ap (fold int_min inf) (sym more);
      highest_is = h ∙ ap (λ z. int_max z x) t.highest_is ∙ sym (fold-append int_max least (numbers xs) (x ∷ [])) ∙ ap (fold int_max least) (sym more);
    }

-- no more of the first elements are `inf` than there are
pub infs_within : (xs : List ℤ) (i : ℕ) → count_of_inf (take i xs) ≤ i
infs_within xs i = omega (arith, length-filter is_inf (take i xs), count_by-le-length is_inf (take i xs), length-take i xs)

-- ---- the bounds

-- numbers are below `inf`
number_below : (x : ℤ) → is_inf x ≡ false → int_min inf x ≡ x
number_below x e = grind (arith, ints)

first_is_number : (x : ℤ) (xs : List ℤ) → All (λ y. not (is_inf y) ≡ true) (x ∷ xs) → is_inf x ≡ false
first_is_number x xs all = not-true (is_inf x) (All-head (λ y. not (is_inf y) ≡ true) x xs all)

-- the fold stays at `inf` only where there is no number: no number is as great
no_minimum : (ns : List ℤ) → All (λ x. not (is_inf x) ≡ true) ns → fold int_min inf ns ≡ inf → ns ≡ []
no_minimum [] all e = refl
no_minimum (x ∷ xs) all e =
    let below = All-head (λ y. inf ≤ℤ y) x xs (fold-int_min_bounds inf (x ∷ xs) inf (sym e)).1 in
    let number = first_is_number x xs all in
    absurd (grind (arith, ints))

are_numbers : (xs : List ℤ) → All (λ x. not (is_inf x) ≡ true) (numbers xs)
are_numbers xs = filter_passes (λ x. not (is_inf x)) xs

pub no_numbers : (xs : List ℤ) → fold int_min inf (numbers xs) ≡ inf → numbers xs ≡ []
no_numbers xs e = no_minimum (numbers xs) (are_numbers xs) e

pub minimum_is : (xs : List ℤ) → ¬ (fold int_min inf (numbers xs) ≡ inf) → Some (fold int_min inf (numbers xs)) ≡ minimum (numbers xs)
minimum_is xs n = go (numbers xs) (are_numbers xs) n
  where
    go : (ns : List ℤ) → All (λ x. not (is_inf x) ≡ true) ns → ¬ (fold int_min inf ns ≡ inf) → Some (fold int_min inf ns) ≡ minimum ns
    go [] all n = absurd (n refl)
    go (x ∷ ns) all n = ap (λ z. Some (fold int_min z ns)) (number_below x (first_is_number x ns all))

-- what fits its type is no less than the least i64
number_above : (x : ℤ) → FitsSigned w64 x → int_max least x ≡ x
number_above x f = grind (arith, ints)

pub maximum_is : (xs : List ℤ) → All (FitsSigned w64) xs → ¬ (fold int_min inf (numbers xs) ≡ inf) → Some (fold int_max least (numbers xs)) ≡ maximum (numbers xs)
maximum_is xs fit n = go (numbers xs) (All-filter (λ x. not (is_inf x)) (FitsSigned w64) xs fit) n
  where
    go : (ns : List ℤ) → All (FitsSigned w64) ns → ¬ (fold int_min inf ns ≡ inf) → Some (fold int_max least ns) ≡ maximum ns
    go [] all n = absurd (n refl)
    go (x ∷ ns) all n = ap (λ z. Some (fold int_max z ns)) (number_above x (All-head (FitsSigned w64) x ns all))
