-- The statements of both applications are such as lines may say.
use Rattle.std.specs.FinMap as map
use Rattle.std.proofs.Common.{◌≡◌, ℕ, zero, suc, ◌+◌, ◌*◌, ◌/◌, ◌%◌, ◌<◌, ◌≤◌, Bool, true, false, not, cond, ◌&&◌, Option, Some, is_some, List, [], ◌∷◌, ◌++◌, ℤ, pos, negsuc, unwrap_or, length, map as each_of, codes, nat_eq, refl, sym, ap, subst, ◌∙◌, arith, bytes_eq}
use Rattle.std.specs.Prelude.{nat_le, option_map, ◌^◌}
use Rattle.std.specs.Fmt.{decimal}
use Rattle.std.specs.List.{AllByRecursion, filter, flat_map, list_all, list_any, range_with_len}
use Rattle.std.specs.Cmp.Lexicographic.{slice_cmp}
use Rattle.std.specs.Ordering.{nat_cmp}
use Rattle.std.proofs.lemmas.Bool.{eq-eqb, not-true, and_from}
use Rattle.std.proofs.lemmas.Bool.Decides.{nat_tests}
use Rattle.std.proofs.lemmas.List.{length-append}
use Rattle.std.proofs.lemmas.List.FromFn.{length-map-range_with_len, length-range_with_len}
use Rattle.std.proofs.lemmas.Nat.{mul-le}
use Rattle.std.proofs.lemmas.Simd.{map-map}
use Rattle.sj_base.specs.declared.mode.Mode.TheVariants.{R, RW, Commute}
use Rattle.sj_base.specs.Window.{table}
use Rattle.sj_base.proofs.Tables.{length-table}
use Rattle.sj_codelet.specs.declared.kernel.Kernel.TheVariants.{Gemm, MinGemm, FwDiag, FwRow, FwCol}
use Rattle.sj_codelet.specs.MinPlus.{inf}
use Rattle.sj_plan.specs.Interval.{part_len}
use Rattle.sj_plan.proofs.Lists.{each-all, each-filter}
use Rattle.sj_job.specs.declared.form.InitForm.TheVariants as form
use Rattle.sj_meaning.specs.declared.job.Init.TheVariants.{Values, Fill}
use Rattle.sj_meaning.specs.Act.{Act, Print}
use Rattle.sj_job.specs.Judge.{known_of, scope_of}
use Rattle.sj_meaning.specs.Sound.{is_aliased}
use Rattle.sj_job.specs.Grammar.{has_values}
use Rattle.sj_meaning.specs.Meaning.{apply, register}
use Rattle.sj_meaning.specs.State.{JobState, root_of, start}
use Rattle.sj_meaning.specs.Statement.{Operand}
use Rattle.sj_job.specs.Well.{IsWell}
use Rattle.sj_job.specs.Word.{integer, integer_of, is_integer}
use Rattle.sj_job.proofs.Numerals.{decimal-integer}
use Rattle.sj_apps.specs.Generated.{IsSize, apart, aparts_in_row, below, beside, diagonal, factors, first_line, gemm_act, gemms, gemms_at, gemms_in_row, name_A, name_B, name_C, name_D, tile_operand, others, part_count, paths_acts, paths_statements, product_acts, product_statements, square, upto, walk_step, walk_steps, weight, weights}
use Rattle.sj_apps.proofs.Starting.{IsCut, cut-from, factors-are, multiplied, registration, ring, ring-is, root-registered}
use Rattle.sj_apps.proofs.Tiling.{AreMatrices, Becomes, IsMatrix, apart-run, below-run, beside-run, diagonal-run, gemm-run, run, run-append}
use Rattle.sj_apps.proofs.WellFormed.{AllAllowed, Allowed, IsSeen, IsWorded, all-append, all-each_of, all-flat, flat-length, matrix-allowed, print-allowed, task-judged, well-from}

not-full : (k : ℕ) → k < 262144 → nat_le 262144 k ≡ false
not-full k h = grind (arith, nat_tests)

same_two : (a b : ℕ) → (nat_eq a a && nat_eq b b) ≡ true
same_two a b = grind (arith, nat_tests)

same_three : (a b c : ℕ) → (nat_eq a a && nat_eq b b && nat_eq c c) ≡ true
same_three a b c = grind (arith, nat_tests)

each-below_from : (p a m : ℕ) → a + m ≤ p → AllByRecursion (λ k. k < p) (range_with_len a m)
each-below_from p a zero h = tt
each-below_from p a (suc m) h = (omega (arith, h), each-below_from p (a + 1) m (omega (arith, h)))

each-below : (p : ℕ) → AllByRecursion (λ k. k < p) (upto p)
each-below p = each-below_from p 0 p (omega arith)

-- a matrix of that name, seen at a place
seen : (n p c : ℕ) (S : JobState) (o : Operand (List ℕ)) (f : ℕ → ℕ → ℤ) → IsMatrix n p S o.name f → S.ended ≡ [] → Rattle.sj_job.specs.Word.is_name o.name ≡ true → o.place.0 < p → o.place.1 < p → IsSeen n p (scope_of c S) o
seen n p c S o f is ended named hi hj = record {
  elements = f;
  known = ap (option_map known_of) is;
  unended = ap (list_any (bytes_eq o.name)) ended;
  name = named;
  place = (hi, hj);
}

-- ---- the product

record IsMultiplying (n p : ℕ) (S : JobState) : Type 0 where
  a : ℕ → ℕ → ℤ
  b : ℕ → ℕ → ℤ
  c : ℕ → ℕ → ℤ
  are : AreMatrices n p S a b c
  ended : S.ended ≡ []

module _ (n p : ℕ) (h : IsCut n p) where
  gemm-step : (i j k : ℕ) (T : JobState) → i < p → j < p → k < p → IsMultiplying n p T → Allowed T (gemm_act i j k) × IsMultiplying n p (apply (gemm_act i j k) T)
  gemm-step i j k T hi hj hk now =
      let r = gemm-run n p i j k T now.a now.b now.c hi hj hk now.are in (
        λ c few. task-judged n p (omega (arith, h.few)) (scope_of c T) Gemm (codes "gemm") (tile_operand name_A i k R ∷ tile_operand name_B k j R ∷ tile_operand name_C i j Commute ∷ []) (not-full c few) refl refl
            (seen n p c T (tile_operand name_A i k R) now.a now.are.first now.ended refl hi hk, (seen n p c T (tile_operand name_B k j R) now.b now.are.second now.ended refl hk hj, (seen n p c T (tile_operand name_C i j Commute) now.c now.are.third now.ended refl hi hj, tt)))
            refl refl (same_three (part_len n p k) (part_len n p i) (part_len n p j)) refl (refl, (refl, (refl, tt))) refl refl,
        record { a = now.a; b = now.b; c = _; are = r.are; ended = r.keeps.ended ∙ now.ended },
      )

  gemms-allowed : (T : JobState) → IsMultiplying n p T → AllAllowed T (gemms p) × IsMultiplying n p (run (gemms p) T)
  gemms-allowed T now =
      let below = each-below p in
      all-flat {Q = λ i. i < p} (IsMultiplying n p) (gemms_in_row p) (λ i T hi.
      all-flat {Q = λ j. j < p} (IsMultiplying n p) (gemms_at p i) (λ j T hj.
      all-each_of {Q = λ k. k < p} (IsMultiplying n p) (gemm_act i j) (λ k T hk now. gemm-step i j k T hi hj hk now) (upto p) below T) (upto p) below T) (upto p) below T now

fill-worded : (n : ℕ) (v w : List ℕ) (a b : ℤ) → integer_of v ≡ Some a → integer_of w ≡ Some b → IsWorded n (Fill a b)
fill-worded n v w a b e f = record {
  form = form.Fill v w;
  says = λ t. Fill (unwrap_or (e t) (pos 0)) (unwrap_or (f t) (pos 0));
  numbers = and_from (is_integer v) (is_integer w) (ap (λ (o : Option ℤ). is_some o) e) (ap (λ (o : Option ℤ). is_some o) f);
  some = refl;
  counted = refl;
}

none-known : (name : List ℕ) → is_some (option_map known_of (root_of start name)) ≡ false
none-known name = ap (λ o. is_some (option_map known_of o)) (map.get-empty (slice_cmp nat_cmp) name)

seed-small : (seed : ℕ) → seed % 100 < 2 ^ 63
seed-small seed = omega arith

factors-allowed : (n p seed : ℕ) → IsCut n p → AllAllowed start (factors n p seed)
factors-allowed n p seed h =
    let a = registration name_A n p (Fill (pos (seed % 100)) (pos 1)) in
    let b = registration name_B n p (Fill (pos 5) (negsuc 1)) in
    let one = register a start in
    let two = register b one in (
      λ k few. matrix-allowed n p h name_A (Fill (pos (seed % 100)) (pos 1)) (fill-worded n (decimal (seed % 100)) (codes "1") (pos (seed % 100)) (pos 1) (decimal-integer (seed % 100) (seed-small seed)) refl) (scope_of k start) refl (not-full k few) refl refl (none-known name_A),
      (
        λ k few. matrix-allowed n p h name_B (Fill (pos 5) (negsuc 1)) (fill-worded n (codes "5") (codes "-2") (pos 5) (negsuc 1) refl refl) (scope_of k one) refl (not-full k few) refl refl
            (ap (λ o. is_some (option_map known_of o)) (root-registered a start name_B) ∙ none-known name_B),
        (
          λ k few. matrix-allowed n p h name_C (Fill (pos 0) (pos 0)) (fill-worded n (codes "0") (codes "0") (pos 0) (pos 0) refl refl) (scope_of k two) refl (not-full k few) refl refl
              (ap (λ o. is_some (option_map known_of o)) (root-registered b one name_C ∙ root-registered a start name_C) ∙ none-known name_C),
          tt,
        ),
      ),
    )

gemms-few : (p : ℕ) → p ≤ 48 → length (gemms p) ≤ 110592
gemms-few p few =
    let each = length-range_with_len 0 p in
    let inner : (i j : ℕ) → length (gemms_at p i j) ≤ p = λ i j. omega (arith, length-map-range_with_len (gemm_act i j) 0 p) in
    let row : (i : ℕ) → length (gemms_in_row p i) ≤ p * p = λ i. omega (arith, flat-length (gemms_at p i) p (inner i) (upto p), ap (λ m. m * p) each) in
    omega (arith, flat-length (gemms_in_row p) (p * p) row (upto p), ap (λ m. m * (p * p)) each, mul-le p (p * p) 48 2304 few (omega (arith, mul-le p p 48 48 few few)))

pub product-well : (n tile seed : ℕ) → IsSize n tile seed → IsWell (λ _. true) 0 start (product_statements n tile seed)
product-well n tile seed size =
    let p = part_count n tile in
    let h = cut-from n tile seed size in
    let now : IsMultiplying n p (multiplied n p seed) = record { a = _; b = _; c = _; are = factors-are n p seed; ended = refl } in
    let tasks = gemms-allowed n p h (multiplied n p seed) now in
    let end = tasks.1 in
    well-from 0 first_line (product_acts n p seed) start (omega (arith, length-append (gemms p) (Print name_C ∷ []), gemms-few p h.few))
    (all-append (factors n p seed) (gemms p ++ Print name_C ∷ []) start (factors-allowed n p seed h)
    (all-append (gemms p) (Print name_C ∷ []) (multiplied n p seed) tasks.0
    (λ k few. print-allowed n p end.c name_C (scope_of k (run (gemms p) (multiplied n p seed))) refl (not-full k few) (ap (list_any (bytes_eq name_C)) end.ended) (ap (option_map known_of) end.are.third), tt)))

-- ---- shortest walks

record IsWalking (n p : ℕ) (S : JobState) : Type 0 where
  d : ℕ → ℕ → ℤ
  is : IsMatrix n p S name_D d
  ended : S.ended ≡ []

-- a part that isn't part k
abbrev IsOther : ℕ → ℕ → ℕ → Type 0
IsOther p k j = (j < p) × (nat_eq j k ≡ false)

others_are : (p k : ℕ) → AllByRecursion (IsOther p k) (others p k)
others_are p k =
    each-filter (IsOther p k) (λ j. not (nat_eq j k)) (upto p)
    (each-all (λ j. j < p) (λ j. not (nat_eq j k) ≡ true → IsOther p k j) (λ j below t. (below, not-true (nat_eq j k) t)) (upto p) (each-below p))

beside-apart : (k j : ℕ) → nat_eq j k ≡ false → is_aliased (tile_operand name_D k k R ∷ tile_operand name_D k j RW ∷ []) ≡ false
beside-apart k j h = grind (arith, nat_tests)

below-apart : (k i : ℕ) → nat_eq i k ≡ false → is_aliased (tile_operand name_D k k R ∷ tile_operand name_D i k RW ∷ []) ≡ false
below-apart k i h = grind (arith, nat_tests)

apart-apart : (k i j : ℕ) → nat_eq i k ≡ false → nat_eq j k ≡ false → is_aliased (tile_operand name_D i k R ∷ tile_operand name_D k j R ∷ tile_operand name_D i j RW ∷ []) ≡ false
apart-apart k i j h g = grind (arith, nat_tests)

module _ (n p : ℕ) (h : IsCut n p) where
  small : p < 2 ^ 63
  small = omega (arith, h.few)

  tile-seen : (c i j : ℕ) (T : JobState) (o : Operand (List ℕ)) (now : IsWalking n p T) → o.name ≡ name_D → o.place ≡ (i, j) → i < p → j < p → IsSeen n p (scope_of c T) o
  tile-seen c i j T o now named placed hi hj = seen n p c T o now.d (ap (root_of T) named ∙ now.is) now.ended (ap Rattle.sj_job.specs.Word.is_name named) (subst (λ (x : ℕ × ℕ). x.0 < p) (sym placed) hi) (subst (λ (x : ℕ × ℕ). x.1 < p) (sym placed) hj)

  after : (S T : JobState) (g : ℕ → ℕ → ℤ) → Becomes n p S T g → S.ended ≡ [] → IsWalking n p T
  after S T g b e = record { d = g; is = b.is; ended = b.keeps.ended ∙ e }

  diagonal-step : (k : ℕ) (T : JobState) → k < p → IsWalking n p T → Allowed T (diagonal k) × IsWalking n p (apply (diagonal k) T)
  diagonal-step k T hk now = (
    λ c few. task-judged n p small (scope_of c T) FwDiag (codes "fwdiag") (tile_operand name_D k k RW ∷ []) (not-full c few) refl refl
        (tile-seen c k k T (tile_operand name_D k k RW) now refl refl hk hk, tt) refl refl (eq-eqb (part_len n p k) (part_len n p k) refl) refl (refl, tt) refl refl,
    after T (apply (diagonal k) T) _ (diagonal-run n p k T now.d hk now.is) now.ended,
  )

  beside-step : (k j : ℕ) (T : JobState) → k < p → IsOther p k j → IsWalking n p T → Allowed T (beside k j) × IsWalking n p (apply (beside k j) T)
  beside-step k j T hk hj now = (
    λ c few. task-judged n p small (scope_of c T) FwRow (codes "fwrow") (tile_operand name_D k k R ∷ tile_operand name_D k j RW ∷ []) (not-full c few) refl refl
        (tile-seen c k k T (tile_operand name_D k k R) now refl refl hk hk, (tile-seen c k j T (tile_operand name_D k j RW) now refl refl hk hj.0, tt)) refl refl
        (same_two (part_len n p k) (part_len n p k)) (beside-apart k j hj.1) (refl, (refl, tt)) refl refl,
    after T (apply (beside k j) T) _ (beside-run n p k j T now.d hk hj.0 now.is) now.ended,
  )

  below-step : (k i : ℕ) (T : JobState) → k < p → IsOther p k i → IsWalking n p T → Allowed T (below k i) × IsWalking n p (apply (below k i) T)
  below-step k i T hk hi now = (
    λ c few. task-judged n p small (scope_of c T) FwCol (codes "fwcol") (tile_operand name_D k k R ∷ tile_operand name_D i k RW ∷ []) (not-full c few) refl refl
        (tile-seen c k k T (tile_operand name_D k k R) now refl refl hk hk, (tile-seen c i k T (tile_operand name_D i k RW) now refl refl hi.0 hk, tt)) refl refl
        (same_two (part_len n p k) (part_len n p k)) (below-apart k i hi.1) (refl, (refl, tt)) refl refl,
    after T (apply (below k i) T) _ (below-run n p k i T now.d hk hi.0 now.is) now.ended,
  )

  apart-step : (k i j : ℕ) (T : JobState) → k < p → IsOther p k i → IsOther p k j → IsWalking n p T → Allowed T (apart k i j) × IsWalking n p (apply (apart k i j) T)
  apart-step k i j T hk hi hj now = (
    λ c few. task-judged n p small (scope_of c T) MinGemm (codes "mingemm") (tile_operand name_D i k R ∷ tile_operand name_D k j R ∷ tile_operand name_D i j RW ∷ []) (not-full c few) refl refl
        (tile-seen c i k T (tile_operand name_D i k R) now refl refl hi.0 hk, (tile-seen c k j T (tile_operand name_D k j R) now refl refl hk hj.0, (tile-seen c i j T (tile_operand name_D i j RW) now refl refl hi.0 hj.0, tt))) refl refl
        (same_three (part_len n p k) (part_len n p i) (part_len n p j)) (apart-apart k i j hi.1 hj.1) (refl, (refl, (refl, tt))) refl refl,
    after T (apply (apart k i j) T) _ (apart-run n p k i j T now.d hk hi.0 hj.0 now.is) now.ended,
  )

  walk_step-allowed : (k : ℕ) (T : JobState) → k < p → IsWalking n p T → AllAllowed T (walk_step p k) × IsWalking n p (run (walk_step p k) T)
  walk_step-allowed k T hk now =
      let os = others p k in
      let are = others_are p k in
      let one = diagonal-step k T hk now in
      let two = all-each_of {Q = IsOther p k} (IsWalking n p) (beside k) (λ j T hj now. beside-step k j T hk hj now) os are (apply (diagonal k) T) one.1 in
      let after_beside = run (each_of (beside k) os) (apply (diagonal k) T) in
      let three = all-each_of {Q = IsOther p k} (IsWalking n p) (below k) (λ i T hi now. below-step k i T hk hi now) os are after_beside two.1 in
      let after_below = run (each_of (below k) os) after_beside in
      let four = all-flat {Q = IsOther p k} (IsWalking n p) (aparts_in_row p k) (λ i T hi now. all-each_of {Q = IsOther p k} (IsWalking n p) (apart k i) (λ j T hj now. apart-step k i j T hk hi hj now) os are T now) os are after_below three.1 in (
        (one.0, all-append (each_of (beside k) os) (each_of (below k) os ++ flat_map (aparts_in_row p k) os) (apply (diagonal k) T) two.0 (all-append (each_of (below k) os) (flat_map (aparts_in_row p k) os) after_beside three.0 four.0)),
        subst (IsWalking n p) (sym (run-append (each_of (beside k) os) (each_of (below k) os ++ flat_map (aparts_in_row p k) os) (apply (diagonal k) T) ∙ run-append (each_of (below k) os) (flat_map (aparts_in_row p k) os) after_beside)) four.1,
      )

  walk_steps-allowed : (T : JobState) → IsWalking n p T → AllAllowed T (walk_steps p) × IsWalking n p (run (walk_steps p) T)
  walk_steps-allowed T now = all-flat {Q = λ k. k < p} (IsWalking n p) (walk_step p) (λ k T hk now. walk_step-allowed k T hk now) (upto p) (each-below p) T now

-- ---- the weights as words

abbrev weight-word : ℕ → ℕ → ℕ → ℕ → List ℕ
weight-word n seed i j = cond (nat_eq j i) (codes "0") (cond (nat_eq j ((i + 1) % n)) (codes "3") (cond (nat_eq j ((i + 7) % n)) (decimal (5 + seed % 5)) (codes "inf")))

chord-small : (seed : ℕ) → 5 + seed % 5 < 2 ^ 63
chord-small seed = omega arith

weight-reads : (n seed i j : ℕ) → integer_of (weight-word n seed i j) ≡ Some (weight n seed i j)
weight-reads n seed i j = by_tests (nat_eq j i) (nat_eq j ((i + 1) % n)) (nat_eq j ((i + 7) % n))
  where
    by_tests : (a b c : Bool) → integer_of (cond a (codes "0") (cond b (codes "3") (cond c (decimal (5 + seed % 5)) (codes "inf")))) ≡ Some (cond a (pos 0) (cond b (pos 3) (cond c (pos (5 + seed % 5)) inf)))
    by_tests true b c = refl
    by_tests false true c = refl
    by_tests false false true = decimal-integer (5 + seed % 5) (chord-small seed)
    by_tests false false false = refl

all-numbers : (g : ℕ → List ℕ) (a m : ℕ) → ((k : ℕ) → is_integer (g k) ≡ true) → list_all is_integer (each_of g (range_with_len a m)) ≡ true
all-numbers g a zero h = refl
all-numbers g a (suc m) h = and_from (is_integer (g a)) (list_all is_integer (each_of g (range_with_len (a + 1) m))) (h a) (all-numbers g (a + 1) m h)

some-values : (vs : List (List ℕ)) → 0 < length vs → has_values (form.Values vs) ≡ true
some-values [] h = absurd (omega arith)
some-values (v ∷ vs) h = refl

counted-well : (m k : ℕ) → m ≡ k → not (nat_eq m k) ≡ false
counted-well m k h = grind (arith, nat_tests)

weights-worded : (n seed : ℕ) → 1 ≤ n → IsWorded n (Values (weights n seed))
weights-worded n seed some =
    let vs = table (square n) (weight-word n seed) in
    let long : length vs ≡ n * n = length-table (square n) (weight-word n seed) in
    record {
      form = form.Values vs;
      says = ap Values (map-map integer (λ q. weight-word n seed (q / n) (q % n)) (range_with_len 0 (n * n)) ∙ (λ t. each_of (λ q. unwrap_or (weight-reads n seed (q / n) (q % n) t) (pos 0)) (range_with_len 0 (n * n))));
      numbers = all-numbers (λ q. weight-word n seed (q / n) (q % n)) 0 (n * n) (λ q. ap (λ (o : Option ℤ). is_some o) (weight-reads n seed (q / n) (q % n)));
      some = some-values vs (omega (arith, long, mul-le 1 1 n n some some));
      counted = counted-well (length (weights n seed)) (n * n) (length-table (square n) (weight n seed));
    }

-- ---- all

filter-few : (t : ℕ → Bool) (ks : List ℕ) → length (filter t ks) ≤ length ks
filter-few t [] = omega arith
filter-few t (k ∷ ks) = by_test (t k) (filter-few t ks)
  where
    by_test : (b : Bool) → length (filter t ks) ≤ length ks → length (cond b (k ∷ filter t ks) (filter t ks)) ≤ suc (length ks)
    by_test true h = omega arith
    by_test false h = omega arith

each-long : (g : ℕ → Act (List ℕ)) (ks : List ℕ) → length (each_of g ks) ≡ length ks
each-long g [] = refl
each-long g (k ∷ ks) = ap suc (each-long g ks)

walks-few : (p : ℕ) → p ≤ 48 → length (walk_steps p) ≤ 115248
walks-few p few =
    let all = length-range_with_len 0 p in
    let os : (k : ℕ) → length (others p k) ≤ 48 = λ k. omega (arith, filter-few (λ j. not (nat_eq j k)) (upto p), all) in
    let row : (k i : ℕ) → length (aparts_in_row p k i) ≤ 48 = λ k i. omega (arith, each-long (apart k i) (others p k), os k) in
    let step : (k : ℕ) → length (walk_step p k) ≤ 2401 = λ k.
    omega (arith, length-append (each_of (beside k) (others p k)) (each_of (below k) (others p k) ++ flat_map (aparts_in_row p k) (others p k)), length-append (each_of (below k) (others p k)) (flat_map (aparts_in_row p k) (others p k)), each-long (beside k) (others p k), each-long (below k) (others p k), flat-length (aparts_in_row p k) 48 (row k) (others p k), os k) in
    omega (arith, flat-length (walk_step p) 2401 step (upto p), all)

pub paths-well : (n tile seed : ℕ) → IsSize n tile seed → IsWell (λ _. true) 0 start (paths_statements n tile seed)
paths-well n tile seed size =
    let p = part_count n tile in
    let h = cut-from n tile seed size in
    let S = ring n p seed in
    let now : IsWalking n p S = record { d = weight n seed; is = ring-is n p seed; ended = refl } in
    let tasks = walk_steps-allowed n p h S now in
    let end = tasks.1 in
    well-from 0 first_line (paths_acts n p seed) start (omega (arith, length-append (walk_steps p) (Print name_D ∷ []), walks-few p h.few)) (
      λ k few. matrix-allowed n p h name_D (Values (weights n seed)) (weights-worded n seed h.some) (scope_of k start) refl (not-full k few) refl refl (none-known name_D),
      all-append (walk_steps p) (Print name_D ∷ []) S tasks.0
          (λ k few. print-allowed n p end.d name_D (scope_of k (run (walk_steps p) S)) refl (not-full k few) (ap (list_any (bytes_eq name_D)) end.ended) (ap (option_map known_of) end.is), tt),
    )
