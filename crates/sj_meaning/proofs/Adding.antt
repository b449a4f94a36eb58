-- A name that is new goes behind the others.
use Rattle.std.proofs.Common.{◌≡◌, ℕ, ◌+◌, ◌<◌, ◌≤◌, Bool, true, false, List, [], ◌∷◌, ◌++◌, length, map, get_or, nat_lt, position, Option, Some, None, option_map, cond, refl, ap, sym, ◌∙◌, arith, length-append, bytes_eq}
use Rattle.std.proofs.Math.Seq.{get_or-append_seam}
use Rattle.std.specs.List.{position_or_len, list_any}
use Rattle.std.proofs.lemmas.List.{get_or_append_left, map-append}
use Rattle.std.proofs.lemmas.List.Folds.{Any-from_list_any}
use Rattle.std.proofs.lemmas.List.Sums.{fails_before_first}
use Rattle.std.proofs.lemmas.Slice.Eq.{bytes_eq-Decides}
use Rattle.std.proofs.lemmas.Bool.Decides.{nat_tests}
use Rattle.sj_base.proofs.Lists.{list_any-map}
use Rattle.indexmap.specs.IndexSet.{insert_key}
use Rattle.sj_meaning.specs.declared.job.RootInfo.{RootInfo}
use Rattle.sj_meaning.specs.Table.{Table, a_root, root_in, with_root, AreDistinct, IsTable}

-- ---- where no name is found

pub past-all : {X : Type 0} (p : X → Bool) (xs : List X) → position p xs ≡ None → length xs ≤ position_or_len p xs
past-all p xs e = by_test (nat_lt (position_or_len p xs) (length xs)) refl e
  where
    by_test : (t : Bool) → nat_lt (position_or_len p xs) (length xs) ≡ t → cond t (Some (position_or_len p xs)) None ≡ None → length xs ≤ position_or_len p xs
    by_test true t h = absurd (cc)
    by_test false t h = grind (arith, nat_tests)

pub no-place : (T : Table) (q : List ℕ) → root_in T q ≡ None → position (bytes_eq q) T.names ≡ None
no-place T q e = by_place (position (bytes_eq q) T.names) e
  where
    by_place : (o : Option ℕ) → option_map a_root o ≡ None → o ≡ None
    by_place None h = refl
    by_place (Some i) h = absurd (cc)

other-at : (q : List ℕ) (names : List (List ℕ)) (k : ℕ) → position (bytes_eq q) names ≡ None → k < length names → bytes_eq q (get_or names k []) ≡ false
other-at q names k e lt = fails_before_first (bytes_eq q) names k [] (omega (arith, past-all (bytes_eq q) names e))

none-any : {X : Type 0} (p : X → Bool) (xs : List X) → position p xs ≡ None → list_any p xs ≡ false
none-any p xs e = by_any (list_any p xs) refl
  where
    by_any : (b : Bool) → list_any p xs ≡ b → b ≡ false
    by_any false h = refl
    by_any true h =
        let a = Any-from_list_any p xs h in
        let passes : p (get_or xs a.0 a.1) ≡ true = ap p a.3 ∙ a.4 in
        let fails : p (get_or xs a.0 a.1) ≡ false = fails_before_first p xs a.0 a.1 (omega (arith, past-all p xs e, a.2)) in
        absurd (cc)

-- a value whose text is new goes last
pub key-added : {V : Type 0} (f : V → List ℕ) (ks : List V) (v : V) → position (bytes_eq (f v)) (map f ks) ≡ None → map f (insert_key (λ x y. bytes_eq (f x) (f y)) ks v) ≡ map f ks ++ f v ∷ []
key-added f ks v e =
    ap (λ b. map f (cond b ks (ks ++ v ∷ []))) (sym (list_any-map (bytes_eq (f v)) f ks) ∙ none-any (bytes_eq (f v)) (map f ks) e)
    ∙ map-append f ks (v ∷ [])

-- ---- a table with a root more

distinct-pushed : (names : List (List ℕ)) (name : List ℕ) → AreDistinct names → position (bytes_eq name) names ≡ None → AreDistinct (names ++ name ∷ [])
distinct-pushed names name d e i j li lj same = by_tests (nat_lt i (length names)) (nat_lt j (length names)) refl refl
  where
    longer : length (names ++ name ∷ []) ≡ length names + 1
    longer = length-append names (name ∷ [])

    last : (k : ℕ) → k ≡ length names → get_or (names ++ name ∷ []) k [] ≡ name
    last k h = ap (λ n. get_or (names ++ name ∷ []) n []) h ∙ get_or-append_seam names name [] []

    left : (k : ℕ) → k < length names → get_or (names ++ name ∷ []) k [] ≡ get_or names k []
    left k lt = get_or_append_left names (name ∷ []) [] k lt

    apart : (k : ℕ) → k < length names → get_or names k [] ≡ name → ⊥
    apart k lt h =
        let is : bytes_eq name (get_or names k []) ≡ true = (bytes_eq-Decides name (get_or names k [])).1 (sym h) in
        let isn't : bytes_eq name (get_or names k []) ≡ false = other-at name names k e lt in
        absurd (cc)

    by_tests : (s t : Bool) → nat_lt i (length names) ≡ s → nat_lt j (length names) ≡ t → i ≡ j
    by_tests true true s t =
        let lt : i < length names = grind (arith, nat_tests) in
        let lu : j < length names = grind (arith, nat_tests) in
        d i j lt lu (sym (left i lt) ∙ same ∙ left j lu)
    by_tests true false s t =
        let lt : i < length names = grind (arith, nat_tests) in
        let le : length names ≤ j = grind (arith, nat_tests) in
        absurd (apart i lt (sym (left i lt) ∙ same ∙ last j (omega (arith, longer, le, lj))))
    by_tests false true s t =
        let lu : j < length names = grind (arith, nat_tests) in
        let le : length names ≤ i = grind (arith, nat_tests) in
        absurd (apart j lu (sym (left j lu) ∙ sym same ∙ last i (omega (arith, longer, le, li))))
    by_tests false false s t =
        let le : length names ≤ i = grind (arith, nat_tests) in
        let lf : length names ≤ j = grind (arith, nat_tests) in
        omega (arith, longer, le, lf, li, lj)

pub table-pushed : (T : Table) (name : List ℕ) (info : RootInfo) → IsTable T → length T.names < 4096 → root_in T name ≡ None → IsTable (with_root name info T)
table-pushed T name info h few e = (
  omega (arith, length-append T.infos (info ∷ []), length-append T.names (name ∷ []), h.0),
  omega (arith, length-append T.names (name ∷ [])),
  distinct-pushed T.names name h.2 (no-place T name e),
)
