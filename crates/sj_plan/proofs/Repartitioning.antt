-- The pastes of two plans are the copies between their children, so applied in order to the old plan's they make the new plan's.
use Rattle.std.proofs.Common.{◌≡◌, ℕ, Bool, true, ◌&&◌, eqb, List, [], ◌∷◌, ◌++◌, map, sym, ap, refl, ◌∙◌, subst}
use Rattle.std.specs.List.{All, Any, AllByRecursion, filter, flat_map, list_any}
use Rattle.std.proofs.lemmas.Bool.{and_from, and_parts, eqb-true, eq-eqb}
use Rattle.std.proofs.lemmas.List.{map-append}
use Rattle.std.proofs.lemmas.List.Elements.{All-from_recursion}
use Rattle.std.proofs.lemmas.List.Folds.{Any-from_list_any}
use Rattle.std.proofs.lemmas.Simd.{map-map}
use Rattle.sj_base.specs.declared.tile.Dims.{Dims}
use Rattle.sj_base.specs.Array.{Array}
use Rattle.sj_base.proofs.Lists.{list_any-map, list_any-filter}
use Rattle.sj_base.proofs.Numbers.{same_pair}
use Rattle.sj_plan.specs.declared.parts.Parts.{Parts}
use Rattle.sj_plan.specs.declared.paste.Paste.{Paste}
use Rattle.sj_plan.specs.Parts.{Fits, IsPlace, places}
use Rattle.sj_plan.specs.Pieces.{has_elements, copies_to, copies, all_copied, after_copies, BeginOnce}
use Rattle.sj_plan.specs.Rect.{child, Overlap, rect_dims, Within}
use Rattle.sj_plan.specs.Window.{window, IsWhole}
use Rattle.sj_plan.specs.Paste.{pieces, paste_copy, paste_at, overlaps, pastes_to, pastes_of, same_child_place, BeginEachOnce, Children, AreWindows, Repartition, IsPasteBetween, Joins}
use Rattle.sj_plan.proofs.Copying.{copies_to-begin, copies-repartition, copies_to-make, going-one, Overlap-from_test, has_elements-true, copy_between-within}
use Rattle.sj_plan.proofs.Lists.{each-map, each-flat_map, each-filter, each-places, any-flat_map, any-places, count_places, map-filter}
use Rattle.sj_plan.proofs.Splitting.{part_end, part_len-positive}
use Rattle.sj_plan.proofs.Tiling.{children_of-tiling, children_of-order}

-- ---- pastes as copies

pub same_child_place-law : (x y : ℕ × ℕ) → same_child_place x y ≡ true → x ≡ y
same_child_place-law x y h =
    let both = and_parts (eqb x.0 y.0) (eqb x.1 y.1) h in
    same_pair x y (eqb-true x.0 y.0 both.0) (eqb-true x.1 y.1 both.1)

pub same_child_place-refl : (x : ℕ × ℕ) → same_child_place x x ≡ true
same_child_place-refl x = and_from _ _ (eq-eqb x.0 x.0 refl) (eq-eqb x.1 x.1 refl)

pub pastes_to-copies : (d : Dims) (old new : Parts) (to : ℕ × ℕ) → map paste_copy (pastes_to d old new to) ≡ copies_to (pieces d old) (pieces d new) to
pastes_to-copies d old new to =
    map-filter paste_copy has_elements (map (λ from. paste_at d old new from to) (places old)) ∙ ap (filter has_elements) (map-map paste_copy (λ from. paste_at d old new from to) (places old))

pastes-copies : (d : Dims) (old new : Parts) (tos : List (ℕ × ℕ)) → map paste_copy (flat_map (pastes_to d old new) tos) ≡ flat_map (copies_to (pieces d old) (pieces d new)) tos
pastes-copies d old new [] = refl
pastes-copies d old new (to ∷ tos) =
    map-append paste_copy (pastes_to d old new to) (flat_map (pastes_to d old new) tos) ∙ ap (λ cs. cs ++ map paste_copy (flat_map (pastes_to d old new) tos)) (pastes_to-copies d old new to)
    ∙ ap (λ cs. copies_to (pieces d old) (pieces d new) to ++ cs) (pastes-copies d old new tos)

pub pastes_of-copies : (d : Dims) (old new : Parts) → map paste_copy (pastes_of d old new) ≡ copies (pieces d old) (pieces d new)
pastes_of-copies d old new = pastes-copies d old new (places new)

pub child-within : (d : Dims) (p : Parts) (place : ℕ × ℕ) → IsPlace p place → Within (child d p place) d
child-within d p place inside = (part_end d.rows p.r place.0 inside.0, part_end d.cols p.c place.1 inside.1)

pastes_to-begin : (d : Dims) (old new : Parts) (to : ℕ × ℕ) → Fits old d → Fits new d → IsPlace new to → BeginOnce (copies_to (pieces d old) (pieces d new) to)
pastes_to-begin d old new to fits_old fits_new place =
    copies_to-begin (pieces d old) (pieces d new) to (part_len-positive d.rows new.r to.0 fits_new.some_rows fits_new.rows) (part_len-positive d.cols new.c to.1 fits_new.some_cols fits_new.cols) d (children_of-tiling d old fits_old) (children_of-order d old) (child-within d new to place)

are-each : (d : Dims) (p : Parts) (a : Array) (children : Children) → AreWindows d p a children → AllByRecursion (λ place. children place ≡ window a (child d p place)) (places p)
are-each d p a children are = each-places (λ place. children place ≡ window a (child d p place)) p are

-- ---- what the pastes make

-- the pastes to one new child make its window of the array
pub pastes_to-make : (d : Dims) (old new : Parts) (to : ℕ × ℕ) (a : Array) (before : Children) (after : Array) → Fits old d → Fits new d → IsPlace new to → AreWindows d old a before → IsWhole after → after.dims ≡ rect_dims (child d new to)
    → all_copied before after (map paste_copy (pastes_to d old new to)) ≡ window a (child d new to)
pastes_to-make d old new to a before after fits_old fits_new place are whole dims =
    ap (all_copied before after) (pastes_to-copies d old new to)
    ∙ copies_to-make d (pieces d old) (pieces d new) to a before after (children_of-tiling d old fits_old) (children_of-order d old) (child-within d new to place) (part_len-positive d.rows new.r to.0 fits_new.some_rows fits_new.rows) (part_len-positive d.cols new.c to.1 fits_new.some_cols fits_new.cols) (are-each d old a before are) whole dims

pub pastes_of-repartition : (d : Dims) (old new : Parts) → Fits old d → Fits new d → Repartition d old new (pastes_of d old new)
pastes_of-repartition d old new fits_old fits_new a before after are blank to place =
    ap (λ cs. after_copies same_child_place before after cs to) (pastes_of-copies d old new)
    ∙ copies-repartition same_child_place same_child_place-law d (pieces d old) (pieces d new) to a before after (count_places new to place) (children_of-tiling d old fits_old) (children_of-order d old) (child-within d new to place) (part_len-positive d.rows new.r to.0 fits_new.some_rows fits_new.rows) (part_len-positive d.cols new.c to.1 fits_new.some_cols fits_new.cols) (are-each d old a before are) (blank to place).0 (blank to place).1

pub pastes_of-begin : (d : Dims) (old new : Parts) → Fits old d → Fits new d → BeginEachOnce new (pastes_of d old new)
pastes_of-begin d old new fits_old fits_new to place =
    let going = map-filter paste_copy (λ c. same_child_place to c.to) (pastes_of d old new) ∙ ap (filter (λ c. same_child_place to c.to)) (pastes_of-copies d old new) ∙ going-one same_child_place same_child_place-law (pieces d old) (pieces d new) to (places new) (count_places new to place) in
    subst BeginOnce (sym going) (pastes_to-begin d old new to fits_old fits_new place)

-- ---- which pastes there are

-- what holds of the paste of each pair that overlaps holds of each paste
each-pastes_of : (Q : Paste → Type 0) (d : Dims) (old new : Parts) → ((from to : ℕ × ℕ) → IsPlace old from → IsPlace new to → overlaps (paste_at d old new from to) ≡ true → Q (paste_at d old new from to)) → AllByRecursion Q (pastes_of d old new)
each-pastes_of Q d old new h =
    let R : Paste → Type 0 = λ p. overlaps p ≡ true → Q p in
    each-flat_map Q (pastes_to d old new) (places new) (each-places (λ to. AllByRecursion Q (pastes_to d old new to)) new (λ to in_new.
    each-filter Q overlaps (map (λ from. paste_at d old new from to) (places old)) (each-map R (λ from. paste_at d old new from to) (places old) (each-places (λ from. R (paste_at d old new from to)) old (λ from in_old. h from to in_old in_new)))))

pub pastes_of-between : (d : Dims) (old new : Parts) → All (IsPasteBetween d old new) (pastes_of d old new)
pastes_of-between d old new =
    All-from_recursion (IsPasteBetween d old new) (pastes_of d old new) (each-pastes_of (IsPasteBetween d old new) d old new (λ from to in_old in_new meets.
    let inside = copy_between-within (pieces d old) (pieces d new) from to meets in
    record { from = in_old; to = in_new; rows = inside.0; cols = inside.1; in_old = inside.2; in_new = inside.3 }))

abbrev joins : ℕ × ℕ → ℕ × ℕ → Paste → Bool
joins from to p = same_child_place p.from from && same_child_place p.to to

Joins-from_true : (from to : ℕ × ℕ) (p : Paste) → joins from to p ≡ true → Joins from to p
Joins-from_true from to p h =
    let both = and_parts (same_child_place p.from from) (same_child_place p.to to) h in
    (same_child_place-law p.from from both.0, same_child_place-law p.to to both.1)

-- a pair that overlaps has its paste
any-joins : (d : Dims) (old new : Parts) (from to : ℕ × ℕ) → IsPlace old from → IsPlace new to → overlaps (paste_at d old new from to) ≡ true → list_any (joins from to) (pastes_of d old new) ≡ true
any-joins d old new from to in_old in_new meets =
    let t = joins from to in
    let made = λ (to : ℕ × ℕ) (from : ℕ × ℕ). paste_at d old new from to in
    any-flat_map t (pastes_to d old new) (places new)
    ∙ any-places (λ to. list_any t (pastes_to d old new to)) new to in_new (list_any-filter t overlaps (map (made to) (places old)) ∙ list_any-map (λ p. overlaps p && t p) (made to) (places old)
    ∙ any-places (λ from. overlaps (made to from) && t (made to from)) old from in_old (and_from _ _ meets (and_from _ _ (same_child_place-refl from) (same_child_place-refl to))))

-- there is a paste for just the pairs that have an element in common
pub pastes_of-exactly : (d : Dims) (old new : Parts) (from to : ℕ × ℕ) → IsPlace old from → IsPlace new to → (Any (Joins from to) (pastes_of d old new) → Overlap (child d old from) (child d new to)) × (Overlap (child d old from) (child d new to) → Any (Joins from to) (pastes_of d old new))
pastes_of-exactly d old new from to in_old in_new =
    let Q : Paste → Type 0 = λ p. Overlap (child d old p.from) (child d new p.to) in
    let all = All-from_recursion Q (pastes_of d old new) (each-pastes_of Q d old new (λ from to _ _ meets. Overlap-from_test (pieces d old) (pieces d new) from to meets)) in (
      λ found.
          let p = found.1 in
          let here : Q p = subst Q found.3 (all found.0 p found.2) in
          subst (λ (y : ℕ × ℕ). Overlap (child d old from) (child d new y)) found.4.1 (subst (λ (x : ℕ × ℕ). Overlap (child d old x) (child d new p.to)) found.4.0 here),
      λ common.
          let found = Any-from_list_any (joins from to) (pastes_of d old new) (any-joins d old new from to in_old in_new (has_elements-true (pieces d old) (pieces d new) from to common)) in
          (found.0, found.1, found.2, found.3, Joins-from_true from to found.1 found.4),
    )
