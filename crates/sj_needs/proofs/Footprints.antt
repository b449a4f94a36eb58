-- A task's footprint, one operand after another.
use Rattle.std.proofs.Common.{◌≡◌, ℕ, suc, ◌+◌, ◌<◌, length, get_or, drop, subst, add-one, drop-cons, Bool, true, false, not, cond, ◌&&◌, ◌||◌, List, [], ◌∷◌, map, filter, sum_by, refl, sym, ap, ◌∙◌, arith}
use Rattle.std.proofs.lemmas.List.Sums.{sum_by-cons}
use Rattle.sj_base.specs.Mode.{is_data, is_scratch}
use Rattle.sj_base.specs.declared.ids.Cell.{Cell}
use Rattle.sj_base.specs.declared.mode.Access.{Access}
use Rattle.sj_base.specs.declared.program.Program.{Program}
use Rattle.sj_core.specs.Needs.{tile_bytes}
use Rattle.sj_core.specs.Program.{distinct, has_cell, same_cell}
use Rattle.sj_needs.specs.Operands.{bytes_before, is_accessed}

-- the cells of the operands that are accesses to data
abbrev pub accessed : List Access → List Cell
accessed accesses = map (λ a. a.cell) (filter (λ a. is_data a.mode) accesses)

abbrev pub scratch_of : Program → List Access → ℕ
scratch_of p accesses = sum_by (λ a. tile_bytes p a.cell) (filter (λ a. is_scratch a.mode) accesses)

-- the bytes that operands need together
abbrev pub needs : Program → List Access → ℕ
needs p accesses = sum_by (tile_bytes p) (distinct (accessed accesses)) + scratch_of p accesses

accessed-has : (accesses : List Access) (c : Cell) → is_accessed accesses c ≡ has_cell (accessed accesses) c
accessed-has [] c = refl
accessed-has (a ∷ more) c = by_mode (is_scratch a.mode) (accessed-has more c)
  where
    by_mode : (b : Bool) → is_accessed more c ≡ has_cell (accessed more) c → ((not b && same_cell a.cell c) || is_accessed more c) ≡ has_cell (map (λ (x : Access). x.cell) (cond (not b) (a ∷ filter (λ x. is_data x.mode) more) (filter (λ x. is_data x.mode) more))) c
    by_mode true later = later
    by_mode false later = ap (λ (x : Bool). same_cell a.cell c || x) later

-- the first operand needs what it needs before the others
pub needs-cons : (p : Program) (a : Access) (more : List Access) → needs p (a ∷ more) ≡ bytes_before p more a + needs p more
needs-cons p a more = by_mode (is_scratch a.mode) ∙ ap (λ (h : Bool). cond (is_data a.mode && h) 0 (tile_bytes p a.cell) + needs p more) (sym (accessed-has more a.cell))
  where
    by_has : (h : Bool) (s : ℕ) → sum_by (tile_bytes p) (cond h (distinct (accessed more)) (a.cell ∷ distinct (accessed more))) + s ≡ cond h 0 (tile_bytes p a.cell) + (sum_by (tile_bytes p) (distinct (accessed more)) + s)
    by_has true s = omega arith
    by_has false s = let first : sum_by (tile_bytes p) (a.cell ∷ distinct (accessed more)) ≡ tile_bytes p a.cell + sum_by (tile_bytes p) (distinct (accessed more)) = sum_by-cons (tile_bytes p) a.cell (distinct (accessed more)) in omega (arith, first)

    by_mode : (b : Bool) → sum_by (tile_bytes p) (distinct (map (λ (x : Access). x.cell) (cond (not b) (a ∷ filter (λ x. is_data x.mode) more) (filter (λ x. is_data x.mode) more)))) + sum_by (λ (x : Access). tile_bytes p x.cell) (cond b (a ∷ filter (λ x. is_scratch x.mode) more) (filter (λ x. is_scratch x.mode) more)) ≡ cond (not b && has_cell (accessed more) a.cell) 0 (tile_bytes p a.cell) + needs p more
    by_mode true = let first = sum_by-cons (λ (x : Access). tile_bytes p x.cell) a (filter (λ x. is_scratch x.mode) more) in omega (arith, first)
    by_mode false = by_has (has_cell (accessed more) a.cell) (scratch_of p more)

-- the same of the operand at an index, with those behind it
pub needs-from : (p : Program) (xs : List Access) (i : ℕ) (d : Access) → i < length xs → needs p (drop i xs) ≡ bytes_before p (drop (i + 1) xs) (get_or xs i d) + needs p (drop (i + 1) xs)
needs-from p xs i d below =
    subst (λ (n : ℕ). needs p (drop i xs) ≡ bytes_before p (drop n xs) (get_or xs i d) + needs p (drop n xs)) (sym (add-one i))
    (ap (needs p) (drop-cons xs i d below) ∙ needs-cons p (get_or xs i d) (drop (suc i) xs))
