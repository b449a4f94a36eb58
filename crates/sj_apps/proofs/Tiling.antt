-- Tasks on the tiles of square matrices: what a state's roots are afterwards, each seen as a function of row and column.
use Rattle.std.specs.FinMap as map
use Rattle.std.proofs.Common.{◌≡◌, ℕ, zero, suc, ◌+◌, ◌-◌, ◌/◌, ◌%◌, ◌<◌, ◌≤◌, Bool, true, false, cond, Option, Some, None, List, [], ◌∷◌, ◌++◌, ℤ, pos, unwrap_or, map as each_of, refl, sym, ap, subst, ◌∙◌, arith, bytes_eq}
use Rattle.std.specs.List.{AllByRecursion, filter, flat_map, range_with_len}
use Rattle.std.specs.Cmp.Lexicographic.{nat_list_cmp_total, texts_ties}
use Rattle.std.proofs.lemmas.Simd.{map-map}
use Rattle.sj_base.specs.declared.mode.Mode.TheVariants.{R, RW, Commute}
use Rattle.sj_base.specs.Array.{Array, array, area, element, grid}
use Rattle.sj_base.specs.Window.{in_rect, item, table}
use Rattle.sj_base.proofs.Tables.{item-table, table-same}
use Rattle.sj_codelet.specs.Equations.{fwcol, fwdiag, fwrow, gemm as multiplied, mingemm}
use Rattle.sj_plan.specs.declared.rect.Rect.{Rect}
use Rattle.sj_plan.specs.Parts.{IsPlace}
use Rattle.sj_plan.specs.Rect.{child, rect_dims, holds, place_of}
use Rattle.sj_plan.proofs.Splitting.{part_end}
use Rattle.sj_meaning.specs.declared.job.Kind.TheVariants.{Matrix}
use Rattle.sj_meaning.specs.Act.{Act, Print}
use Rattle.sj_meaning.specs.Meaning.{Printed, apply, root_array, change, child_array, found_by, operand_array, printed_from, prints, seen_by, with_child}
use Rattle.sj_meaning.specs.State.{RootState, JobState, root_of}
use Rattle.sj_meaning.specs.Statement.{Operand}
use Rattle.sj_job.proofs.Seen.{counts_changed}
use Rattle.sj_apps.specs.Generated.{apart, below, beside, cut, diagonal, gemm_act, name_A, name_B, name_C, name_D, numbered, tile_operand, square}

-- ---- acts, one after another

-- the state that acts leave
abbrev pub run : List (Act (List ℕ)) → JobState → JobState
run [] S = S
run (a ∷ rest) S = run rest (apply a S)

pub run-append : (acts more : List (Act (List ℕ))) (S : JobState) → run (acts ++ more) S ≡ run more (run acts S)
run-append [] more S = refl
run-append (a ∷ acts) more S = run-append acts more (apply a S)

-- it prints nothing
abbrev pub IsSilent : Act (List ℕ) → Type 0
IsSilent a = (S : JobState) → prints a S ≡ []

-- acts that print nothing, and then a print statement: what it finds
pub printed-last : (acts : List (Act (List ℕ))) (name : List ℕ) (S : JobState) (line : ℕ) → AllByRecursion IsSilent acts → printed_from S (numbered line (acts ++ Print name ∷ [])) ≡ found_by (run acts S) name ++ []
printed-last [] name S line silent = refl
printed-last (a ∷ acts) name S line silent =
    ap (λ (ps : List Printed). ps ++ printed_from (apply a S) (numbered (line + 1) (acts ++ Print name ∷ []))) (silent.0 S)
    ∙ printed-last acts name (apply a S) (line + 1) silent.1

-- ---- acts for one number after another

run-from : (P : ℕ → JobState → Type 0) (f : ℕ → List (Act (List ℕ))) (a m : ℕ) (S : JobState) → P a S → ((k : ℕ) (T : JobState) → k < a + m → P k T → P (k + 1) (run (f k) T)) → P (a + m) (run (flat_map f (range_with_len a m)) S)
run-from P f a zero S now step = let e : a ≡ a + 0 = omega arith in subst (λ n. P n S) e now
run-from P f a (suc m) S now step =
    let e : a + 1 + m ≡ a + suc m = omega arith in
    subst (λ n. P n (run (f a ++ flat_map f (range_with_len (a + 1) m)) S)) e
    (subst (P (a + 1 + m)) (sym (run-append (f a) (flat_map f (range_with_len (a + 1) m)) S))
    (run-from P f (a + 1) m (run (f a) S) (step a S (omega arith) now) (λ k T h. step k T (omega arith))))

-- what holds after the acts for 0, .., m - 1: P 0 holds before, and the acts for k lead from P k to P (k + 1)
pub run-range : (P : ℕ → JobState → Type 0) (f : ℕ → List (Act (List ℕ))) (m : ℕ) (S : JobState) → P 0 S → ((k : ℕ) (T : JobState) → k < m → P k T → P (k + 1) (run (f k) T)) → P m (run (flat_map f (range_with_len 0 m)) S)
run-range P f m S now step =
    let e : 0 + m ≡ m = omega arith in
    subst (λ n. P n (run (flat_map f (range_with_len 0 m)) S)) e (run-from P f 0 m S now (λ k T h. step k T (omega arith)))

each-alone : (g : ℕ → Act (List ℕ)) (ks : List ℕ) → each_of g ks ≡ flat_map (λ k. g k ∷ []) ks
each-alone g [] = refl
each-alone g (k ∷ ks) = ap (λ acts. g k ∷ acts) (each-alone g ks)

-- the same of one act for each number
pub run-each : (P : ℕ → JobState → Type 0) (g : ℕ → Act (List ℕ)) (m : ℕ) (S : JobState) → P 0 S → ((k : ℕ) (T : JobState) → k < m → P k T → P (k + 1) (apply (g k) T)) → P m (run (each_of g (range_with_len 0 m)) S)
run-each P g m S now step =
    subst (λ acts. P m (run acts S)) (sym (each-alone g (range_with_len 0 m))) (run-range P (λ k. g k ∷ []) m S now step)

-- the acts for a number that passes a test, else none
abbrev kept_acts : (ℕ → Bool) → (ℕ → List (Act (List ℕ))) → ℕ → List (Act (List ℕ))
kept_acts t f k = cond (t k) (f k) []

kept-head : (t : Bool) (k : ℕ) (ks : List ℕ) (f : ℕ → List (Act (List ℕ))) → flat_map f (cond t (k ∷ ks) ks) ≡ cond t (f k) [] ++ flat_map f ks
kept-head true k ks f = refl
kept-head false k ks f = refl

kept-all : (t : ℕ → Bool) (f : ℕ → List (Act (List ℕ))) (ks : List ℕ) → flat_map f (filter t ks) ≡ flat_map (kept_acts t f) ks
kept-all t f [] = refl
kept-all t f (k ∷ ks) = kept-head (t k) k (filter t ks) f ∙ ap (λ acts. kept_acts t f k ++ acts) (kept-all t f ks)

kept-step : (P : ℕ → JobState → Type 0) (f : ℕ → List (Act (List ℕ))) (k : ℕ) (T : JobState) (b : Bool) → (b ≡ true → P (k + 1) (run (f k) T)) → (b ≡ false → P (k + 1) T) → P (k + 1) (run (cond b (f k) []) T)
kept-step P f k T true if_so if_not = if_so refl
kept-step P f k T false if_so if_not = if_not refl

-- the same of the numbers that pass a test
pub run-kept : (P : ℕ → JobState → Type 0) (t : ℕ → Bool) (f : ℕ → List (Act (List ℕ))) (m : ℕ) (S : JobState) → P 0 S → ((k : ℕ) (T : JobState) → k < m → P k T → (t k ≡ true → P (k + 1) (run (f k) T)) × (t k ≡ false → P (k + 1) T)) → P m (run (flat_map f (filter t (range_with_len 0 m))) S)
run-kept P t f m S now step =
    subst (λ acts. P m (run acts S)) (sym (kept-all t f (range_with_len 0 m)))
    (run-range P (kept_acts t f) m S now (λ k T h p. let s = step k T h p in kept-step P f k T (t k) s.0 s.1))

pub run-each_kept : (P : ℕ → JobState → Type 0) (t : ℕ → Bool) (g : ℕ → Act (List ℕ)) (m : ℕ) (S : JobState) → P 0 S → ((k : ℕ) (T : JobState) → k < m → P k T → (t k ≡ true → P (k + 1) (apply (g k) T)) × (t k ≡ false → P (k + 1) T)) → P m (run (each_of g (filter t (range_with_len 0 m))) S)
run-each_kept P t g m S now step =
    subst (λ acts. P m (run acts S)) (sym (each-alone g (filter t (range_with_len 0 m)))) (run-kept P t (λ k. g k ∷ []) m S now step)

-- ---- tables

-- ---- matrices

-- a root that is a matrix of n by n under a plan of p by p parts, with f i j in row i and column j
abbrev pub root : ℕ → ℕ → (ℕ → ℕ → ℤ) → RootState
root n p f = record { kind = Matrix; dims = square n; parts = cut p; reduction = None; elements = table (square n) (λ i j. Some (f i j)) }

-- its array
pub root-array : (n p : ℕ) (f : ℕ → ℕ → ℤ) → root_array (root n p f) ≡ grid (square n) f
root-array n p f = ap (array (square n)) (map-map (λ (e : Option ℤ). unwrap_or e (pos 0)) (λ q. Some (f (q / n) (q % n))) (range_with_len 0 (area (square n))))

-- the rectangle of a tile
abbrev pub rect : ℕ → ℕ → ℕ × ℕ → Rect
rect n p place = child (square n) (cut p) place

-- it lies in the matrix
pub rect-inside : (n p : ℕ) (place : ℕ × ℕ) → IsPlace (cut p) place → ((rect n p place).row + (rect n p place).rows ≤ n) × ((rect n p place).col + (rect n p place).cols ≤ n)
rect-inside n p place at = (part_end n p place.0 at.0, part_end n p place.1 at.1)

-- the tile of a matrix, as an array
abbrev pub tile : ℕ → ℕ → (ℕ → ℕ → ℤ) → ℕ × ℕ → Array
tile n p f place = grid (rect_dims (rect n p place)) (λ i j. f ((rect n p place).row + i) ((rect n p place).col + j))

-- f, but in a tile the elements of an array
abbrev pub with_tile : ℕ → ℕ → ℕ × ℕ → Array → (ℕ → ℕ → ℤ) → ℕ → ℕ → ℤ
with_tile n p place a f i j =
    cond (holds (rect n p place) i j) (element a (i - (rect n p place).row) (j - (rect n p place).col)) (f i j)

tile-seen : (n p : ℕ) (f : ℕ → ℕ → ℤ) (place : ℕ × ℕ) → IsPlace (cut p) place → child_array (root n p f) place ≡ tile n p f place
tile-seen n p f place at =
    let r = rect n p place in
    let inside = rect-inside n p place at in
    let es = table (square n) (λ i j. Some (f i j)) in
    ap (array (rect_dims r)) (map-map (λ (e : Option ℤ). unwrap_or e (pos 0)) (λ q. item None n es (r.row + q / r.cols) (r.col + q % r.cols)) (range_with_len 0 (area (rect_dims r)))
    ∙ table-same (pos 0) (rect_dims r) (λ i j. unwrap_or (item None n es (r.row + i) (r.col + j)) (pos 0)) (λ i j. f (r.row + i) (r.col + j)) (λ i j hi hj.
    ap (λ (e : Option ℤ). unwrap_or e (pos 0)) (item-table None (square n) (λ i j. Some (f i j)) (r.row + i) (r.col + j) (omega (arith, inside.0)) (omega (arith, inside.1)))))

some_of : (b : Bool) (x y : ℤ) (o : Option ℤ) → o ≡ Some y → cond b (Some x) o ≡ Some (cond b x y)
some_of true x y o e = refl
some_of false x y o e = e

tile-put : (n p : ℕ) (f : ℕ → ℕ → ℤ) (place : ℕ × ℕ) (a : Array) → with_child place a (root n p f) ≡ root n p (with_tile n p place a f)
tile-put n p f place a =
    let r = rect n p place in
    let es = table (square n) (λ i j. Some (f i j)) in
    ap (λ (xs : List (Option ℤ)). record { kind = Matrix; dims = square n; parts = cut p; reduction = None; elements = xs })
    (table-same None (square n) (λ i j. cond (in_rect (place_of r) (rect_dims r) i j) (Some (element a (i - r.row) (j - r.col))) (item None n es i j)) (λ i j. Some (with_tile n p place a f i j)) (λ i j hi hj.
    some_of (holds r i j) (element a (i - r.row) (j - r.col)) (f i j) (item None n es i j) (item-table None (square n) (λ i j. Some (f i j)) i j hi hj)))

-- ---- a state's roots

root-changed : (f : RootState → RootState) (name q : List ℕ) (S : JobState) (r : RootState) → root_of S name ≡ Some r → root_of (change f name S) q ≡ cond (bytes_eq q name) (Some (f r)) (root_of S q)
root-changed f name q S r e =
    ap (λ (o : Option RootState). root_of (elim o as (λ _. JobState) [
      | None ↦ S
      | Some r ↦ record { registered = S.registered; ended = S.ended; roots = map.insert S.roots name (f r) }
    ]) q) e
    ∙ map.get-insert nat_list_cmp_total S.roots name (f r) q ∙ ap (λ b. cond b (Some (f r)) (root_of S q)) (sym (texts_ties q name))

-- what is kept of a state by a task: how many names were registered, and which were ended
pub record KeepsNames (old new : JobState) : Type 0 where
  pub registered : new.registered ≡ old.registered
  pub ended : new.ended ≡ old.ended

change-keeps : (f : RootState → RootState) (name : List ℕ) (S : JobState) → KeepsNames S (change f name S)
change-keeps f name S = let same = counts_changed f S name in record { registered = same.0; ended = same.1 }

-- the matrix of that name
abbrev pub IsMatrix : ℕ → ℕ → JobState → List ℕ → (ℕ → ℕ → ℤ) → Type 0
IsMatrix n p S name f = root_of S name ≡ Some (root n p f)

pub tile-of : (n p : ℕ) (S : JobState) (name : List ℕ) (f : ℕ → ℕ → ℤ) (place : ℕ × ℕ) → IsPlace (cut p) place → IsMatrix n p S name f → (o : Operand (List ℕ)) → o.name ≡ name → o.place ≡ place → seen_by o.mode (root n p f) o.place ≡ child_array (root n p f) o.place → operand_array S o ≡ tile n p f place
tile-of n p S name f place at is o named placed reads =
    ap (λ (x : Option RootState). elim x as (λ _. Array) [ None ↦ array (record { rows = 0; cols = 0 }) [] | Some r ↦ seen_by o.mode r o.place ]) (ap (root_of S) named ∙ is)
    ∙ reads ∙ ap (child_array (root n p f)) placed ∙ tile-seen n p f place at

-- what a written tile does to its matrix, and to others
pub written-here : (n p : ℕ) (S : JobState) (name : List ℕ) (f : ℕ → ℕ → ℤ) (place : ℕ × ℕ) (a : Array) → bytes_eq name name ≡ true → IsMatrix n p S name f → IsMatrix n p (change (with_child place a) name S) name (with_tile n p place a f)
written-here n p S name f place a same is =
    root-changed (with_child place a) name name S (root n p f) is
    ∙ ap (λ b. cond b (Some (with_child place a (root n p f))) (root_of S name)) same ∙ ap Some (tile-put n p f place a)

written-there : (n p : ℕ) (S : JobState) (name q : List ℕ) (f : ℕ → ℕ → ℤ) (place : ℕ × ℕ) (a : Array) → bytes_eq q name ≡ false → IsMatrix n p S name f → root_of (change (with_child place a) name S) q ≡ root_of S q
written-there n p S name q f place a apart is =
    root-changed (with_child place a) name q S (root n p f) is
    ∙ ap (λ b. cond b (Some (with_child place a (root n p f))) (root_of S q)) apart

-- ---- the tasks of walks: D is afterwards so, and no name comes or goes

-- D becomes this matrix
pub record Becomes (n p : ℕ) (old new : JobState) (g : ℕ → ℕ → ℤ) : Type 0 where
  pub is : IsMatrix n p new name_D g
  pub keeps : KeepsNames old new

put-D : (n p : ℕ) (S : JobState) (f : ℕ → ℕ → ℤ) (place : ℕ × ℕ) (a b : Array) → a ≡ b → IsMatrix n p S name_D f → Becomes n p S (change (with_child place a) name_D S) (with_tile n p place b f)
put-D n p S f place a b e is =
    subst (λ (x : Array). Becomes n p S (change (with_child place a) name_D S) (with_tile n p place x f)) e (record {
      is = written-here n p S name_D f place a refl is;
      keeps = change-keeps (with_child place a) name_D S;
    })

pub diagonal-run : (n p k : ℕ) (S : JobState) (f : ℕ → ℕ → ℤ) → k < p → IsMatrix n p S name_D f → Becomes n p S (apply (diagonal k) S) (with_tile n p (k, k) (fwdiag (tile n p f (k, k))) f)
diagonal-run n p k S f h is =
    put-D n p S f (k, k) _ _ (ap fwdiag (tile-of n p S name_D f (k, k) (h, h) is (tile_operand name_D k k RW) refl refl refl)) is

pub beside-run : (n p k j : ℕ) (S : JobState) (f : ℕ → ℕ → ℤ) → k < p → j < p → IsMatrix n p S name_D f → Becomes n p S (apply (beside k j) S) (with_tile n p (k, j) (fwrow (tile n p f (k, k)) (tile n p f (k, j))) f)
beside-run n p k j S f hk hj is =
    put-D n p S f (k, j) _ _ (λ i. fwrow (tile-of n p S name_D f (k, k) (hk, hk) is (tile_operand name_D k k R) refl refl refl i) (tile-of n p S name_D f (k, j) (hk, hj) is (tile_operand name_D k j RW) refl refl refl i)) is

pub below-run : (n p k i : ℕ) (S : JobState) (f : ℕ → ℕ → ℤ) → k < p → i < p → IsMatrix n p S name_D f → Becomes n p S (apply (below k i) S) (with_tile n p (i, k) (fwcol (tile n p f (k, k)) (tile n p f (i, k))) f)
below-run n p k i S f hk hi is =
    put-D n p S f (i, k) _ _ (λ t. fwcol (tile-of n p S name_D f (k, k) (hk, hk) is (tile_operand name_D k k R) refl refl refl t) (tile-of n p S name_D f (i, k) (hi, hk) is (tile_operand name_D i k RW) refl refl refl t)) is

pub apart-run : (n p k i j : ℕ) (S : JobState) (f : ℕ → ℕ → ℤ) → k < p → i < p → j < p → IsMatrix n p S name_D f → Becomes n p S (apply (apart k i j) S) (with_tile n p (i, j) (mingemm (tile n p f (i, k)) (tile n p f (k, j)) (tile n p f (i, j))) f)
apart-run n p k i j S f hk hi hj is =
    put-D n p S f (i, j) _ _ (λ t. mingemm (tile-of n p S name_D f (i, k) (hi, hk) is (tile_operand name_D i k R) refl refl refl t) (tile-of n p S name_D f (k, j) (hk, hj) is (tile_operand name_D k j R) refl refl refl t) (tile-of n p S name_D f (i, j) (hi, hj) is (tile_operand name_D i j RW) refl refl refl t)) is

-- ---- the task of products

-- A, B and C are these matrices
pub record AreMatrices (n p : ℕ) (S : JobState) (f g h : ℕ → ℕ → ℤ) : Type 0 where
  pub first : IsMatrix n p S name_A f
  pub second : IsMatrix n p S name_B g
  pub third : IsMatrix n p S name_C h

-- C becomes this matrix; A and B stay
pub record BecomesC (n p : ℕ) (old new : JobState) (f g h : ℕ → ℕ → ℤ) : Type 0 where
  pub are : AreMatrices n p new f g h
  pub keeps : KeepsNames old new

put-C : (n p : ℕ) (S : JobState) (f g h : ℕ → ℕ → ℤ) (place : ℕ × ℕ) (a b : Array) → a ≡ b → AreMatrices n p S f g h → BecomesC n p S (change (with_child place a) name_C S) f g (with_tile n p place b h)
put-C n p S f g h place a b e are =
    subst (λ (x : Array). BecomesC n p S (change (with_child place a) name_C S) f g (with_tile n p place x h)) e (record {
      are = record {
        first = written-there n p S name_C name_A h place a refl are.third ∙ are.first;
        second = written-there n p S name_C name_B h place a refl are.third ∙ are.second;
        third = written-here n p S name_C h place a refl are.third;
      };
      keeps = change-keeps (with_child place a) name_C S;
    })

pub gemm-run : (n p i j k : ℕ) (S : JobState) (f g h : ℕ → ℕ → ℤ) → i < p → j < p → k < p → AreMatrices n p S f g h → BecomesC n p S (apply (gemm_act i j k) S) f g (with_tile n p (i, j) (multiplied (tile n p f (i, k)) (tile n p g (k, j)) (tile n p h (i, j))) h)
gemm-run n p i j k S f g h hi hj hk are =
    put-C n p S f g h (i, j) _ _ (λ t. multiplied (tile-of n p S name_A f (i, k) (hi, hk) are.first (tile_operand name_A i k R) refl refl refl t) (tile-of n p S name_B g (k, j) (hk, hj) are.second (tile_operand name_B k j R) refl refl refl t) (tile-of n p S name_C h (i, j) (hi, hj) are.third (tile_operand name_C i j Commute) refl refl refl t)) are
