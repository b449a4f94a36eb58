-- The sizes of generated jobs, and the matrices that their registrations make.
use Rattle.std.specs.FinMap as map
use Rattle.std.proofs.Common.{◌≡◌, ℕ, ◌+◌, ◌-◌, ◌*◌, ◌/◌, ◌%◌, ◌<◌, ◌≤◌, cond, Option, Some, None, List, [], ◌∷◌, ℤ, pos, negsuc, ◌+ℤ◌, ◌*ℤ◌, map as each_of, sym, ap, ◌∙◌, arith, bytes_eq}
use Rattle.std.specs.List.{range_with_len}
use Rattle.std.specs.Cmp.Lexicographic.{nat_list_cmp_total, texts_ties}
use Rattle.std.proofs.lemmas.Nat.{div-add-mod', div_below, le-div, mul-le}
use Rattle.std.proofs.lemmas.Simd.{map-map}
use Rattle.sj_codelet.specs.Ring.{wrap}
use Rattle.sj_meaning.specs.declared.job.Kind.TheVariants.{Matrix}
use Rattle.sj_meaning.specs.declared.job.Init.{Init}
use Rattle.sj_meaning.specs.declared.job.Init.TheVariants.{Values, Fill}
use Rattle.sj_meaning.specs.Meaning.{register, registered_root}
use Rattle.sj_meaning.specs.State.{RootState, JobState, root_of, start}
use Rattle.sj_meaning.specs.Statement.{Register as Registration}
use Rattle.sj_apps.specs.Generated.{IsSize, cut, factors, matrix_act, name_A, name_B, name_C, name_D, part_count, square, weight, weights}
use Rattle.sj_apps.proofs.Tiling.{AreMatrices, IsMatrix, root, run}

-- ---- sizes

-- how a matrix is cut: no part is empty, and there are few
pub record IsCut (n p : ℕ) : Type 0 where
  pub some : 1 ≤ n
  pub most : n ≤ 2048
  pub parts : 1 ≤ p
  pub within : p ≤ n
  pub few : p ≤ 48

pub cut-from : (n tile seed : ℕ) → IsSize n tile seed → IsCut n (part_count n tile)
cut-from n tile seed h =
    let over : n + (tile - 1) < (n + 1) * tile = omega (arith, mul-le n 1 n tile (omega arith) h.tile_some) in
    let below : part_count n tile < n + 1 = div_below (n + (tile - 1)) tile (n + 1) (omega (arith, h.tile_some)) over in
    record {
      some = h.some;
      most = h.most;
      parts = le-div 1 (n + (tile - 1)) tile (omega (arith, h.tile_some)) (omega (arith, h.some, h.tile_some));
      within = omega arith;
      few = h.few;
    }

-- ---- registered matrices

abbrev pub registration : List ℕ → ℕ → ℕ → Init → Registration (List ℕ)
registration name n p init = record { name = name; kind = Matrix; dims = square n; parts = cut p; init = init }

pub root-registered : (r : Registration (List ℕ)) (S : JobState) (q : List ℕ) → root_of (register r S) q ≡ cond (bytes_eq q r.name) (Some (registered_root r)) (root_of S q)
root-registered r S q =
    map.get-insert nat_list_cmp_total S.roots r.name (registered_root r) q ∙ ap (λ b. cond b (Some (registered_root r)) (root_of S q)) (sym (texts_ties q r.name))

abbrev with-elements : ℕ → ℕ → List (Option ℤ) → RootState
with-elements n p es = record { kind = Matrix; dims = square n; parts = cut p; reduction = None; elements = es }

-- the matrix that counts from a first element on
abbrev pub counting : ℕ → ℤ → ℤ → ℕ → ℕ → ℤ
counting n first step i j = wrap (first +ℤ (step *ℤ pos (i * n + j)))

pub filled : (name : List ℕ) (n p : ℕ) (a b : ℤ) → registered_root (registration name n p (Fill a b)) ≡ root n p (counting n a b)
filled name n p a b = ap (with-elements n p) (λ t. each_of (λ q. Some (wrap (a +ℤ (b *ℤ pos (sym (div-add-mod' q n) t))))) (range_with_len 0 (n * n)))

pub weighted : (name : List ℕ) (n p seed : ℕ) → registered_root (registration name n p (Values (weights n seed))) ≡ root n p (weight n seed)
weighted name n p seed = ap (with-elements n p) (map-map (λ x. Some x) (λ q. weight n seed (q / n) (q % n)) (range_with_len 0 (n * n)))

-- ---- the states behind the registrations

abbrev pub ring : ℕ → ℕ → ℕ → JobState
ring n p seed = run (matrix_act name_D n p (Values (weights n seed)) ∷ []) start

pub ring-is : (n p seed : ℕ) → IsMatrix n p (ring n p seed) name_D (weight n seed)
ring-is n p seed = root-registered (registration name_D n p (Values (weights n seed))) start name_D ∙ ap Some (weighted name_D n p seed)

abbrev pub multiplied : ℕ → ℕ → ℕ → JobState
multiplied n p seed = run (factors n p seed) start

pub factors-are : (n p seed : ℕ) → AreMatrices n p (multiplied n p seed) (counting n (pos (seed % 100)) (pos 1)) (counting n (pos 5) (negsuc 1)) (counting n (pos 0) (pos 0))
factors-are n p seed =
    let a = registration name_A n p (Fill (pos (seed % 100)) (pos 1)) in
    let b = registration name_B n p (Fill (pos 5) (negsuc 1)) in
    let c = registration name_C n p (Fill (pos 0) (pos 0)) in
    record {
      first = root-registered c (register b (register a start)) name_A ∙ root-registered b (register a start) name_A ∙ root-registered a start name_A ∙ ap Some (filled name_A n p (pos (seed % 100)) (pos 1));
      second = root-registered c (register b (register a start)) name_B ∙ root-registered b (register a start) name_B ∙ ap Some (filled name_B n p (pos 5) (negsuc 1));
      third = root-registered c (register b (register a start)) name_C ∙ ap Some (filled name_C n p (pos 0) (pos 0));
    }
