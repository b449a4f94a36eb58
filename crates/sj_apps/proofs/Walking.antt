-- What a job of walks prints: the lengths of shortest walks.
use Rattle.std.specs.FinMap as map
use Rattle.std.proofs.Common.{◌≡◌, ℕ, ◌+◌, ◌/◌, ◌%◌, ◌-◌, ◌<◌, cond, Option, Some, None, List, [], ◌∷◌, ◌++◌, ℤ, map as each_of, refl, sym, ap, subst, ◌∙◌, arith}
use Rattle.std.specs.List.{AllByRecursion, flat_map, range_with_len}
use Rattle.std.specs.Cmp.Lexicographic.{nat_list_cmp_total, texts_ties}
use Rattle.std.proofs.lemmas.Nat.{le-div}
use Rattle.std.proofs.lemmas.Simd.{map-map}
use Rattle.std.proofs.lemmas.Slice.Eq.{bytes_eq-Decides}
use Rattle.sj_base.specs.Array.{Array, area, grid}
use Rattle.sj_base.specs.Window.{table}
use Rattle.sj_codelet.proofs.Elements.{element-grid, length-each}
use Rattle.sj_plan.proofs.Lists.{each-append, each-flat_map, each-map, each-of}
use Rattle.sj_meaning.specs.declared.job.Init.TheVariants.{Values}
use Rattle.sj_meaning.specs.declared.job.Kind.TheVariants.{Matrix}
use Rattle.sj_meaning.specs.Act.{Act, Register as Registers, Plan, Redux, Task, Print, Invalidate, Unregister, Statement}
use Rattle.sj_meaning.specs.Meaning.{Printed, apply, root_array, found_by, printed, printed_from, prints, registered_root}
use Rattle.sj_meaning.specs.Statement.{Register}
use Rattle.sj_meaning.specs.State.{RootState, JobState, root_of, start}
use Rattle.sj_apps.specs.Generated.{IsSize, apart_of, aparts_of, below_of, beside_of, cut, first_line, matrix_act, name_D, numbered, others, part_count, paths_statements, square, upto, walk_step_of, walk_steps_of, weight, weights}
use Rattle.sj_apps.specs.Walks.{AreWeights, IsShortest, StayBelowInf}
use Rattle.sj_apps.specs.Shortest.{PrintsShortest, acts_of, unhurried, walk_acts}
use Rattle.sj_apps.proofs.Tiling.{IsMatrix, IsSilent, printed-last, root-array, run}
use Rattle.sj_apps.proofs.Reaching.{IsReached, reached_plus, reached_range, reached_step, shortest}
use Rattle.sj_apps.proofs.Turning.{IsKept}
use Rattle.sj_apps.proofs.Passing.{steps_run}
use Rattle.sj_apps.proofs.Ringing.{ring-stays, ring-weights}

reached-kept : (n : ℕ) (W : ℕ → ℕ → ℤ) → AreWeights n W → IsKept (IsReached n W) n
reached-kept n W w = record {
  sum = λ i v j x y hi hv hj a b. reached_plus n W w i v j x y hi a b;
  natural = λ i j x hi hj a. (reached_range n W w i j x hi a).0;
  below = λ i j x hi hj a. (reached_range n W w i j x hi a).1;
}

steps-silent : (name : List ℕ) (p : ℕ) → AllByRecursion IsSilent (walk_steps_of name p)
steps-silent name p =
    each-flat_map IsSilent (walk_step_of name p) (upto p) (each-of (λ k. AllByRecursion IsSilent (walk_step_of name p k)) (λ k. (
      λ S. refl,
      each-append IsSilent (each_of (beside_of name k) (others p k)) (each_of (below_of name k) (others p k) ++ flat_map (aparts_of name p k) (others p k)) (each-map IsSilent (beside_of name k) (others p k) (each-of (λ j. IsSilent (beside_of name k j)) (λ j S. refl) (others p k)))
          (each-append IsSilent (each_of (below_of name k) (others p k)) (flat_map (aparts_of name p k) (others p k)) (each-map IsSilent (below_of name k) (others p k) (each-of (λ i. IsSilent (below_of name k i)) (λ i S. refl) (others p k)))
          (each-flat_map IsSilent (aparts_of name p k) (others p k) (each-of (λ i. AllByRecursion IsSilent (aparts_of name p k i)) (λ i. each-map IsSilent (apart_of name k i) (others p k) (each-of (λ j. IsSilent (apart_of name k i j)) (λ j S. refl) (others p k))) (others p k)))),
    )) (upto p))

-- the matrix at its registration
registered-is : (name : List ℕ) (n p : ℕ) (W : ℕ → ℕ → ℤ) → IsMatrix n p (apply (matrix_act name n p (Values (table (square n) W))) start) name W
registered-is name n p W =
    let r : Register (List ℕ) = record { name = name; kind = Matrix; dims = square n; parts = cut p; init = Values (table (square n) W) } in
    map.get-insert nat_list_cmp_total start.roots name (registered_root r) name
    ∙ ap (λ b. cond b (Some (registered_root r)) (root_of start name)) (sym (texts_ties name name) ∙ (bytes_eq-Decides name name).1 refl)
    ∙ ap (λ (es : List (Option ℤ)). let x : RootState = record { kind = Matrix; dims = square n; parts = cut p; reduction = None; elements = es } in Some x) (map-map Some (λ q. W (q / n) (q % n)) (range_with_len 0 (area (square n))))

found-matrix : (name : List ℕ) (n p : ℕ) (S : JobState) (f : ℕ → ℕ → ℤ) → IsMatrix n p S name f → found_by S name ≡ record { name = name; kind = Matrix; array = grid (square n) f } ∷ []
found-matrix name n p S f is =
    ap (λ (o : Option RootState). elim o as (λ _. List Printed) [
      | None ↦ []
      | Some r ↦ record { name = name; kind = r.kind; array = root_array r } ∷ []
    ]) is
    ∙ ap (λ (a : Array). record { name = name; kind = Matrix; array = a } ∷ []) (root-array n p f)

-- in lines one after another
numbered-print : (name : List ℕ) (n p line : ℕ) (W : ℕ → ℕ → ℤ) (xs : List ℤ) → 0 < p → xs ≡ table (square n) W → AreWeights n W → StayBelowInf n W → PrintsShortest name n W (numbered line (walk_acts name n p xs))
numbered-print name n p line W xs some e w stay =
    let first = apply (matrix_act name n p (Values (table (square n) W))) start in
    let made = steps_run name n p (IsReached n W) (reached-kept n W w) some W first (registered-is name n p W) (λ i j hi hj. reached_step n W w i j hi hj) in
    let a = grid (square n) made.f in
    subst (λ ys. PrintsShortest name n W (numbered line (walk_acts name n p ys))) (sym e) (record {
      lengths = a;
      alone = printed-last (walk_steps_of name p) name first (line + 1) (steps-silent name p) ∙ ap (λ (ps : List Printed). ps ++ []) (found-matrix name n p (run (walk_steps_of name p) first) made.f made.is);
      shortest = record {
        dims = refl;
        whole = length-each (square n) (λ q. made.f (q / n) (q % n));
        shortest = λ i j hi hj. subst (IsShortest n W i j) (sym (element-grid (square n) made.f i j hi hj)) (shortest n W w made.f stay made.so.0 made.so.1 made.sound i j hi hj);
      };
    })

-- ---- whatever the lines and priorities

apply-unhurried : (a : Act (List ℕ)) (S : JobState) → apply (unhurried a) S ≡ apply a S
apply-unhurried (Registers r) S = refl
apply-unhurried (Plan name parts) S = refl
apply-unhurried (Redux name by) S = refl
apply-unhurried (Task t) S = refl
apply-unhurried (Print name) S = refl
apply-unhurried (Invalidate name) S = refl
apply-unhurried (Unregister name) S = refl

prints-unhurried : (a : Act (List ℕ)) (S : JobState) → prints (unhurried a) S ≡ prints a S
prints-unhurried (Registers r) S = refl
prints-unhurried (Plan name parts) S = refl
prints-unhurried (Redux name by) S = refl
prints-unhurried (Task t) S = refl
prints-unhurried (Print name) S = refl
prints-unhurried (Invalidate name) S = refl
prints-unhurried (Unregister name) S = refl

printed-acts_of : (ss : List (Statement (List ℕ))) (line : ℕ) (S : JobState) → printed_from S (numbered line (acts_of ss)) ≡ printed_from S ss
printed-acts_of [] line S = refl
printed-acts_of (s ∷ ss) line S =
    ap (λ (ps : List Printed). ps ++ printed_from (apply (unhurried s.act) S) (numbered (line + 1) (acts_of ss))) (prints-unhurried s.act S)
    ∙ ap (λ (T : JobState). prints s.act S ++ printed_from T (numbered (line + 1) (acts_of ss))) (apply-unhurried s.act S)
    ∙ ap (λ (ps : List Printed). prints s.act S ++ ps) (printed-acts_of ss (line + 1) (apply s.act S))

-- for any weights of which none is negative and whose walks stay below `inf`
pub walks-print : (name : List ℕ) (n p : ℕ) (W : ℕ → ℕ → ℤ) (xs : List ℤ) (ss : List (Statement (List ℕ))) → 0 < p → xs ≡ table (square n) W → AreWeights n W → StayBelowInf n W → acts_of ss ≡ walk_acts name n p xs → PrintsShortest name n W ss
walks-print name n p W xs ss some e w stay acts =
    let made = numbered-print name n p 0 W xs some e w stay in
    record {
      lengths = made.lengths;
      alone = sym (printed-acts_of ss 0 start) ∙ ap (λ (xs : List (Act (List ℕ))). printed (numbered 0 xs)) acts ∙ made.alone;
      shortest = made.shortest;
    }

-- for the generated weights
pub paths-print : (n tile seed : ℕ) → IsSize n tile seed → PrintsShortest name_D n (weight n seed) (paths_statements n tile seed)
paths-print n tile seed size =
    let some : 0 < part_count n tile = le-div 1 (n + (tile - 1)) tile size.tile_some (omega (arith, size.some)) in
    numbered-print name_D n (part_count n tile) first_line (weight n seed) (weights n seed) some refl (ring-weights n seed) (ring-stays n seed size.most)
