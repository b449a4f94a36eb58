-- The steps of all blocks, from the state before them to the state after them.
use Rattle.std.proofs.Common.{◌≡◌, ℕ, ◌+◌, ◌-◌, ◌<◌, ◌≤◌, ◌⊎◌, inl, inr, ⊎_elim, ℤ, ◌≤ℤ◌, true, false, not, eqb, List, [], ◌∷◌, ◌++◌, map, refl, sym, ap, ◌∙◌, subst, arith}
use Rattle.std.specs.List.{flat_map}
use Rattle.std.proofs.lemmas.Bool.Decides.{nat_tests}
use Rattle.std.proofs.lemmas.List.Concat.{flat_map_single}
use Rattle.std.proofs.lemmas.Slice.Eq.{bytes_eq-Decides}
use Rattle.sj_base.specs.declared.mode.Mode.TheVariants.{R, RW}
use Rattle.sj_base.specs.Array.{Array, element}
use Rattle.sj_codelet.specs.MinPlus.{plus}
use Rattle.sj_codelet.specs.Equations.{fwdiag, fwrow, fwcol, mingemm}
use Rattle.sj_plan.specs.Interval.{part_first, part_len}
use Rattle.sj_plan.proofs.Splitting.{part_end}
use Rattle.sj_plan.proofs.Tiling.{part_first-all}
use Rattle.sj_meaning.specs.State.{JobState}
use Rattle.sj_meaning.specs.Act.{Act}
use Rattle.sj_meaning.specs.Meaning.{apply, change, with_child}
use Rattle.sj_apps.specs.Generated.{apart_of, aparts_of, below_of, beside_of, diagonal_of, tile_operand, others, walk_step_of, walk_steps_of}
use Rattle.sj_apps.proofs.Tiling.{IsMatrix, tile, with_tile, run, run-append, run-each_kept, run-kept, run-range, tile-of, written-here}
use Rattle.sj_apps.proofs.Adding.{le-trans, le-same}
use Rattle.sj_apps.proofs.Closing.{AreLengths, IsClosed, IsBlockStep, IsOut, in_or_out, closed_more, no_greater}
use Rattle.sj_apps.proofs.Turning.{IsKept, diag_turned}
use Rattle.sj_apps.proofs.Blocking.{InCols, InRows, IsChanged, IsIn, OffCols, OffRows, OffTile, block-step, down_more, down_none, down_skip, rows_more, rows_none, rows_skip}
use Rattle.sj_apps.proofs.Stepping.{ChangesDown, ChangesRow, ChangesRows, ChangesTile, InPart, IsWithinPart, OffPart, AllSo, IsWithin, below_best, beside_best, part_last, part_next, parts_apart, rest_best, sound_after, tile-at, tile-local, tile_changed, with-inside, with-outside, within-same}

-- the name has a matrix of which P is said at each element, and Q as a whole
pub record Stands (name : List ℕ) (n p : ℕ) (P : ℕ → ℕ → ℤ → Type 0) (Q : (ℕ → ℕ → ℤ) → Type 0) (S : JobState) : Type 0 where
  pub f : ℕ → ℕ → ℤ
  pub is : IsMatrix n p S name f
  pub sound : AllSo P n f
  pub so : Q f

other-true : (m k : ℕ) → not (eqb m k) ≡ true → ¬ (m ≡ k)
other-true m k h = λ e. grind (arith, nat_tests)

other-false : (m k : ℕ) → not (eqb m k) ≡ false → m ≡ k
other-false m k h = grind (arith, nat_tests)

-- ---- each task, of any matrix

put-tile : (name : List ℕ) (n p : ℕ) (S : JobState) (f : ℕ → ℕ → ℤ) (place : ℕ × ℕ) (a b : Array) → a ≡ b → IsMatrix n p S name f → IsMatrix n p (change (with_child place a) name S) name (with_tile n p place b f)
put-tile name n p S f place a b e is =
    subst (λ (x : Array). IsMatrix n p (change (with_child place a) name S) name (with_tile n p place x f)) e (written-here n p S name f place a ((bytes_eq-Decides name name).1 refl) is)

diagonal-runs : (name : List ℕ) (n p k : ℕ) (S : JobState) (f : ℕ → ℕ → ℤ) → k < p → IsMatrix n p S name f → IsMatrix n p (apply (diagonal_of name k) S) name (with_tile n p (k, k) (fwdiag (tile n p f (k, k))) f)
diagonal-runs name n p k S f h is =
    put-tile name n p S f (k, k) _ _ (ap fwdiag (tile-of n p S name f (k, k) (h, h) is (tile_operand name k k RW) refl refl refl)) is

beside-runs : (name : List ℕ) (n p k j : ℕ) (S : JobState) (f : ℕ → ℕ → ℤ) → k < p → j < p → IsMatrix n p S name f → IsMatrix n p (apply (beside_of name k j) S) name (with_tile n p (k, j) (fwrow (tile n p f (k, k)) (tile n p f (k, j))) f)
beside-runs name n p k j S f hk hj is =
    put-tile name n p S f (k, j) _ _ (λ t. fwrow (tile-of n p S name f (k, k) (hk, hk) is (tile_operand name k k R) refl refl refl t) (tile-of n p S name f (k, j) (hk, hj) is (tile_operand name k j RW) refl refl refl t)) is

below-runs : (name : List ℕ) (n p k i : ℕ) (S : JobState) (f : ℕ → ℕ → ℤ) → k < p → i < p → IsMatrix n p S name f → IsMatrix n p (apply (below_of name k i) S) name (with_tile n p (i, k) (fwcol (tile n p f (k, k)) (tile n p f (i, k))) f)
below-runs name n p k i S f hk hi is =
    put-tile name n p S f (i, k) _ _ (λ t. fwcol (tile-of n p S name f (k, k) (hk, hk) is (tile_operand name k k R) refl refl refl t) (tile-of n p S name f (i, k) (hi, hk) is (tile_operand name i k RW) refl refl refl t)) is

apart-runs : (name : List ℕ) (n p k i j : ℕ) (S : JobState) (f : ℕ → ℕ → ℤ) → k < p → i < p → j < p → IsMatrix n p S name f → IsMatrix n p (apply (apart_of name k i j) S) name (with_tile n p (i, j) (mingemm (tile n p f (i, k)) (tile n p f (k, j)) (tile n p f (i, j))) f)
apart-runs name n p k i j S f hk hi hj is =
    put-tile name n p S f (i, j) _ _ (λ t. mingemm (tile-of n p S name f (i, k) (hi, hk) is (tile_operand name i k R) refl refl refl t) (tile-of n p S name f (k, j) (hk, hj) is (tile_operand name k j R) refl refl refl t) (tile-of n p S name f (i, j) (hi, hj) is (tile_operand name i j RW) refl refl refl t)) is

-- ---- one after another

-- what the task of the diagonal tile leaves
pub record IsDiagonal (n lo hi : ℕ) (d0 d1 : ℕ → ℕ → ℤ) : Type 0 where
  pub lower : (a b : ℕ) → IsIn lo hi a → IsIn lo hi b → d1 a b ≤ℤ d0 a b
  pub within : IsWithin lo hi d1
  pub outside : (a b : ℕ) → a < n → b < n → IsOut lo hi a ⊎ IsOut lo hi b → d1 a b ≡ d0 a b

module _ (name : List ℕ) (n p : ℕ) (P : ℕ → ℕ → ℤ → Type 0) (keeps : IsKept P n) (some : 0 < p) where
  -- the tiles of a row but the block's
  rows_run : (k r : ℕ) (act : ℕ → Act (List ℕ)) (g : ℕ → ℕ → ℤ) (S : JobState) → k < p
      → ((c : ℕ) (S' : JobState) (f : ℕ → ℕ → ℤ) → c < p → IsMatrix n p S' name f → AllSo P n f → IsWithinPart n p k f
      → Stands name n p P (ChangesTile n p k r c f) (apply (act c) S'))
      → IsMatrix n p S name g → AllSo P n g → IsWithinPart n p k g
      → Stands name n p P (ChangesRows n p k r g) (run (map act (others p k)) S)
  rows_run k r act g S hk one is sound within =
      let lo = part_first n p k in
      let hi = part_last n p k in
      let r0 = part_first n p r in
      let r1 = part_last n p r in
      let fits = part_end n p k hk in
      let so = λ (e : ℕ). IsChanged n lo hi (InRows lo hi r0 r1 e) (OffRows lo hi r0 r1 e) g in
      let Now = λ (m : ℕ) (S' : JobState). Stands name n p P (so (part_first n p m)) S' in
      let all : Now p (run (map act (others p k)) S) = run-each_kept Now (λ j. not (eqb j k)) act p S (record { f = g; is = is; sound = sound; so = rows_none n lo hi r0 r1 g })
      (λ m S' hm now. (
        (λ t. let made = one m S' now.f hm now.is now.sound (within-same lo hi g now.f (λ a b ha hb. now.so.there a b (omega (arith, ha.1)) (omega (arith, hb.1)) (inr (inr hb))) within) in
            record {
              f = made.f;
              is = made.is;
              sound = made.sound;
              so = subst (λ e. so e made.f) (sym (part_next n p m)) (rows_more n lo hi r0 r1 (part_first n p m) (part_last n p m) g now.f made.f fits (omega arith) (parts_apart n p k m (other-true m k t)) now.so made.so);
            }),
        (λ t. let e = other-false m k t in
            record {
              f = now.f;
              is = now.is;
              sound = now.sound;
              so = subst (λ z. so z now.f) (sym (part_next n p m ∙ ap (part_last n p) e)) (rows_skip n lo hi r0 r1 g now.f (omega arith) (subst (λ z. so z now.f) (ap (part_first n p) e) now.so));
            }),
      )) in
      subst (λ e. Stands name n p P (so e) (run (map act (others p k)) S)) (part_first-all n p some) all

  -- the rows but the block's
  down_run : (k : ℕ) (C N : ℕ → Type 0) (acts : ℕ → List (Act (List ℕ))) (g : ℕ → ℕ → ℤ) (S : JobState) → k < p
      → ((r : ℕ) (S' : JobState) (f : ℕ → ℕ → ℤ) → r < p → IsMatrix n p S' name f → AllSo P n f → IsWithinPart n p k f
      → Stands name n p P (ChangesRow n p k r C N f) (run (acts r) S'))
      → IsMatrix n p S name g → AllSo P n g → IsWithinPart n p k g
      → Stands name n p P (ChangesDown n p k C N g) (run (flat_map acts (others p k)) S)
  down_run k C N acts g S hk one is sound within =
      let lo = part_first n p k in
      let hi = part_last n p k in
      let fits = part_end n p k hk in
      let so = λ (e : ℕ). IsChanged n lo hi (λ a b. (a < e) × IsOut lo hi a × C b) (λ a b. (e ≤ a) ⊎ (IsIn lo hi a ⊎ N b)) g in
      let Now = λ (m : ℕ) (S' : JobState). Stands name n p P (so (part_first n p m)) S' in
      let all : Now p (run (flat_map acts (others p k)) S) = run-kept Now (λ j. not (eqb j k)) acts p S (record { f = g; is = is; sound = sound; so = down_none n lo hi C N g })
      (λ m S' hm now. (
        (λ t. let made = one m S' now.f hm now.is now.sound (within-same lo hi g now.f (λ a b ha hb. now.so.there a b (omega (arith, ha.1)) (omega (arith, hb.1)) (inr (inl ha))) within) in
            record {
              f = made.f;
              is = made.is;
              sound = made.sound;
              so = subst (λ e. so e made.f) (sym (part_next n p m)) (down_more n lo hi (part_first n p m) (part_last n p m) C N g now.f made.f fits (omega arith) (parts_apart n p k m (other-true m k t)) now.so made.so);
            }),
        (λ t. let e = other-false m k t in
            record {
              f = now.f;
              is = now.is;
              sound = now.sound;
              so = subst (λ z. so z now.f) (sym (part_next n p m ∙ ap (part_last n p) e)) (down_skip n lo hi C N g now.f (omega arith) (subst (λ z. so z now.f) (ap (part_first n p) e) now.so));
            }),
      )) in
      subst (λ e. Stands name n p P (so e) (run (flat_map acts (others p k)) S)) (part_first-all n p some) all

  -- one task
  a_tile : (k r c : ℕ) (a : Array) (S' : JobState) (f : ℕ → ℕ → ℤ) → k < p → IsMatrix n p S' name (with_tile n p (r, c) a f) → AllSo P n f
      → ChangesTile n p k r c f (with_tile n p (r, c) a f)
      → Stands name n p P (ChangesTile n p k r c f) S'
  a_tile k r c a S' f hk is sound changed = record {
    f = with_tile n p (r, c) a f;
    is = is;
    sound = sound_after n p P keeps (part_first n p k) (part_last n p k) (part_first n p r) (part_last n p r) (part_first n p c) (part_last n p c) f (with_tile n p (r, c) a f) (part_end n p k hk) sound changed;
    so = changed;
  }

  besides_run : (k : ℕ) (g : ℕ → ℕ → ℤ) (S : JobState) → k < p → IsMatrix n p S name g → AllSo P n g → IsWithinPart n p k g
      → Stands name n p P (ChangesRows n p k k g) (run (map (beside_of name k) (others p k)) S)
  besides_run k g S hk = rows_run k k (beside_of name k) g S hk (λ c S' f hc is sound within.
      (let a = fwrow (tile n p f (k, k)) (tile n p f (k, c)) in
      a_tile k k c a (apply (beside_of name k c) S') f hk (beside-runs name n p k c S' f hk hc is) sound (tile_changed n p P keeps k k c a f (beside_best n p P keeps k c f hk hc sound within))))

  belows_run : (k : ℕ) (g : ℕ → ℕ → ℤ) (S : JobState) → k < p → IsMatrix n p S name g → AllSo P n g → IsWithinPart n p k g
      → Stands name n p P (ChangesDown n p k (InPart n p k) (OffPart n p k) g) (run (map (below_of name k) (others p k)) S)
  belows_run k g S hk is sound within =
      let lo = part_first n p k in
      let hi = part_last n p k in
      subst (λ acts. Stands name n p P (IsChanged n lo hi (InCols lo hi n) (OffCols lo hi n) g) (run acts S)) (flat_map_single (below_of name k) (others p k))
      (down_run k (IsIn lo hi) (IsOut lo hi) (λ i. below_of name k i ∷ []) g S hk (λ r S' f hr is sound within.
      (let a = fwcol (tile n p f (k, k)) (tile n p f (r, k)) in
      a_tile k r k a (apply (below_of name k r) S') f hk (below-runs name n p k r S' f hk hr is) sound (tile_changed n p P keeps k r k a f (below_best n p P keeps k r f hk hr sound within))))
      is sound within)

  aparts_run : (k : ℕ) (g : ℕ → ℕ → ℤ) (S : JobState) → k < p → IsMatrix n p S name g → AllSo P n g → IsWithinPart n p k g
      → Stands name n p P (ChangesDown n p k (OffPart n p k) (InPart n p k) g) (run (flat_map (aparts_of name p k) (others p k)) S)
  aparts_run k g S hk =
      let lo = part_first n p k in
      let hi = part_last n p k in
      down_run k (IsOut lo hi) (IsIn lo hi) (aparts_of name p k) g S hk (λ r S' f hr is sound within.
      (let row = rows_run k r (apart_of name k r) f S' hk (λ c S'' f' hc is' sound' within'.
      (let a = mingemm (tile n p f' (r, k)) (tile n p f' (k, c)) (tile n p f' (r, c)) in
      a_tile k r c a (apply (apart_of name k r c) S'') f' hk (apart-runs name n p k r c S'' f' hk hr hc is') sound' (tile_changed n p P keeps k r c a f' (rest_best n p P keeps k r c f'))))
      is sound within in
      record {
        f = row.f;
        is = row.is;
        sound = row.sound;
        so = record { here = λ a b ha hb s. row.so.here a b ha hb (s.0, hb, s.1); there = λ a b ha hb o. row.so.there a b ha hb (⊎_elim inl (λ i. inr (inr i)) o) };
      }))

  diagonal_run : (k : ℕ) (g : ℕ → ℕ → ℤ) (S : JobState) → k < p → IsMatrix n p S name g → AllSo P n g → Stands name n p P (IsDiagonal n (part_first n p k) (part_last n p k) g) (apply (diagonal_of name k) S)
  diagonal_run k g S hk is sound =
      let lo = part_first n p k in
      let s = part_len n p k in
      let fits = part_end n p k hk in
      let t = tile n p g (k, k) in
      let d = fwdiag t in
      let f = with_tile n p (k, k) d g in
      let back : (i : ℕ) → lo ≤ i → lo + (i - lo) ≡ i = λ i hi. omega arith in
      let here : (i j : ℕ) → IsIn lo (lo + s) i → IsIn lo (lo + s) j → f i j ≡ element d (i - lo) (j - lo) = λ i j hi hj. with-inside n p k k d g i j hi hj in
      let turned = diag_turned (λ a b x. P (lo + a) (lo + b) x) t s (record {
        sum = λ i v j x y hi hv hj a b. keeps.sum (lo + i) (lo + v) (lo + j) x y (omega arith) (omega arith) (omega arith) a b;
        natural = λ i j x hi hj a. keeps.natural (lo + i) (lo + j) x (omega arith) (omega arith) a;
        below = λ i j x hi hj a. keeps.below (lo + i) (lo + j) x (omega arith) (omega arith) a;
      }) refl refl (λ a b ha hb. subst (P (lo + a) (lo + b)) (sym (tile-local n p g k k a b ha hb)) (sound (lo + a) (lo + b) (omega arith) (omega arith))) in
      record {
        f = f;
        is = (diagonal-runs name n p k S g hk is);
        sound = λ i j hi hj. (let same = λ (o : OffTile lo (lo + s) lo (lo + s) i j). subst (P i j) (sym (with-outside n p k k d g i j o)) (sound i j hi hj) in
            ⊎_elim (λ x. ⊎_elim (λ y. subst (λ (z : ℤ). P i j z) (sym (here i j x y)) (subst (λ u. P u j (element d (i - lo) (j - lo))) (back i x.0) (subst (λ u. P (lo + (i - lo)) u (element d (i - lo) (j - lo))) (back j y.0) (turned.kept (i - lo) (j - lo) (omega (arith, x.0, x.1)) (omega (arith, y.0, y.1)))))) (λ o. same (inr o)) (in_or_out lo (lo + s) j)) (λ o. same (inl o)) (in_or_out lo (lo + s) i));
        so = record {
          lower = λ a b ha hb. le-trans (subst (λ z. z ≤ℤ element t (a - lo) (b - lo)) (sym (here a b ha hb)) (turned.lower (a - lo) (b - lo) (omega (arith, ha.0, ha.1)) (omega (arith, hb.0, hb.1)))) (le-same (tile-at n p g k k a b ha hb));
          within = λ v a b hv ha hb. subst (λ z. z ≤ℤ plus (f a v) (f v b)) (sym (here a b ha hb)) (subst (λ z. element d (a - lo) (b - lo) ≤ℤ plus z (f v b)) (sym (here a v ha hv)) (subst (λ z. element d (a - lo) (b - lo) ≤ℤ plus (element d (a - lo) (v - lo)) z) (sym (here v b hv hb))
              (turned.closed.through (v - lo) (a - lo) (b - lo) (omega (arith, hv.0, hv.1)) (omega (arith, ha.0, ha.1)) (omega (arith, hb.0, hb.1)))));
          outside = λ a b ha hb o. with-outside n p k k d g a b o;
        };
      }

  -- a block's step
  pub step_run : (k : ℕ) (g : ℕ → ℕ → ℤ) (S : JobState) → k < p → IsMatrix n p S name g → AllSo P n g → Stands name n p P (IsBlockStep n (part_first n p k) (part_last n p k) g) (run (walk_step_of name p k) S)
  step_run k g S hk is sound =
      let lo = part_first n p k in
      let hi = part_last n p k in
      let fits = part_end n p k hk in
      let bs = map (beside_of name k) (others p k) in
      let cs = map (below_of name k) (others p k) in
      let rs = flat_map (aparts_of name p k) (others p k) in
      let S1 = apply (diagonal_of name k) S in
      let one = diagonal_run k g S hk is sound in
      let two = besides_run k one.f S1 hk one.is one.sound one.so.within in
      let S2 = run bs S1 in
      let within2 = within-same lo hi one.f two.f (λ a b ha hb. two.so.there a b (omega (arith, ha.1)) (omega (arith, hb.1)) (inr (inr hb))) one.so.within in
      let three = belows_run k two.f S2 hk two.is two.sound within2 in
      let S3 = run cs S2 in
      let within3 = within-same lo hi two.f three.f (λ a b ha hb. three.so.there a b (omega (arith, ha.1)) (omega (arith, hb.1)) (inr (inl ha))) within2 in
      let four = aparts_run k three.f S3 hk three.is three.sound within3 in
      let whole : run (walk_step_of name p k) S ≡ run rs S3 = run-append bs (cs ++ rs) S1 ∙ run-append cs rs S2 in
      subst (Stands name n p P (IsBlockStep n lo hi g)) (sym whole) (record {
        f = four.f;
        is = four.is;
        sound = four.sound;
        so = block-step n lo hi g one.f two.f three.f four.f fits one.so.lower one.so.within one.so.outside two.so three.so four.so;
      })

  lengths_of : (f : ℕ → ℕ → ℤ) → AllSo P n f → AreLengths n f
  lengths_of f sound = record { natural = λ i j hi hj. keeps.natural i j (f i j) hi hj (sound i j hi hj); below = λ i j hi hj. keeps.below i j (f i j) hi hj (sound i j hi hj) }

  -- all of them: the matrix is closed, and no element is greater than it was
  pub steps_run : (g : ℕ → ℕ → ℤ) (S : JobState) → IsMatrix n p S name g → AllSo P n g → Stands name n p P (λ f. IsClosed n n f × ((i j : ℕ) → i < n → j < n → f i j ≤ℤ g i j)) (run (walk_steps_of name p) S)
  steps_run g S is sound =
      let so = λ (e : ℕ) (f : ℕ → ℕ → ℤ). IsClosed n e f × ((i j : ℕ) → i < n → j < n → f i j ≤ℤ g i j) in
      let Now = λ (m : ℕ) (S' : JobState). Stands name n p P (so (part_first n p m)) S' in
      let all : Now p (run (walk_steps_of name p) S) = run-range Now (walk_step_of name p) p S
      (record { f = g; is = is; sound = sound; so = (record { through = λ v i j hv hi hj. absurd (omega arith) }, λ i j hi hj. (let e : g i j ≡ g i j = refl in le-same e)) })
      (λ k S' hk now.
      (let made = step_run k now.f S' hk now.is now.sound in
      let lo = part_first n p k in
      let hi = part_last n p k in
      let fits = part_end n p k hk in
      record {
        f = made.f;
        is = made.is;
        sound = made.sound;
        so = (
          subst (λ e. IsClosed n e made.f) (sym (part_next n p k)) (closed_more n lo hi now.f made.f fits (omega arith) (lengths_of now.f now.sound) (lengths_of made.f made.sound) now.so.0 made.so),
          λ i j hi' hj. le-trans (no_greater n lo hi now.f made.f fits (omega arith) (lengths_of now.f now.sound) (lengths_of made.f made.sound) now.so.0 made.so i j hi' hj) (now.so.1 i j hi' hj),
        );
      })) in
      subst (λ e. Stands name n p P (so e) (run (walk_steps_of name p) S)) (part_first-all n p some) all
