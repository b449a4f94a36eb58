-- One block's tasks, from the state before them to the state after them.
use Rattle.std.proofs.Common.{◌≡◌, ℕ, suc, ◌+◌, ◌-◌, ◌<◌, ◌≤◌, ◌⊎◌, inl, inr, ⊎_elim, ℤ, pos, ◌≤ℤ◌, cond, refl, sym, ap, ◌∙◌, subst, arith}
use Rattle.std.proofs.lemmas.Bool.{cases_order}
use Rattle.sj_base.specs.Array.{Array, element}
use Rattle.sj_codelet.specs.MinPlus.{plus}
use Rattle.sj_codelet.specs.Equations.{fwrow, fwcol, mingemm}
use Rattle.sj_codelet.proofs.Elements.{element-grid}
use Rattle.sj_plan.specs.Interval.{part_first, part_len}
use Rattle.sj_plan.specs.Rect.{rect_dims}
use Rattle.sj_plan.proofs.Splitting.{ends_before, part_end}
use Rattle.sj_plan.proofs.Windows.{holds-true, holds-false}
use Rattle.sj_apps.proofs.Tiling.{tile, rect, with_tile}
use Rattle.sj_apps.proofs.Adding.{le-trans, le-same, plus-mono}
use Rattle.sj_apps.proofs.Closing.{IsClosed, IsBest, IsOut, in_or_out}
use Rattle.sj_apps.proofs.Turning.{IsKept, best-among, row_best, col_best, apart_best}
use Rattle.sj_apps.proofs.Blocking.{InRows, OffRows, AreApart, InTile, IsChanged, IsIn, OffTile, best-shifted}

-- a part's end
abbrev pub part_last : ℕ → ℕ → ℕ → ℕ
part_last n p k = part_first n p k + part_len n p k

pub part_next : (n p k : ℕ) → part_first n p (k + 1) ≡ part_last n p k
part_next n p k = ap (part_first n p) (let e : k + 1 ≡ suc k = omega arith in e)

pub parts_apart : (n p k m : ℕ) → ¬ (m ≡ k) → AreApart (part_first n p k) (part_last n p k) (part_first n p m) (part_last n p m)
parts_apart n p k m h = ⊎_elim (λ e. absurd (h e)) (λ o. ⊎_elim (λ l. inl (ends_before n p m k l)) (λ g. inr (ends_before n p k m g)) o) (cases_order m k)

abbrev pub InPart : ℕ → ℕ → ℕ → ℕ → Type 0
InPart n p k a = IsIn (part_first n p k) (part_last n p k) a

abbrev pub OffPart : ℕ → ℕ → ℕ → ℕ → Type 0
OffPart n p k a = IsOut (part_first n p k) (part_last n p k) a

-- ---- the elements of tiles

pub tile-local : (n p : ℕ) (f : ℕ → ℕ → ℤ) (r c a b : ℕ) → a < part_len n p r → b < part_len n p c → element (tile n p f (r, c)) a b ≡ f (part_first n p r + a) (part_first n p c + b)
tile-local n p f r c a b ha hb = element-grid (rect_dims (rect n p (r, c))) (λ i j. f (part_first n p r + i) (part_first n p c + j)) a b ha hb

tile-row : (n p : ℕ) (f : ℕ → ℕ → ℤ) (r c i b : ℕ) → InPart n p r i → b < part_len n p c → element (tile n p f (r, c)) (i - part_first n p r) b ≡ f i (part_first n p c + b)
tile-row n p f r c i b hi hb =
    tile-local n p f r c (i - part_first n p r) b (omega (arith, hi.0, hi.1)) hb ∙ ap (λ u. f u (part_first n p c + b)) (omega (arith, hi.0))

tile-col : (n p : ℕ) (f : ℕ → ℕ → ℤ) (r c a j : ℕ) → a < part_len n p r → InPart n p c j → element (tile n p f (r, c)) a (j - part_first n p c) ≡ f (part_first n p r + a) j
tile-col n p f r c a j ha hj =
    tile-local n p f r c a (j - part_first n p c) ha (omega (arith, hj.0, hj.1)) ∙ ap (λ u. f (part_first n p r + a) u) (omega (arith, hj.0))

pub tile-at : (n p : ℕ) (f : ℕ → ℕ → ℤ) (r c i j : ℕ) → InPart n p r i → InPart n p c j → element (tile n p f (r, c)) (i - part_first n p r) (j - part_first n p c) ≡ f i j
tile-at n p f r c i j hi hj =
    tile-row n p f r c i (j - part_first n p c) hi (omega (arith, hj.0, hj.1)) ∙ ap (λ u. f i u) (omega (arith, hj.0))

pub with-inside : (n p r c : ℕ) (a : Array) (f : ℕ → ℕ → ℤ) (i j : ℕ) → InPart n p r i → InPart n p c j → with_tile n p (r, c) a f i j ≡ element a (i - part_first n p r) (j - part_first n p c)
with-inside n p r c a f i j hi hj = ap (λ b. cond b (element a (i - part_first n p r) (j - part_first n p c)) (f i j)) (holds-true (rect n p (r, c)) i j ((hi.0, hi.1), (hj.0, hj.1)))

pub with-outside : (n p r c : ℕ) (a : Array) (f : ℕ → ℕ → ℤ) (i j : ℕ) → IsOut (part_first n p r) (part_last n p r) i ⊎ IsOut (part_first n p c) (part_last n p c) j → with_tile n p (r, c) a f i j ≡ f i j
with-outside n p r c a f i j out =
    ap (λ b. cond b (element a (i - part_first n p r) (j - part_first n p c)) (f i j)) (holds-false (rect n p (r, c)) i j (λ h. ⊎_elim (λ o. ⊎_elim (λ l. absurd (omega (arith, h.0.0, l))) (λ g. absurd (omega (arith, h.0.1, g))) o) (λ o. ⊎_elim (λ l. absurd (omega (arith, h.1.0, l))) (λ g. absurd (omega (arith, h.1.1, g))) o) out))

-- ---- what a task changes

-- the ways in a block are no shorter than its elements
abbrev pub IsWithin : ℕ → ℕ → (ℕ → ℕ → ℤ) → Type 0
IsWithin lo hi f = (v a b : ℕ) → IsIn lo hi v → IsIn lo hi a → IsIn lo hi b → f a b ≤ℤ plus (f a v) (f v b)

pub within-same : (lo hi : ℕ) (g f : ℕ → ℕ → ℤ) → ((a b : ℕ) → IsIn lo hi a → IsIn lo hi b → f a b ≡ g a b) → IsWithin lo hi g → IsWithin lo hi f
within-same lo hi g f same w v a b hv ha hb =
    le-trans (le-same (same a b ha hb)) (le-trans (w v a b hv ha hb) (plus-mono (le-same (sym (same a v ha hv))) (le-same (sym (same v b hv hb)))))

abbrev pub IsWithinPart : ℕ → ℕ → ℕ → (ℕ → ℕ → ℤ) → Type 0
IsWithinPart n p k f = IsWithin (part_first n p k) (part_last n p k) f

-- y is the least of the element and of the ways through block k
abbrev pub IsLeastBy : ℕ → ℕ → ℕ → (ℕ → ℕ → ℤ) → ℕ → ℕ → ℤ → Type 0
IsLeastBy n p k f i j y = IsBest (part_first n p k) (part_last n p k) (f i j) (λ v. plus (f i v) (f v j)) y

-- through block k the tile [r, c] changes alone
abbrev pub ChangesTile : ℕ → ℕ → ℕ → ℕ → ℕ → (ℕ → ℕ → ℤ) → (ℕ → ℕ → ℤ) → Type 0
ChangesTile n p k r c g f =
    IsChanged n (part_first n p k) (part_last n p k) (InTile (part_first n p r) (part_last n p r) (part_first n p c) (part_last n p c)) (OffTile (part_first n p r) (part_last n p r) (part_first n p c) (part_last n p c)) g f

-- of row r all tiles, but for that of the block
abbrev pub ChangesRows : ℕ → ℕ → ℕ → ℕ → (ℕ → ℕ → ℤ) → (ℕ → ℕ → ℤ) → Type 0
ChangesRows n p k r g f =
    IsChanged n (part_first n p k) (part_last n p k) (InRows (part_first n p k) (part_last n p k) (part_first n p r) (part_last n p r) n) (OffRows (part_first n p k) (part_last n p k) (part_first n p r) (part_last n p r) n) g f

-- of row r the columns of C; the others are those of N
abbrev pub ChangesRow : ℕ → ℕ → ℕ → ℕ → (ℕ → Type 0) → (ℕ → Type 0) → (ℕ → ℕ → ℤ) → (ℕ → ℕ → ℤ) → Type 0
ChangesRow n p k r C N g f =
    IsChanged n (part_first n p k) (part_last n p k) (λ a b. InPart n p r a × C b) (λ a b. OffPart n p r a ⊎ N b) g f

-- of all rows but the block's
abbrev pub ChangesDown : ℕ → ℕ → ℕ → (ℕ → Type 0) → (ℕ → Type 0) → (ℕ → ℕ → ℤ) → (ℕ → ℕ → ℤ) → Type 0
ChangesDown n p k C N g f =
    IsChanged n (part_first n p k) (part_last n p k) (λ a b. (a < n) × OffPart n p k a × C b) (λ a b. (n ≤ a) ⊎ (InPart n p k a ⊎ N b)) g f

-- P is said of each element
abbrev pub AllSo : (ℕ → ℕ → ℤ → Type 0) → ℕ → (ℕ → ℕ → ℤ) → Type 0
AllSo P n f = (i j : ℕ) → i < n → j < n → P i j (f i j)

module _ (n p : ℕ) (P : ℕ → ℕ → ℤ → Type 0) (keeps : IsKept P n) where
  pub tile_changed : (k r c : ℕ) (a : Array) (f : ℕ → ℕ → ℤ) → ((i j : ℕ) → InPart n p r i → InPart n p c j → IsLeastBy n p k f i j (element a (i - part_first n p r) (j - part_first n p c)))
      → ChangesTile n p k r c f (with_tile n p (r, c) a f)
  tile_changed k r c a f best = record {
    here = λ i j hi hj t. subst (IsLeastBy n p k f i j) (sym (with-inside n p r c a f i j t.0 t.1)) (best i j t.0 t.1);
    there = λ i j hi hj o. with-outside n p r c a f i j o;
  }

  pub sound_after : (lo hi r0 r1 c0 c1 : ℕ) (g f : ℕ → ℕ → ℤ) → hi ≤ n → AllSo P n g → IsChanged n lo hi (InTile r0 r1 c0 c1) (OffTile r0 r1 c0 c1) g f → AllSo P n f
  sound_after lo hi r0 r1 c0 c1 g f fits sound changed i j hi' hj =
      let same = λ (o : OffTile r0 r1 c0 c1 i j). subst (P i j) (sym (changed.there i j hi' hj o)) (sound i j hi' hj) in
      ⊎_elim (λ x. ⊎_elim (λ y. best-among lo hi (g i j) (λ v. plus (g i v) (g v j)) (f i j) (P i j) (changed.here i j hi' hj (x, y)) (sound i j hi' hj) (λ v from upto. (let hv : v < n = omega arith in keeps.sum i v j (g i v) (g v j) hi' hv hj (sound i v hi' hv) (sound v j hv hj)))) (λ o. same (inr o)) (in_or_out c0 c1 j)) (λ o. same (inl o)) (in_or_out r0 r1 i)

  natural_of : (f : ℕ → ℕ → ℤ) → AllSo P n f → (i j : ℕ) → i < n → j < n → pos 0 ≤ℤ f i j
  natural_of f sound i j hi hj = keeps.natural i j (f i j) hi hj (sound i j hi hj)

  natural_tile : (f : ℕ → ℕ → ℤ) (r c : ℕ) → r < p → c < p → AllSo P n f → (a b : ℕ) → a < part_len n p r → b < part_len n p c → pos 0 ≤ℤ element (tile n p f (r, c)) a b
  natural_tile f r c hr hc sound a b ha hb =
      let er = part_end n p r hr in
      let ec = part_end n p c hc in
      subst (λ z. pos 0 ≤ℤ z) (sym (tile-local n p f r c a b ha hb)) (natural_of f sound (part_first n p r + a) (part_first n p c + b) (omega arith) (omega arith))

  closed_tile : (f : ℕ → ℕ → ℤ) (k : ℕ) → IsWithinPart n p k f → IsClosed (part_len n p k) (part_len n p k) (λ a b. element (tile n p f (k, k)) a b)
  closed_tile f k within = record {
    through = λ v a b hv ha hb.
        (let lo = part_first n p k in
        let t = tile n p f (k, k) in
        let w = within (lo + v) (lo + a) (lo + b) (omega arith, omega arith) (omega arith, omega arith) (omega arith, omega arith) in
        le-trans (le-same (tile-local n p f k k a b ha hb))
        (le-trans w
        (plus-mono (le-same (sym (tile-local n p f k k a v ha hv))) (le-same (sym (tile-local n p f k k v b hv hb))))));
  }

  pub beside_best : (k c : ℕ) (f : ℕ → ℕ → ℤ) → k < p → c < p → AllSo P n f → IsWithinPart n p k f → (i j : ℕ) → InPart n p k i → InPart n p c j
      → IsLeastBy n p k f i j (element (fwrow (tile n p f (k, k)) (tile n p f (k, c))) (i - part_first n p k) (j - part_first n p c))
  beside_best k c f hk hc sound within i j hi hj =
      let lo = part_first n p k in
      let s = part_len n p k in
      let d = tile n p f (k, k) in
      let t = tile n p f (k, c) in
      let x = i - lo in
      let y = j - part_first n p c in
      best-shifted lo s (element t x y) (f i j) (element (fwrow d t) x y) (element (fwrow d t) x y) (λ v. plus (element d x v) (element t v y)) (λ v. plus (f i v) (f v j)) (tile-at n p f k c i j hi hj) refl
      (λ v hv. ap (λ z. plus z (element t v y)) (tile-row n p f k k i v hi hv) ∙ ap (λ z. plus (f i (lo + v)) z) (tile-col n p f k c v j hv hj))
      (row_best d t s (natural_tile f k k hk hk sound) (closed_tile f k within) refl refl (natural_tile f k c hk hc sound) x y (omega (arith, hi.0, hi.1)) (omega (arith, hj.0, hj.1)))

  pub below_best : (k r : ℕ) (f : ℕ → ℕ → ℤ) → k < p → r < p → AllSo P n f → IsWithinPart n p k f → (i j : ℕ) → InPart n p r i → InPart n p k j
      → IsLeastBy n p k f i j (element (fwcol (tile n p f (k, k)) (tile n p f (r, k))) (i - part_first n p r) (j - part_first n p k))
  below_best k r f hk hr sound within i j hi hj =
      let lo = part_first n p k in
      let s = part_len n p k in
      let d = tile n p f (k, k) in
      let t = tile n p f (r, k) in
      let x = i - part_first n p r in
      let y = j - lo in
      best-shifted lo s (element t x y) (f i j) (element (fwcol d t) x y) (element (fwcol d t) x y) (λ v. plus (element t x v) (element d v y)) (λ v. plus (f i v) (f v j)) (tile-at n p f r k i j hi hj) refl
      (λ v hv. ap (λ z. plus z (element d v y)) (tile-row n p f r k i v hi hv) ∙ ap (λ z. plus (f i (lo + v)) z) (tile-col n p f k k v j hv hj))
      (col_best d t s (natural_tile f k k hk hk sound) (closed_tile f k within) refl refl (natural_tile f r k hr hk sound) x y (omega (arith, hi.0, hi.1)) (omega (arith, hj.0, hj.1)))

  pub rest_best : (k r c : ℕ) (f : ℕ → ℕ → ℤ) → (i j : ℕ) → InPart n p r i → InPart n p c j
      → IsLeastBy n p k f i j (element (mingemm (tile n p f (r, k)) (tile n p f (k, c)) (tile n p f (r, c))) (i - part_first n p r) (j - part_first n p c))
  rest_best k r c f i j hi hj =
      let lo = part_first n p k in
      let s = part_len n p k in
      let a = tile n p f (r, k) in
      let b = tile n p f (k, c) in
      let t = tile n p f (r, c) in
      let x = i - part_first n p r in
      let y = j - part_first n p c in
      best-shifted lo s (element t x y) (f i j) (element (mingemm a b t) x y) (element (mingemm a b t) x y) (λ v. plus (element a x v) (element b v y)) (λ v. plus (f i v) (f v j)) (tile-at n p f r c i j hi hj) refl
      (λ v hv. ap (λ z. plus z (element b v y)) (tile-row n p f r k i v hi hv) ∙ ap (λ z. plus (f i (lo + v)) z) (tile-col n p f k c v j hv hj))
      (apart_best a b t s x y refl (omega (arith, hi.0, hi.1)) (omega (arith, hj.0, hj.1)))
