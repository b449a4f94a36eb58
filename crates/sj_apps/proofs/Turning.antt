-- What the codelets of walks make of tiles: elements that are the least of the old one and of the ways by a block's vertices.
use Rattle.std.proofs.Common.{◌≡◌, ℕ, zero, suc, ◌<◌, ◌≤◌, ◌⊎◌, inl, inr, ⊎_elim, ℤ, pos, ◌≤ℤ◌, refl, sym, ap, ◌∙◌, subst, arith}
use Rattle.std.specs.Int.Signed.{≤ℤ_refl}
use Rattle.std.specs.Int.{int_min}
use Rattle.std.proofs.lemmas.Int.{ints, clamps}
use Rattle.std.proofs.lemmas.Bool.{cases_lt}
use Rattle.sj_base.specs.declared.tile.Dims.{Dims}
use Rattle.sj_base.specs.Array.{Array, element, grid}
use Rattle.sj_codelet.specs.MinPlus.{inf, plus, least_below}
use Rattle.sj_codelet.specs.Equations.{after_turns, fwdiag, fwrow, fwcol, mingemm}
use Rattle.sj_codelet.proofs.Elements.{element-grid}
use Rattle.sj_apps.proofs.Adding.{le-trans, le-same, le-antisym, plus-mono, plus-above_left, plus-above_right, short_left, short_right, least_of_two, least-left, least-right}
use Rattle.sj_apps.proofs.Closing.{AreLengths, IsClosed, HasBelow, IsBest, IsBlockStep, closed_more}

-- one number more
pub best_more : (k : ℕ) (a x z : ℤ) (f : ℕ → ℤ) → IsBest 0 k a f x → z ≤ℤ f k → ((f k ≤ℤ z) ⊎ HasBelow 0 k f z) → IsBest 0 (suc k) a f (int_min x z)
best_more k a x z f b le one = record {
  below = le-trans (least-left x z) b.below;
  all = λ v from upto. ⊎_elim (λ l. le-trans (least-left x z) (b.all v from l)) (λ g. subst (λ u. int_min x z ≤ℤ f u) (let e : k ≡ v = omega arith in e) (le-trans (least-right x z) le)) (cases_lt v k);
  one = ⊎_elim
      (λ e. ⊎_elim (λ f'. inl (e ∙ f')) (λ (h : HasBelow 0 k f x). let up = h.upto in inr (record { v = h.v; from = h.from; upto = omega arith; le = le-trans h.le (le-same (sym e)) })) b.one)
      (λ e. inr (⊎_elim (λ l. record { v = k; from = omega arith; upto = omega arith; le = le-trans l (le-same (sym e)) }) (λ (h : HasBelow 0 k f z). let up = h.upto in record { v = h.v; from = h.from; upto = omega arith; le = le-trans h.le (le-same (sym e)) }) one))
      (least_of_two x z);
}

pub best_none : (a : ℤ) (f : ℕ → ℤ) → IsBest 0 0 a f a
best_none a f = record { below = ≤ℤ_refl a; all = λ v from upto. absurd (omega arith); one = inl refl }

-- of one number alone
pub best_single : (k : ℕ) (x y : ℤ) (f : ℕ → ℤ) → y ≡ int_min x (f k) → IsBest k (suc k) x f y
best_single k x y f e = record {
  below = le-trans (le-same e) (least-left x (f k));
  all = λ v from upto. subst (λ u. y ≤ℤ f u) (let e : k ≡ v = omega arith in e) (le-trans (le-same e) (least-right x (f k)));
  one = ⊎_elim (λ l. inl (e ∙ l)) (λ l. inr (record { v = k; from = omega arith; upto = omega arith; le = le-same (sym (e ∙ l)) })) (least_of_two x (f k));
}

pub least-best : (n : ℕ) (z : ℤ) (f : ℕ → ℤ) → IsBest 0 n z f (least_below n z f)
least-best zero z f = best_none z f
least-best (suc n) z f = best_more n z (least_below n z f) (f n) f (least-best n z f) (≤ℤ_refl (f n)) (inl (≤ℤ_refl (f n)))

-- what holds of the numbers holds of the best
pub best-among : (lo hi : ℕ) (x : ℤ) (f : ℕ → ℤ) (y : ℤ) (P : ℤ → Type 0) → IsBest lo hi x f y → P x → ((v : ℕ) → lo ≤ v → v < hi → P (f v)) → P y
best-among lo hi x f y P b px pf = ⊎_elim (λ e. subst P (sym e) px) (λ (h : HasBelow lo hi f y). subst P (le-antisym h.le (b.all h.v h.from h.upto)) (pf h.v h.from h.upto)) b.one

abbrev pub best_turn : (Array → ℕ → ℕ → ℕ → ℤ) → ℕ → Array → Array
best_turn way k m = grid m.dims (λ i j. int_min (element m i j) (way m k i j))

-- the dimensions stay, and a turn changes each element by its way
dims_after : (way : Array → ℕ → ℕ → ℕ → ℤ) (a : Array) (k : ℕ) → (after_turns k (best_turn way) a).dims ≡ a.dims
dims_after way a zero = refl
dims_after way a (suc k) = dims_after way a k

turn_more : (way : Array → ℕ → ℕ → ℕ → ℤ) (a : Array) (k i j : ℕ) → i < a.dims.rows → j < a.dims.cols → element (after_turns (suc k) (best_turn way) a) i j ≡ int_min (element (after_turns k (best_turn way) a) i j) (way (after_turns k (best_turn way) a) k i j)
turn_more way a k i j hi hj =
    let m = after_turns k (best_turn way) a in
    let e = dims_after way a k in
    element-grid m.dims (λ i j. int_min (element m i j) (way m k i j)) i j (subst (λ (d : Dims). i < d.rows) (sym e) hi) (subst (λ (d : Dims). j < d.cols) (sym e) hj)

-- ---- beside the diagonal block, and below it

abbrev pub row_way : Array → Array → ℕ → ℕ → ℕ → ℤ
row_way d m k i j = plus (element d i k) (element m k j)

abbrev pub col_way : Array → Array → ℕ → ℕ → ℕ → ℤ
col_way d m k i j = plus (element m i k) (element d k j)

abbrev pub diag_way : Array → ℕ → ℕ → ℕ → ℤ
diag_way m k i j = plus (element m i k) (element m k j)

module _ (d a : Array) (s : ℕ) (natural_d : (i j : ℕ) → i < s → j < s → pos 0 ≤ℤ element d i j) (closed : IsClosed s s (λ i j. element d i j)) where
  rows_so : a.dims.rows ≡ s → ((i j : ℕ) → i < s → j < a.dims.cols → pos 0 ≤ℤ element a i j) → (k : ℕ) → k ≤ s → (i j : ℕ) → i < s → j < a.dims.cols → IsBest 0 k (element a i j) (λ v. plus (element d i v) (element a v j)) (element (after_turns k (best_turn (row_way d)) a) i j)
  rows_so r natural zero le i j hi hj = best_none (element a i j) (λ v. plus (element d i v) (element a v j))
  rows_so r natural (suc k) le i j hi hj =
      let m = after_turns k (best_turn (row_way d)) a in
      let f = λ (v : ℕ). plus (element d i v) (element a v j) in
      let y = rows_so r natural k (omega arith) k j (omega arith) hj in
      subst (IsBest 0 (suc k) (element a i j) f) (sym (turn_more (row_way d) a k i j (omega arith) hj))
      (best_more k (element a i j) (element m i j) (plus (element d i k) (element m k j)) f (rows_so r natural k (omega arith) i j hi hj)
      (plus-mono (≤ℤ_refl (element d i k)) y.below)
      (⊎_elim
      (λ e. inl (plus-mono (≤ℤ_refl (element d i k)) (le-same (sym e))))
      (λ (h : HasBelow 0 k (λ v. plus (element d k v) (element a v j)) (element m k j)). let up = h.upto in
      inr (record { v = h.v; from = h.from; upto = h.upto; le = short_left (natural_d i k hi (omega arith)) (natural_d k h.v (omega arith) (omega arith)) (natural h.v j (omega arith) hj) h.le (closed.through k i h.v (omega arith) hi (omega arith)) (≤ℤ_refl (f h.v)) }))
      y.one))

  pub row_best : d.dims.rows ≡ s → a.dims.rows ≡ s → ((i j : ℕ) → i < s → j < a.dims.cols → pos 0 ≤ℤ element a i j) → (i j : ℕ) → i < s → j < a.dims.cols → IsBest 0 s (element a i j) (λ v. plus (element d i v) (element a v j)) (element (fwrow d a) i j)
  row_best e r natural i j hi hj = subst (λ k. IsBest 0 s (element a i j) (λ v. plus (element d i v) (element a v j)) (element (after_turns k (best_turn (row_way d)) a) i j)) (sym e) (rows_so r natural s (omega arith) i j hi hj)

  cols_so : a.dims.cols ≡ s → ((i j : ℕ) → i < a.dims.rows → j < s → pos 0 ≤ℤ element a i j) → (k : ℕ) → k ≤ s → (i j : ℕ) → i < a.dims.rows → j < s → IsBest 0 k (element a i j) (λ v. plus (element a i v) (element d v j)) (element (after_turns k (best_turn (col_way d)) a) i j)
  cols_so r natural zero le i j hi hj = best_none (element a i j) (λ v. plus (element a i v) (element d v j))
  cols_so r natural (suc k) le i j hi hj =
      let m = after_turns k (best_turn (col_way d)) a in
      let f = λ (v : ℕ). plus (element a i v) (element d v j) in
      let y = cols_so r natural k (omega arith) i k hi (omega arith) in
      subst (IsBest 0 (suc k) (element a i j) f) (sym (turn_more (col_way d) a k i j hi (omega arith)))
      (best_more k (element a i j) (element m i j) (plus (element m i k) (element d k j)) f (cols_so r natural k (omega arith) i j hi hj)
      (plus-mono y.below (≤ℤ_refl (element d k j)))
      (⊎_elim
      (λ e. inl (plus-mono (le-same (sym e)) (≤ℤ_refl (element d k j))))
      (λ (h : HasBelow 0 k (λ v. plus (element a i v) (element d v k)) (element m i k)). let up = h.upto in
      inr (record { v = h.v; from = h.from; upto = h.upto; le = short_right (natural i h.v hi (omega arith)) (natural_d h.v k (omega arith) (omega arith)) (natural_d k j (omega arith) hj) h.le (closed.through k h.v j (omega arith) (omega arith) hj) (≤ℤ_refl (f h.v)) }))
      y.one))

  pub col_best : d.dims.rows ≡ s → a.dims.cols ≡ s → ((i j : ℕ) → i < a.dims.rows → j < s → pos 0 ≤ℤ element a i j) → (i j : ℕ) → i < a.dims.rows → j < s → IsBest 0 s (element a i j) (λ v. plus (element a i v) (element d v j)) (element (fwcol d a) i j)
  col_best e r natural i j hi hj = subst (λ k. IsBest 0 s (element a i j) (λ v. plus (element a i v) (element d v j)) (element (after_turns k (best_turn (col_way d)) a) i j)) (sym e) (cols_so r natural s (omega arith) i j hi hj)

-- ---- apart

pub apart_best : (a b c : Array) (s i j : ℕ) → a.dims.cols ≡ s → i < c.dims.rows → j < c.dims.cols → IsBest 0 s (element c i j) (λ v. plus (element a i v) (element b v j)) (element (mingemm a b c) i j)
apart_best a b c s i j e hi hj =
    let f = λ (v : ℕ). plus (element a i v) (element b v j) in
    subst (IsBest 0 s (element c i j) f) (sym (element-grid c.dims (λ i j. least_below a.dims.cols (element c i j) (λ l. plus (element a i l) (element b l j))) i j hi hj))
    (subst (λ (k : ℕ). IsBest 0 s (element c i j) f (least_below k (element c i j) f)) (sym e) (least-best s (element c i j) f))

-- ---- the diagonal block

stays_left : (x y : ℤ) → x ≤ℤ inf → pos 0 ≤ℤ y → int_min x (plus x y) ≡ x
stays_left x y h k = let a = plus-above_left x y h k in grind (arith, ints, clamps)

stays_right : (x y : ℤ) → x ≤ℤ inf → pos 0 ≤ℤ y → int_min x (plus y x) ≡ x
stays_right x y h k = let a = plus-above_right y x h k in grind (arith, ints, clamps)

-- a turn of one vertex is a step of a block of one
module _ (s k : ℕ) (D E : ℕ → ℕ → ℤ) (inside : k < s) (old : AreLengths s D) (turned : (i j : ℕ) → i < s → j < s → E i j ≡ int_min (D i j) (plus (D i k) (D k j))) where
  same_col : (i : ℕ) → i < s → E i k ≡ D i k
  same_col i hi = turned i k hi inside ∙ stays_left (D i k) (D k k) (old.below i k hi inside) (old.natural k k inside inside)

  same_row : (j : ℕ) → j < s → E k j ≡ D k j
  same_row j hj = turned k j inside hj ∙ stays_right (D k j) (D k k) (old.below k j inside hj) (old.natural k k inside inside)

  pub turned_lower : (i j : ℕ) → i < s → j < s → E i j ≤ℤ D i j
  turned_lower i j hi hj = le-trans (le-same (turned i j hi hj)) (least-left (D i j) (plus (D i k) (D k j)))

  by_itself : (v i j : ℕ) → k ≤ v → v < suc k → i < s → j < s → E i j ≤ℤ plus (E i v) (E v j)
  by_itself v i j from upto hi hj =
      let e : k ≡ v = omega arith in
      subst (λ u. E i j ≤ℤ plus (E i u) (E u j)) e
      (le-trans
      (le-trans (le-same (turned i j hi hj)) (least-right (D i j) (plus (D i k) (D k j))))
      (plus-mono (le-same (sym (same_col i hi))) (le-same (sym (same_row j hj)))))

  pub turn-step : IsBlockStep s k (suc k) D E
  turn-step = record {
    lower = λ i j fi ui fj uj. turned_lower i j (omega arith) (omega arith);
    within = λ v i j fv uv fi ui fj uj. by_itself v i j fv uv (omega arith) (omega arith);
    rows = λ i j fi ui hj out. best_single k (D i j) (E i j) (λ v. plus (E i v) (D v j)) (turned i j (omega arith) hj ∙ ap (λ z. int_min (D i j) (plus z (D k j))) (sym (same_col i (omega arith))));
    cols = λ i j hi out fj uj. best_single k (D i j) (E i j) (λ v. plus (D i v) (E v j)) (turned i j hi (omega arith) ∙ ap (λ z. int_min (D i j) (plus (D i k) z)) (sym (same_row j (omega arith))));
    apart = λ i j hi hj out out'. best_single k (D i j) (E i j) (λ v. plus (E i v) (E v j)) (turned i j hi hj ∙ ap (λ z. int_min (D i j) (plus z (D k j))) (sym (same_col i hi)) ∙ ap (λ z. int_min (D i j) (plus (E i k) z)) (sym (same_row j hj)));
  }

-- P is said of places and numbers, holds of sums, and of no negative number and of none above `inf`
pub record IsKept (P : ℕ → ℕ → ℤ → Type 0) (s : ℕ) : Type 0 where
  pub sum : (i v j : ℕ) (x y : ℤ) → i < s → v < s → j < s → P i v x → P v j y → P i j (plus x y)
  pub natural : (i j : ℕ) (x : ℤ) → i < s → j < s → P i j x → pos 0 ≤ℤ x
  pub below : (i j : ℕ) (x : ℤ) → i < s → j < s → P i j x → x ≤ℤ inf

-- what is known after the turns below k
pub record AreTurned (P : ℕ → ℕ → ℤ → Type 0) (s k : ℕ) (D E : ℕ → ℕ → ℤ) : Type 0 where
  pub closed : IsClosed s k E
  pub lower : (i j : ℕ) → i < s → j < s → E i j ≤ℤ D i j
  pub kept : (i j : ℕ) → i < s → j < s → P i j (E i j)

lengths-kept : (P : ℕ → ℕ → ℤ → Type 0) (s : ℕ) (E : ℕ → ℕ → ℤ) → IsKept P s → ((i j : ℕ) → i < s → j < s → P i j (E i j)) → AreLengths s E
lengths-kept P s E keeps kept = record { natural = λ i j hi hj. keeps.natural i j (E i j) hi hj (kept i j hi hj); below = λ i j hi hj. keeps.below i j (E i j) hi hj (kept i j hi hj) }

turned_more : (P : ℕ → ℕ → ℤ → Type 0) (s k : ℕ) (D E F : ℕ → ℕ → ℤ) → IsKept P s → k < s → AreTurned P s k D E → ((i j : ℕ) → i < s → j < s → F i j ≡ int_min (E i j) (plus (E i k) (E k j))) → AreTurned P s (suc k) D F
turned_more P s k D E F keeps inside t e =
    let kept : (i j : ℕ) → i < s → j < s → P i j (F i j) =
    λ i j hi hj. subst (P i j) (sym (e i j hi hj)) (⊎_elim (λ l. subst (P i j) (sym l) (t.kept i j hi hj)) (λ l. subst (P i j) (sym l) (keeps.sum i k j (E i k) (E k j) hi inside hj (t.kept i k hi inside) (t.kept k j inside hj))) (least_of_two (E i j) (plus (E i k) (E k j)))) in
    let old = lengths-kept P s E keeps t.kept in
    record {
      closed = closed_more s k (suc k) E F (omega arith) (omega arith) old (lengths-kept P s F keeps kept) t.closed (turn-step s k E F inside old e);
      lower = λ i j hi hj. le-trans (turned_lower s k E F inside old e i j hi hj) (t.lower i j hi hj);
      kept = kept;
    }

diag_so : (P : ℕ → ℕ → ℤ → Type 0) (a : Array) (s : ℕ) → IsKept P s → a.dims.rows ≡ s → a.dims.cols ≡ s → ((i j : ℕ) → i < s → j < s → P i j (element a i j)) → (k : ℕ) → k ≤ s → AreTurned P s k (λ i j. element a i j) (λ i j. element (after_turns k (best_turn diag_way) a) i j)
diag_so P a s keeps r c kept zero le = record { closed = record { through = λ v i j hv hi hj. absurd (omega arith) }; lower = λ i j hi hj. ≤ℤ_refl (element a i j); kept = kept }
diag_so P a s keeps r c kept (suc k) le =
    turned_more P s k (λ i j. element a i j) (λ i j. element (after_turns k (best_turn diag_way) a) i j) (λ i j. element (after_turns (suc k) (best_turn diag_way) a) i j) keeps (omega arith)
    (diag_so P a s keeps r c kept k (omega arith)) (λ i j hi hj. turn_more diag_way a k i j (omega arith) (omega arith))

pub diag_turned : (P : ℕ → ℕ → ℤ → Type 0) (a : Array) (s : ℕ) → IsKept P s → a.dims.rows ≡ s → a.dims.cols ≡ s → ((i j : ℕ) → i < s → j < s → P i j (element a i j)) → AreTurned P s s (λ i j. element a i j) (λ i j. element (fwdiag a) i j)
diag_turned P a s keeps r c kept = subst (λ k. AreTurned P s s (λ i j. element a i j) (λ i j. element (after_turns k (best_turn diag_way) a) i j)) (sym r) (diag_so P a s keeps r c kept s (omega arith))
