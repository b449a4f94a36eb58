-- The tasks of a block's step, one after another, and what the whole of them makes of a matrix.
use Rattle.std.proofs.Common.{◌≡◌, ℕ, ◌+◌, ◌-◌, ◌<◌, ◌≤◌, ◌⊎◌, inl, inr, ⊎_elim, ℤ, ◌≤ℤ◌, refl, sym, ap, ◌∙◌, subst, arith}
use Rattle.std.proofs.lemmas.Bool.{cases_lt}
use Rattle.sj_codelet.specs.MinPlus.{plus}
use Rattle.sj_apps.proofs.Adding.{le-trans, le-same}
use Rattle.sj_apps.proofs.Closing.{HasBelow, IsBest, IsBlockStep, IsOut}

pub best-same : (lo hi : ℕ) (x x' y y' : ℤ) (f f' : ℕ → ℤ) → x ≡ x' → y ≡ y' → ((v : ℕ) → lo ≤ v → v < hi → f v ≡ f' v) → IsBest lo hi x f y → IsBest lo hi x' f' y'
best-same lo hi x x' y y' f f' e d same b = record {
  below = subst (λ z. z ≤ℤ x') d (subst (λ z. y ≤ℤ z) e b.below);
  all = λ v from upto. subst (λ z. z ≤ℤ f' v) d (subst (λ z. y ≤ℤ z) (same v from upto) (b.all v from upto));
  one = ⊎_elim (λ l. inl (sym d ∙ l ∙ e)) (λ (h : HasBelow lo hi f y). inr (record { v = h.v; from = h.from; upto = h.upto; le = subst (λ z. f' h.v ≤ℤ z) d (subst (λ z. z ≤ℤ y) (same h.v h.from h.upto) h.le) })) b.one;
}

-- of a block's own numbering
pub best-shifted : (lo s : ℕ) (x x' y y' : ℤ) (f f' : ℕ → ℤ) → x ≡ x' → y ≡ y' → ((v : ℕ) → v < s → f v ≡ f' (lo + v)) → IsBest 0 s x f y → IsBest lo (lo + s) x' f' y'
best-shifted lo s x x' y y' f f' e d same b = record {
  below = subst (λ z. z ≤ℤ x') d (subst (λ z. y ≤ℤ z) e b.below);
  all = λ v from upto. subst (λ z. z ≤ℤ f' v) d (subst (λ z. y ≤ℤ z) (same (v - lo) (omega arith) ∙ ap f' (let g : lo + (v - lo) ≡ v = omega arith in g)) (b.all (v - lo) (omega arith) (omega arith)));
  one = ⊎_elim (λ l. inl (sym d ∙ l ∙ e)) (λ (h : HasBelow 0 s f y). let up = h.upto in inr (record { v = lo + h.v; from = omega arith; upto = omega arith; le = subst (λ z. f' (lo + h.v) ≤ℤ z) d (subst (λ z. z ≤ℤ y) (same h.v h.upto) h.le) })) b.one;
}

-- the elements of S are the least of the old ones and of the old ways by the block, and those of N are the old ones
pub record IsChanged (n lo hi : ℕ) (S N : ℕ → ℕ → Type 0) (g f : ℕ → ℕ → ℤ) : Type 0 where
  pub here : (a b : ℕ) → a < n → b < n → S a b → IsBest lo hi (g a b) (λ v. plus (g a v) (g v b)) (f a b)
  pub there : (a b : ℕ) → a < n → b < n → N a b → f a b ≡ g a b

-- the elements that change by a second change don't change by the first one, nor do those that it reads
pub changed_more : (n lo hi : ℕ) (S N T M U V : ℕ → ℕ → Type 0) (e g f : ℕ → ℕ → ℤ) → hi ≤ n → IsChanged n lo hi S N e g → IsChanged n lo hi T M g f
    → ((a b : ℕ) → a < n → b < n → U a b → (S a b × M a b) ⊎ (T a b × N a b × ((v : ℕ) → lo ≤ v → v < hi → N a v × N v b)))
    → ((a b : ℕ) → a < n → b < n → V a b → N a b × M a b)
    → IsChanged n lo hi U V e f
changed_more n lo hi S N T M U V e g f fits first second new old = record {
  here = λ a b ha hb u. ⊎_elim
      (λ (s : S a b × M a b). subst (IsBest lo hi (e a b) (λ v. plus (e a v) (e v b))) (sym (second.there a b ha hb s.1)) (first.here a b ha hb s.0))
      (λ (t : T a b × N a b × ((v : ℕ) → lo ≤ v → v < hi → N a v × N v b)). best-same lo hi (g a b) (e a b) (f a b) (f a b) (λ v. plus (g a v) (g v b)) (λ v. plus (e a v) (e v b)) (first.there a b ha hb t.1) refl
      (λ v from upto. ap (λ z. plus z (g v b)) (first.there a v ha (omega arith) (t.2 v from upto).0) ∙ ap (λ z. plus (e a v) z) (first.there v b (omega arith) hb (t.2 v from upto).1))
      (second.here a b ha hb t.0))
      (new a b ha hb u);
  there = λ a b ha hb v. second.there a b ha hb (old a b ha hb v).1 ∙ first.there a b ha hb (old a b ha hb v).0;
}

abbrev pub IsIn : ℕ → ℕ → ℕ → Type 0
IsIn lo hi a = (lo ≤ a) × (a < hi)

-- a tile
abbrev pub InTile : ℕ → ℕ → ℕ → ℕ → ℕ → ℕ → Type 0
InTile r0 r1 c0 c1 a b = IsIn r0 r1 a × IsIn c0 c1 b

abbrev pub OffTile : ℕ → ℕ → ℕ → ℕ → ℕ → ℕ → Type 0
OffTile r0 r1 c0 c1 a b = IsOut r0 r1 a ⊎ IsOut c0 c1 b

-- in these rows the columns before e, but for the block's
abbrev pub InRows : ℕ → ℕ → ℕ → ℕ → ℕ → ℕ → ℕ → Type 0
InRows lo hi r0 r1 e a b = IsIn r0 r1 a × (b < e) × IsOut lo hi b

abbrev pub OffRows : ℕ → ℕ → ℕ → ℕ → ℕ → ℕ → ℕ → Type 0
OffRows lo hi r0 r1 e a b = IsOut r0 r1 a ⊎ ((e ≤ b) ⊎ IsIn lo hi b)

-- in the block's columns the rows before e, but for the block's
abbrev pub InCols : ℕ → ℕ → ℕ → ℕ → ℕ → Type 0
InCols lo hi e a b = (a < e) × IsOut lo hi a × IsIn lo hi b

abbrev pub OffCols : ℕ → ℕ → ℕ → ℕ → ℕ → Type 0
OffCols lo hi e a b = (e ≤ a) ⊎ (IsIn lo hi a ⊎ IsOut lo hi b)

-- in the other columns
abbrev pub InRest : ℕ → ℕ → ℕ → ℕ → ℕ → Type 0
InRest lo hi e a b = (a < e) × IsOut lo hi a × IsOut lo hi b

abbrev pub OffRest : ℕ → ℕ → ℕ → ℕ → ℕ → Type 0
OffRest lo hi e a b = (e ≤ a) ⊎ (IsIn lo hi a ⊎ IsIn lo hi b)

-- two intervals have no number in common
abbrev pub AreApart : ℕ → ℕ → ℕ → ℕ → Type 0
AreApart lo hi c0 c1 = (c1 ≤ lo) ⊎ (hi ≤ c0)

out_of_other : (lo hi c0 c1 a : ℕ) → AreApart lo hi c0 c1 → IsIn lo hi a → IsOut c0 c1 a
out_of_other lo hi c0 c1 a h i = ⊎_elim (λ l. inr (omega (arith, i.0))) (λ l. inl (omega (arith, i.1))) h

-- one tile more in these rows
pub rows_more : (n lo hi r0 r1 c0 c1 : ℕ) (e g f : ℕ → ℕ → ℤ) → hi ≤ n → c0 ≤ c1 → AreApart lo hi c0 c1 → IsChanged n lo hi (InRows lo hi r0 r1 c0) (OffRows lo hi r0 r1 c0) e g → IsChanged n lo hi (InTile r0 r1 c0 c1) (OffTile r0 r1 c0 c1) g f → IsChanged n lo hi (InRows lo hi r0 r1 c1) (OffRows lo hi r0 r1 c1) e f
rows_more n lo hi r0 r1 c0 c1 e g f fits ordered apart first second =
    changed_more n lo hi (InRows lo hi r0 r1 c0) (OffRows lo hi r0 r1 c0) (InTile r0 r1 c0 c1) (OffTile r0 r1 c0 c1) (InRows lo hi r0 r1 c1) (OffRows lo hi r0 r1 c1) e g f fits first second
    (λ a b ha hb u. ⊎_elim (λ l. inl ((u.0, l, u.2), inr (inl l)))
    (λ g'. inr ((u.0, (g', u.1)), inr (inl g'), λ v from upto. (inr (inr (from, upto)), inr (inl g'))))
    (cases_lt b c0))
    (λ a b ha hb v. ⊎_elim (λ o. (inl o, inl o)) (λ w. ⊎_elim (λ l. (inr (inl (omega arith)), inr (inr l))) (λ i. (inr (inr i), inr (out_of_other lo hi c0 c1 b apart i))) w) v)

-- nothing yet
pub rows_none : (n lo hi r0 r1 : ℕ) (g : ℕ → ℕ → ℤ) → IsChanged n lo hi (InRows lo hi r0 r1 0) (OffRows lo hi r0 r1 0) g g
rows_none n lo hi r0 r1 g = record { here = λ a b ha hb s. absurd (omega (arith, s.1)); there = λ a b ha hb o. refl }

-- the block's own tile is passed over
pub rows_skip : (n lo hi r0 r1 : ℕ) (g f : ℕ → ℕ → ℤ) → lo ≤ hi → IsChanged n lo hi (InRows lo hi r0 r1 lo) (OffRows lo hi r0 r1 lo) g f → IsChanged n lo hi (InRows lo hi r0 r1 hi) (OffRows lo hi r0 r1 hi) g f
rows_skip n lo hi r0 r1 g f ordered h = record {
  here = λ a b ha hb s. h.here a b ha hb (s.0, ⊎_elim (λ l. l) (λ k. absurd (omega (arith, s.1, k))) s.2, s.2);
  there = λ a b ha hb o. h.there a b ha hb (⊎_elim inl (λ w. ⊎_elim (λ l. inr (inl (omega arith))) (λ i. inr (inr i)) w) o);
}

pub down_none : (n lo hi : ℕ) (C N : ℕ → Type 0) (g : ℕ → ℕ → ℤ) → IsChanged n lo hi (λ a b. (a < 0) × IsOut lo hi a × C b) (λ a b. (0 ≤ a) ⊎ (IsIn lo hi a ⊎ N b)) g g
down_none n lo hi C N g = record { here = λ a b ha hb s. absurd (omega (arith, s.0)); there = λ a b ha hb o. refl }

pub down_skip : (n lo hi : ℕ) (C N : ℕ → Type 0) (g f : ℕ → ℕ → ℤ) → lo ≤ hi
    → IsChanged n lo hi (λ a b. (a < lo) × IsOut lo hi a × C b) (λ a b. (lo ≤ a) ⊎ (IsIn lo hi a ⊎ N b)) g f
    → IsChanged n lo hi (λ a b. (a < hi) × IsOut lo hi a × C b) (λ a b. (hi ≤ a) ⊎ (IsIn lo hi a ⊎ N b)) g f
down_skip n lo hi C N g f ordered h = record {
  here = λ a b ha hb s. h.here a b ha hb (⊎_elim (λ l. l) (λ k. absurd (omega (arith, s.0, k))) s.1, s.1, s.2);
  there = λ a b ha hb o. h.there a b ha hb (⊎_elim (λ l. inl (omega arith)) inr o);
}

-- the tiles of one row more
pub down_more : (n lo hi r0 r1 : ℕ) (C N : ℕ → Type 0) (e g f : ℕ → ℕ → ℤ) → hi ≤ n → r0 ≤ r1 → AreApart lo hi r0 r1
    → IsChanged n lo hi (λ a b. (a < r0) × IsOut lo hi a × C b) (λ a b. (r0 ≤ a) ⊎ (IsIn lo hi a ⊎ N b)) e g
    → IsChanged n lo hi (λ a b. IsIn r0 r1 a × C b) (λ a b. IsOut r0 r1 a ⊎ N b) g f
    → IsChanged n lo hi (λ a b. (a < r1) × IsOut lo hi a × C b) (λ a b. (r1 ≤ a) ⊎ (IsIn lo hi a ⊎ N b)) e f
down_more n lo hi r0 r1 C N e g f fits ordered apart first second =
    changed_more n lo hi (λ a b. (a < r0) × IsOut lo hi a × C b) (λ a b. (r0 ≤ a) ⊎ (IsIn lo hi a ⊎ N b)) (λ a b. IsIn r0 r1 a × C b) (λ a b. IsOut r0 r1 a ⊎ N b) (λ a b. (a < r1) × IsOut lo hi a × C b) (λ a b. (r1 ≤ a) ⊎ (IsIn lo hi a ⊎ N b)) e g f fits first second
    (λ a b ha hb u. ⊎_elim (λ l. inl ((l, u.1, u.2), inl (inl l)))
    (λ g'. inr (((g', u.0), u.2), inl g', λ v from upto. (inl g', inr (inl (from, upto)))))
    (cases_lt a r0))
    (λ a b ha hb v. ⊎_elim (λ l. (inl (omega arith), inl (inr l))) (λ w. ⊎_elim (λ i. (inr (inl i), inl (out_of_other lo hi r0 r1 a apart i))) (λ o. (inr (inr o), inr o)) w) v)

-- the four parts of a step, one after another
pub block-step : (n lo hi : ℕ) (d0 d1 d2 d3 d4 : ℕ → ℕ → ℤ) → hi ≤ n
    → ((a b : ℕ) → IsIn lo hi a → IsIn lo hi b → d1 a b ≤ℤ d0 a b)
    → ((v a b : ℕ) → IsIn lo hi v → IsIn lo hi a → IsIn lo hi b → d1 a b ≤ℤ plus (d1 a v) (d1 v b))
    → ((a b : ℕ) → a < n → b < n → IsOut lo hi a ⊎ IsOut lo hi b → d1 a b ≡ d0 a b)
    → IsChanged n lo hi (InRows lo hi lo hi n) (OffRows lo hi lo hi n) d1 d2
    → IsChanged n lo hi (InCols lo hi n) (OffCols lo hi n) d2 d3
    → IsChanged n lo hi (InRest lo hi n) (OffRest lo hi n) d3 d4
    → IsBlockStep n lo hi d0 d4
block-step n lo hi d0 d1 d2 d3 d4 fits lower within outside rows cols rest =
    let own : (a b : ℕ) → IsIn lo hi a → IsIn lo hi b → d4 a b ≡ d1 a b =
    λ a b i j. (let ha : a < n = omega (arith, i.1) in let hb : b < n = omega (arith, j.1) in
    rest.there a b ha hb (inr (inl i)) ∙ cols.there a b ha hb (inr (inl i)) ∙ rows.there a b ha hb (inr (inr j))) in
    record {
      lower = λ i j fi ui fj uj. le-trans (le-same (own i j (fi, ui) (fj, uj))) (lower i j (fi, ui) (fj, uj));
      within = λ v i j fv uv fi ui fj uj. subst (λ z. z ≤ℤ plus (d4 i v) (d4 v j)) (sym (own i j (fi, ui) (fj, uj)))
          (subst (λ z. d1 i j ≤ℤ plus z (d4 v j)) (sym (own i v (fi, ui) (fv, uv))) (subst (λ z. d1 i j ≤ℤ plus (d1 i v) z) (sym (own v j (fv, uv) (fj, uj))) (within v i j (fv, uv) (fi, ui) (fj, uj))));
      rows = λ i j fi ui hj out. (let hi' : i < n = omega arith in
          best-same lo hi (d1 i j) (d0 i j) (d2 i j) (d4 i j) (λ v. plus (d1 i v) (d1 v j)) (λ v. plus (d4 i v) (d0 v j)) (outside i j hi' hj (inr out))
          (sym (rest.there i j hi' hj (inr (inl (fi, ui))) ∙ cols.there i j hi' hj (inr (inl (fi, ui)))))
          (λ v from upto. ap (λ z. plus z (d1 v j)) (sym (own i v (fi, ui) (from, upto))) ∙ ap (λ z. plus (d4 i v) z) (outside v j (omega arith) hj (inr out)))
          (rows.here i j hi' hj ((fi, ui), hj, out)));
      cols = λ i j hi' out fj uj. (let hj : j < n = omega arith in
          best-same lo hi (d2 i j) (d0 i j) (d3 i j) (d4 i j) (λ v. plus (d2 i v) (d2 v j)) (λ v. plus (d0 i v) (d4 v j))
          (rows.there i j hi' hj (inl out) ∙ outside i j hi' hj (inl out))
          (sym (rest.there i j hi' hj (inr (inr (fj, uj)))))
          (λ v from upto. (let hv : v < n = omega arith in ap (λ z. plus z (d2 v j)) (rows.there i v hi' hv (inl out) ∙ outside i v hi' hv (inl out)) ∙ ap (λ z. plus (d0 i v) z) (sym (rest.there v j hv hj (inr (inl (from, upto))) ∙ cols.there v j hv hj (inr (inl (from, upto)))))))
          (cols.here i j hi' hj (hi', out, (fj, uj))));
      apart = λ i j hi' hj out out'. best-same lo hi (d3 i j) (d0 i j) (d4 i j) (d4 i j) (λ v. plus (d3 i v) (d3 v j)) (λ v. plus (d4 i v) (d4 v j))
          (cols.there i j hi' hj (inr (inr out')) ∙ rows.there i j hi' hj (inl out) ∙ outside i j hi' hj (inl out)) refl
          (λ v from upto. (let hv : v < n = omega arith in ap (λ z. plus z (d3 v j)) (sym (rest.there i v hi' hv (inr (inr (from, upto))))) ∙ ap (λ z. plus (d4 i v) z) (sym (rest.there v j hv hj (inr (inl (from, upto)))))))
          (rest.here i j hi' hj (hi', out, out'));
    }
