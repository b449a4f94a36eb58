-- Matrices that are closed through vertices: no way through one of these is shorter than the element.
use Rattle.std.proofs.Common.{◌≡◌, ℕ, ◌<◌, ◌≤◌, ◌⊎◌, inl, inr, ⊎_elim, ℤ, pos, ◌≤ℤ◌, sym, arith}
use Rattle.std.specs.Int.Signed.{≤ℤ_refl}
use Rattle.std.proofs.lemmas.Bool.{cases_lt}
use Rattle.sj_codelet.specs.MinPlus.{inf, plus}
use Rattle.sj_apps.proofs.Adding.{le-trans, le-same, plus-mono, short_left, short_right}

-- no element is negative or above `inf`
pub record AreLengths (n : ℕ) (D : ℕ → ℕ → ℤ) : Type 0 where
  pub natural : (i j : ℕ) → i < n → j < n → pos 0 ≤ℤ D i j
  pub below : (i j : ℕ) → i < n → j < n → D i j ≤ℤ inf

-- of n vertices, the ways through those below b are no shorter
pub record IsClosed (n b : ℕ) (D : ℕ → ℕ → ℤ) : Type 0 where
  pub through : (v i j : ℕ) → v < b → i < n → j < n → D i j ≤ℤ plus (D i v) (D v j)

-- some f v, for a v from lo to below hi, is no greater than y
pub record HasBelow (lo hi : ℕ) (f : ℕ → ℤ) (y : ℤ) : Type 0 where
  pub v : ℕ
  pub from : lo ≤ v
  pub upto : v < hi
  pub le : f v ≤ℤ y

-- y is the least of x and of these f v
pub record IsBest (lo hi : ℕ) (x : ℤ) (f : ℕ → ℤ) (y : ℤ) : Type 0 where
  pub below : y ≤ℤ x
  pub all : (v : ℕ) → lo ≤ v → v < hi → y ≤ℤ f v
  pub one : (y ≡ x) ⊎ HasBelow lo hi f y

abbrev pub IsOut : ℕ → ℕ → ℕ → Type 0
IsOut lo hi i = (i < lo) ⊎ (hi ≤ i)

pub in_or_out : (lo hi i : ℕ) → ((lo ≤ i) × (i < hi)) ⊎ IsOut lo hi i
in_or_out lo hi i = ⊎_elim (λ l. inr (inl l)) (λ g. ⊎_elim (λ l. inl (g, l)) (λ k. inr (inr k)) (cases_lt i hi)) (cases_lt i lo)

-- E is what the step of the block from lo to below hi makes of D: first the block's own elements, then those of its rows and of
-- its columns, then the others
pub record IsBlockStep (n lo hi : ℕ) (D E : ℕ → ℕ → ℤ) : Type 0 where
  pub lower : (i j : ℕ) → lo ≤ i → i < hi → lo ≤ j → j < hi → E i j ≤ℤ D i j
  pub within : (v i j : ℕ) → lo ≤ v → v < hi → lo ≤ i → i < hi → lo ≤ j → j < hi → E i j ≤ℤ plus (E i v) (E v j)
  pub rows : (i j : ℕ) → lo ≤ i → i < hi → j < n → IsOut lo hi j → IsBest lo hi (D i j) (λ v. plus (E i v) (D v j)) (E i j)
  pub cols : (i j : ℕ) → i < n → IsOut lo hi i → lo ≤ j → j < hi → IsBest lo hi (D i j) (λ v. plus (D i v) (E v j)) (E i j)
  pub apart : (i j : ℕ) → i < n → j < n → IsOut lo hi i → IsOut lo hi j → IsBest lo hi (D i j) (λ v. plus (E i v) (E v j)) (E i j)

-- what the step leaves of a closed matrix is closed through the block too
module _ (n lo hi : ℕ) (D E : ℕ → ℕ → ℤ) (fits : hi ≤ n) (ordered : lo ≤ hi) (old : AreLengths n D) (new : AreLengths n E) (closed : IsClosed n lo D) (step : IsBlockStep n lo hi D E) where
  pub no_greater : (i j : ℕ) → i < n → j < n → E i j ≤ℤ D i j
  no_greater i j hi' hj = ⊎_elim (λ a. ⊎_elim (λ b. step.lower i j a.0 a.1 b.0 b.1) (λ b. (step.rows i j a.0 a.1 hj b).below) (in_or_out lo hi j)) (λ a. ⊎_elim (λ b. (step.cols i j hi' a b.0 b.1).below) (λ b. (step.apart i j hi' hj a b).below) (in_or_out lo hi j)) (in_or_out lo hi i)

  rows_through : (v i j : ℕ) → lo ≤ v → v < hi → lo ≤ i → i < hi → j < n → IsOut lo hi j → E i j ≤ℤ plus (E i v) (E v j)
  rows_through v i j fv uv fi ui hj out =
      let best = step.rows i j fi ui hj out in
      ⊎_elim
      (λ e. le-trans (best.all v fv uv) (plus-mono (≤ℤ_refl (E i v)) (le-same (sym e))))
      (λ (h : HasBelow lo hi (λ w. plus (E v w) (D w j)) (E v j)). let up = h.upto in
      short_left (new.natural i v (omega arith) (omega arith)) (new.natural v h.v (omega arith) (omega arith)) (old.natural h.v j (omega arith) hj) h.le (step.within v i h.v fv uv fi ui h.from h.upto) (best.all h.v h.from h.upto))
      (step.rows v j fv uv hj out).one

  cols_through : (v i j : ℕ) → lo ≤ v → v < hi → i < n → IsOut lo hi i → lo ≤ j → j < hi → E i j ≤ℤ plus (E i v) (E v j)
  cols_through v i j fv uv hi' out fj uj =
      let best = step.cols i j hi' out fj uj in
      ⊎_elim
      (λ e. le-trans (best.all v fv uv) (plus-mono (le-same (sym e)) (≤ℤ_refl (E v j))))
      (λ (h : HasBelow lo hi (λ w. plus (D i w) (E w v)) (E i v)). let up = h.upto in
      short_right (old.natural i h.v hi' (omega arith)) (new.natural h.v v (omega arith) (omega arith)) (new.natural v j (omega arith) (omega arith)) h.le (step.within v h.v j fv uv h.from h.upto fj uj) (best.all h.v h.from h.upto))
      (step.cols i v hi' out fv uv).one

  pub block_through : (v i j : ℕ) → lo ≤ v → v < hi → i < n → j < n → E i j ≤ℤ plus (E i v) (E v j)
  block_through v i j fv uv hi' hj = ⊎_elim (λ a. ⊎_elim (λ b. step.within v i j fv uv a.0 a.1 b.0 b.1) (λ b. rows_through v i j fv uv a.0 a.1 hj b) (in_or_out lo hi j)) (λ a. ⊎_elim (λ b. cols_through v i j fv uv hi' a b.0 b.1) (λ b. (step.apart i j hi' hj a b).all v fv uv) (in_or_out lo hi j)) (in_or_out lo hi i)

  -- a new element in a column below the block: the old one, or a way that leaves the block by an old one
  leaving : (i u : ℕ) → i < n → u < lo → (E i u ≡ D i u) ⊎ HasBelow lo hi (λ v. plus (E i v) (D v u)) (E i u)
  leaving i u hi' hu = ⊎_elim (λ a. (step.rows i u a.0 a.1 (omega arith) (inl hu)).one) (λ a. ⊎_elim inl
      (λ (h : HasBelow lo hi (λ v. plus (E i v) (E v u)) (E i u)). let up = h.upto in
      ⊎_elim
      (λ e. inr (record { v = h.v; from = h.from; upto = h.upto; le = le-trans (plus-mono (≤ℤ_refl (E i h.v)) (le-same (sym e))) h.le }))
      (λ (k : HasBelow lo hi (λ w. plus (E h.v w) (D w u)) (E h.v u)). let up = k.upto in
      inr (record {
        v = k.v;
        from = k.from;
        upto = k.upto;
        le = le-trans
            (short_left (new.natural i h.v hi' (omega arith)) (new.natural h.v k.v (omega arith) (omega arith)) (old.natural k.v u (omega arith) (omega arith)) k.le (block_through h.v i k.v h.from h.upto hi' (omega arith)) (≤ℤ_refl (plus (E i k.v) (D k.v u)))) h.le;
      }))
      (step.rows h.v u h.from h.upto (omega arith) (inl hu)).one)
      (step.apart i u hi' (omega arith) a (inl hu)).one) (in_or_out lo hi i)

  -- the same for rows
  entering : (u j : ℕ) → u < lo → j < n → (E u j ≡ D u j) ⊎ HasBelow lo hi (λ v. plus (D u v) (E v j)) (E u j)
  entering u j hu hj = ⊎_elim (λ a. (step.cols u j (omega arith) (inl hu) a.0 a.1).one) (λ a. ⊎_elim inl
      (λ (h : HasBelow lo hi (λ v. plus (E u v) (E v j)) (E u j)). let up = h.upto in
      ⊎_elim
      (λ e. inr (record { v = h.v; from = h.from; upto = h.upto; le = le-trans (plus-mono (le-same (sym e)) (≤ℤ_refl (E h.v j))) h.le }))
      (λ (k : HasBelow lo hi (λ w. plus (D u w) (E w h.v)) (E u h.v)). let up = k.upto in
      inr (record {
        v = k.v;
        from = k.from;
        upto = k.upto;
        le = le-trans
            (short_right (old.natural u k.v (omega arith) (omega arith)) (new.natural k.v h.v (omega arith) (omega arith)) (new.natural h.v j (omega arith) hj) k.le (block_through h.v k.v j h.from h.upto (omega arith) hj) (≤ℤ_refl (plus (D u k.v) (E k.v j)))) h.le;
      }))
      (step.cols u h.v (omega arith) (inl hu) h.from h.upto).one)
      (step.apart u j (omega arith) hj (inl hu) a).one) (in_or_out lo hi j)

  -- the old way by u, then the new element
  shorter : (u i j : ℕ) → u < lo → i < n → j < n → E i j ≤ℤ plus (D i u) (D u j)
  shorter u i j hu hi' hj = le-trans (no_greater i j hi' hj) (closed.through u i j hu hi' hj)

  before_block : (u i j : ℕ) → u < lo → i < n → j < n → E i j ≤ℤ plus (E i u) (E u j)
  before_block u i j hu hi' hj = ⊎_elim
      (λ e. ⊎_elim
      (λ f. le-trans (shorter u i j hu hi' hj) (plus-mono (le-same (sym e)) (le-same (sym f))))
      (λ (k : HasBelow lo hi (λ v. plus (D u v) (E v j)) (E u j)). let up = k.upto in
      le-trans
      (short_left (old.natural i u hi' (omega arith)) (old.natural u k.v (omega arith) (omega arith)) (new.natural k.v j (omega arith) hj) k.le (shorter u i k.v hu hi' (omega arith)) (block_through k.v i j k.from k.upto hi' hj))
      (plus-mono (le-same (sym e)) (≤ℤ_refl (E u j))))
      (entering u j hu hj))
      (λ (h : HasBelow lo hi (λ v. plus (E i v) (D v u)) (E i u)). let up = h.upto in
      let rest : E h.v j ≤ℤ plus (D h.v u) (E u j) = ⊎_elim
      (λ f. le-trans (shorter u h.v j hu (omega arith) hj) (plus-mono (≤ℤ_refl (D h.v u)) (le-same (sym f))))
      (λ (k : HasBelow lo hi (λ v. plus (D u v) (E v j)) (E u j)). let up' = k.upto in
      short_left (old.natural h.v u (omega arith) (omega arith)) (old.natural u k.v (omega arith) (omega arith)) (new.natural k.v j (omega arith) hj) k.le (shorter u h.v k.v hu (omega arith) (omega arith)) (block_through k.v h.v j k.from k.upto (omega arith) hj))
      (entering u j hu hj) in
      short_right (new.natural i h.v hi' (omega arith)) (old.natural h.v u (omega arith) (omega arith)) (new.natural u j (omega arith) hj) h.le rest (block_through h.v i j h.from h.upto hi' hj))
      (leaving i u hi' hu)

  pub closed_more : IsClosed n hi E
  closed_more = record { through = λ v i j hv hi' hj. ⊎_elim (λ l. before_block v i j l hi' hj) (λ g. block_through v i j g hv hi' hj) (cases_lt v lo) }
