-- Numbers that are the lengths of walks, cut off at the greatest number below `inf`.
use Rattle.std.proofs.Common.{◌≡◌, ℕ, ◌<◌, ◌⊎◌, inl, inr, ⊎_elim, ℤ, pos, ◌+ℤ◌, ◌≤ℤ◌, ◌<ℤ◌, List, [], ◌∷◌, ◌++◌, refl, sym, ap, ◌∙◌, subst, arith}
use Rattle.std.proofs.lemmas.Int.{ints, clamps, by_lt_z}
use Rattle.sj_codelet.specs.MinPlus.{inf, greatest, plus}
use Rattle.sj_apps.specs.Walks.{IsWalk, walk_length, IsShortest, Reached, Unreached, AreWeights, StayBelowInf}
use Rattle.sj_apps.proofs.Adding.{cut_off, cut_off-range, cut_off-below, cut_off-same, plus-cut_off, plus-inf_left, plus-inf_right, le-trans, plus-mono}
use Rattle.sj_apps.proofs.Closing.{IsClosed}

-- x is the length of a walk, cut off
pub record HasLength (n : ℕ) (W : ℕ → ℕ → ℤ) (i j : ℕ) (x : ℤ) : Type 0 where
  pub walk : List ℕ
  pub leads : IsWalk n W i walk j
  pub long : x ≡ cut_off (walk_length W i walk)

-- or it is `inf`
pub record IsReached (n : ℕ) (W : ℕ → ℕ → ℤ) (i j : ℕ) (x : ℤ) : Type 0 where
  pub either : (x ≡ inf) ⊎ HasLength n W i j x

pub length_natural : (n : ℕ) (W : ℕ → ℕ → ℤ) → AreWeights n W → (i : ℕ) (walk : List ℕ) (j : ℕ) → i < n → IsWalk n W i walk j → pos 0 ≤ℤ walk_length W i walk
length_natural n W w i [] j hi h = omega (arith, ints)
length_natural n W w i (k ∷ ks) j hi h =
    let rest = length_natural n W w k ks j h.0.0 h.1 in
    let first = w.none_negative i k hi h.0.0 in
    omega (arith, ints)

pub walks-append : (n : ℕ) (W : ℕ → ℕ → ℤ) (i : ℕ) (xs : List ℕ) (v : ℕ) (ys : List ℕ) (j : ℕ) → IsWalk n W i xs v → IsWalk n W v ys j → IsWalk n W i (xs ++ ys) j
walks-append n W i [] v ys j h k = subst (λ u. IsWalk n W u ys j) (sym h) k
walks-append n W i (x ∷ xs) v ys j h k = (h.0, walks-append n W x xs v ys j h.1 k)

pub length-walks : (n : ℕ) (W : ℕ → ℕ → ℤ) (i : ℕ) (xs : List ℕ) (v : ℕ) (ys : List ℕ) → IsWalk n W i xs v → walk_length W i (xs ++ ys) ≡ walk_length W i xs +ℤ walk_length W v ys
length-walks n W i [] v ys h = let e = ap (λ u. walk_length W u ys) h in omega (arith, ints)
length-walks n W i (x ∷ xs) v ys h = let e = length-walks n W x xs v ys h.1 in omega (arith, ints)

pub end_within : (n : ℕ) (W : ℕ → ℕ → ℤ) (i : ℕ) (xs : List ℕ) (v : ℕ) → i < n → IsWalk n W i xs v → v < n
end_within n W i [] v hi h = subst (λ u. u < n) h hi
end_within n W i (x ∷ xs) v hi h = end_within n W x xs v h.0.0 h.1

cut_off-one : (z : ℤ) → z <ℤ inf → z ≡ cut_off (z +ℤ pos 0)
cut_off-one z h = grind (arith, ints, clamps)

module _ (n : ℕ) (W : ℕ → ℕ → ℤ) (w : AreWeights n W) where
  pub reached_range : (i j : ℕ) (x : ℤ) → i < n → IsReached n W i j x → (pos 0 ≤ℤ x) × (x ≤ℤ inf)
  reached_range i j x hi r = ⊎_elim
      (λ e. (let a : pos 0 ≤ℤ x = omega (arith, ints) in a, let a : x ≤ℤ inf = omega (arith, ints) in a))
      (λ (h : HasLength n W i j x). let c = cut_off-range (walk_length W i h.walk) (length_natural n W w i h.walk j hi h.leads) in
      let e = h.long in
      (subst (λ z. pos 0 ≤ℤ z) (sym e) c.0, subst (λ z. z ≤ℤ inf) (sym e) (le-trans c.1 (omega (arith, ints)))))
      r.either

  -- the sum of two such numbers is one
  pub reached_plus : (i v j : ℕ) (x y : ℤ) → i < n → IsReached n W i v x → IsReached n W v j y → IsReached n W i j (plus x y)
  reached_plus i v j x y hi r s = record {
    either = ⊎_elim
        (λ e. inl (ap (λ z. plus z y) e ∙ plus-inf_left y))
        (λ (h : HasLength n W i v x). ⊎_elim
        (λ f. inl (ap (λ z. plus x z) f ∙ plus-inf_right x))
        (λ (k : HasLength n W v j y). let a = walk_length W i h.walk in
        let b = walk_length W v k.walk in
        let na = length_natural n W w i h.walk v hi h.leads in
        let nb = length_natural n W w v k.walk j (end_within n W i h.walk v hi h.leads) k.leads in
        inr (record {
          walk = h.walk ++ k.walk;
          leads = walks-append n W i h.walk v k.walk j h.leads k.leads;
          long = ap (λ z. plus z y) h.long ∙ ap (λ z. plus (cut_off a) z) k.long ∙ plus-cut_off a b na nb ∙ ap cut_off (sym (length-walks n W i h.walk v k.walk h.leads));
        }))
        s.either)
        r.either;
  }

  -- a weight is one: the step's own length
  pub reached_step : (i j : ℕ) → i < n → j < n → IsReached n W i j (W i j)
  reached_step i j hi hj = record {
    either = by_lt_z (W i j) inf
        (λ l. inr (record { walk = j ∷ []; leads = ((hj, l), refl); long = cut_off-one (W i j) l }))
        (λ g. let b = w.none_above i j hi hj in inl (omega (arith, ints)));
  }

  -- an element of a matrix that is closed is no greater than a walk
  pub closed_below : (D : ℕ → ℕ → ℤ) → IsClosed n n D → ((i j : ℕ) → i < n → j < n → D i j ≤ℤ W i j) → (i : ℕ) (walk : List ℕ) (j : ℕ) → i < n → j < n → IsWalk n W i walk j → D i j ≤ℤ cut_off (walk_length W i walk)
  closed_below D closed below i [] j hi hj h =
      let a = below i i hi hi in
      let b = w.staying i hi in
      let e : D i i ≡ D i j = ap (D i) h in
      omega (arith, ints)
  closed_below D closed below i (k ∷ ks) j hi hj h =
      let hk = h.0.0 in
      let rest = closed_below D closed below k ks j hk hj h.1 in
      let nat = length_natural n W w k ks j hk h.1 in
      let l = walk_length W k ks in
      let short : W i k <ℤ inf = h.0.1 in
      le-trans (closed.through k i j hk hi hj)
      (subst (λ z. plus (D i k) (D k j) ≤ℤ z) (ap (λ z. plus z (cut_off l)) (sym (cut_off-same (W i k) (omega (arith, ints)))) ∙ plus-cut_off (W i k) l (w.none_negative i k hi hk) nat)
      (plus-mono (below i k hi hk) rest))

  -- so each element is the length of a shortest walk
  pub shortest : (D : ℕ → ℕ → ℤ) → StayBelowInf n W → IsClosed n n D → ((i j : ℕ) → i < n → j < n → D i j ≤ℤ W i j) → ((i j : ℕ) → i < n → j < n → IsReached n W i j (D i j)) → (i j : ℕ) → i < n → j < n → IsShortest n W i j (D i j)
  shortest D stay closed below reached i j hi hj =
      let bound = λ (walk : List ℕ) (h : IsWalk n W i walk j). closed_below D closed below i walk j hi hj h in
      let no_less = λ (walk : List ℕ) (h : IsWalk n W i walk j). le-trans (bound walk h) (cut_off-below (walk_length W i walk)) in
      ⊎_elim
      (λ e. Unreached (record {
        none = λ walk h. (let s = stay i j walk hi h in
            let a = no_less s.walk s.leads in
            let b = s.short in
            absurd (omega (arith, ints)));
        inf = e;
      }))
      (λ (h : HasLength n W i j (D i j)). by_lt_z (walk_length W i h.walk) inf
      (λ l. Reached (record { walk = h.walk; leads = h.leads; long = sym (h.long ∙ cut_off-same (walk_length W i h.walk) (omega (arith, ints))); no_less = no_less }))
      (λ g. let s = stay i j h.walk hi h.leads in
      let a = no_less s.walk s.leads in
      let b = s.short in
      let c = cut_off-high (walk_length W i h.walk) g in
      let d = h.long in
      Reached (record { walk = s.walk; leads = s.leads; long = omega (arith, ints); no_less = no_less })))
      (reached i j hi hj).either
    where
      cut_off-high : (z : ℤ) → inf ≤ℤ z → cut_off z ≡ greatest
      cut_off-high z h = grind (arith, ints, clamps)
