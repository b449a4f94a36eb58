-- Walks in a graph whose steps have weights, and the length of a shortest one.
use Rattle.std.specs.Prelude.{◌≡◌, ℕ, ◌<◌, ℤ, pos, ◌+ℤ◌, ◌<ℤ◌, ◌≤ℤ◌, List, [], ◌∷◌}
use Rattle.sj_codelet.specs.MinPlus.{inf}

-- the vertices are the numbers below n; there is a step from i to j where its weight is below `inf`
abbrev pub IsStep : ℕ → (ℕ → ℕ → ℤ) → ℕ → ℕ → Type 0
IsStep n W i j = (j < n) × (W i j <ℤ inf)

-- from i these vertices follow one after another, by steps, and the last of them, or i where there is none, is j
abbrev pub IsWalk : ℕ → (ℕ → ℕ → ℤ) → ℕ → List ℕ → ℕ → Type 0
IsWalk n W i [] j = i ≡ j
IsWalk n W i (k ∷ ks) j = IsStep n W i k × IsWalk n W k ks j

-- the sum of the weights of its steps
abbrev pub walk_length : (ℕ → ℕ → ℤ) → ℕ → List ℕ → ℤ
walk_length W i [] = pos 0
walk_length W i (k ∷ ks) = W i k +ℤ walk_length W k ks

-- some walk has this length, and no walk is below
pub record IsLeast (n : ℕ) (W : ℕ → ℕ → ℤ) (i j : ℕ) (least : ℤ) : Type 0 where
  pub walk : List ℕ
  pub leads : IsWalk n W i walk j
  pub long : walk_length W i walk ≡ least
  pub no_less : (other : List ℕ) → IsWalk n W i other j → least ≤ℤ walk_length W i other

-- there is no walk, and then it is `inf`
pub record IsNone (n : ℕ) (W : ℕ → ℕ → ℤ) (i j : ℕ) (least : ℤ) : Type 0 where
  pub none : (other : List ℕ) → ¬ (IsWalk n W i other j)
  pub inf : least ≡ inf

-- the length of a shortest walk from i to j, or `inf` where there is none
pub data IsShortest (n : ℕ) (W : ℕ → ℕ → ℤ) (i j : ℕ) (least : ℤ) : Type 0 where
  Reached : IsLeast n W i j least → IsShortest n W i j least
  Unreached : IsNone n W i j least → IsShortest n W i j least

-- weights of the steps between n vertices: none is negative or above `inf`, and to stay costs nothing
pub record AreWeights (n : ℕ) (W : ℕ → ℕ → ℤ) : Type 0 where
  pub none_negative : (i j : ℕ) → i < n → j < n → pos 0 ≤ℤ W i j
  pub none_above : (i j : ℕ) → i < n → j < n → W i j ≤ℤ inf
  pub staying : (i : ℕ) → i < n → W i i ≡ pos 0

-- a walk from i to j that is shorter than `inf`
pub record HasShort (n : ℕ) (W : ℕ → ℕ → ℤ) (i j : ℕ) : Type 0 where
  pub walk : List ℕ
  pub leads : IsWalk n W i walk j
  pub short : walk_length W i walk <ℤ inf

-- where a walk leads from i to j, one does that is shorter than `inf`
abbrev pub StayBelowInf : ℕ → (ℕ → ℕ → ℤ) → Type 0
StayBelowInf n W = (i j : ℕ) (walk : List ℕ) → i < n → IsWalk n W i walk j → HasShort n W i j
