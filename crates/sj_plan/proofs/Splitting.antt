-- Parts of an interval: their closed form, that they stand in order, and that they tile it.
use Rattle.std.proofs.Common.{◌≡◌, ℕ, zero, suc, ◌+◌, ◌-◌, ◌*◌, ◌/◌, ◌%◌, ◌<◌, ◌≤◌, cond, ltb, min, sym, ap, refl, ◌∙◌, arith, inl, inr}
use Rattle.std.proofs.lemmas.Bool.Decides.{nat_tests}
use Rattle.std.proofs.lemmas.Bool.{cases_lt, cases_order, lt-ltb, le-ltb}
use Rattle.std.proofs.lemmas.Nat.{div_below, le-div}
use Rattle.sj_base.proofs.Numbers.{some_factor}
use Rattle.sj_plan.specs.declared.interval.Interval.{Interval}
use Rattle.sj_plan.specs.Interval.{Lies, part, part_first, part_len, overlap}

abbrev interval : ℕ → ℕ → Interval
interval first len = record { first = first; len = len }

-- one part more, by the closed form
closed_step : (f q m k : ℕ) → f ≡ k * q + min k m → f + cond (ltb k m) (q + 1) q ≡ suc k * q + min (suc k) m
closed_step f q m k e = grind (arith, nat_tests)

pub part_first-closed : (n p k : ℕ) → part_first n p k ≡ k * (n / p) + min k (n % p)
part_first-closed n p zero = omega arith
part_first-closed n p (suc k) = closed_step _ (n / p) (n % p) k (part_first-closed n p k)

-- a part ends where a later one begins, or before
pub ends_before : (n p j k : ℕ) → j < k → part_first n p j + part_len n p j ≤ part_first n p k
ends_before n p j zero h = omega arith
ends_before n p j (suc k) h = elim (cases_order j k) as (λ _. part_first n p j + part_len n p j ≤ part_first n p k + part_len n p k) [
  | inl e ↦ rw e (omega arith)
  | inr o ↦ elim o as (λ _. part_first n p j + part_len n p j ≤ part_first n p k + part_len n p k) [
    | inl l ↦ (let before = ends_before n p j k l in omega arith)
    | inr g ↦ omega arith
  ]
]

-- an index lies in one part at most
pub lies_alone : (n p x j k : ℕ) → Lies x (part n p j) → Lies x (part n p k) → j ≡ k
lies_alone n p x j k a b = elim (cases_order j k) as (λ _. j ≡ k) [
  | inl e ↦ e
  | inr o ↦ elim o as (λ _. j ≡ k) [
    | inl l ↦ (let before = ends_before n p j k l in absurd (omega arith))
    | inr g ↦ (let before = ends_before n p k j g in absurd (omega arith))
  ]
]

-- the part of an index among the longer parts, and among the shorter ones
pub held_by_longer : (n p x : ℕ) → 0 < p → x < n % p * (n / p + 1) → (x / (n / p + 1) < p) × Lies x (part n p (x / (n / p + 1)))
held_by_longer n p x some here =
    let q = n / p in
    let m = n % p in
    let k = x / (q + 1) in
    let below : k < m = div_below x (q + 1) m (omega arith) here in
    let first = part_first-closed n p k in
    let long = lt-ltb k m below in
    rw long (omega arith, (omega arith, omega arith))

pub held_by_shorter : (n p x : ℕ) → 0 < p → x < n → n % p * (n / p + 1) ≤ x → (n % p + (x - n % p * (n / p + 1)) / (n / p) < p) × Lies x (part n p (n % p + (x - n % p * (n / p + 1)) / (n / p)))
held_by_shorter n p x some in_items here =
    let q = n / p in
    let m = n % p in
    let y = x - m * (q + 1) in
    let d = p - m in
    let whole : (m + d) * q ≡ p * q = ap (λ z. z * q) (omega arith) in
    let room : y < d * q = omega arith in
    let some_q : 0 < q = some_factor d q y room in
    let below : y / q < d = div_below y q d some_q room in
    let first = part_first-closed n p (m + y / q) in
    let short = le-ltb (m + y / q) m (omega arith) in
    rw short (omega arith, (omega arith, omega arith))

-- the closed form is the part
pub part_is : (n p k least l : ℕ) → least ≡ min k (n % p) → l ≡ part_len n p k → interval (k * (n / p) + least) l ≡ part n p k
part_is n p k least l e f =
    let first = ap (λ z. k * (n / p) + z) e ∙ sym (part_first-closed n p k) in
    rw (first, f) refl

pub longer_len : (n p k l : ℕ) → k < n % p → l ≡ n / p + 1 → l ≡ part_len n p k
longer_len n p k l h e = rw (lt-ltb k (n % p) h) e

pub shorter_len : (n p k l : ℕ) → n % p ≤ k → l ≡ n / p → l ≡ part_len n p k
shorter_len n p k l h e = rw (le-ltb k (n % p) h) e

-- no part is empty if there are as many items as parts
pub part_len-positive : (n p k : ℕ) → 0 < p → p ≤ n → 0 < part_len n p k
part_len-positive n p k some enough =
    let one = le-div 1 n p some (omega arith) in
    elim (cases_lt k (n % p)) as (λ _. 0 < part_len n p k) [
      | inl long ↦ rw (lt-ltb k (n % p) long) (omega arith)
      | inr short ↦ rw (le-ltb k (n % p) short) (omega arith)
    ]

-- the parts that hold the first and the last index of an interval stand in order
pub holders-ordered : (n p x y j k : ℕ) → x ≤ y → Lies x (part n p j) → Lies y (part n p k) → j ≤ k
holders-ordered n p x y j k h a b = elim (cases_lt k j) as (λ _. j ≤ k) [
  | inl back ↦ (let before = ends_before n p k j back in absurd (omega arith))
  | inr le ↦ le
]

starts_before : (n p k m x end : ℕ) → k ≤ m → Lies x (part n p m) → x < end → part_first n p k < end
starts_before n p k m x end upto last h = elim (cases_order k m) as (λ _. part_first n p k < end) [
  | inl e ↦ (let same = ap (part_first n p) e in omega arith)
  | inr o ↦ elim o as (λ _. part_first n p k < end) [
    | inl l ↦ (let before = ends_before n p k m l in omega arith)
    | inr g ↦ absurd (omega arith)
  ]
]

ends_after : (n p j k x : ℕ) → j ≤ k → Lies x (part n p j) → x < part_first n p k + part_len n p k
ends_after n p j k x from first = elim (cases_order j k) as (λ _. x < part_first n p k + part_len n p k) [
  | inl e ↦ (let same = ap (λ i. part_first n p i + part_len n p i) e in omega arith)
  | inr o ↦ elim o as (λ _. x < part_first n p k + part_len n p k) [
    | inl l ↦ (let before = ends_before n p j k l in omega arith)
    | inr g ↦ absurd (omega arith)
  ]
]

-- the parts from the one that holds the interval's first index to the one that holds its last
-- are those that share an index with it
pub overlap_from_between : (n p j m k : ℕ) (v : Interval) → 0 < p → p ≤ n → 0 < v.len → Lies v.first (part n p j) → Lies (v.first + (v.len - 1)) (part n p m) → j ≤ k → k ≤ m → 0 < (overlap (part n p k) v).len
overlap_from_between n p j m k v some enough long first last from upto =
    let here = part_len-positive n p k some enough in
    let starts : part_first n p k < v.first + v.len = starts_before n p k m (v.first + (v.len - 1)) _ upto last (omega arith) in
    let ends : v.first < part_first n p k + part_len n p k = ends_after n p j k v.first from first in
    omega arith

pub between_from_overlap : (n p j m k : ℕ) (v : Interval) → 0 < v.len → Lies v.first (part n p j) → Lies (v.first + (v.len - 1)) (part n p m) → 0 < (overlap (part n p k) v).len → (j ≤ k) × (k ≤ m)
between_from_overlap n p j m k v long first last meets =
    let starts : part_first n p k < v.first + v.len = omega arith in
    let ends : v.first < part_first n p k + part_len n p k = omega arith in (
      elim (cases_lt k j) as (λ _. j ≤ k) [
        | inl back ↦ (let before = ends_before n p k j back in absurd (omega arith))
        | inr le ↦ le
      ],
      elim (cases_lt m k) as (λ _. k ≤ m) [
        | inl past ↦ (let before = ends_before n p m k past in absurd (omega arith))
        | inr le ↦ le
      ],
    )

-- each item lies in a part
pub held : (n p x : ℕ) → 0 < p → x < n → (k : ℕ) × ((k < p) × Lies x (part n p k))
held n p x some here = elim (cases_lt x (n % p * (n / p + 1))) as (λ _. (k : ℕ) × ((k < p) × Lies x (part n p k))) [
  | inl front ↦ (x / (n / p + 1), held_by_longer n p x some front)
  | inr back ↦ (n % p + (x - n % p * (n / p + 1)) / (n / p), held_by_shorter n p x some here back)
]

-- a part ends among the items
pub part_end : (n p k : ℕ) → k < p → part_first n p k + part_len n p k ≤ n
part_end n p k below =
    let before = ends_before n p k p below in
    let all = part_first-closed n p p in
    omega arith
