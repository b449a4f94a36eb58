-- A list that is rewritten one place after another.
use Rattle.std.proofs.Common.{◌≡◌, ℕ, ◌+◌, ◌*◌, ◌<◌, ◌≤◌, length, List, ℤ, pos, slice_set, bit_or, arith, ◌≢◌, below_more, get_or-set_other, get_or-set_same}
use Rattle.std.specs.List.{All}
use Rattle.std.proofs.lemmas.List.{get_or_default}
use Rattle.std.proofs.lemmas.Grind.{common_steps}
use Rattle.std.proofs.lemmas.Nat.{le_or_l, le_or_r}
use Rattle.std.proofs.lemmas.List.FromFn.{fill_by_all}
use Rattle.sj_base.specs.Array.{at, each}
use Rattle.sj_codelet.specs.Equations.{vector}

-- the places below j hold f, and the others what they held
pub record IsWritten (f : ℕ → ℤ) (old xs : List ℤ) (j : ℕ) : Type 0 where
  pub done : (p : ℕ) → p < j → at xs p ≡ f p
  pub rest : (p : ℕ) → j ≤ p → at xs p ≡ at old p

pub written_more : (f : ℕ → ℤ) (old xs : List ℤ) (j : ℕ) (v : ℤ) → j < length xs → v ≡ f j → IsWritten f old xs j → IsWritten f old (slice_set xs j v) (j + 1)
written_more f old xs j v within e w = record {
  done = λ p below. grind (arith, common_steps, w.done p);
  rest = λ p above. grind (arith, common_steps, w.rest p);
}

-- all places are written
pub written_all : (f : ℕ → ℤ) (old xs : List ℤ) (j : ℕ) → length xs ≡ length old → length old ≤ j → IsWritten f old xs j → xs ≡ (each (vector old).dims f).elements
written_all f old xs j same all w =
    fill_by_all f xs (1 * length old) (pos 0) (omega arith) (λ p below. w.done p (omega arith))

-- all places below j have a property, and place j is given a number that has it
pub all_more : (P : ℤ → Type 0) (xs : List ℤ) (j : ℕ) (v : ℤ) → j < length xs → P v → ((p : ℕ) → p < j → P (at xs p)) → (p : ℕ) → p < j + 1 → P (at (slice_set xs j v) p)
all_more P xs j v within here below =
    below_more (λ p. P (at (slice_set xs j v) p)) j (λ p h. let other : p ≢ j = omega arith in rw get_or-set_other (below p h)) (rw get_or-set_same here)

-- what holds of all places of a list
pub all_from : (P : ℤ → Type 0) (xs : List ℤ) → ((p : ℕ) → p < length xs → P (at xs p)) → All P xs
all_from P xs h = λ k d l. rw (get_or_default xs k d (pos 0) l) (h k l)

-- where the bits of all that was seen stay below a bound, each is below it
pub seen_more : (P : ℤ → Type 0) (bound : ℕ) (xs : List ℤ) (i seen here : ℕ) → ((p : ℕ) → p < i → seen < bound → P (at xs p)) → (here < bound → P (at xs i)) → (p : ℕ) → p < i + 1 → bit_or seen here < bound → P (at xs p)
seen_more P bound xs i seen here before last =
    below_more (λ p. bit_or seen here < bound → P (at xs p)) i (λ p h s. before p h (omega (arith, le_or_l seen here))) (λ s. last (omega (arith, le_or_r seen here)))
