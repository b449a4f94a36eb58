-- What a write to a disk, or a look at one, does to it. The four functions are the members `size`,
-- `faults`, `mismatches` and `held` of the disk's type.
use Rattle.std.specs.Prelude.{◌≡◌, ℕ, List, length, Option, option_map, Bool, IsTrue, Result, OnOk, IsErr, is_err}
use Rattle.sj_edge.specs.Faults.{Counts, counted}
use Rattle.sj_edge.specs.Held.{Fills, HoldsAnyIn, written}

-- a write of these bytes from `at` on, in one call or several, of which the last may have failed
pub record Writes {D A E : Type 0} (size faults mismatches : D → ℕ) (held : D → Option (List ℕ)) (at : ℕ) (bytes : List ℕ) (result : Result A E) (old new : D) : Type 0 where
  pub size_stays : size new ≡ size old
  pub told_bytes_fill_the_size : Fills (held old) (size old) → Fills (held new) (size new)
  pub puts_the_bytes : OnOk result (held new ≡ option_map (written at bytes) (held old))
  pub changes_no_byte_outside : HoldsAnyIn at (length bytes) (held old) (held new)
  pub a_fault_is_counted_once : faults new ≡ counted (faults old) (is_err result)
  pub fails_only_where_faults_rose : Counts (faults old) (faults new) (IsErr result)
  pub mismatches_stay : mismatches new ≡ mismatches old

-- reads and checks, of which the last may have failed, or have found other bytes than it wanted
pub record Looks {D : Type 0} (size faults mismatches : D → ℕ) (held : D → Option (List ℕ)) (failed differed : Bool) (old new : D) : Type 0 where
  pub size_stays : size new ≡ size old
  pub told_bytes_stay : held new ≡ held old
  pub a_fault_is_counted_once : faults new ≡ counted (faults old) failed
  pub fails_only_where_faults_rose : Counts (faults old) (faults new) (IsTrue failed)
  pub a_mismatch_is_counted_once : mismatches new ≡ counted (mismatches old) differed
  pub differs_only_where_mismatches_rose : Counts (mismatches old) (mismatches new) (IsTrue differed)
