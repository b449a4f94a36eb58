-- Disks that came back, over several calls.
use Rattle.std.proofs.Common.{ℕ, List, [], ◌∷◌, refl, ap, ◌∙◌, arith}
use Rattle.std.specs.Prelude.{Option, is_some}
use Rattle.sj_edge.specs.GivenBack.{IsGivenBack, IsUntouched, AreGivenBack, AreUntouched}

module _ {D : Type 0} (size faults mismatches : D → ℕ) (held : D → Option (List ℕ)) where
  -- a disk as it was is untouched
  pub untouched-same : (d : D) → IsUntouched size faults mismatches held d d
  untouched-same d = record { size_stays = refl; told_bytes_stay = refl; faults_stay = refl; mismatches_stay = refl }

  -- an untouched disk is given back
  pub given_back-untouched : (old new : D) → IsUntouched size faults mismatches held old new → IsGivenBack size faults mismatches held old new
  given_back-untouched old new u = record {
    size_stays = u.size_stays;
    tells_as_before = ap is_some u.told_bytes_stay;
    faults_never_fall = omega (arith, u.faults_stay);
    mismatches_never_fall = omega (arith, u.mismatches_stay);
  }

  -- given back twice is given back
  pub given_back-then : (a b c : D) → IsGivenBack size faults mismatches held a b → IsGivenBack size faults mismatches held b c → IsGivenBack size faults mismatches held a c
  given_back-then a b c first second = record {
    size_stays = second.size_stays ∙ first.size_stays;
    tells_as_before = second.tells_as_before ∙ first.tells_as_before;
    faults_never_fall = omega (arith, first.faults_never_fall, second.faults_never_fall);
    mismatches_never_fall = omega (arith, first.mismatches_never_fall, second.mismatches_never_fall);
  }

  -- disks as they were are untouched
  pub all_untouched-same : (ds : List D) → AreUntouched size faults mismatches held ds ds
  all_untouched-same [] = tt
  all_untouched-same (d ∷ ds) = (untouched-same d, all_untouched-same ds)

  -- disks that are untouched are given back
  pub all_given_back-untouched : (old new : List D) → AreUntouched size faults mismatches held old new → AreGivenBack size faults mismatches held old new
  all_given_back-untouched [] [] all = tt
  all_given_back-untouched [] (n ∷ new) all = absurd all
  all_given_back-untouched (o ∷ old) [] all = absurd all
  all_given_back-untouched (o ∷ old) (n ∷ new) all =
      (given_back-untouched o n all.0, all_given_back-untouched old new all.1)

  -- disks that are given back twice are given back
  pub all_given_back-then : (xs ys zs : List D) → AreGivenBack size faults mismatches held xs ys → AreGivenBack size faults mismatches held ys zs → AreGivenBack size faults mismatches held xs zs
  all_given_back-then [] [] [] first second = tt
  all_given_back-then [] [] (c ∷ zs) first second = absurd second
  all_given_back-then [] (b ∷ ys) zs first second = absurd first
  all_given_back-then (a ∷ xs) [] zs first second = absurd first
  all_given_back-then (a ∷ xs) (b ∷ ys) [] first second = absurd second
  all_given_back-then (a ∷ xs) (b ∷ ys) (c ∷ zs) first second =
      (given_back-then a b c first.0 second.0, all_given_back-then xs ys zs first.1 second.1)
