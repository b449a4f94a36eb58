use Rattle.std.proofs.Common.{◌≡◌, ◌++◌, map, length}
use Rattle.std.specs.List.{list_all}
use Rattle.sj_job.specs.Word.{integer, is_integer}
use Rattle.sj_job.proofs.number.integers.Given as goal

-- the pieces so far say integers, and these are they
abbrev pub invariant-loop-word : goal.invariant-loop-word
invariant-loop-word l = record {
  said : list_all is_integer l.rest ≡ list_all is_integer l.words;
  values : l.values ++ map integer l.rest ≡ map integer l.words;
}

abbrev pub decreases-loop-word : goal.decreases-loop-word
decreases-loop-word l = length l.rest
