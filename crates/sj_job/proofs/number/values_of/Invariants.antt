use Rattle.std.proofs.Common.{◌≡◌, ◌≤◌, ◌++◌, map, take, length}
use Rattle.std.specs.List.{list_all}
use Rattle.sj_job.specs.Word.{integer, is_integer}
use Rattle.sj_job.proofs.number.values_of.Given as goal

-- the words so far say integers, and the first of these are kept
abbrev pub invariant-loop-word : goal.invariant-loop-word
invariant-loop-word l = record {
  said : list_all is_integer l.rest ≡ list_all is_integer l.words;
  few : length l.values.items ≤ l.most;
  values : take l.most (l.values.items ++ map integer l.rest) ≡ take l.most (map integer l.words);
}

abbrev pub decreases-loop-word : goal.decreases-loop-word
decreases-loop-word l = length l.rest
