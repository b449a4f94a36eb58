use Rattle.std.proofs.Common.{◌≡◌, ◌+◌, ◌≤◌, length}
use Rattle.std.specs.List.{list_all}
use Rattle.sj_job.specs.Word.{is_integer}
use Rattle.sj_job.proofs.crowd.argument_count.Given as goal

-- the arguments so far are integers, and at least as many as the count
abbrev pub invariant-loop-word : goal.invariant-loop-word
invariant-loop-word l = record {
  said : list_all is_integer l.rest ≡ list_all is_integer l.args;
  few : l.count ≤ 7;
  counted : l.count + length l.rest ≤ length l.args;
}

abbrev pub decreases-loop-word : goal.decreases-loop-word
decreases-loop-word l = length l.rest
