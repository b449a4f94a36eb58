use Rattle.std.proofs.Common.{◌≡◌, length}
use Rattle.std.specs.List.{list_all}
use Rattle.sj_job.specs.Word.{words, is_allowed}
use Rattle.sj_job.proofs.line.trimmed.Given as goal

abbrev pub invariant-loop-last : goal.invariant-loop-last
invariant-loop-last l = record {
  words : words l.rest ≡ words l.line;
  allowed : list_all is_allowed l.rest ≡ list_all is_allowed l.line;
}

abbrev pub decreases-loop-last : goal.decreases-loop-last
decreases-loop-last l = length l.rest
