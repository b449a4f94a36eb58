use Rattle.std.proofs.Common.{◌≡◌, length}
use Rattle.std.specs.List.{list_all}
use Rattle.sj_job.specs.Word.{words, is_allowed}
use Rattle.sj_job.proofs.line.without_eights.Given as goal

abbrev pub invariant-loop-front : goal.invariant-loop-front
invariant-loop-front l = record {
  words : words l.rest ≡ words l.line;
  allowed : list_all is_allowed l.rest ≡ list_all is_allowed l.line;
}

abbrev pub decreases-loop-front : goal.decreases-loop-front
decreases-loop-front l = length l.rest
