use Rattle.std.proofs.Common.{◌≡◌, [], length}
use Rattle.std.specs.Prelude.{slice_index_or}
use Rattle.sj_job.specs.Word.{lines}
use Rattle.sj_judge.proofs.lines.line.Given as goal

-- the line that is looked for stands behind so many of the rest
abbrev pub invariant-loop-line : goal.invariant-loop-line
invariant-loop-line l =
    slice_index_or (lines l.rest) l.before [] ≡ slice_index_or (lines l.text) l.number []

abbrev pub decreases-loop-line : goal.decreases-loop-line
decreases-loop-line l = length l.rest
