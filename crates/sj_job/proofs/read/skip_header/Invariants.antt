use Rattle.std.proofs.Common.{◌≡◌, ◌+◌, ◌≤◌, Bool, length}
use Rattle.sj_codelet.specs.declared.kernel.Kernel.{Kernel}
use Rattle.sj_job.specs.Word.{lines}
use Rattle.sj_job.specs.Reading.{reading_header}
use Rattle.sj_job.proofs.read.skip_header.Given as goal

abbrev pub invariant-loop-line : goal.invariant-loop-line
invariant-loop-line l = record {
  counted : l.number + length l.rest ≤ 1 + length l.text;
  told : (has : Kernel → Bool) → reading_header has l.number (lines l.rest) ≡ reading_header has 1 (lines l.text);
}

abbrev pub decreases-loop-line : goal.decreases-loop-line
decreases-loop-line l = length l.rest
