use Rattle.std.proofs.Common.{◌≡◌, ◌+◌, ◌≤◌, length}
use Rattle.sj_job.specs.Word.{lines}
use Rattle.sj_meaning.specs.State.{start}
use Rattle.sj_job.specs.Reading.{reading}
use Rattle.sj_job.specs.Progress.{text_with}
use Rattle.sj_job.specs.Submits.{AreRead}
use Rattle.sj_meaning.specs.View.{seen_from}
use Rattle.sj_job.proofs.read.read_statements.Given as goal

abbrev pub invariant-loop-line : goal.invariant-loop-line
invariant-loop-line g l = record {
  counted : l.number + length l.rest ≤ l.first + length l.text;
  names : AreRead l.names l.statements.items;
  told : text_with g.C.Codelets.has (seen_from l.names.roots 0 l.statements.items) l.number (lines l.rest) ≡ reading g.C.Codelets.has 0 start l.first (lines l.text);
}

abbrev pub decreases-loop-line : goal.decreases-loop-line
decreases-loop-line g l = length l.rest
