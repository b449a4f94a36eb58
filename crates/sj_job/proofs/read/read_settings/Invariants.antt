use Rattle.std.proofs.Common.{◌≡◌, ◌+◌, ◌≤◌, Bool, length}
use Rattle.sj_codelet.specs.declared.kernel.Kernel.{Kernel}
use Rattle.sj_job.specs.Word.{lines}
use Rattle.sj_job.specs.Reading.{reading_settings}
use Rattle.sj_meaning.specs.Settings.{unset, SettingsAreInRange}
use Rattle.sj_job.proofs.read.read_settings.Given as goal

abbrev pub invariant-loop-line : goal.invariant-loop-line
invariant-loop-line l = record {
  counted : l.number + length l.rest ≤ l.first + length l.text;
  within : SettingsAreInRange l.settings;
  told : (has : Kernel → Bool) → reading_settings has l.settings l.number (lines l.rest) ≡ reading_settings has unset l.first (lines l.text);
}

abbrev pub decreases-loop-line : goal.decreases-loop-line
decreases-loop-line l = length l.rest
