-- What comes of a line.
use Rattle.std.specs.Prelude.{ℕ, List}
use Rattle.sj_meaning.specs.Act.{Act}
use Rattle.sj_job.specs.declared.reason.Reason.{Reason}
use Rattle.sj_meaning.specs.declared.settings.Settings.{Settings}

-- a statement line says nothing, or does something, or is bad
pub data Verdict : Type 0 where
  Skipped : Verdict
  Does : Act (List ℕ) → Verdict
  Bad : Reason → Verdict

-- a line in front of the statements leaves these settings, or it is no settings line and begins the statements, or it is bad
pub data Front : Type 0 where
  Passes : Settings → Front
  Begins : Front
  Stops : Reason → Front
