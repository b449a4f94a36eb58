-- A job as contracts see it.
use Rattle.std.specs.Prelude.{List, ℕ}
use Rattle.sj_meaning.specs.declared.settings.Settings.{Settings}
use Rattle.sj_meaning.specs.Act.{Statement}

-- what the lines in front set, and the statements behind them
pub record Job : Type 0 where
  pub settings : Settings
  pub statements : List (Statement (List ℕ))

abbrev pub job : Settings → List (Statement (List ℕ)) → Job
job g ss = record { settings = g; statements = ss }
