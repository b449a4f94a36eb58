use Rattle.sj_job.proofs.Setting.{setting-read, setting-back}
use Rattle.sj_job.proofs.Telling.{found-spells, spells-found, said-says, says-said}
use Rattle.sj_job.proofs.grammar.grammar.Goals as goal

pub returns : goal.returns
returns c = record {
  spelled = λ words form. (found-spells words form, spells-found words form);
  said = λ words says. (said-says words says, says-said words says);
  settings = λ words form. (setting-read words form, setting-back words form);
}
