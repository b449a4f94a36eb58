use Rattle.sj_words.proofs.Writing.{means_what_is_written}
use Rattle.sj_words.proofs.law.words_mean_what_is_written.Goals as goal

pub returns : goal.returns
returns c = means_what_is_written
