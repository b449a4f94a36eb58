use Rattle.std.proofs.Common.{◌∙◌, List, ℕ, sym, ap, refl}
use Rattle.std.specs.List.{list_all}
use Rattle.sj_job.specs.Word.{words, is_allowed}
use Rattle.sj_job.proofs.Dividing.{words-before_blanks, allowed-before_blanks}
use Rattle.sj_job.proofs.line.without_eights.Goals as goal

pub loop-front-preserved : goal.loop-front-preserved
loop-front-preserved c =
    let front : List ℕ = c.in-Some.front.now in
    let at = c.in-Some.ensures in
    record {
      words = words-before_blanks front 32 8 refl ∙ (ap words (sym at) ∙ c.loop-front.invariant.words);
      allowed = allowed-before_blanks front 32 8 refl ∙ (ap (list_all is_allowed) (sym at) ∙ c.loop-front.invariant.allowed);
    }
