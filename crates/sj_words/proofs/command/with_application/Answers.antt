use Rattle.std.proofs.Common.{◌∙◌, ap, codes}
use Rattle.std.proofs.lemmas.Result.{IfOk-weaker}
use Rattle.clap.specs.Words.{App, with_rule}
use Rattle.sj_words.specs.Command.{option_rule}
use Rattle.sj_words.proofs.command.with_application.Goals as goal

pub returns : goal.returns
returns c =
    let one = c.in_ok-command.ensures in
    let two = c.in_ok-command-2.ensures ∙ ap (λ (a : App). with_rule a (option_rule (codes "n"))) one in
    let three = c.in_ok-command-3.ensures ∙ ap (λ (a : App). with_rule a (option_rule (codes "tile"))) two in
    IfOk-weaker c.with_option-4.result _ _ (λ r h. h ∙ ap (λ (a : App). with_rule a (option_rule (codes "seed"))) three) c.with_option-4.ensures
