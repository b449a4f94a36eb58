use Rattle.std.proofs.Common.{◌∙◌, ap, codes}
use Rattle.std.proofs.lemmas.Result.{IfOk-weaker}
use Rattle.clap.specs.Words.{App, with_rule}
use Rattle.sj_words.specs.Command.{option_rule}
use Rattle.sj_words.proofs.command.with_machine.Goals as goal

pub returns : goal.returns
returns c =
    let one = c.in_ok-command.ensures in
    let two = c.in_ok-command-2.ensures ∙ ap (λ (a : App). with_rule a (option_rule (codes "sched"))) one in
    let three = c.in_ok-command-3.ensures ∙ ap (λ (a : App). with_rule a (option_rule (codes "node"))) two in
    let four = c.in_ok-command-4.ensures ∙ ap (λ (a : App). with_rule a (option_rule (codes "nodes"))) three in
    let five = c.in_ok-command-5.ensures ∙ ap (λ (a : App). with_rule a (option_rule (codes "swap"))) four in
    IfOk-weaker c.with_option-6.result _ _ (λ r h. h ∙ ap (λ (a : App). with_rule a (option_rule (codes "swap-size"))) five) c.with_option-6.ensures
