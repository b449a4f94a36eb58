use Rattle.std.proofs.Common.{◌∙◌, ap, codes}
use Rattle.std.proofs.lemmas.Result.{IfOk-weaker}
use Rattle.clap.specs.Words.{App, with_rule}
use Rattle.sj_words.specs.Command.{flag_rule}
use Rattle.sj_words.proofs.command.with_prints.Goals as goal

pub returns : goal.returns
returns c =
    let one = c.in_ok-command.ensures in
    IfOk-weaker c.with_flag-2.result _ _ (λ r h. h ∙ ap (λ (a : App). with_rule a (flag_rule (codes "summary"))) one) c.with_flag-2.ensures
