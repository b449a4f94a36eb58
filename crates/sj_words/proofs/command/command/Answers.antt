use Rattle.std.proofs.Common.{◌∙◌, ap}
use Rattle.std.proofs.lemmas.Result.{IfOk-weaker}
use Rattle.sj_words.specs.Command.{with_machine, with_application, with_prints}
use Rattle.sj_words.proofs.command.command.Goals as goal

pub returns : goal.returns
returns c =
    let machine = c.in_ok-command.ensures ∙ ap with_machine c.bare_command.ensures in
    let application = c.in_ok-command-2.ensures ∙ ap with_application machine in
    IfOk-weaker c.with_prints.result _ _ (λ r h. h ∙ ap with_prints application) c.with_prints.ensures
