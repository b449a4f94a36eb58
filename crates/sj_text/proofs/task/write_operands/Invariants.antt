use Rattle.std.proofs.Common.{◌≡◌, ◌++◌, map, take}
use Rattle.sj_job.specs.Grammar.{operand_word}
use Rattle.sj_meaning.specs.View.{operand_seen}
use Rattle.sj_show.specs.Words.{spaced}
use Rattle.sj_text.specs.Forms.{Plans, operand_form}
use Rattle.sj_text.specs.Text.{AreCurrent}
use Rattle.sj_text.proofs.task.write_operands.Given as goal

abbrev pub invariant-loop-operand : goal.invariant-loop-operand
invariant-loop-operand l = (active : Plans) → AreCurrent l.roots l.plans active
    → l.text.items ≡ l.initial.text.items ++ spaced (map operand_word (map (operand_form active) (map (operand_seen l.roots) (take l.operand-index l.operands))))
