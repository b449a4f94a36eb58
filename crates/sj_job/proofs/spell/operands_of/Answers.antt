use Rattle.std.proofs.Common.{◌∙◌, sym, ap}
use Rattle.sj_job.specs.Form.{with_priority}
use Rattle.sj_job.proofs.Walking.{said_after, walk-more}
use Rattle.sj_job.proofs.spell.operands_of.Goals as goal

pub loop-word-preserved : goal.loop-word-preserved
loop-word-preserved c =
    let rest = with_priority c.in-Some.behind in
    ap (λ os. said_after os rest) c.in_ok-push-in-Some-operand_of.ensures.ok
    ∙ sym (walk-more c.loop-word.operands c.in-Some.word.now rest.0 rest.1 c.in-Some-operand_of.operand (sym c.operand_of.ensures ∙ c.in-Some-operand_of.is))
    ∙ sym (ap (said_after c.loop-word.operands) (ap with_priority c.in-Some.ensures ∙ c.in_default-last_priority.ensures))
    ∙ c.loop-word.invariant
