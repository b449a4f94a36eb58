use Rattle.std.proofs.Common.{◌≡◌, length, option_map}
use Rattle.sj_job.specs.Form.{each_some, operand_of, with_priority}
use Rattle.sj_job.proofs.Walking.{said_after}
use Rattle.sj_job.proofs.spell.operands_of.Given as goal

-- what is read so far goes before what the rest says
abbrev pub invariant-loop-word : goal.invariant-loop-word
invariant-loop-word l =
    said_after l.operands (with_priority l.rest) ≡ option_map (λ os. (os, (with_priority l.words).1)) (each_some operand_of (with_priority l.words).0)

abbrev pub decreases-loop-word : goal.decreases-loop-word
decreases-loop-word l = length l.rest
