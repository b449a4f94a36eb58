use Rattle.std.proofs.Common.{◌≡◌, ◌++◌, length, map, option_map}
use Rattle.sj_words.specs.Spelling.{texts}
use Rattle.sj_words.specs.Steps.{said_names}
use Rattle.sj_words.proofs.spelling.said_names.Given as goal

-- the names so far, and those that are left
abbrev pub invariant-loop-left : goal.invariant-loop-left
invariant-loop-left l = said_names (texts l.fn.words) ≡ option_map (λ ns. map (λ n. n.now) l.names.items ++ ns) (said_names (texts l.left))

abbrev pub decreases-loop-left : goal.decreases-loop-left
decreases-loop-left l = length l.left
