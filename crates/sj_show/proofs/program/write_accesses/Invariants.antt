use Rattle.std.proofs.Common.{◌≡◌, ◌++◌, map, take}
use Rattle.sj_show.specs.Program.{access_word}
use Rattle.sj_show.specs.Words.{spaced}
use Rattle.sj_show.proofs.program.write_accesses.Given as goal

abbrev pub invariant-loop-access : goal.invariant-loop-access
invariant-loop-access l = l.text.items ≡ l.initial.text.items ++ spaced (map access_word (take l.access-index l.accesses))
