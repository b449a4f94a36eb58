use Rattle.sj_lower.proofs.Words.{replicate, ◌++◌, ◌≡◌}
use Rattle.sj_lower.proofs.layout.push_copies.Given as goal

-- the cells of the workers so far
abbrev pub invariant-loop : goal.invariant-loop
invariant-loop l = l.infos.items ≡ l.initial.infos.items ++ replicate l.counter l.info
