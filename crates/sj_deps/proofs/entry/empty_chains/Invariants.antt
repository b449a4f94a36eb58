use Rattle.std.proofs.Common.{◌≡◌, replicate}
use Rattle.sj_deps.specs.Chains.{no_chain}
use Rattle.sj_deps.proofs.entry.empty_chains.Given as goal

abbrev pub invariant-loop : goal.invariant-loop
invariant-loop l = l.chains.items ≡ replicate l.counter no_chain
