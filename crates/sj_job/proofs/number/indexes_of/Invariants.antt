use Rattle.std.proofs.Common.{◌≡◌, true, map, take}
use Rattle.std.specs.List.{list_all}
use Rattle.sj_job.specs.Sentence.{are_counts, index_said}
use Rattle.sj_job.proofs.number.indexes_of.Given as goal

-- the operands so far have indexes, and these are they
abbrev pub invariant-loop-operand : goal.invariant-loop-operand
invariant-loop-operand l = record {
  said : list_all (λ o. are_counts o.child) (take l.operand-index l.operands) ≡ true;
  indexes : l.indexes ≡ map (λ o. index_said o.child) (take l.operand-index l.operands);
}
