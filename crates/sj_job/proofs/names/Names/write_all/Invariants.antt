use Rattle.std.proofs.Common.{◌≡◌, ℕ, drop, get_or}
use Rattle.sj_job.specs.declared.names.RootStanding.TheVariants.{Ended}
use Rattle.sj_job.specs.Names.{HasStandings, after_writes, plan_in}
use Rattle.sj_job.proofs.names.Names.write_all.Given as goal

abbrev pub invariant-loop-operand : goal.invariant-loop-operand
invariant-loop-operand l = record {
  counted : l.self.statements ≡ l.initial.self.statements;
  rooted : l.self.roots ≡ l.initial.self.roots;
  standing : HasStandings l.self;
  plans : (n : ℕ) → plan_in (get_or l.self.standings.items n Ended) ≡ plan_in (get_or l.initial.self.standings.items n Ended);
  standings : after_writes (drop l.operand-index l.operands) l.self.standings.items ≡ after_writes l.operands l.initial.self.standings.items;
}
