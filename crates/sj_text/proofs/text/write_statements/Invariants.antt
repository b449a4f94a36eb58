use Rattle.std.proofs.Common.{drop}
use Rattle.sj_text.proofs.Told.{GoesOn, whole_of}
use Rattle.sj_text.proofs.text.write_statements.Given as goal

abbrev pub invariant-loop-statement : goal.invariant-loop-statement
invariant-loop-statement l = GoesOn l.roots l.plans.items (drop l.statement-index l.statements) l.text.items (whole_of l.roots l.statements l.initial.text.items)
