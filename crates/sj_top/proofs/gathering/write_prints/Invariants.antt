use Rattle.std.proofs.Common.{◌≡◌, map, nat_le}
use Rattle.std.specs.Prelude.{filter}
use Rattle.std.specs.List.{range_with_len}
use Rattle.sj_lower.specs.Delivering.{deliveries_for}
use Rattle.sj_top.specs.Gathering.{array_found, shown}
use Rattle.sj_top.specs.Output.{output}
use Rattle.sj_top.proofs.gathering.write_prints.Given as goal

-- the print statements so far are written, and the deliveries of the others are left
abbrev pub invariant-loop-print : goal.invariant-loop-print
invariant-loop-print l = record {
  text : l.text.items ≡ output l.summary (map (λ k. shown l.roots (array_found l.handed) (deliveries_for l.handed.program k)) (range_with_len 0 l.print));
  rest : l.rest ≡ filter (λ d. nat_le l.print d.print) l.handed.program.deliveries;
}
