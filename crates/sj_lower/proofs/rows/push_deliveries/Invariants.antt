use Rattle.sj_lower.proofs.Words.{a_delivery, ◌++◌, ◌≡◌}
use Rattle.sj_lower.proofs.Children.{first_children}
use Rattle.sj_lower.proofs.rows.push_deliveries.Given as goal

-- the deliveries of the children so far
abbrev pub invariant-loop-k : goal.invariant-loop-k
invariant-loop-k l =
    l.deliveries.items ≡ l.initial.deliveries.items ++ first_children (a_delivery l.task l.root l.fn.dims l.fn.parts l.print) l.fn.parts l.k
