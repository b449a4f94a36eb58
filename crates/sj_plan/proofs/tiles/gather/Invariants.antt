use Rattle.std.proofs.Common.{◌≡◌}
use Rattle.sj_plan.specs.Window.{with_window}
use Rattle.sj_plan.proofs.tiles.gather.Given as goal

-- the first k rows of the rectangle are there
abbrev pub invariant-loop-k : goal.invariant-loop-k
invariant-loop-k l =
    l.elements ≡ (with_window l.fn.into (record l.rect { rows = l.k }) l.fn.child).elements
