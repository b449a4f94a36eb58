use Rattle.std.proofs.Common.{◌≡◌, ◌++◌, map}
use Rattle.std.specs.List.{filter, range_with_len}
use Rattle.sj_plan.specs.Paste.{overlaps, paste_at}
use Rattle.sj_plan.proofs.paste.push_between.Given as goal

-- the pastes from the children before column part l
abbrev pub invariant-loop-l : goal.invariant-loop-l
invariant-loop-l l =
    l.found.items ≡ l.fn.found.items ++ filter overlaps (map (λ j. paste_at l.dims l.old l.new (l.k, j) l.to) (range_with_len 0 l.l))
