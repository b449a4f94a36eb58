use Rattle.sj_board.proofs.Words.{None, replicate, ◌≡◌}
use Rattle.sj_board.proofs.tiles.empty_places.Given as goal

abbrev pub invariant-loop-i : goal.invariant-loop-i
invariant-loop-i l = l.places.items ≡ replicate l._i None
