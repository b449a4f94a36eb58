use Rattle.sj_board.proofs.Words.{None, replicate, ◌≡◌}
use Rattle.sj_board.proofs.gifts.no_tiles.Given as goal

abbrev pub invariant-loop-i : goal.invariant-loop-i
invariant-loop-i l = l.tiles.items ≡ replicate l._i None
