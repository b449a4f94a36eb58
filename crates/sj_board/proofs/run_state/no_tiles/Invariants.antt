use Rattle.sj_board.proofs.Words.{None, replicate, ◌≡◌}
use Rattle.sj_board.proofs.run_state.no_tiles.Given as goal

abbrev pub invariant-loop-i : goal.invariant-loop-i
invariant-loop-i l = l.rows.items ≡ replicate l._i (replicate l.nodes None)
