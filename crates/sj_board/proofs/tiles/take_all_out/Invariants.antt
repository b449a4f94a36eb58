use Rattle.sj_board.proofs.Words.{Array, arrays_in, get_or, length, None, Option, ℕ, ◌<◌, ◌≡◌}
use Rattle.sj_board.proofs.tiles.take_all_out.Given as goal

abbrev pub invariant-loop-k : goal.invariant-loop-k
invariant-loop-k l = record {
  every : length l.places ≡ length l.fn.places;
  done : (k : ℕ) (d : Option Array) → k < l.k → get_or (arrays_in l.places) k d ≡ None;
}
