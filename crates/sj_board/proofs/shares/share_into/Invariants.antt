use Rattle.sj_board.proofs.Words.{length, reads_of, shares_at, take, ◌++◌, ◌+◌, ◌≡◌}
use Rattle.sj_board.proofs.shares.share_into.Given as goal

abbrev pub invariant-loop-access : goal.invariant-loop-access
invariant-loop-access l = record {
  slots : l.frame.slots ≡ l.fn.frame.slots ++ shares_at l.program l.w l.tiles l.n (take l.access-index l.accesses);
  room : l.frame.spare + length (reads_of (take l.access-index l.accesses)) ≡ l.fn.frame.spare;
}
