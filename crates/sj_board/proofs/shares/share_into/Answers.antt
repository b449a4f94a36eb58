use Rattle.sj_board.proofs.Words.{[], Access, arith, get_or, length, R, reads_of, ◌+◌, ◌∷◌, ◌≤◌}
use Rattle.sj_board.proofs.SharesInOrder.{read-more, read-some}
use Rattle.sj_board.proofs.shares.share_into.Goals as goal

pub share_one-requires-clause-room : goal.share_one-requires-clause-room
share_one-requires-clause-room c =
    let first : Access = record { mode = R; cell = record { 0 = 0 } } in
    let i = c.loop-access.access-index in
    let room : length (reads_of (get_or c.args.accesses.now i first ∷ [])) ≤ c.loop-access.frame.spare = omega (arith, read-more c.args.accesses.now i first c.loop-access-test.true, read-some c.args.accesses.now (i + 1), c.requires.room, c.loop-access.invariant.room) in
    room
