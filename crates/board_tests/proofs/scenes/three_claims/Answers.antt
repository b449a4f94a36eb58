use Rattle.std.proofs.Common.{arith}
use Rattle.board_tests.proofs.Others.{still-free}
use Rattle.board_tests.proofs.scenes.three_claims.Goals as goal

pub claimed-requires-2-clause-free : goal.claimed-requires-2-clause-free
claimed-requires-2-clause-free g c = still-free c.args.board.now c.claimed.new.board (record { 0 = 0 }) c.claimed.ensures.alone (record { 0 = 1 }) (λ e. omega (arith, e)) (c.requires.free (record { 0 = 1 }) (omega arith))

pub claimed-requires-3-clause-free : goal.claimed-requires-3-clause-free
claimed-requires-3-clause-free g c =
    still-free c.claimed.new.board c.claimed-2.new.board (record { 0 = 1 }) c.claimed-2.ensures.alone (record { 0 = 2 }) (λ e. omega (arith, e))
    (still-free c.args.board.now c.claimed.new.board (record { 0 = 0 }) c.claimed.ensures.alone (record { 0 = 2 }) (λ e. omega (arith, e)) (c.requires.free (record { 0 = 2 }) (omega arith)))
