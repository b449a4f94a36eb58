use Rattle.std.proofs.Common.{arith}
use Rattle.board_tests.proofs.Others.{still-free, still-silent}
use Rattle.board_tests.proofs.scenes.look_after_two.Goals as goal

pub carried_out-requires-2-clause-silent : goal.carried_out-requires-2-clause-silent
carried_out-requires-2-clause-silent g c = still-silent c.args.board.now c.carried_out.new.board (record { 0 = 0 }) c.carried_out.ensures.alone g.D.Disk.held c.requires.silent

pub look-requires-clause-free : goal.look-requires-clause-free
look-requires-clause-free g c =
    still-free c.carried_out-2.new.board c.claimed.new.board (record { 0 = 0 }) c.claimed.ensures.alone (record { 0 = 1 }) (λ e. omega (arith, e))
    (still-free c.carried_out.new.board c.carried_out-2.new.board (record { 0 = 0 }) c.carried_out-2.ensures.alone (record { 0 = 1 }) (λ e. omega (arith, e))
    (still-free c.args.board.now c.carried_out.new.board (record { 0 = 0 }) c.carried_out.ensures.alone (record { 0 = 1 }) (λ e. omega (arith, e)) (c.requires.free (record { 0 = 1 }) (omega arith))))
