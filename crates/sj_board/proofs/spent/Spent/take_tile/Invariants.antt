use Rattle.sj_board.proofs.Words.{length, ◌-◌}
use Rattle.sj_board.proofs.spent.Spent.take_tile.Given as goal

abbrev pub decreases-loop-at : goal.decreases-loop-at
decreases-loop-at l = length l.self.tiles.items - l.at
