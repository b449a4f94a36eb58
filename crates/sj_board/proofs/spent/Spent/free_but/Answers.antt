use Rattle.sj_board.proofs.Words.{rules}
use Rattle.std.proofs.lemmas.List.{take-map}
use Rattle.sj_board.proofs.spent.Spent.free_but.Goals as goal

pub returns : goal.returns
returns c = search (rules, take-map)
