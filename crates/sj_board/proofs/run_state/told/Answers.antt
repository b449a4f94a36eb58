use Rattle.sj_board.proofs.Words.{arith, FitsSigned, pos, w64}
use Rattle.std.proofs.lemmas.List.Elements.{All-from_get_or}
use Rattle.sj_board.proofs.run_state.told.Goals as goal

pub returns : goal.returns
returns c = All-from_get_or (FitsSigned w64) c.args.elements.now (pos 0) (λ k h. c.loop-x.invariant k (omega (arith, h)))
