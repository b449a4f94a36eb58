use Rattle.sj_core.proofs.Words.{arith, pos, w64}
use Rattle.std.specs.Prelude.{FitsSigned}
use Rattle.std.proofs.lemmas.List.Elements.{All-from_get_or}
use Rattle.sj_core.proofs.tasks.args_fit.Goals as goal

pub returns : goal.returns
returns c = All-from_get_or (FitsSigned w64) c.args.args.now (pos 0) (λ k h. c.loop-arg.invariant k (omega (arith, h)))
