-- What a worker's step leaves of what was so before it.
use Rattle.std.proofs.Common.{◌≢◌, ℕ, List, Option, ap, subst}
use Rattle.sj_base.specs.declared.ids.Worker.{Worker}
use Rattle.sj_board.specs.Standing.{AllTell}
use Rattle.sj_board.specs.Board.{BoardState, IsFree}
use Rattle.std.specs.Prelude.{All, IsSome}
use Rattle.board_tests.specs.Steps.{IsStepOf}

module _ {D : Type 0} (old new : BoardState D) (w : Worker) (step : IsStepOf w old new) where
  -- another worker is as free as it was
  pub still-free : (v : Worker) → v.0 ≢ w.0 → IsFree old v → IsFree new v
  still-free v other free = step.others v (λ e. other (ap (λ (x : Worker). x.0) e)) free

  pub still-silent : (held : D → Option (List ℕ)) → ¬ AllTell held old.run → ¬ AllTell held new.run
  still-silent held silent tell = silent (subst (λ (ds : List D). All (λ x. IsSome (held x)) ds) step.opened tell)
