-- A number of the shared queues that a worker drops isn't needed.
use Rattle.std.proofs.Common.{◌≡◌, ◌∙◌, ◌⊎◌, None, Option, Some, IsTrue, ap, inl, inr, is_some, refl, subst}
use Rattle.sj_base.specs.declared.ids.Task.{Task}
use Rattle.sj_base.specs.declared.ids.Worker.{Worker}
use Rattle.sj_board.specs.Board.{BoardState, empty_hand, hand_of}
use Rattle.sj_board.specs.Claimable.{IsClaimable, MayBegin, TellsOf}
use Rattle.sj_board.specs.declared.claimable.Claimable.{Claimable}
use Rattle.sj_board.specs.declared.claimable.Claimable.TheVariants.{Closed, Stale}
use Rattle.sj_board.specs.declared.hand.Hand.{Hand}
use Rattle.sj_engine.specs.Queued.{IsNotNeeded}

some-unless : {X : Type 0} (o : Option X) → (o ≡ None → ⊥) → IsTrue (is_some o)
some-unless None never = absurd (never refl)
some-unless (Some x) never = refl

module _ {D : Type 0} where
  -- a worker without a task may begin with none only where a fault is kept
  pub dropped-unneeded : (b x : BoardState D) (w : Worker) (t : Task) (k : Claimable) → x ≡ b → hand_of b w ≡ empty_hand → TellsOf x t w k → (k ≡ Stale) ⊎ (k ≡ Closed) → IsNotNeeded b t
  dropped-unneeded b x w t k ex free tells (inl stale) = inl (subst (λ (z : BoardState D). ¬ IsClaimable z t) ex (subst (TellsOf x t w) stale tells))
  dropped-unneeded b x w t k ex free tells (inr closed) =
      let never : ¬ MayBegin x w = (subst (TellsOf x t w) closed tells).2 in
      inr (some-unless b.fault (λ none. never (ap (λ (z : BoardState D). (hand_of z w).task) ex ∙ ap (λ (h : Hand). h.task) free, ap (λ (z : BoardState D). z.fault) ex ∙ none)))
