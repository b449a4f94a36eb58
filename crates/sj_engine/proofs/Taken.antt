-- What was released and not taken away is less as a worker takes its own.
use Rattle.std.proofs.Common.{◌≡◌, ◌≢◌, ◌∙◌, ℕ, [], ap, drop, inl, inr, map, sym}
use Rattle.std.proofs.lemmas.List.{get_or-set_other}
use Rattle.sj_base.specs.declared.ids.Worker.{Worker}
use Rattle.sj_pool.specs.declared.entry.Entry.{Entry}
use Rattle.sj_pool.specs.Pool.{Pooled, queue}
use Rattle.sj_board.specs.Board.{BoardState, has_released, released_of}
use Rattle.sj_board.specs.Released.{queued_tasks, without_first_of}
use Rattle.sj_board.proofs.Policies.{by-policy, other-left, other-released, prio-released}

module _ {D : Type 0} (b : BoardState D) (w : Worker) where
  -- those of the others stay
  pub others-stay : (v : Worker) → v ≢ w → released_of (has_released b w) v ≡ released_of b v
  others-stay v far = elim (by-policy b.run.machine.policy) as (λ _. released_of (has_released b w) v ≡ released_of b v) [
    | inl prio ↦ prio-released b.run.machine.policy (without_first_of b.run.machine.policy b.pool w.0) v.0 prio ∙ sym (prio-released b.run.machine.policy b.pool v.0 prio)
    | inr other ↦ (
        other-released b.run.machine.policy (without_first_of b.run.machine.policy b.pool w.0) v.0 other
        ∙ ap (λ (q : Pooled). queued_tasks q v.0) (other-left b.run.machine.policy b.pool w.0 other)
        ∙ ap (map (λ (e : Entry). e.task)) (get_or-set_other b.pool.queues w.0 v.0 (drop 1 (queue b.pool.queues w.0)) [] (λ e. far (ap (λ (n : ℕ). let u : Worker = record { 0 = n } in u) e)))
        ∙ sym (other-released b.run.machine.policy b.pool v.0 other)
        )
  ]
