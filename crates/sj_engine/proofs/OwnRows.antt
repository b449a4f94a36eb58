-- What a worker's row tells of the board, and what a board makes of the row.
use Rattle.std.proofs.Common.{◌≡◌, ◌<◌, Bool, true, false, refl, sym, ap, ◌∙◌, subst, Option, None, Some}
use Rattle.std.specs.Prelude.{IfSome, is_some, option_map, if◌then◌else◌}
use Rattle.sj_base.specs.declared.ids.Task.{Task}
use Rattle.sj_base.specs.declared.ids.Worker.{Worker}
use Rattle.sj_core.specs.declared.progress.Progress.{Progress}
use Rattle.sj_core.specs.declared.progress.Progress.TheVariants.{Claimed, Running}
use Rattle.sj_core.specs.declared.progress.Transfer.{Transfer}
use Rattle.sj_core.specs.Machine.{is_running_on, progress, transfer, worker_state, idle_row}
use Rattle.sj_board.specs.Standing.{state}
use Rattle.sj_board.specs.Board.{BoardState, HasTask, IsBusy, IsFree, IsWorking, RunsNone, empty_hand, hand_of, transfer_of}
use Rattle.sj_board.specs.declared.hand.Hand.{Hand}
use Rattle.sj_engine.specs.Stage.{HasClaimedRow, MovesRow, RunsRow, busy_hand, row_in}
use Rattle.std.proofs.lemmas.Option.{same_Some}

module _ {D : Type 0} (b : BoardState D) (w : Worker) where
  -- ---- from the row to the board

  pub row-transfer : (row_in b w).holds.transfer ≡ transfer_of b w
  row-transfer = by_held (is_some (hand_of b w).task)
    where
      by_held : (held : Bool) → (if held then worker_state (state b.run) w else idle_row).transfer ≡ (if held then transfer (state b.run) w else None)
      by_held true = refl
      by_held false = refl

  pub phase-of : (t : Task) (x : Progress) → hand_of b w ≡ busy_hand t → (row_in b w).phase ≡ Some x → progress (state b.run) t ≡ x
  phase-of t x hand phase = same_Some (progress (state b.run) t) x (sym (ap (λ (h : Hand). option_map (progress (state b.run)) h.task) hand) ∙ phase)

  pub transfer-of : (t : Task) (o : Option Transfer) → hand_of b w ≡ busy_hand t → (row_in b w).holds.transfer ≡ o → transfer (state b.run) w ≡ o
  transfer-of t o hand holds = sym (ap (λ (h : Hand). (if is_some h.task then worker_state (state b.run) w else idle_row).transfer) hand) ∙ holds

  module _ (known : w.0 < b.run.program.workers) where
    pub works-busy : (t : Task) → hand_of b w ≡ busy_hand t → IsWorking b w
    works-busy t hand = record { known = known; goes_on = ap (λ (h : Hand). h.has_stopped) hand }

    pub has-task : (t : Task) → hand_of b w ≡ busy_hand t → HasTask b w t
    has-task t hand = record { works = works-busy t hand; task = ap (λ (h : Hand). h.task) hand }

    pub is-busy : (t : Task) → hand_of b w ≡ busy_hand t → IsBusy b w
    is-busy t hand = record { works = works-busy t hand; task = ap (λ (h : Hand). is_some h.task) hand }

    pub is-free : hand_of b w ≡ empty_hand → IsFree b w
    is-free hand = record { idle = record { works = record { known = known; goes_on = ap (λ (h : Hand). h.has_stopped) hand }; no_task = ap (λ (h : Hand). h.task) hand }; none_given = ap (λ (h : Hand). h.given) hand }

  pub runs-none : (t : Task) → HasClaimedRow w t (row_in b w) → RunsNone b w
  runs-none t r = subst (λ (h : Hand). IfSome h.task (λ u. is_running_on w (progress (state b.run) u) ≡ false)) (sym r.hand) (ap (is_running_on w) (phase-of t (Claimed w) r.hand r.phase))

  pub moves-none : (t : Task) → HasClaimedRow w t (row_in b w) → transfer_of b w ≡ None
  moves-none t r = sym row-transfer ∙ r.rests

  -- ---- and back

  row-phase : (t : Task) (x : Progress) → hand_of b w ≡ busy_hand t → progress (state b.run) t ≡ x → (row_in b w).phase ≡ Some x
  row-phase t x hand is = ap (λ (h : Hand). option_map (progress (state b.run)) h.task) hand ∙ ap (λ (y : Progress). Some y) is

  row-holds : (t : Task) (o : Option Transfer) → hand_of b w ≡ busy_hand t → transfer (state b.run) w ≡ o → (row_in b w).holds.transfer ≡ o
  row-holds t o hand is = ap (λ (h : Hand). (if is_some h.task then worker_state (state b.run) w else idle_row).transfer) hand ∙ is

  pub claimed-row : (t : Task) → hand_of b w ≡ busy_hand t → progress (state b.run) t ≡ Claimed w → transfer (state b.run) w ≡ None → HasClaimedRow w t (row_in b w)
  claimed-row t hand phase rests = record { hand = hand; phase = row-phase t (Claimed w) hand phase; rests = row-holds t None hand rests }

  pub moves-row : (t : Task) (x : Transfer) → hand_of b w ≡ busy_hand t → progress (state b.run) t ≡ Claimed w → transfer (state b.run) w ≡ Some x → MovesRow w t x (row_in b w)
  moves-row t x hand phase moves = record { hand = hand; phase = row-phase t (Claimed w) hand phase; transfer = row-holds t (Some x) hand moves }

  pub runs-row : (t : Task) → hand_of b w ≡ busy_hand t → progress (state b.run) t ≡ Running w → RunsRow w t (row_in b w)
  runs-row t hand phase = record { hand = hand; phase = row-phase t (Running w) hand phase }
