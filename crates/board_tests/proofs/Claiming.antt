-- A free worker that is given a task and claims it has claimed it.
use Rattle.std.proofs.Common.{◌≡◌, ◌≢◌, ℕ, ◌<◌, ◌∙◌, List, Option, None, Some, false, true, ap, length, refl, slice_set, subst, sym}
use Rattle.std.proofs.lemmas.Bool.{or_left}
use Rattle.std.proofs.lemmas.List.{get_or-set_other, get_or-set_same, set-get_or}
use Rattle.sj_base.specs.declared.ids.Task.{Task}
use Rattle.sj_base.specs.declared.ids.Worker.{Worker}
use Rattle.sj_base.specs.declared.trace.Event.TheVariants.{Claim}
use Rattle.sj_core.specs.declared.progress.Progress.TheVariants.{Claimed}
use Rattle.sj_core.specs.declared.progress.Transfer.{Transfer}
use Rattle.sj_core.specs.Machine.{State, WorkerState, is_claimed_by, is_running_on, is_task_of, progress, transfer}
use Rattle.sj_core.specs.Step.{after}
use Rattle.sj_core.proofs.Reading.{progress-same, worker-same}
use Rattle.sj_core.proofs.States.{state_of-more}
use Rattle.sj_board.specs.Standing.{CanHappen, state}
use Rattle.sj_board.specs.Board.{BoardState, IsFree, empty_hand, given_from, hand_of, has_claimed}
use Rattle.sj_board.specs.BoardSound.{IsSoundBoard}
use Rattle.sj_board.specs.declared.hand.Hand.{Hand}
use Rattle.board_tests.specs.Steps.{HasClaimed, IsStepOf}

-- where it was given the task on the second board, and the third is that of its claim
module _ {D : Type 0} (size faults mismatches : D → ℕ) (held : D → Option (List ℕ)) (b y z : BoardState D) (w : Worker) (t : Task) (sound : IsSoundBoard size faults mismatches held y) (free : IsFree b w) (no_fault : b.fault ≡ None) (o : Option Task) (gives : y ≡ given_from b w o y.pool) (can : CanHappen y.run (Claim t w)) (claims : z ≡ has_claimed y t w) where
  known : w.0 < y.run.program.workers
  known = subst (λ (k : BoardState D). w.0 < k.run.program.workers) (sym gives) free.idle.works.known

  kept : y.fault ≡ None
  kept = ap (λ (k : BoardState D). k.fault) gives ∙ no_fault

  goes-on : w.0 < length b.hands → (hand_of y w).has_stopped ≡ false
  goes-on l = ap (λ (k : BoardState D). (hand_of k w).has_stopped) gives ∙ ap (λ (h : Hand). h.has_stopped) (get_or-set_same b.hands w.0 _ empty_hand l) ∙ free.idle.works.goes_on

  no-task : w.0 < length b.hands → (hand_of y w).task ≡ None
  no-task l = ap (λ (k : BoardState D). (hand_of k w).task) gives ∙ ap (λ (h : Hand). h.task) (get_or-set_same b.hands w.0 _ empty_hand l) ∙ free.idle.no_task

  staffed : w.0 < length y.hands
  staffed = subst (λ n. w.0 < n) (sym sound.inside.hands_agree.every_worker) known

  hand : hand_of z w ≡ record (hand_of y w) { given = None; task = Some t }
  hand = ap (λ (k : BoardState D). hand_of k w) claims ∙ get_or-set_same y.hands w.0 (record (hand_of y w) { given = None; task = Some t }) empty_hand staffed

  now : state z.run ≡ after y.run.program y.run.machine (state y.run) (Claim t w)
  now = ap (λ (k : BoardState D). state k.run) claims ∙ state_of-more y.run.program y.run.machine y.run.trace (Claim t w)

  -- a worker without a task has no transfer under way
  none-moves : (hand_of y w).task ≡ None → (o : Option Transfer) → transfer (state y.run) w ≡ o → transfer (state y.run) w ≡ None
  none-moves no_task None e = e
  none-moves no_task (Some x) e =
      let own = sound.run.coherent.workers.moves_for_claim w x e in
      let has : is_task_of w (progress (state y.run) own.0) ≡ true = or_left (is_claimed_by w (progress (state y.run) own.0)) (is_running_on w (progress (state y.run) own.0)) own.1 in
      let two = sym no_task ∙ sound.inside.hands_agree.tells kept w own.0 has in
      absurd (let k : ◌≡◌ {A = Option Task} None (Some own.0) = two in cc)

  rests : (hand_of y w).task ≡ None → transfer (state z.run) w ≡ None
  rests no_task =
      let staff : w.0 < length (state y.run).workers = subst (λ n. w.0 < n) (sym (sound.run.coherent.state.rows.workers ∙ sound.run.run.machine.workers)) known in
      ap (λ (k : State). transfer k w) now ∙ ap (λ (k : WorkerState). k.transfer) (worker-same (state y.run) w _ staff) ∙ none-moves no_task (transfer (state y.run) w) refl

  pub claims-it : w.0 < length b.hands → HasClaimed z w t
  claims-it l = record {
    task = record {
      works = record {
        known = subst (λ (k : BoardState D). w.0 < k.run.program.workers) (sym claims) known;
        goes_on = ap (λ (h : Hand). h.has_stopped) hand ∙ goes-on l;
      };
      task = ap (λ (h : Hand). h.task) hand;
    };
    none_given = ap (λ (h : Hand). h.given) hand;
    claimed = ap (λ (k : State). progress k t) now ∙ progress-same (state y.run) t (Claimed w) (subst (λ n. t.0 < n) (sym sound.run.coherent.state.rows.tasks) can.ready.task);
    rests = rests (no-task l);
  }

  other-hand : (v : Worker) → v ≢ w → hand_of z v ≡ hand_of b v
  other-hand v d =
      ap (λ (k : BoardState D). hand_of k v) claims
      ∙ get_or-set_other y.hands w.0 v.0 (record (hand_of y w) { given = None; task = Some t }) empty_hand (λ e. d (ap (λ (n : ℕ). let u : Worker = record { 0 = n } in u) e))
      ∙ ap (λ (k : BoardState D). hand_of k v) gives
      ∙ get_or-set_other b.hands w.0 v.0 (record (hand_of b w) { given = o }) empty_hand (λ e. d (ap (λ (n : ℕ). let u : Worker = record { 0 = n } in u) e))

  pub is-step : IsStepOf w b z
  is-step = record {
    others = λ v d f. record {
      idle = record {
        works = record {
          known = subst (λ (k : BoardState D). v.0 < k.run.program.workers) (sym claims) (subst (λ (k : BoardState D). v.0 < k.run.program.workers) (sym gives) f.idle.works.known);
          goes_on = ap (λ (h : Hand). h.has_stopped) (other-hand v d) ∙ f.idle.works.goes_on;
        };
        no_task = ap (λ (h : Hand). h.task) (other-hand v d) ∙ f.idle.no_task;
      };
      none_given = ap (λ (h : Hand). h.given) (other-hand v d) ∙ f.none_given;
    };
    fault = ap (λ (k : BoardState D). k.fault) claims ∙ ap (λ (k : BoardState D). k.fault) gives;
    opened = ap (λ (k : BoardState D). k.run.opened) claims ∙ ap (λ (k : BoardState D). k.run.opened) gives;
    policy = ap (λ (k : BoardState D). k.run.machine.policy) claims ∙ ap (λ (k : BoardState D). k.run.machine.policy) gives;
  }

-- a worker that was only given a task has done something alone
module _ {D : Type 0} (b y : BoardState D) (w : Worker) (o : Option Task) (gives : y ≡ given_from b w o y.pool) where
  hand-given : (v : Worker) → v ≢ w → hand_of y v ≡ hand_of b v
  hand-given v d =
      ap (λ (k : BoardState D). hand_of k v) gives
      ∙ get_or-set_other b.hands w.0 v.0 (record (hand_of b w) { given = o }) empty_hand (λ e. d (ap (λ (n : ℕ). let u : Worker = record { 0 = n } in u) e))

  pub is-given : IsStepOf w b y
  is-given = record {
    others = λ v d f. record {
      idle = record {
        works = record {
          known = subst (λ (k : BoardState D). v.0 < k.run.program.workers) (sym gives) f.idle.works.known;
          goes_on = ap (λ (h : Hand). h.has_stopped) (hand-given v d) ∙ f.idle.works.goes_on;
        };
        no_task = ap (λ (h : Hand). h.task) (hand-given v d) ∙ f.idle.no_task;
      };
      none_given = ap (λ (h : Hand). h.given) (hand-given v d) ∙ f.none_given;
    };
    fault = ap (λ (k : BoardState D). k.fault) gives;
    opened = ap (λ (k : BoardState D). k.run.opened) gives;
    policy = ap (λ (k : BoardState D). k.run.machine.policy) gives;
  }

-- a free worker was given no task
pub given-none : {D : Type 0} (b : BoardState D) (w : Worker) → IsFree b w → b ≡ given_from b w None b.pool
given-none b w free =
    let own : (record b { hands = slice_set b.hands w.0 (hand_of b w) }) ≡ b = ap (λ (hs : List Hand). record b { hands = hs }) (set-get_or b.hands w.0 empty_hand) in
    sym own ∙ ap (λ (o : Option Task). given_from b w o b.pool) free.none_given
