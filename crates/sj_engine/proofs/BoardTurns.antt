-- The calls of the board as turns of a worker.
use Rattle.std.proofs.Common.{◌≡◌, ◌≢◌, ℕ, ◌<◌, Bool, true, false, List, [], ◌∷◌, ◌++◌, length, refl, sym, ap, ◌∙◌, ◌⊎◌, subst, Option, None, Some}
use Rattle.std.specs.Prelude.{IfSome, IsSomeAnd, option_map, slice_index_or, slice_set}
use Rattle.std.proofs.lemmas.List.{append_assoc, get_or-set_same}
use Rattle.sj_base.specs.declared.ids.Cell.{Cell}
use Rattle.sj_base.specs.declared.ids.Task.{Task}
use Rattle.sj_base.specs.declared.ids.Worker.{Worker}
use Rattle.sj_base.specs.declared.trace.Event.{Event}
use Rattle.sj_base.specs.declared.trace.Event.TheVariants.{Moved, Drop}
use Rattle.sj_base.specs.Array.{Array}
use Rattle.sj_codelet.specs.Kernel.{out}
use Rattle.sj_core.specs.declared.progress.Progress.TheVariants.{Claimed}
use Rattle.sj_core.specs.declared.progress.Transfer.{Transfer}
use Rattle.sj_core.specs.Machine.{State, WorkerState, cell_state, progress, transfer, with_row, with_transfer}
use Rattle.sj_core.specs.Needs.{node_of}
use Rattle.sj_core.specs.Step.{after, arrived, mover_of}
use Rattle.sj_core.proofs.Reading.{transfer-inside, worker-same}
use Rattle.sj_core.proofs.States.{one-mover, state_of-more, arrays_of-more}
use Rattle.sj_board.specs.Sparing.{Spares, SparesMoved}
use Rattle.sj_board.specs.Standing.{CanHappen, IsMovingIn, IsMovingOut, IsTileMoved, IsTileOf, Standing, is_node, state, with_event, run_arrays}
use Rattle.sj_board.specs.declared.fault.RunFault.{RunFault}
use Rattle.sj_board.specs.Board.{BoardState, EndsMoveOf, HasTakenReleased, empty_hand, failed, first_fault, hand_of, has_event, released_of, stopped, transfer_of}
use Rattle.sj_board.specs.BoardRow.{key_of}
use Rattle.sj_board.specs.BoardSound.{IsSoundBoard}
use Rattle.sj_board.specs.declared.hand.Hand.{Hand}
use Rattle.sj_engine.specs.Stage.{HasClaimedRow, IsCarried, IsFreeRow, IsStoppedRow, MovesRow, row_in}
use Rattle.sj_engine.specs.Turn.{Happens, IsTurnOf, NothingHappens, PutsUnitBack}
use Rattle.sj_engine.proofs.OtherRows.{IsBy}
use Rattle.sj_engine.proofs.OwnRows.{claimed-row, phase-of, row-transfer, transfer-of}
use Rattle.sj_engine.proofs.Turning.{put-quiet, turn-event, turn-hand}
use Rattle.std.proofs.lemmas.Option.{same_Some}
use Rattle.sj_board.proofs.Failing.{first-not_none}
use Rattle.sj_engine.proofs.FoundBoards.{found-sound}
use Rattle.sj_board.proofs.Hands.{inside-hands}
use Rattle.sj_core.specs.Arrays.{arrays_after}

-- the state after one event more
pub state-after : {D : Type 0} (b : BoardState D) (y : BoardState D) (e : Event) → y.run ≡ with_event b.run e → state y.run ≡ after b.run.program b.run.machine (state b.run) e
state-after b y e run = ap state run ∙ state_of-more b.run.program b.run.machine b.run.trace e

pub arrays-after : {D : Type 0} (b : BoardState D) (y : BoardState D) (e : Event) → y.run ≡ with_event b.run e → run_arrays y.run ≡ arrays_after out b.run.program b.run.machine (run_arrays b.run) e
arrays-after b y e run = ap run_arrays run ∙ arrays_of-more out b.run.program b.run.machine b.run.trace e

-- what has happened on a board that was found as another
module _ {D : Type 0} (b x y : BoardState D) (ex : x ≡ b) where
  pub happened : (e : BoardState D → Event) → y.run ≡ with_event x.run (e x) → Happens (e b) b y
  happened e run = ap (λ (r : Standing D). r.trace) run ∙ ap (λ (k : BoardState D). k.run.trace ++ e k ∷ []) ex

  pub nothing-happened : y.run ≡ x.run → NothingHappens b y
  nothing-happened run = ap (λ (r : Standing D). r.trace) run ∙ ap (λ (k : BoardState D). k.run.trace) ex

module _ {D : Type 0} (size faults mismatches : D → ℕ) (held : D → Option (List ℕ)) (w : Worker) where
  -- ---- calls that change the worker's hand alone

  pub failed-turn : (b x y : BoardState D) (fault : RunFault) → x ≡ b → y ≡ failed x w fault → IsTurnOf faults mismatches w b y
  failed-turn b x y fault ex q =
      let e : y ≡ failed b w fault = q ∙ ap (λ (k : BoardState D). failed k w fault) ex in
      turn-hand faults mismatches w b (record (hand_of b w) { task = None }) y (ap (λ (k : BoardState D). k.run) e) (ap (λ (k : BoardState D). k.hands) e)
      (λ none. absurd (first-not_none b.fault fault (sym (ap (λ (k : BoardState D). k.fault) e) ∙ none))) (λ v. ap (λ (k : BoardState D). released_of k v) e)

  -- what fails after the worker's unit was put back
  pub failed-after : (a b x y : BoardState D) (fault : RunFault) → x ≡ b → y ≡ failed x w fault → PutsUnitBack w a b → IsTurnOf faults mismatches w a y
  failed-after a b x y fault ex q put =
      let t = failed-turn b x y fault ex q in
      let quiet = put-quiet faults mismatches w a b put in
      record {
        key = t.key ∙ quiet.key;
        others = λ n other. t.others n other ∙ quiet.others n other;
        one_event = subst (λ (l : List Event). (y.run.trace ≡ l) ⊎ ((e : Event) × (y.run.trace ≡ l ++ e ∷ []))) quiet.no_event t.one_event;
        events = (quiet.events.0 ++ t.events.0, t.events.1 ∙ ap (λ (l : List Event). l ++ t.events.0) quiet.events.1 ∙ append_assoc (row_in a w).events quiet.events.0 t.events.0);
        no_fault = λ none. sym quiet.fault ∙ t.no_fault none;
        counts = λ none. absurd (never (ap (λ (k : BoardState D). k.fault) (q ∙ ap (λ (k : BoardState D). failed k w fault) ex)) none);
        taken = λ h. t.taken (quiet.taken h);
      }
    where
      never : y.fault ≡ first_fault b.fault fault → y.fault ≡ None → ⊥
      never e none = first-not_none b.fault fault (sym e ∙ none)

  pub stopped-turn : (b x y : BoardState D) → x ≡ b → y ≡ stopped x w → IsTurnOf faults mismatches w b y
  stopped-turn b x y ex q =
      let e : y ≡ stopped b w = q ∙ ap (λ (k : BoardState D). stopped k w) ex in
      turn-hand faults mismatches w b (record (hand_of b w) { task = None; has_stopped = true }) y (ap (λ (k : BoardState D). k.run) e) (ap (λ (k : BoardState D). k.hands) e) (λ none. sym (ap (λ (k : BoardState D). k.fault) e) ∙ none) (λ v. ap (λ (k : BoardState D). released_of k v) e)

  -- the hand that was put
  pub hand-put : (b y : BoardState D) (hand : Hand) → w.0 < length b.hands → y.hands ≡ slice_set b.hands w.0 hand → hand_of y w ≡ hand
  hand-put b y hand inside hands = ap (λ (hs : List Hand). slice_index_or hs w.0 empty_hand) hands ∙ get_or-set_same b.hands w.0 hand empty_hand inside

  -- its row then
  module _ (b z x y : BoardState D) (ez : z ≡ b) (ex : x ≡ b) (sound : IsSoundBoard size faults mismatches held z) (known : w.0 < b.run.program.workers) where
    abbrev its-hands : w.0 < length b.hands
    its-hands = inside-hands b.run.program (state b.run) b.hands b.fault (found-sound size faults mismatches held z b ez sound).inside.hands_agree w known

    pub failed-row : (fault : RunFault) → y ≡ failed x w fault → (row_in b w).hand.has_stopped ≡ false → (row_in b w).hand.given ≡ None → (row_in b w).hand.unit ≡ None → IsFreeRow (row_in y w)
    failed-row fault q goes none free =
        hand-put b y (record (hand_of b w) { task = None }) its-hands (ap (λ (k : BoardState D). k.hands) (q ∙ ap (λ (k : BoardState D). failed k w fault) ex))
        ∙ ap (λ (g : Option Task). let h : Hand = record { given = g; task = None; unit = (hand_of b w).unit; has_stopped = (hand_of b w).has_stopped } in h) none
        ∙ ap (λ (g : Option Cell). let h : Hand = record { given = None; task = None; unit = g; has_stopped = (hand_of b w).has_stopped } in h) free
        ∙ ap (λ (g : Bool). let h : Hand = record { given = None; task = None; unit = None; has_stopped = g } in h) goes

    pub stopped-row : y ≡ stopped x w → (row_in b w).hand.given ≡ None → (row_in b w).hand.unit ≡ None → IsStoppedRow (row_in y w)
    stopped-row q none free =
        hand-put b y (record (hand_of b w) { task = None; has_stopped = true }) its-hands (ap (λ (k : BoardState D). k.hands) (q ∙ ap (λ (k : BoardState D). stopped k w) ex))
        ∙ ap (λ (g : Option Task). let h : Hand = record { given = g; task = None; unit = (hand_of b w).unit; has_stopped = true } in h) none
        ∙ ap (λ (g : Option Cell). let h : Hand = record { given = None; task = None; unit = g; has_stopped = true } in h) free

  -- ---- events

  module _ (b z x y : BoardState D) (e : BoardState D → Event) (ez : z ≡ b) (ex : x ≡ b) (sound : IsSoundBoard size faults mismatches held z)
      (by : IsBy b.run.machine (state b.run) w (e b)) (can : CanHappen b.run (e b)) where
    abbrev its-sound : IsSoundBoard size faults mismatches held b
    its-sound = found-sound size faults mismatches held z b ez sound

    pub event-turn : y.run ≡ with_event x.run (e x) → ((v : Worker) → v ≢ w → hand_of y v ≡ hand_of x v) → (y.fault ≡ None → x.fault ≡ None) → (HasTakenReleased x w → HasTakenReleased y w) → ((v : Worker) → v ≢ w → released_of y v ≡ released_of x v) → Spares x.run (e x) y.run → IsTurnOf faults mismatches w b y
    event-turn run hands fault own rest spares =
        turn-event faults mismatches w size held b its-sound (e b) y by can
        (subst (λ (k : BoardState D). Spares k.run (e k) y.run) ex spares)
        (subst (λ (k : BoardState D). y.run ≡ with_event k.run (e k)) ex run)
        (subst (λ (k : BoardState D). (v : Worker) → v ≢ w → hand_of y v ≡ hand_of k v) ex hands)
        (subst (λ (k : BoardState D). y.fault ≡ None → k.fault ≡ None) ex fault)
        (subst (λ (k : BoardState D). HasTakenReleased k w → HasTakenReleased y w) ex own)
        (subst (λ (k : BoardState D). (v : Worker) → v ≢ w → released_of y v ≡ released_of k v) ex rest)

    pub has_event-turn : y ≡ has_event x (e x) → Spares x.run (e x) y.run → IsTurnOf faults mismatches w b y
    has_event-turn q spares = event-turn (ap (λ (k : BoardState D). k.run) q) (λ v d. ap (λ (k : BoardState D). hand_of k v) q) (λ f. sym (ap (λ (k : BoardState D). k.fault) q) ∙ f) (λ h. ap (λ (k : BoardState D). released_of k w) q ∙ h) (λ v d. ap (λ (k : BoardState D). released_of k v) q) spares

  -- the worker's row after a drop
  pub dropped-row : (b x y : BoardState D) (t : Task) (c : Cell) → x ≡ b → HasClaimedRow w t (row_in b w) → y ≡ has_event x (Drop c (node_of x.run.machine w)) → HasClaimedRow w t (row_in y w)
  dropped-row b x y t c ex r q =
      let e : y ≡ has_event b (Drop c (node_of b.run.machine w)) = q ∙ ap (λ (k : BoardState D). has_event k (Drop c (node_of k.run.machine w))) ex in
      let s' = state-after b y (Drop c (node_of b.run.machine w)) (ap (λ (k : BoardState D). k.run) e) in
      claimed-row y w t (ap (λ (k : BoardState D). hand_of k w) e ∙ r.hand) (ap (λ (z : State). progress z t) s' ∙ phase-of b w t (Claimed w) r.hand r.phase) (ap (λ (z : State). transfer z w) s' ∙ transfer-of b w t None r.hand r.rests)

  -- ---- the ends of moves

  module _ (b z x y : BoardState D) (t : Task) (tr : Transfer) (ez : z ≡ b) (ex : x ≡ b) (sound : IsSoundBoard size faults mismatches held z) (r : MovesRow w t tr (row_in b w)) where
    abbrev s : State
    s = state b.run

    under-way : transfer s w ≡ Some tr
    under-way = transfer-of b w t (Some tr) r.hand r.transfer

    abbrev here : IsSoundBoard size faults mismatches held b
    here = found-sound size faults mismatches held z b ez sound

    pub moving-in : is_node tr.to ≡ true → IsMovingIn x.run w
    moving-in node = subst (λ (k : BoardState D). IsMovingIn k.run w) (sym ex) (subst (λ (o : Option Transfer). IsSomeAnd o (λ k. is_node k.to ≡ true)) (sym under-way) node)

    pub moving-out : is_node tr.to ≡ false → IsMovingOut x.run w
    moving-out disk = subst (λ (k : BoardState D). IsMovingOut k.run w) (sym ex) (subst (λ (o : Option Transfer). IsSomeAnd o (λ k. is_node k.to ≡ false)) (sym under-way) disk)

    carried-is : (a : Array) → (row_in b w).carries ≡ Some a → a ≡ run_arrays b.run tr.cell tr.from
    carried-is a e =
        let there : transfer_of b w ≡ Some tr = sym (row-transfer b w) ∙ r.transfer in
        same_Some a (run_arrays b.run tr.cell tr.from) (sym e ∙ ap (option_map (λ (k : Transfer). run_arrays b.run k.cell k.from)) there)

    pub tile-moved : (a : Array) → IsCarried held (key_of b) tr (row_in b w) a → IsTileMoved held x.run w a
    tile-moved a c =
        subst (λ (k : BoardState D). IsTileMoved held k.run w a) (sym ex)
        (subst (λ (o : Option Transfer). IfSome o (λ k. IsTileOf held b.run k.cell k.from a)) (sym under-way)
        (record { dims = c.dims; array = λ tell. carried-is a (c.told tell) }))

    mover-is : mover_of s tr.cell tr.from tr.to ≡ w
    mover-is = sym (one-mover b.run.program b.run.machine s tr.cell tr.from tr.to w here.run.coherent under-way)

    pub can-end : CanHappen b.run (Moved tr.cell tr.from tr.to)
    can-end = ap (transfer s) mover-is ∙ under-way

    module _ (moved : EndsMoveOf w x y) (spares : SparesMoved w x.run y.run) where
      moved-is : y ≡ has_event b (Moved tr.cell tr.from tr.to)
      moved-is =
          subst (λ (o : Option Transfer). IfSome o (λ k. y ≡ has_event b (Moved k.cell k.from k.to))) under-way
          (subst (λ (k : BoardState D). EndsMoveOf w k y) ex moved)

      spares-is : Spares b.run (Moved tr.cell tr.from tr.to) y.run
      spares-is =
          subst (λ (o : Option Transfer). IfSome o (λ k. Spares b.run (Moved k.cell k.from k.to) y.run)) under-way
          (subst (λ (k : BoardState D). SparesMoved w k.run y.run) ex spares)

      pub moved-event : Happens (Moved tr.cell tr.from tr.to) b y
      moved-event = ap (λ (k : BoardState D). k.run.trace) moved-is

      pub moved-turn : IsTurnOf faults mismatches w b y
      moved-turn = has_event-turn b b b y (λ k. Moved tr.cell tr.from tr.to) refl refl here mover-is can-end moved-is spares-is

      pub moved-row : HasClaimedRow w t (row_in y w)
      moved-row =
          let s' = state-after b y (Moved tr.cell tr.from tr.to) (ap (λ (k : BoardState D). k.run) moved-is) in
          let inside = transfer-inside s w tr under-way in
          claimed-row y w t (ap (λ (k : BoardState D). hand_of k w) moved-is ∙ r.hand) (ap (λ (z : State). progress z t) s' ∙ phase-of b w t (Claimed w) r.hand r.phase)
          (ap (λ (z : State). transfer z w) s' ∙ gone inside)
        where
          gone : w.0 < length s.workers → transfer (after b.run.program b.run.machine s (Moved tr.cell tr.from tr.to)) w ≡ None
          gone inside =
              ap (λ (v : Worker). transfer (with_transfer (with_row s tr.cell (arrived tr.to (cell_state s tr.cell))) v None) w) mover-is
              ∙ ap (λ (k : WorkerState). k.transfer) (worker-same (with_row s tr.cell (arrived tr.to (cell_state s tr.cell))) w _ inside)
