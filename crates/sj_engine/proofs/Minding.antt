-- A turn minds the bell.
use Rattle.std.proofs.Common.{◌≡◌, ◌≢◌, ◌+◌, ◌-◌, ◌^◌, ◌⊎◌, ◌∙◌, ◌++◌, [], ℕ, Bool, List, length, min, subst, true, false, Some, IsTrue, inl, inr, ap, refl, is_some, option_to_list}
use Rattle.std.specs.Prelude.{MatchBool}
use Rattle.std.specs.List.{list_all}
use Rattle.sj_base.specs.declared.ids.Task.{Task}
use Rattle.sj_base.specs.declared.ids.Worker.{Worker}
use Rattle.sj_base.specs.declared.mode.Policy.TheVariants.{Prio}
use Rattle.sj_base.specs.declared.trace.Event.{Event}
use Rattle.sj_base.specs.declared.trace.Event.TheVariants.{Claim, Drop, End, Move, Run}
use Rattle.sj_core.specs.Machine.{is_done}
use Rattle.sj_core.specs.Needs.{node_of}
use Rattle.sj_desk.specs.Seats.{DeskFacts, HasRowLeft, SeatFacts, rung}
use Rattle.sj_board.specs.Standing.{state}
use Rattle.sj_board.specs.Board.{BoardState, IsOver}
use Rattle.sj_engine.specs.Bell.{CountsReady, HasHeardBell, HasRung, IsChange, MindsBell, is_claimed, noted_after, noted_for_rest, wakes_after, wakes_for_rest}
use Rattle.sj_engine.specs.Noted.{has_ready_in, noted_row}
use Rattle.sj_engine.specs.Picking.{finds_nothing, finds_task}
use Rattle.sj_engine.specs.Queued.{HasReleased, PicksOrFails}
use Rattle.sj_engine.specs.Resting.{RestNotes, change_of, is_over, wakes}
use Rattle.sj_engine.specs.Stage.{HasLeft}
use Rattle.sj_engine.specs.Stepping.{EndsByFault, HasDone, StepMakes, has_to_wait}
use Rattle.sj_engine.specs.Turn.{Happens, NothingHappens}
use Rattle.sj_engine.specs.declared.noted_board.NotedBoard.{NotedBoard}
use Rattle.sj_engine.specs.declared.picking.Picked.{Picked}
use Rattle.sj_engine.specs.declared.picking.Picked.TheVariants.{Task as PickedTask, Nothing, Failed as PickFailed, Over}
use Rattle.sj_engine.specs.declared.sleepers.Change.{Change}
use Rattle.sj_engine.specs.declared.sleepers.Change.TheVariants.{Claimed, Ended, Freed}
use Rattle.sj_engine.specs.declared.stepping.Step.{Step}
use Rattle.sj_engine.specs.declared.stepping.Step.TheVariants.{Begun, Moves, Writes, Reads, Discarded, Waits, Stopped, Failed}
use Rattle.std.proofs.lemmas.Bool.{or_left, or_right}

module _ {D : Type 0} where
  pub over-by_fault : (b : BoardState D) → IsTrue (is_some b.fault) → is_over b ≡ true
  over-by_fault b e = or_right (list_all is_done (state b.run).tasks) (is_some b.fault) e

  pub over-is : (b : BoardState D) → IsOver b → is_over b ≡ true
  over-is b (inl complete) = or_left (list_all is_done (state b.run).tasks) (is_some b.fault) complete
  over-is b (inr fault) = over-by_fault b fault

  -- ---- what turns did

  pub pick-did : (w : Worker) (old new : NotedBoard D) (p : Picked) → PicksOrFails w old.board new.board p → (p ≡ PickFailed → IsTrue (is_some new.board.fault)) → (p ≡ Over → IsOver new.board)
      → (finds_task p ≡ true → old.board.run.machine.policy ≢ Prio → new.waiting ≡ old.waiting - 1) → p ≢ Nothing → IsChange old new Claimed
  pick-did w old new (PickedTask t) makes failed over counts other = inl (Claim t w, makes, refl, counts refl)
  pick-did w old new Nothing makes failed over counts other = absurd (other refl)
  pick-did w old new PickFailed makes failed over counts other = inr (over-by_fault new.board (failed refl))
  pick-did w old new Over makes failed over counts other = inr (over-is new.board (over refl))

  pub step-did : (w : Worker) (t : Task) (old new : NotedBoard D) (x : Step D) (change : Change) → StepMakes w t old.board new.board x → (EndsByFault x → IsTrue (is_some new.board.fault)) → HasDone x change
      → new.waiting ≡ old.waiting → x ≢ Waits → IsChange old new change
  step-did w t old new (Begun frame) change makes failed did same other = inl (Run t w, makes, did, same)
  step-did w t old new (Moves cell from to share) change makes failed did same other = inl (Move cell from to, makes, did, same)
  step-did w t old new (Writes cell from to writes share unit) change makes failed did same other = inl (Move cell from to, makes, did, same)
  step-did w t old new (Reads cell from to writes unit) change makes failed did same other = inl (Move cell from to, makes, did, same)
  step-did w t old new Discarded change makes failed did same other = inl (Drop makes.0 (node_of old.board.run.machine w), makes.1, did, same)
  step-did w t old new Waits change makes failed did same other = absurd (other refl)
  step-did w t old new Stopped change makes failed did same other = inr (over-by_fault new.board (failed tt))
  step-did w t old new Failed change makes failed did same other = inr (over-by_fault new.board (failed tt))

  pub ended-did : (t : Task) (w : Worker) (old : NotedBoard D) (board : BoardState D) (waiting : ℕ) (before after : List Task) → before ≡ [] → Happens (End t w) old.board board → IsTrue (is_some board.fault) ⊎ HasReleased old.board t w before after
      → waiting ≡ min (old.waiting + length after) (2 ^ 64 - 1) → IsChange old (record { board = board; sleepers = old.sleepers; waiting = waiting }) Ended
  ended-did t w old board waiting before after empty happens (inl fault) count = inr (over-by_fault board fault)
  ended-did t w old board waiting before after empty happens (inr released) count =
      let all : after ≡ released.ready = released.listed ∙ ap (λ (l : List Task). l ++ released.ready) empty in
      inl (End t w, happens, refl, λ other. (released.ready, released.become, count ∙ ap (λ (l : List Task). min (old.waiting + length l) (2 ^ 64 - 1)) all))

  pub move-did : (old new : NotedBoard D) (e : Event) (moved : Bool) → MatchBool moved (Happens e old.board new.board) (NothingHappens old.board new.board) → (moved ≡ false → IsTrue (is_some new.board.fault)) → Freed ≡ change_of e → CountsReady e old new
      → IsChange old new Freed
  move-did old new e true happens failed is same = inl (e, happens, is, same)
  move-did old new e false nothing failed is same = inr (over-by_fault new.board (failed refl))

  -- ---- turns

  module _ {desk : DeskFacts (NotedBoard D)} {w : Worker} {bell : ℕ} where
    pub minds-change : (s r t : SeatFacts (NotedBoard D)) (found v : NotedBoard D) (change : Change)
        → HasRowLeft noted_row found s → r.rings ≡ s.rings → v.sleepers ≡ found.sleepers → IsChange found v change
        → HasLeft desk w (noted_after w change v) t → HasRung (wakes_after w change v) r t → MindsBell w bell false s t
    minds-change s r t found v change own same notes did left rung = record {
      found = found;
      own_row = own;
      rule = record {
        board = v.board;
        waiting = v.waiting;
        change = change;
        did = subst (λ (n : RestNotes). IsChange found (record { board = v.board; sleepers = n; waiting = v.waiting }) change) notes did;
        left = left.left ∙ ap (λ (n : RestNotes). let x : NotedBoard D = record { board = v.board; sleepers = n; waiting = v.waiting } in Some (noted_after w change x)) notes;
        rung = rung ∙ ap (λ (l : List ℕ). l ++ option_to_list (wakes_after w change v)) same
            ∙ ap (λ (n : RestNotes). s.rings ++ option_to_list (wakes w.0 change (is_over v.board) (has_ready_in v) n)) notes;
      };
    }

    -- and rests
    pub minds-rest : (s r t : SeatFacts (NotedBoard D)) (found : NotedBoard D) (b : BoardState D) (claimed : Bool)
        → HasRowLeft noted_row found s → r.rings ≡ s.rings → NothingHappens found.board b → claimed ≡ is_claimed b w
        → HasLeft desk w (noted_for_rest w bell claimed (record { board = b; sleepers = found.sleepers; waiting = found.waiting })) t
        → HasRung (wakes_for_rest w claimed (record { board = b; sleepers = found.sleepers; waiting = found.waiting })) r t → HasHeardBell bell t → MindsBell w bell true s t
    minds-rest s r t found b claimed own same nothing is left rung heard =
        let v : NotedBoard D = record { board = b; sleepers = found.sleepers; waiting = found.waiting } in
        record {
          found = found;
          own_row = own;
          rule = record {
            board = b;
            nothing = nothing;
            left = left.left ∙ ap (λ (k : Bool). Some (noted_for_rest w bell k v)) is;
            rung = rung ∙ ap (λ (l : List ℕ). l ++ option_to_list (wakes_for_rest w claimed v)) same ∙ ap (λ (k : Bool). s.rings ++ option_to_list (wakes_for_rest w k v)) is;
            heard = heard;
          };
        }

  pub minds-picked : {w : Worker} {bell : ℕ} {s t : SeatFacts (NotedBoard D)} (p : Picked) → p ≢ Nothing → MindsBell w bell false s t → MindsBell w bell (finds_nothing p) s t
  minds-picked (PickedTask t) other m = m
  minds-picked Nothing other m = absurd (other refl)
  minds-picked PickFailed other m = m
  minds-picked Over other m = m

  pub minds-step : {w : Worker} {bell : ℕ} {s t : SeatFacts (NotedBoard D)} (x : Step D) → x ≢ Waits → MindsBell w bell false s t → MindsBell w bell (has_to_wait x) s t
  minds-step (Begun frame) other m = m
  minds-step (Moves cell from to share) other m = m
  minds-step (Writes cell from to writes share unit) other m = m
  minds-step (Reads cell from to writes unit) other m = m
  minds-step Discarded other m = m
  minds-step Waits other m = absurd (other refl)
  minds-step Stopped other m = m
  minds-step Failed other m = m
