-- The beginning of a transfer and of a kernel as turns of a worker.
use Rattle.std.proofs.Common.{◌≡◌, ℕ, ◌<◌, true, false, List, length, refl, sym, ap, ◌∙◌, subst, Option, None, Some}
use Rattle.std.specs.Prelude.{IsSomeAnd, option_map}
use Rattle.std.proofs.lemmas.Bool.{false≢true}
use Rattle.sj_base.specs.declared.ids.Cell.{Cell}
use Rattle.sj_base.specs.declared.ids.Place.{Place}
use Rattle.sj_base.specs.declared.ids.Place.TheVariants.{Node as AtNode, Disk as OnDisk}
use Rattle.sj_base.specs.declared.ids.Task.{Task}
use Rattle.sj_base.specs.declared.ids.Worker.{Worker}
use Rattle.sj_base.specs.declared.trace.Event.TheVariants.{Move}
use Rattle.sj_base.specs.Array.{Array}
use Rattle.sj_codelet.specs.Kernel.{out}
use Rattle.sj_core.specs.declared.progress.Progress.TheVariants.{Claimed}
use Rattle.sj_core.specs.declared.progress.Transfer.{Transfer}
use Rattle.sj_core.specs.Machine.{State, WorkerState, is_entry, mark, progress, transfer, with_transfer, writes}
use Rattle.sj_core.specs.Program.{dims_of}
use Rattle.sj_core.specs.Step.{May, a_transfer, after, mover_of}
use Rattle.sj_core.proofs.Reading.{entry-inside, worker-same}
use Rattle.sj_core.proofs.Replicas.{coming_by-is}
use Rattle.sj_board.specs.Sparing.{Spares}
use Rattle.sj_board.specs.Standing.{AllTell, CanHappen, IsShareOf, IsTileOf, is_node, state, run_arrays}
use Rattle.sj_board.specs.DiskUnits.{lent}
use Rattle.sj_board.specs.Board.{BoardState, hand_of, has_event, transfer_of}
use Rattle.sj_board.specs.BoardRow.{key_of}
use Rattle.sj_board.specs.BoardSound.{IsSoundBoard}
use Rattle.sj_engine.specs.Stage.{HasClaimedRow, IsCarried, MovesRow, row_in}
use Rattle.sj_engine.specs.Stepping.{IsShareCarried}
use Rattle.sj_engine.specs.Turn.{IsTurnOf}
use Rattle.sj_engine.proofs.BoardTurns.{has_event-turn, state-after, arrays-after}
use Rattle.sj_engine.proofs.OwnRows.{moves-row, phase-of, row-transfer}
use Rattle.sj_engine.proofs.FoundBoards.{found-sound}
use Rattle.sj_core.specs.Arrays.{Arrays, arrays_after}

some-and : {X : Type 0} (P Q : X → Type 0) (o : Option X) → ((x : X) → P x → Q x) → IsSomeAnd o P → IsSomeAnd o Q
some-and P Q None f h = absurd h
some-and P Q (Some x) f h = f x h

module _ {D : Type 0} (size faults mismatches : D → ℕ) (held : D → Option (List ℕ)) (w : Worker) (b z x y : BoardState D) (t : Task) (c : Cell) (from to : Place) (ez : z ≡ b) (ex : x ≡ b)
    (sound : IsSoundBoard size faults mismatches held z) (known : w.0 < b.run.program.workers) (r : HasClaimedRow w t (row_in b w)) (can : CanHappen b.run (Move c from to)) (mover : mover_of (state b.run) c from to ≡ w)
    (q : y ≡ has_event x (Move c from to)) where
  abbrev here : IsSoundBoard size faults mismatches held b
  here = found-sound size faults mismatches held z b ez sound

  pub move-turn : Spares x.run (Move c from to) y.run → IsTurnOf faults mismatches w b y
  move-turn spares = has_event-turn size faults mismatches held w b z x y (λ k. Move c from to) ez ex sound mover can q spares

  abbrev its : Transfer
  its = record { cell = c; from = from; to = to }

  its-event : y ≡ has_event b (Move c from to)
  its-event = q ∙ ap (λ (k : BoardState D). has_event k (Move c from to)) ex

  its-state : state y.run ≡ after b.run.program b.run.machine (state b.run) (Move c from to)
  its-state = state-after b y (Move c from to) (ap (λ (k : BoardState D). k.run) its-event)

  its-arrays : run_arrays y.run ≡ arrays_after out b.run.program b.run.machine (run_arrays b.run) (Move c from to)
  its-arrays = arrays-after b y (Move c from to) (ap (λ (k : BoardState D). k.run) its-event)

  staff : w.0 < length (state b.run).workers
  staff = subst (λ n. w.0 < n) (sym (here.run.coherent.state.rows.workers ∙ here.run.run.machine.workers)) known

  its-transfer : transfer (state y.run) w ≡ Some its
  its-transfer =
      ap (λ (k : State). transfer k w) its-state
      ∙ ap (λ (v : Worker). transfer (after-move v) w) mover
      ∙ ap (λ (k : WorkerState). k.transfer) (worker-same (state b.run) w _ staff)
    where
      after-move : Worker → State
      after-move v = with_transfer (state b.run) v (Some (a_transfer c from to))

  pub move-row : MovesRow w t its (row_in y w)
  move-row =
      moves-row y w t its (ap (λ (k : BoardState D). hand_of k w) its-event ∙ r.hand)
      (ap (λ (k : State). progress k t) its-state ∙ phase-of b w t (Claimed w) r.hand r.phase) its-transfer

  -- it tells how many tasks have written the cell
  pub move-counts : (row_in y w).writes ≡ Some (writes (state b.run) c)
  move-counts =
      ap (option_map (λ (k : Transfer). writes (state y.run) k.cell)) (sym (row-transfer y w) ∙ move-row.transfer)
      ∙ ap (λ (k : State). Some (writes k c)) its-state

  pub move-lent : lent y.run ≡ lent b.run
  move-lent = ap (λ (k : BoardState D). lent k.run) its-event

  carried-now : (a : Array) → IsTileOf held b.run c from a → IsCarried held (key_of y) its (row_in y w) a
  carried-now a tile = record {
    dims = tile.dims ∙ ap (λ (k : BoardState D). dims_of k.run.program c) (sym its-event);
    told = λ tell.
        (let there : transfer_of y w ≡ Some its = sym (row-transfer y w) ∙ move-row.transfer in
        ap (option_map (λ (k : Transfer). run_arrays y.run k.cell k.from)) there
        ∙ ap (λ (A : Arrays). Some (A c from)) its-arrays
        ∙ ap (λ (k : Array). Some k) (sym (tile.array (subst (λ (k : BoardState D). AllTell held k.run) its-event tell))));
  }

  fetch-here : (f g : Place) → May b.run.program b.run.machine (state b.run) (Move c f g) → is_node f ≡ false → (c.0 < length b.run.program.cells) × (is_node g ≡ true)
  fetch-here (AtNode n) g step e = absurd (false≢true (sym e))
  fetch-here (OnDisk d) (AtNode n) step e =
      (subst (λ k. c.0 < k) here.run.coherent.state.rows.cells (entry-inside (state b.run) c n (ap is_entry (coming_by-is _ (mark (state b.run) c n) step.coming))).0, refl)
  fetch-here (OnDisk d) (OnDisk k) step e = absurd (false≢true step)

  pub move-share : (share : Option Array) → IsShareOf held x.run c from share → IsShareCarried held (key_of y) its (row_in y w) from share
  move-share share h = by_place from refl (subst (λ (k : BoardState D). IsShareOf held k.run c from share) ex h)
    where
      by_place : (f : Place) → f ≡ from → IsShareOf held b.run c f share → IsShareCarried held (key_of y) its (row_in y w) f share
      by_place (AtNode n) e h = some-and (IsTileOf held b.run c (AtNode n)) (IsCarried held (key_of y) its (row_in y w)) share (λ a tile. carried-now a (subst (λ (k : Place). IsTileOf held b.run c k a) e tile)) h
      by_place (OnDisk d) e h =
          let both = fetch-here from to can (ap is_node (sym e)) in
          record { cell = subst (λ (k : BoardState D). c.0 < length k.run.program.cells) (sym its-event) both.0; node = both.1 }
