-- The beginning of a kernel as a turn of its worker, and the shares that it takes.
use Rattle.std.proofs.Common.{◌≡◌, ℕ, ◌<◌, Bool, true, List, [], ◌∷◌, map, length, refl, sym, ap, ◌∙◌, subst, Option, Some, arith, suc}
use Rattle.std.specs.Prelude.{not, option_map, if◌then◌else◌}
use Rattle.std.specs.List.{AllZip, Contains}
use Rattle.sj_base.specs.declared.ids.Cell.{Cell}
use Rattle.sj_base.specs.declared.ids.Place.TheVariants.{Node as AtNode}
use Rattle.sj_base.specs.declared.ids.Task.{Task}
use Rattle.sj_base.specs.declared.ids.Worker.{Worker}
use Rattle.sj_base.specs.declared.mode.Access.{Access}
use Rattle.sj_base.specs.declared.trace.Event.TheVariants.{Run}
use Rattle.sj_base.specs.declared.program.Program.{Program}
use Rattle.sj_base.specs.declared.program.Machine.{Machine}
use Rattle.sj_base.specs.Array.{Array, zeros}
use Rattle.sj_base.specs.Mode.{reads_value}
use Rattle.sj_codelet.specs.Frame.{Slot, arrays}
use Rattle.sj_codelet.specs.Kernel.{out}
use Rattle.sj_core.specs.declared.progress.Progress.{Progress}
use Rattle.sj_core.specs.declared.progress.Progress.TheVariants.{Claimed, Running, Waiting}
use Rattle.sj_core.specs.Machine.{State, is_running_on, progress}
use Rattle.sj_core.specs.Needs.{node_of}
use Rattle.sj_core.specs.Operands.{cells_of, worked_on}
use Rattle.sj_core.specs.Program.{dims_of, has_cell, task_of}
use Rattle.sj_core.specs.Step.{after}
use Rattle.sj_core.proofs.Found.{found-not_fresh}
use Rattle.sj_core.proofs.Reading.{progress-inside, progress-same}
use Rattle.sj_core.proofs.Readiness.{Contains-from_filter, filter-Contains}
use Rattle.sj_core.proofs.Replicas.{same_worker-refl}
use Rattle.sj_board.specs.Shares.{AreSharesFor, IsShareIn, IsShare}
use Rattle.sj_board.specs.Sparing.{Spares}
use Rattle.sj_board.specs.Standing.{AllTell, CanHappen, state, run_arrays}
use Rattle.sj_board.specs.Board.{BoardState, HasTask, hand_of, has_event}
use Rattle.sj_board.specs.BoardRow.{BoardKey, arrays_for, key_of}
use Rattle.sj_board.specs.BoardSound.{IsSoundBoard}
use Rattle.sj_board.specs.declared.hand.Hand.{Hand}
use Rattle.sj_engine.specs.Operands.{held_for, read_operands}
use Rattle.sj_engine.specs.Stage.{AreLent, HasClaimedRow, RunsRow, row_in}
use Rattle.sj_engine.specs.Turn.{IsTurnOf}
use Rattle.sj_engine.proofs.BoardTurns.{has_event-turn, state-after, arrays-after}
use Rattle.sj_engine.proofs.OwnRows.{has-task, runs-row}
use Rattle.sj_engine.proofs.FoundBoards.{found-sound}
use Rattle.sj_core.specs.Arrays.{Arrays, arrays_after, held_at}
use Rattle.sj_core.proofs.Finding.{second_fails}
use Rattle.sj_base.specs.Ids.{same_place}
use Rattle.sj_core.proofs.Words.{fresh_cells}
use Rattle.sj_core.specs.Proper.{Proper}

-- what a task reads is there as it was when it begins
read-same : (p : Program) → Proper p → (m : Machine) (A : Arrays) (t : Task) (w : Worker) → w.0 < p.workers → (a : Access) → Contains (task_of p t).accesses a → reads_value a.mode ≡ true → arrays_after out p m A (Run t w) (worked_on p w a) (AtNode (node_of m w)) ≡ A (worked_on p w a) (AtNode (node_of m w))
read-same p proper m A t w known a among reads =
    second_fails (same_place (AtNode (node_of m w)) (AtNode (node_of m w))) (has_cell (fresh_cells p t w) (worked_on p w a)) (zeros (dims_of p (worked_on p w a))) (A (worked_on p w a) (AtNode (node_of m w))) (found-not_fresh p proper t w known a among (ap not reads))

zip-shares : {D : Type 0} (held : D → Option (List ℕ)) (b : BoardState D) (w : Worker) (accesses : List Access) (slots : List Slot) → AllZip (IsShareIn held b.run w) accesses slots → AllZip (IsShare b.run.program) accesses slots
zip-shares held b w [] [] h = tt
zip-shares held b w [] (s ∷ slots) h = absurd h
zip-shares held b w (a ∷ accesses) [] h = absurd h
zip-shares held b w (a ∷ accesses) (s ∷ slots) h = (record { shared = h.0.shared; dims = h.0.dims }, zip-shares held b w accesses slots h.1)

zip-arrays : {D : Type 0} (held : D → Option (List ℕ)) (b : BoardState D) (w : Worker) (holds : Cell → Array) → AllTell held b.run → (accesses : List Access) (slots : List Slot) → AllZip (IsShareIn held b.run w) accesses slots →
    ((a : Access) → Contains accesses a → run_arrays b.run (worked_on b.run.program w a) (AtNode (node_of b.run.machine w)) ≡ holds (worked_on b.run.program w a)) → arrays slots ≡ held_for b.run.program w holds accesses
zip-arrays held b w holds tell [] [] h f = refl
zip-arrays held b w holds tell [] (s ∷ slots) h f = absurd h
zip-arrays held b w holds tell (a ∷ accesses) [] h f = absurd h
zip-arrays held b w holds tell (a ∷ accesses) (s ∷ slots) h f =
    ap (λ x. x ∷ arrays slots) (h.0.array tell ∙ f a (0, omega arith, refl))
    ∙ ap (λ l. holds (worked_on b.run.program w a) ∷ l) (zip-arrays held b w holds tell accesses slots h.1 (λ c among. f c (suc among.0, omega (arith, among.1), among.2)))

module _ {D : Type 0} (size faults mismatches : D → ℕ) (held : D → Option (List ℕ)) (w : Worker) (b z x y : BoardState D) (t : Task) (ez : z ≡ b) (ex : x ≡ b)
    (sound : IsSoundBoard size faults mismatches held z) (known : w.0 < b.run.program.workers) (r : HasClaimedRow w t (row_in b w)) (can : CanHappen b.run (Run t w)) where
  abbrev here : IsSoundBoard size faults mismatches held b
  here = found-sound size faults mismatches held z b ez sound

  inside : t.0 < length (state b.run).tasks
  inside = progress-inside (state b.run) t (λ e. (let f : Claimed w ≡ Waiting = sym can.claimed ∙ e in cc))

  pub task-there : t.0 < length b.run.program.tasks
  task-there = subst (λ n. t.0 < n) here.run.coherent.state.rows.tasks inside

  pub run-task : HasTask x w t
  run-task = subst (λ (k : BoardState D). HasTask k w t) (sym ex) (has-task b w known t r.hand)

  pub run-can : CanHappen x.run (Run t w)
  run-can = subst (λ (k : BoardState D). CanHappen k.run (Run t w)) (sym ex) can

  module _ (q : y ≡ has_event x (Run t w)) where
    its-event : y ≡ has_event b (Run t w)
    its-event = q ∙ ap (λ (k : BoardState D). has_event k (Run t w)) ex

    its-state : state y.run ≡ after b.run.program b.run.machine (state b.run) (Run t w)
    its-state = state-after b y (Run t w) (ap (λ (k : BoardState D). k.run) its-event)

    its-arrays : run_arrays y.run ≡ arrays_after out b.run.program b.run.machine (run_arrays b.run) (Run t w)
    its-arrays = arrays-after b y (Run t w) (ap (λ (k : BoardState D). k.run) its-event)

    pub begun-turn : Spares x.run (Run t w) y.run → IsTurnOf faults mismatches w b y
    begun-turn spares = has_event-turn size faults mismatches held w b z x y (λ k. Run t w) ez ex sound refl can q spares

    runs-now : progress (state y.run) t ≡ Running w
    runs-now = ap (λ (k : State). progress k t) its-state ∙ progress-same (state b.run) t (Running w) inside

    hand-now : hand_of y w ≡ (row_in b w).hand
    hand-now = ap (λ (k : BoardState D). hand_of k w) its-event

    pub begun-row : RunsRow w t (row_in y w)
    begun-row = runs-row y w t (hand-now ∙ r.hand) runs-now

    abbrev holds : Cell → Array
    holds = held_at (run_arrays y.run) (AtNode (node_of b.run.machine w))

    cells-now : (row_in y w).operands ≡ Some (map holds (cells_of b.run.program t w))
    cells-now =
        ap (λ (k : Hand). option_map (arrays_for y w) k.task) (hand-now ∙ r.hand)
        ∙ ap (λ (g : Progress). Some (if is_running_on w g then map (held_at (run_arrays y.run) (AtNode (node_of y.run.machine w))) (cells_of y.run.program t w) else [])) runs-now
        ∙ ap (λ (c : Bool). Some (if c then map (held_at (run_arrays y.run) (AtNode (node_of y.run.machine w))) (cells_of y.run.program t w) else [])) (same_worker-refl w)
        ∙ ap (λ (k : BoardState D). Some (map (held_at (run_arrays y.run) (AtNode (node_of k.run.machine w))) (cells_of k.run.program t w))) its-event

    pub begun-lent : (slots : List Slot) → AreSharesFor held x.run t w slots → AreLent held (key_of y) w t (row_in y w) slots
    begun-lent slots shares =
        let own : AreSharesFor held b.run t w slots = subst (λ (k : BoardState D). AreSharesFor held k.run t w slots) ex shares in
        subst (λ (k : BoardKey D). AreLent held k w t (row_in y w) slots) (sym (ap key_of its-event))
        (record {
          inside = task-there;
          shares = zip-shares held b w (read_operands b.run.program t) slots own;
          told = λ tell. record {
            holds = holds;
            cells = cells-now;
            shares = zip-arrays held b w holds tell (read_operands b.run.program t) slots own (λ a among.
                sym (ap (λ (A : Arrays). A (worked_on b.run.program w a) (AtNode (node_of b.run.machine w))) its-arrays
                ∙ read-same b.run.program here.run.run.proper b.run.machine (run_arrays b.run) t w known a
                (Contains-from_filter (λ (k : Access). reads_value k.mode) (task_of b.run.program t).accesses a among) (filter-Contains (λ (k : Access). reads_value k.mode) (task_of b.run.program t).accesses a among)));
          };
        })
