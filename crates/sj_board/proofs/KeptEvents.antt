-- All that a board keeps stays so where an event happens that leaves each task as it is.
use Rattle.sj_board.proofs.Words.{after, Array, BoardBy, CanHappen, Dependencies, Equations, Err, Event, HasCause, HasMoved, IfSome, IsKept, IsSomeAnd, IsSoundRun, List, Moved, Ok, OnErr, OnOk, Option, refl, Result, StandingBy, state, subst, sym, Transfer, transfer, with_event, Worker, ℕ, ◌≡◌}
use Rattle.sj_base.proofs.Options.{IfSome-at, IsSomeAnd-at}
use Rattle.sj_board.proofs.{BoardEnds.stays, Boarding.keeps-run, LastHeaders.moved-cause, SparingBoards.moved-can, StillGone.knows-event, StillGone.NotClaimedBy, UnitHands.units-event}

module _ {D : Type 0} {eq : Equations} (size faults mismatches : D → ℕ) (held : D → Option (List ℕ)) (b : BoardBy eq D) (deps : Dependencies) (footprints : List ℕ) (gifts : List (Option Array)) (spare left : ℕ) (gone : List ℕ) (kept : IsKept faults mismatches held b deps footprints gifts spare left gone) (sound : IsSoundRun size faults mismatches held b.run) where
  pub kept-event : (e : Event) → CanHappen b.run e → ((v : Worker) → NotClaimedBy e v) → (after b.run.program b.run.machine (state b.run) e).tasks ≡ (state b.run).tasks → IfSome b.fault (HasCause faults mismatches held (with_event b.run e)) → (run' : StandingBy eq D) → run' ≡ with_event b.run e → IsKept faults mismatches held (record b { run = run' }) deps footprints gifts spare left gone
  kept-event e can unclaimed same cause run' is = record {
    board = keeps-run faults mismatches held b deps footprints e run' is cause same kept.board;
    ends = stays held b.run b.delivered gifts spare left kept.ends e run' is same;
    victims = knows-event size faults mismatches held b.run sound gone kept.victims e can unclaimed run' is;
    units = units-event b.run run' b.hands e is kept.units;
  }

  -- where the event may fail to come, and then nothing has changed
  pub kept-tried : {A E : Type 0} (result : Result A E) (e : Event) → CanHappen b.run e → ((v : Worker) → NotClaimedBy e v) → (after b.run.program b.run.machine (state b.run) e).tasks ≡ (state b.run).tasks → IfSome b.fault (HasCause faults mismatches held (with_event b.run e)) → (run' : StandingBy eq D) → OnOk result (run' ≡ with_event b.run e) → OnErr result (run' ≡ b.run) → IsKept faults mismatches held (record b { run = run' }) deps footprints gifts spare left gone
  kept-tried (Ok a) e can unclaimed same cause run' ok err = kept-event e can unclaimed same cause run' ok
  kept-tried (Err x) e can unclaimed same cause run' ok err = subst (λ (r : StandingBy eq D). IsKept faults mismatches held (record b { run = r }) deps footprints gifts spare left gone) (sym err) kept

  -- the end of a worker's move
  pub kept-moved : (w : Worker) (Q : Transfer → Type 0) → IsSomeAnd (transfer (state b.run) w) Q → (run' : StandingBy eq D) → HasMoved w b.run run' → IsKept faults mismatches held (record b { run = run' }) deps footprints gifts spare left gone
  kept-moved w Q some run' moved =
      let found = IsSomeAnd-at Q (transfer (state b.run) w) some in
      let x = found.0 in
      kept-event (Moved x.cell x.from x.to) (moved-can size faults mismatches held b.run sound w x found.1) (λ v. tt) refl (moved-cause faults mismatches held b.run x.cell x.from x.to b.fault kept.board.fault) run'
      (IfSome-at (λ (y : Transfer). run' ≡ with_event b.run (Moved y.cell y.from y.to)) (transfer (state b.run) w) x found.1 moved)
