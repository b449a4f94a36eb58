-- Each event of a board spares the copies that are used.
use Rattle.sj_board.proofs.Words.{CanHappen, Equations, Err, Event, HasMoved, IfSome, IsSound, IsSoundRun, List, Moved, None, Ok, OnOk, Option, refl, Result, Some, Spares, SparesMoved, StandingBy, state, subst, sym, Transfer, transfer, with_event, Worker, ℕ, ◌≡◌}
use Rattle.sj_core.proofs.States.{one-mover}
use Rattle.sj_board.proofs.Sparing.{spares-event}

module _ {D : Type 0} {eq : Equations} (size faults mismatches : D → ℕ) (held : D → Option (List ℕ)) (b : StandingBy eq D) (run : IsSoundRun size faults mismatches held b) where
  pub sound : IsSound b.program b.machine (state b)
  sound = record { proper = run.run.proper; machine = run.run.machine; coherent = run.coherent }

  pub event-spares : (e : Event) → CanHappen b e → (b' : StandingBy eq D) → b' ≡ with_event b e → Spares b e b'
  event-spares e can b' is =
      subst (λ (x : StandingBy eq D). Spares b e x) (sym is) (spares-event b sound e can)

  -- of the same run under another name
  pub told-spares : (e : Event) → CanHappen b e → (b' : StandingBy eq D) → b' ≡ with_event b e → (x : StandingBy eq D) → b ≡ x → Spares x e b'
  told-spares e can b' is x same = subst (λ (z : StandingBy eq D). Spares z e b') same (event-spares e can b' is)

  -- where the event comes if the call succeeds
  pub tried-spares : {A E : Type 0} (result : Result A E) (e : Event) → CanHappen b e → (b' : StandingBy eq D) → OnOk result (b' ≡ with_event b e) → OnOk result (Spares b e b')
  tried-spares (Ok a) e can b' is = event-spares e can b' is
  tried-spares (Err x) e can b' is = is

  -- the end of a worker's transfer
  pub moved-can : (w : Worker) (x : Transfer) → transfer (state b) w ≡ Some x → CanHappen b (Moved x.cell x.from x.to)
  moved-can w x under_way = subst (λ (v : Worker). transfer (state b) v ≡ Some x) (one-mover b.program b.machine (state b) x.cell x.from x.to w run.coherent under_way) under_way

  pub moved-spares : (w : Worker) (b' : StandingBy eq D) → HasMoved w b b' → SparesMoved w b b'
  moved-spares w b' moved = by_transfer (transfer (state b) w) refl moved
    where
      by_transfer : (o : Option Transfer) → transfer (state b) w ≡ o → IfSome o (λ x. b' ≡ with_event b (Moved x.cell x.from x.to)) → IfSome o (λ x. Spares b (Moved x.cell x.from x.to) b')
      by_transfer None e is = tt
      by_transfer (Some x) e is = event-spares (Moved x.cell x.from x.to) (moved-can w x e) b' is
