-- A worker's next step, for which it waits while another has the disk in hand that it needs.
use Rattle.sj_board.proofs.Words.{AnotherGoesOn, AnotherHasUnit, ap, BoardBy, CanBegin, Equations, Extent, extent_of, false, hand_of, HasDiskIn, IfSome, if◌then◌else◌, inl, inr, is_node, is_out, is_out_for, IsCounted, IsMoverOf, IsNext, IsStepFor, IsTodoOf, MatchOption, needs_disk_out, None, not, Nothing, Option, refl, Some, state, subst, sym, Task, Todo, TransferNext, true, UnitsStand, Wait, Worker, ◌&&◌, ◌∙◌, ◌≡◌, ◌⊎◌}
use Rattle.std.proofs.lemmas.{Bool.cond_both, Bool.false≢true, Option.none-some}
use Rattle.sj_base.proofs.Bools.{and_rest}
use Rattle.sj_board.proofs.NextSteps.{ComesIn, GoesOut, next-case, NextCase}

module _ {D : Type 0} {eq : Equations} (b : BoardBy eq D) (w : Worker) (t : Task) (has : (hand_of b w).task ≡ Some t) (first todo : Todo) (next : IsNext b.run.program b.run.machine (state b.run) t w first) (or_waits : todo ≡ (if needs_disk_out b.run first then Wait else first)) where
  -- it is to wait where the disk is out, and else the step itself
  by-step : (P : Todo → Type 0) → (needs_disk_out b.run first ≡ true → P Wait) → (needs_disk_out b.run first ≡ false → P first) → P todo
  by-step P waits goes = subst P (sym or_waits) (cond_both (needs_disk_out b.run first) Wait first P waits goes)

  pub step-todo : IsTodoOf b w todo
  step-todo = subst (λ (o : Option Task). MatchOption o (todo ≡ Nothing) (λ u. IsStepFor b.run u w todo)) (sym has) (record { first = first; next = next; or_waits = or_waits })

  pub step-can : CanBegin b w first → CanBegin b w todo
  step-can can = by-step (CanBegin b w) (λ out. tt) (λ goes. can)

  pub step-mover : IsMoverOf b w first → IsMoverOf b w todo
  step-mover mover = by-step (IsMoverOf b w) (λ out. tt) (λ goes. mover)

  -- it tells how many tasks have written its cell
  pub step-counted : IsCounted b todo
  step-counted = by-step (IsCounted b) (λ out. tt) (λ goes. counted first (next-case b.run.program b.run.machine (state b.run) t w first next))
    where
      counted : (x : Todo) → NextCase b.run.program b.run.machine (state b.run) t w x → IsCounted b x
      counted x (GoesOut c d victim only target) = refl
      counted x (ComesIn c from none cell source) = refl
      counted x other = tt

  -- a disk that takes part in it is in
  pub step-in : HasDiskIn b todo
  step-in = by-step (HasDiskIn b) (λ out. tt) (in-first first)
    where
      in-for : (o : Option Extent) → elim o [ None ↦ false | Some e ↦ is_out b.run.out e.disk.0 ] ≡ false → IfSome o (λ e. is_out b.run.out e.disk.0 ≡ false)
      in-for None e = tt
      in-for (Some x) e = e

      in-first : (x : Todo) → needs_disk_out b.run x ≡ false → HasDiskIn b x
      in-first (TransferNext c from to n) none = λ e. in-for (extent_of b.run.disks.directory c.0) (sym (ap (λ both. not both && is_out_for b.run c) e) ∙ none)
      in-first other none = tt

  -- it waits only while another has the disk in hand, or goes on
  pub step-ends : UnitsStand b.run.disks b.run.out b.hands → (hand_of b w).unit ≡ None → (first ≡ Wait → AnotherGoesOn b.run.program b.run.machine (state b.run) w) → todo ≡ Wait → AnotherHasUnit b w ⊎ AnotherGoesOn b.run.program b.run.machine (state b.run) w
  step-ends stand none goes_on = by-step (λ (x : Todo). x ≡ Wait → AnotherHasUnit b w ⊎ AnotherGoesOn b.run.program b.run.machine (state b.run) w) (λ out waits. inl (out-first first out)) (λ goes waits. inr (goes_on waits))
    where
      in-hand : (o : Option Extent) → elim o [ None ↦ false | Some e ↦ is_out b.run.out e.disk.0 ] ≡ true → AnotherHasUnit b w
      in-hand None e = absurd (false≢true e)
      in-hand (Some x) e =
          let one = stand.out_is_in_hand x.disk.0 e in
          record {
            worker = one.worker;
            other = λ same. none-some one.cell (sym none ∙ ap (λ (v : Worker). (hand_of b v).unit) (sym same) ∙ one.in_hand);
            cell = one.cell;
            in_hand = one.in_hand;
          }

      out-first : (x : Todo) → needs_disk_out b.run x ≡ true → AnotherHasUnit b w
      out-first (TransferNext c from to n) e = in-hand (extent_of b.run.disks.directory c.0) (and_rest (not (is_node from && is_node to)) (is_out_for b.run c) e)
      out-first other e = absurd (false≢true e)
