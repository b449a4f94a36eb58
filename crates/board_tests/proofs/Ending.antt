-- What a task that fills a cell may end with, on disks that don't tell.
use Rattle.std.proofs.Common.{◌≡◌, ◌∙◌, ℕ, List, [], ◌∷◌, Option, map, refl, subst, sym}
use Rattle.std.specs.List.{AllZip}
use Rattle.sj_base.specs.declared.ids.Task.{Task}
use Rattle.sj_base.specs.declared.ids.Worker.{Worker}
use Rattle.sj_base.specs.declared.mode.Access.{Access}
use Rattle.sj_base.specs.declared.tile.Dims.{Dims}
use Rattle.sj_base.specs.declared.trace.Event.TheVariants.{Run}
use Rattle.sj_base.specs.Array.{Array}
use Rattle.sj_codelet.specs.Frame.{Slot, shared}
use Rattle.sj_core.specs.Program.{dims_of, task_of, written_operands}
use Rattle.sj_board.specs.Shares.{AreResultsFor, IsShare}
use Rattle.sj_board.specs.Standing.{AllTell}
use Rattle.sj_board.specs.Board.{BoardState, has_event}

module _ {D : Type 0} (held : D → Option (List ℕ)) (b x : BoardState D) (w : Worker) (t : Task) (ran : x ≡ has_event b (Run t w)) where
  abbrev pub its : BoardState D → List Access
  its k = written_operands (task_of k.run.program t)

  -- one array of those dimensions
  pub results-for : (dims : Dims) (a : Array) (slots : List Slot) → map (λ (k : Access). dims_of b.run.program k.cell) (its b) ≡ dims ∷ [] → slots ≡ shared a ∷ [] → a.dims ≡ dims → ¬ AllTell held b.run → AreResultsFor held x.run t w slots
  results-for dims a slots writes are is silent = record {
    each = subst (λ (k : BoardState D). AllZip (IsShare k.run.program) (its k) slots) (sym ran) (subst (AllZip (IsShare b.run.program) (its b)) (sym are) (one (its b) writes));
    told = λ tell. absurd (silent (subst (λ (k : BoardState D). AllTell held k.run) ran tell));
  }
    where
      head-of : (e f : Dims) (es : List Dims) → e ∷ es ≡ f ∷ [] → e ≡ f
      head-of e f es h = cc

      one : (xs : List Access) → map (λ (k : Access). dims_of b.run.program k.cell) xs ≡ dims ∷ [] → AllZip (IsShare b.run.program) xs (shared a ∷ [])
      one [] e = absurd (let k : ◌≡◌ {A = List Dims} [] (dims ∷ []) = e in cc)
      one (k ∷ []) e = (record { shared = refl; dims = is ∙ sym (head-of (dims_of b.run.program k.cell) dims [] e) }, tt)
      one (k ∷ j ∷ xs) e = absurd (two (dims_of b.run.program k.cell) dims (dims_of b.run.program j.cell) (map (λ (i : Access). dims_of b.run.program i.cell) xs) e)
        where
          two : (e f g : Dims) (gs : List Dims) → e ∷ g ∷ gs ≡ f ∷ [] → ⊥
          two e f g gs h = cc
