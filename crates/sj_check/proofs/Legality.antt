-- When events are legal in a coherent state, by what is asked of the rows.
use Rattle.sj_check.proofs.Words.{[], ap, Bool, Cell, Claim, Claimed, Coherent, Coming, Commute, commuting_cells, cond, false, find, HasTasks, is_coming_by, is_in_use, is_some, is_task_of, IsWhy, Leaving, List, list_all, Machine, mark, May, Node, node_of, NoRoom, not, Option, Program, progress, refl, Some, State, sym, Task, task_in, true, Why, Worker, ◌&&◌, ◌∙◌, ◌∷◌, ◌≡◌}
use Rattle.std.proofs.lemmas.{Bool.false≢true, Option.none-some}
use Rattle.sj_core.proofs.{Advancing.claimed-is_mine, Reading.settled-at, Replicas.same_worker-refl}

found-fails : (test : Cell → Bool) (xs : List Cell) (c : Cell) → find test xs ≡ Some c → list_all (λ d. not (test d)) xs ≡ false
found-fails test [] c e = absurd (none-some c e)
found-fails test (x ∷ xs) c e = by_test (test x) refl (found-fails test xs c)
  where
    by_test : (b : Bool) → test x ≡ b → (find test xs ≡ Some c → list_all (λ d. not (test d)) xs ≡ false) → list_all (λ d. not (test d)) (x ∷ xs) ≡ false
    by_test true f rest = ap (λ a. not a && list_all (λ d. not (test d)) xs) f
    by_test false f rest = ap (λ a. not a && list_all (λ d. not (test d)) xs) f ∙ rest (sym (ap (λ a. cond a (Some x) (find test xs)) f) ∙ e)

-- where there is a reason why a claim can't be made, it isn't legal
pub why-not : (p : Program) (m : Machine) (s : State) (t : Task) (w : Worker) (why : Why) → IsWhy p m s t w why → ¬ May p m s (Claim t w)
why-not p m s t w (Commute c) is claim = false≢true (sym (found-fails (is_in_use p s) (commuting_cells p t) c is) ∙ claim.alone)
why-not p m s t w (Leaving c) is claim = false≢true (sym (settled-at s (node_of m w) c claim.settled) ∙ is.1)
why-not p m s t w NoRoom is claim = false≢true (sym (ap is_some is.2) ∙ claim.room)

-- a cell comes by the claim of the task that its worker claimed last
pub comes-for : (p : Program) (m : Machine) (s : State) → Coherent p m s → (tasks : List (Option Task)) → HasTasks p s tasks → (c : Cell) (n : Node) (w : Worker) → mark s c n ≡ Coming w → (t : Task) × (task_in tasks w ≡ Some t) × (progress s t ≡ Claimed w)
comes-for p m s coherent tasks has c n w coming =
    let own = coherent.pins.coming_claimed w c n (ap (is_coming_by w) coming ∙ same_worker-refl w) in
    (own.task, has.last w own.task (ap (is_task_of w) own.claimed ∙ claimed-is_mine w), own.claimed)
