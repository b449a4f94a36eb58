-- What is answered to a claim: its plan, or why it can't be made.
use Rattle.sj_machine.proofs.Words.{Access, ap, Cell, CellState, chosen_on, ClaimPlan, Commute, commuter_in_use, CommutersAreFree, Err, first_held, get_or, HasSmallWork, is_leaving_at, IsAnswer, KeepsStores, KnownGone, List, Machine, MayClaim, Node, node_of, None, none_leaving, NoneLeavesFor, NoRoom, ok_or, Option, option_map, planned, Program, Result, Rows, Some, State, Store, subst, sym, Task, task_of, true, Why, Worker, WorkerState, ℕ, ◌∙◌, ◌≡◌}
use Rattle.sj_machine.specs.declared.plan.Why.TheVariants.{Leaving}
use Rattle.sj_machine.proofs.{ClaimFinding.plan-answers, ClaimPlanning.proper-work, Commuting.first-is, Happening.rows_in, KnownVictims.none-leaves, Marked.read-store}

module _ (p : Program) (m : Machine) (s : State) (nodes : List Store) (keeps : KeepsStores p m s nodes) (r : Rows) (same : rows_in p m s ≡ r) (t : Task) (w : Worker) (asked : MayClaim r.program r.machine r.state t w) where
  may : MayClaim p m s t w
  may = subst (λ (x : Rows). MayClaim x.program x.machine x.state t w) (sym same) asked

  told : (answer : Result ClaimPlan Why) → IsAnswer (rows_in p m s) t w answer → IsAnswer r t w answer
  told answer is = subst (λ (x : Rows). IsAnswer x t w answer) same is

  pub choice-work : HasSmallWork p t w
  choice-work = proper-work p keeps.sound.proper t may.ready.task w may.worker

  module _ (workers : List WorkerState) (accesses : List Access) (ws : workers ≡ s.workers) (of_task : accesses ≡ (task_of p t).accesses) where
    searched : first_held workers accesses ≡ commuter_in_use p s t
    searched = ap (λ (x : List WorkerState). first_held x accesses) ws ∙ ap (first_held s.workers) of_task ∙ first-is p m s keeps.sound.coherent t

    pub choice-commuter : (c : Cell) → first_held workers accesses ≡ Some c → IsAnswer r t w (Err (Commute c))
    choice-commuter c found = told (Err (Commute c)) (record { can = tt; plan = tt; why = sym searched ∙ found })

    module _ (none : first_held workers accesses ≡ None) (n : Node) (at : n ≡ node_of m w) (cells : List CellState) (are : cells ≡ s.cells) where
      free : CommutersAreFree p s t
      free = sym searched ∙ none

      pub choice-leaving : (c : Cell) → is_leaving_at cells n c ≡ true → IsAnswer r t w (Err (Leaving c))
      choice-leaving c leaves = told (Err (Leaving c)) (record { can = tt; plan = tt; why = (free, ap (λ (j : Node). is_leaving_at s.cells j c) (sym at) ∙ ap (λ (x : List CellState). is_leaving_at x n c) (sym are) ∙ leaves) })

      pub choice-found : (gone : List ℕ) → KnownGone r.machine r.state gone → (ws' : List WorkerState) → ws' ≡ s.workers → NoneLeavesFor cells n ws' gone → (node d : Store) → node ≡ get_or nodes n.0 d → (p' : Program) → p' ≡ p → (found : Option ClaimPlan) → found ≡ option_map (planned p' node t w) (chosen_on p' node t w) → IsAnswer r t w (ok_or found NoRoom)
      choice-found gone known ws' same_ws stay node d read p' same_p found is =
          subst (λ (o : Option ClaimPlan). IsAnswer r t w (ok_or o NoRoom)) (sym (is ∙ ap (λ (x : Program). option_map (planned x node t w) (chosen_on x node t w)) same_p))
          (told (ok_or (option_map (planned p node t w) (chosen_on p node t w)) NoRoom) (plan-answers p m s t w may free settled node (read-store p m s nodes keeps w n at node d read)))
        where
          settled : none_leaving s (node_of m w) ≡ true
          settled = none-leaves p m s keeps.sound.coherent (node_of m w) gone (subst (λ (x : Rows). KnownGone x.machine x.state gone) (sym same) known) (subst (λ (j : Node). NoneLeavesFor s.cells j s.workers gone) at (subst (λ (x : List CellState). NoneLeavesFor x n s.workers gone) are (subst (λ (x : List WorkerState). NoneLeavesFor cells n x gone) same_ws stay)))
