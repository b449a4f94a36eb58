-- All tasks are done where each of them is.
use Rattle.sj_check.proofs.Words.{ap, arith, Coherent, false, inl, inr, is_done, IsComplete, length, Machine, Program, progress, State, sym, true, Waiting, ℕ, ◌+◌, ◌<◌, ◌∙◌, ◌≡◌, ◌≤◌}
use Rattle.std.proofs.lemmas.{Bool.cases_eq, Bool.false≢true, List.Elements.All-from_get_or, List.Sums.AllPass-from_list_all, List.Sums.list_all-from_AllPass}

-- the tasks below a number are done
abbrev pub AreDone : State → ℕ → Type 0
AreDone s i = (k : ℕ) → k < i → is_done (progress s (record { 0 = k })) ≡ true

module _ (s : State) (i : ℕ) where
  pub done-more : AreDone s i → is_done (progress s (record { 0 = i })) ≡ true → AreDone s (i + 1)
  done-more below this k within = elim (cases_eq k i) as (λ _. is_done (progress s (record { 0 = k })) ≡ true) [
    | inl e ↦ ap (λ (n : ℕ). is_done (progress s (record { 0 = n }))) e ∙ this
    | inr d ↦ below k (omega (arith, within, d))
  ]

  module _ (p : Program) (m : Machine) (coherent : Coherent p m s) where
    pub done-all : AreDone s i → length p.tasks ≤ i → IsComplete s
    done-all below past = list_all-from_AllPass is_done s.tasks (All-from_get_or (λ x. is_done x ≡ true) s.tasks Waiting (λ k inside. below k (omega (arith, inside, past, coherent.state.rows.tasks))))

    pub done-not : i < length p.tasks → is_done (progress s (record { 0 = i })) ≡ false → ¬ IsComplete s
    done-not inside fails complete = false≢true (sym fails ∙ AllPass-from_list_all is_done s.tasks complete i Waiting (omega (arith, inside, coherent.state.rows.tasks)))
