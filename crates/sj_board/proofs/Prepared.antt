-- What a board has beside its run when nothing has happened.
use Rattle.sj_board.proofs.Words.{[], All, AllPairs, ap, AreReadyBelow, arith, Contains, inl, inr, length, List, map, Program, Ready, subst, sym, Task, ℕ, ◌++◌, ◌+◌, ◌<◌, ◌↔◌, ◌∷◌, ◌≢◌, ◌≤◌}
use Rattle.std.proofs.lemmas.{Bool.cases_eq, List.map-append, List.Elements.All-contains_itself, List.Elements.All-map, List.Elements.All-weaker, List.Elements.Contains-append_left, List.Elements.Contains-push, List.Elements.Contains-push_cases, List.Kept.AllPairs-from_increasing, List.Quantifiers.all_pairs_push}

-- ---- the tasks that are ready

module _ (p : Program) (done : List ℕ) (n : ℕ) (ts : List Task) (so_far : AreReadyBelow p done n ts) where
  abbrev next : Task
  next = record { 0 = n }

  below : All (λ x. x < n) (map (λ (t : Task). t.0) ts)
  below = All-map (λ (x : ℕ). x < n) (λ (t : Task). t.0) ts (All-weaker (Contains ts) (λ (t : Task). t.0 < n) (λ t had. ((so_far.each t).0 had).0) ts (All-contains_itself ts))

  rising : AllPairs (λ x y. x < y) (map (λ (t : Task). t.0) (ts ++ next ∷ []))
  rising = subst (AllPairs (λ x y. x < y)) (sym (map-append (λ (t : Task). t.0) ts (next ∷ []))) (all_pairs_push (λ x y. x < y) (map (λ (t : Task). t.0) ts) n (AllPairs-from_increasing (map (λ (t : Task). t.0) ts) so_far.by_number) below)

  -- one more that is ready
  pub ready-more : Ready p done n → AreReadyBelow p done (n + 1) (ts ++ next ∷ [])
  ready-more ready = record {
    each = λ u. (there u, back u);
    by_number = λ k within. rising k (k + 1) 0 (omega arith) within;
  }
    where
      there : (u : Task) → Contains (ts ++ next ∷ []) u → (u.0 < n + 1) × Ready p done u.0
      there u c = elim (Contains-push_cases ts next u c) as (λ _. (u.0 < n + 1) × Ready p done u.0) [
        | inl had ↦ let h = (so_far.each u).0 had in (omega (arith, h.0), h.1)
        | inr e ↦ subst (λ (x : Task). (x.0 < n + 1) × Ready p done x.0) e (omega arith, ready)
      ]

      back : (u : Task) → (u.0 < n + 1) × Ready p done u.0 → Contains (ts ++ next ∷ []) u
      back u h = elim (cases_eq u.0 n) as (λ _. Contains (ts ++ next ∷ []) u) [
        | inl e ↦ subst (Contains (ts ++ next ∷ [])) (ap (λ (k : ℕ). let x : Task = record { 0 = k } in x) (sym e)) (Contains-push ts next)
        | inr d ↦ Contains-append_left ts (next ∷ []) u ((so_far.each u).1 (omega (arith, h.0, d), h.1))
      ]

  -- or one that isn't
  pub ready-past : ¬ Ready p done n → AreReadyBelow p done (n + 1) ts
  ready-past unready = record {
    each = λ u. (
      λ c. let h = (so_far.each u).0 c in (omega (arith, h.0), h.1),
      λ h. let apart : u.0 ≢ n = λ e. unready (subst (Ready p done) e h.1) in (so_far.each u).1 (omega (arith, h.0, apart), h.1),
    );
    by_number = so_far.by_number;
  }

-- all tasks have been looked at
pub ready-all : (p : Program) (done : List ℕ) (n : ℕ) (ts : List Task) → length p.tasks ≤ n → AreReadyBelow p done n ts → (u : Task) → Contains ts u ↔ Ready p done u.0
ready-all p done n ts all looked u = (λ c. ((looked.each u).0 c).1, λ r. (looked.each u).1 (omega (arith, r.task, all), r))
