-- The phases of a program: which tasks contribute to a cell, and what stands between them.
use Rattle.sj_core.proofs.Words.{Access, access, All, ap, arith, Bool, Cell, combine_of, Conflict, Contains, Contribute, contributes_of, copy_of, DoesContribute, Equations, get_or, has_reduction, init_of, inl, inr, is_scratch, IsContribution, IsCopyOf, IsFirstUnit, IsLawful, IsOfPhase, IsOpenAt, IsPhase, Kernel, kernel_of, length, List, Mode, not, Phase, Program, Proper, R, Read, Redux, refl, Some, subst, sym, Task, task, task_number, task_of, true, Uses, W, worked_on, Worker, ℕ, ◌&&◌, ◌<◌, ◌∙◌, ◌≡◌, ◌≢◌, ◌≤◌, ◌⊎◌}
use Rattle.std.proofs.lemmas.{Bool.and_from, Bool.and_parts, Bool.cases_lt, List.Elements.All-contains, List.Elements.Contains-get_or}
use Rattle.sj_core.proofs.{Combining.contributing-exchange, Combining.Reduces, Dependencies.own-of_phase, Dependencies.Proper-dependencies, Readiness.Contains-filter, Sharing.contribute_isn't_read, Sharing.manner_of, Sharing.redux-has_copies, Sized.knows, TaskCells.operand-inside, Updating.ContributionsExchange, Updating.operand-used}

module _ (p : Program) (proper : Proper p) where
  -- a task that contributes to a cell, with the phase to which it belongs
  pub record Contributes (t : Task) (a : Access) : Type 0 where
    pub phase : Phase
    pub is_phase : IsPhase p phase
    pub cell : phase.cell ≡ a.cell
    pub among : Contains phase.contributions t.0
    pub by_kernel : IsContribution phase.by phase.cell (task_of p t)

  pub contributes : (t : Task) (a : Access) → Contains (task_of p t).accesses a → a.mode ≡ Redux → Contributes t a
  contributes t a h redux =
      let named : Contains (task_of p t).accesses (access Redux a.cell) = subst (λ (m : Mode). Contains (task_of p t).accesses (access m a.cell)) redux h in
      let f = proper.phases.contributions t.0 a.cell named in
      let phase = All-contains (IsPhase p) proper.phases.phases f.0 proper.phases.each f.1 in
      record { phase = f.0; is_phase = phase; cell = f.2; among = f.3; by_kernel = All-contains (λ n. IsContribution f.0.by f.0.cell (task_number p n)) f.0.contributions t.0 phase.contributions f.3 }

  -- the codelet of a contribution is one of the reduction's
  pub kernel-contributes : (t : Task) (f : Phase) (k : Kernel) → kernel_of (task_of p t).codelet ≡ Some k → IsContribution f.by f.cell (task_of p t) → contributes_of k f.by ≡ true
  kernel-contributes t f k e own = let g : Some own.kernel ≡ Some k = sym own.codelet ∙ e in let one : own.kernel ≡ k = cc in ap (λ (y : Kernel). contributes_of y f.by) (sym one) ∙ own.contributes

  -- the copy that is worked on is one of the operand's cell
  pub copy-of : (t : Task) → t.0 < length p.tasks → (w : Worker) → w.0 < p.workers → (a : Access) → Contains (task_of p t).accesses a → a.mode ≡ Redux → IsCopyOf p (worked_on p w a) a.cell w
  copy-of t inside w staffed a h redux = search (arith, redux-has_copies)

  module _ (f : Phase) (phase : IsPhase p f) (w : Worker) (staffed : w.0 < p.workers) where
    -- the task that fills the worker's copy, and the one that combines it
    abbrev pub init_at : ℕ
    init_at = get_or f.inits w.0 0

    abbrev pub combine_at : ℕ
    combine_at = get_or f.combines w.0 0

    pub init-among : Contains f.inits init_at
    init-among = Contains-get_or f.inits w.0 0 (omega (arith, staffed, phase.inits_by_worker))

    pub combine-among : Contains f.combines combine_at
    combine-among = Contains-get_or f.combines w.0 0 (omega (arith, staffed, phase.combines_by_worker))

    pub init-reads : Contains (task_number p init_at).accesses (access W (copy_of p f.cell w))
    init-reads = subst (λ (xs : List Access). Contains xs (access W (copy_of p f.cell w))) (sym (phase.inits w staffed).operands) (0, omega arith, refl)

    pub combine-reads : Contains (task_number p combine_at).accesses (access R (copy_of p f.cell w))
    combine-reads = subst (λ (xs : List Access). Contains xs (access R (copy_of p f.cell w))) (sym (phase.combines w staffed).operands) (0, omega arith, refl)

    pub init-before : (n : ℕ) → Contains f.contributions n → init_at < n
    init-before n h = All-contains (λ k. init_at < k) f.contributions n (All-contains (λ i. All (λ k. i < k) f.contributions) f.inits init_at phase.inits_first init-among) h

    pub combine-after : (n : ℕ) → Contains f.contributions n → n < combine_at
    combine-after n h = All-contains (λ k. n < k) f.combines combine_at (All-contains (λ i. All (λ k. i < k) f.combines) f.contributions n phase.combines_last h) combine-among

    -- a task that contributes to the cell between a contribution and this combine is one of the phase's
    pub contributes-between : (n k : ℕ) (a : Access) → Contains f.contributions n → n < k → k ≤ combine_at → Contains (task_number p k).accesses a → a.mode ≡ Redux → a.cell ≡ f.cell → Contains f.contributions k
    contributes-between n k a has later before h redux same =
        let is_open : IsOpenAt f k = record { begun = (init_at, init-among, omega (arith, init-before n has, later)); unfinished = (combine_at, combine-among, before) } in
        by_kind (phase.alone k a is_open (Contains-filter (λ b. not (is_scratch b.mode)) (task_number p k).accesses a (ap (λ (m : Mode). not (is_scratch m)) redux) h) (inl same))
      where
        by_kind : IsOfPhase f k ⊎ IsFirstUnit p f k → Contains f.contributions k
        by_kind (inl (inl init)) = absurd (own-of_phase p proper f phase k (inl init) a h redux)
        by_kind (inl (inr (inl own))) = own
        by_kind (inl (inr (inr combine))) = absurd (own-of_phase p proper f phase k (inr combine) a h redux)
        by_kind (inr first) = let l : k < n = All-contains (λ i. k < i) f.contributions n first.before has in absurd (omega arith)

  module _ (eq : Equations) (has : Kernel → Bool) (lawful : IsLawful eq has p) where
    module _ (f : Phase) (phase : IsPhase p f) (w : Worker) (staffed : w.0 < p.workers) where
      -- the set has the reduction of a phase
      pub knows-reduction : has_reduction has f.by ≡ true
      knows-reduction =
          let i = init_at f phase w staffed in
          let c = combine_at f phase w staffed in
          and_from (has (init_of f.by)) (has (combine_of f.by))
          (knows eq has p proper lawful (task i) (operand-inside p (task i) _ (init-reads f phase w staffed)) (init_of f.by) (phase.inits w staffed).codelet)
          (knows eq has p proper lawful (task c) (operand-inside p (task c) _ (combine-reads f phase w staffed)) (combine_of f.by) (phase.combines w staffed).codelet)

      pub reduces : Reduces eq f.by
      reduces =
          let both = and_parts (has (init_of f.by)) (has (combine_of f.by)) knows-reduction in
          record { law = lawful.reducing f.by knows-reduction; unit = lawful.making (init_of f.by) both.0 }

      pub does_contribute : (t : Task) → t.0 < length p.tasks → (k : Kernel) → kernel_of (task_of p t).codelet ≡ Some k → contributes_of k f.by ≡ true → DoesContribute eq k f.by
      does_contribute t inside k e h = lawful.contributing k f.by (and_from (has k && contributes_of k f.by) (has_reduction has f.by) (and_from (has k) (contributes_of k f.by) (knows eq has p proper lawful t inside k e) h) knows-reduction)

    -- contributions of two tasks to one copy may be exchanged where they don't conflict
    pub contributions-exchange : (t u : Task) (t_in : t.0 < length p.tasks) (u_in : u.0 < length p.tasks) (w v : Worker) → w.0 < p.workers → v.0 < p.workers → ¬ Conflict p t.0 u.0 → t.0 < u.0 → ContributionsExchange eq has p proper lawful t u w v
    contributions-exchange t u t_in u_in w v w_in v_in free before a b ta ub ra rb same j k ej ek =
        let q = worked_on p w a in
        let copy = copy-of t t_in w w_in a ta ra in
        let other = copy-of u u_in v v_in b ub rb in
        let cells : a.cell ≡ b.cell = proper.cells.apart q a.cell b.cell w v copy (subst (λ (d : Cell). IsCopyOf p d b.cell v) (sym same) other) in
        let of_t = contributes t a ta ra in
        let f = of_t.phase in
        let own = kernel-contributes t f j ej of_t.by_kernel in
        elim (cases_lt u.0 (combine_at f of_t.is_phase w w_in)) [
          | inl within ↦
              let later = contributes-between f of_t.is_phase w w_in t.0 u.0 b of_t.among before (omega (arith, within)) ub rb (sym cells ∙ sym of_t.cell) in
              let second = kernel-contributes u f k ek (All-contains (λ n. IsContribution f.by f.cell (task_number p n)) f.contributions u.0 of_t.is_phase.contributions later) in
              contributing-exchange eq f.by (reduces f of_t.is_phase w w_in) j k (lawful.making j (knows eq has p proper lawful t t_in j ej)) (lawful.making k (knows eq has p proper lawful u u_in k ek)) own second (does_contribute f of_t.is_phase w w_in t t_in j ej own) (does_contribute f of_t.is_phase w w_in u u_in k ek second)
          | inr past ↦ absurd (free (parted f of_t.is_phase of_t.cell copy.is past of_t.among))
        ]
      where
        -- where the copy is combined in between they conflict
        parted : (f : Phase) (phase : IsPhase p f) → f.cell ≡ a.cell → worked_on p w a ≡ copy_of p a.cell w → combine_at f phase w w_in ≤ u.0 → Contains f.contributions t.0 → Conflict p t.0 u.0
        parted f phase cell is past among =
            let k = combine_at f phase w w_in in
            let q = worked_on p w a in
            let deps = Proper-dependencies p proper in
            let combines : Uses p k q.0 Read = subst (λ (d : Cell). Uses p k d.0 Read) (ap (λ (d : Cell). copy_of p d w) cell ∙ sym is) (operand-used p proper (task k) (operand-inside p (task k) _ (combine-reads f phase w w_in)) w w_in (access R (copy_of p f.cell w)) (combine-reads f phase w w_in) refl) in
            let first : Uses p t.0 q.0 Contribute = subst (λ (m : Mode). Uses p t.0 q.0 (manner_of (task_of p t).codelet m)) ra (operand-used p proper t t_in w w_in a ta (ap (λ (m : Mode). not (is_scratch m)) ra)) in
            let second : Uses p u.0 q.0 Contribute = subst (λ (d : Cell). Uses p u.0 d.0 Contribute) (sym same) (subst (λ (m : Mode). Uses p u.0 (worked_on p v b).0 (manner_of (task_of p u).codelet m)) rb (operand-used p proper u u_in v v_in b ub (ap (λ (m : Mode). not (is_scratch m)) rb))) in
            let differ : k ≢ u.0 = λ e. own-of_phase p proper f phase u.0 (inr (subst (Contains f.combines) e (combine-among f phase w w_in))) b ub rb in
            record {
              cell = q.0;
              manner_of_t = Contribute;
              manner_of_u = Contribute;
              first = first;
              second = second;
              written = λ both. (let e = both.0 in contribute_isn't_read e);
              apart = λ m g. contribute_isn't_read (deps.manners t.0 q.0 Contribute m first g.first ∙ sym (g.alike k Read (inl (combine-after f phase w w_in t.0 among, omega (arith, past, differ))) combines));
            }
