-- The partial copies of a cell under reduction: which tasks work on them while a phase is open, and what these leave there.
use Rattle.sj_core.proofs.Words.{[], Access, access, ap, arith, Cell, cell_info, cond, Contains, copy_of, data_operands, false, get_or, inl, inr, is_redux, is_scratch, is_some, IsCombine, IsContribution, IsCopyOf, IsFirstUnit, IsInit, IsOfPhase, IsOpenAt, IsPhase, IsTrue, List, Mode, no_task, not, Phase, Program, Proper, R, Redux, refl, RW, same_cell, starts_as_zeros, subst, suc, sym, task, task_number, Touches, true, W, worked_on, Worker, zero, ℕ, ◌<◌, ◌∙◌, ◌∷◌, ◌≡◌, ◌≢◌, ◌≤◌, ◌⊎◌}
use Rattle.std.proofs.lemmas.{Bool.cases_lt, Bool.false≢true, Bool.true≢false, Bool.Decides.Decides-eqb, List.get_or_default, List.Elements.All-contains, List.Elements.Contains-get_or}
use Rattle.sj_base.proofs.Lists.{one_is}
use Rattle.sj_core.proofs.{Dependencies.not_both, Dependencies.own-of_phase, Phases.combine-after, Phases.combine-among, Phases.combine-reads, Phases.combine_at, Phases.contributes, Phases.copy-of, Phases.init-among, Phases.init-before, Phases.init_at, Readiness.AllPairs-two, Readiness.Contains-filter, TaskCells.operand-inside}

-- a mode is REDUX or not
pub redux_or : (x : Mode) → (x ≡ Redux) ⊎ (is_redux x ≡ false)
redux_or x = search arith

-- an operand that is no contribution works on its own cell
pub direct-cell : (p : Program) (w : Worker) (a : Access) → is_redux a.mode ≡ false → worked_on p w a ≡ a.cell
direct-cell p w a e = ap (λ b. cond b (copy_of p a.cell w) a.cell) e

module _ (p : Program) (proper : Proper p) where
  -- ---- copies

  module _ (c : Cell) (has_copies : is_some (cell_info p c).partials ≡ true) where
    pub a-copy : (x : Worker) → x.0 < p.workers → IsCopyOf p (copy_of p c x) c x
    a-copy x staffed = record { has_copies = has_copies; of_worker = staffed; is = refl }

    -- each worker has a copy of its own
    pub copy-own : (x y : Worker) → copy_of p c x ≡ copy_of p c y → x ≡ y
    copy-own x y same = search (arith, is_some, false≢true, cell_info)

    -- no copy is the cell, or a cell with copies
    pub copy-bare : (x : Worker) → x.0 < p.workers → (d : Cell) → is_some (cell_info p d).partials ≡ true → copy_of p c x ≢ d
    copy-bare x staffed d other e = false≢true (sym (ap is_some (proper.cells.plain (copy_of p c x) c x (a-copy x staffed))) ∙ ap (λ (q : Cell). is_some (cell_info p q).partials) e ∙ other)

  -- ---- while a phase is open

  module _ (f : Phase) (phase : IsPhase p f) (has_copies : is_some (cell_info p f.cell).partials ≡ true) where
    -- the number of a combine is that of a worker's
    pub combine-of : (n : ℕ) → Contains f.combines n → (x : Worker) × (x.0 < p.workers) × IsCombine f.by (copy_of p f.cell x) f.cell (task_number p n)
    combine-of n (k, l, e) =
        let x : Worker = record { 0 = k } in
        let staffed : x.0 < p.workers = omega (arith, l, phase.combines_by_worker) in
        let at_k : get_or f.combines k 0 ≡ n = get_or_default f.combines k 0 n l ∙ e in
        (x, staffed, subst (λ i. IsCombine f.by (copy_of p f.cell x) f.cell (task_number p i)) at_k (phase.combines x staffed))

    -- a combine that reads a copy is its worker's
    pub combine-is : (n : ℕ) (x : Worker) (staffed : x.0 < p.workers) → Contains f.combines n → Contains (task_number p n).accesses (access R (copy_of p f.cell x)) → n ≡ combine_at p proper f phase x staffed
    combine-is n x staffed (k, l, e) reads =
        let y : Worker = record { 0 = k } in
        let y_in : y.0 < p.workers = omega (arith, l, phase.combines_by_worker) in
        let at_k : get_or f.combines k 0 ≡ n = get_or_default f.combines k 0 n l ∙ e in
        let combine : IsCombine f.by (copy_of p f.cell y) f.cell (task_number p n) = subst (λ i. IsCombine f.by (copy_of p f.cell y) f.cell (task_number p i)) at_k (phase.combines y y_in) in
        by_place y y_in at_k (subst (λ (xs : List Access). Contains xs (access R (copy_of p f.cell x))) combine.operands reads)
      where
        by_place : (y : Worker) → y.0 < p.workers → get_or f.combines y.0 0 ≡ n → Contains (access R (copy_of p f.cell y) ∷ access RW f.cell ∷ []) (access R (copy_of p f.cell x)) → n ≡ combine_at p proper f phase x staffed
        by_place y y_in at_y x = search (arith, get_or, copy-own)

    -- how an operand of one of the phase's tasks works on the cell or a copy of it, once contributions have begun
    pub data AtWork (n : ℕ) (v : Worker) (a : Access) : Type 0 where
      Contribution : Contains f.contributions n → a.mode ≡ Redux → a.cell ≡ f.cell → AtWork n v a
      OfCopy : (x : Worker) (staffed : x.0 < p.workers) → n ≡ combine_at p proper f phase x staffed → a ≡ access R (copy_of p f.cell x) → AtWork n v a
      OfCell : (x : Worker) (staffed : x.0 < p.workers) → n ≡ combine_at p proper f phase x staffed → a ≡ access RW f.cell → AtWork n v a

    -- from a contribution to the last combine nothing else works there
    pub at-work : (m n : ℕ) (v : Worker) → v.0 < p.workers → (a : Access) → Contains f.contributions m → m < n → (k : ℕ) → Contains f.combines k → n ≤ k → Contains (task_number p n).accesses a → not (is_scratch a.mode) ≡ true →
        (worked_on p v a ≡ f.cell) ⊎ ((x : Worker) × (x.0 < p.workers) × (worked_on p v a ≡ copy_of p f.cell x)) → AtWork n v a
    at-work m n v v_in a contribution later k last before h accessed touches = by_mode (redux_or a.mode)
      where
        is_open : IsOpenAt f n
        is_open = record { begun = (init_at p proper f phase v v_in, init-among p proper f phase v v_in, omega (arith, init-before p proper f phase v v_in m contribution, later)); unfinished = (k, last, before) }

        in_data : Contains (data_operands (task_number p n)) a
        in_data = Contains-filter (λ b. not (is_scratch b.mode)) (task_number p n).accesses a accessed h

        member : Touches p f.cell a → Contains f.contributions n ⊎ Contains f.combines n
        member there = by_kind (phase.alone n a is_open in_data there)
          where
            by_kind : IsOfPhase f n ⊎ IsFirstUnit p f n → Contains f.contributions n ⊎ Contains f.combines n
            by_kind x = search (arith, All-contains)

        -- an operand of a combine
        of_combine : is_redux a.mode ≡ false → Contains f.combines n → AtWork n v a
        of_combine direct own = let combine = combine-of n own in by_place combine.0 combine.1 combine.2 (subst (λ (xs : List Access). Contains xs a) combine.2.operands h)
          where
            by_place : (x : Worker) (x_in : x.0 < p.workers) → IsCombine f.by (copy_of p f.cell x) f.cell (task_number p n) → Contains (access R (copy_of p f.cell x) ∷ access RW f.cell ∷ []) a → AtWork n v a
            by_place x x_in combine place = by_number place (combine-is n x x_in own (subst (λ (xs : List Access). Contains xs (access R (copy_of p f.cell x))) (sym combine.operands) (0, omega arith, refl)))
              where
                by_number : Contains (access R (copy_of p f.cell x) ∷ access RW f.cell ∷ []) a → n ≡ combine_at p proper f phase x x_in → AtWork n v a
                by_number (zero, l, e) at = OfCopy x x_in at (sym e)
                by_number (suc zero, l, e) at = OfCell x x_in at (sym e)
                by_number (suc (suc i), l, e) at = absurd (omega arith)

        -- a contribution names the cell as REDUX
        named : Contains f.contributions n → Contains (task_number p n).accesses (access Redux f.cell)
        named own = (All-contains (λ i. IsContribution f.by f.cell (task_number p i)) f.contributions n phase.contributions own).operand

        by_mode : (a.mode ≡ Redux) ⊎ (is_redux a.mode ≡ false) → AtWork n v a
        by_mode (inl redux) =
            let copy = copy-of p proper (task n) (operand-inside p (task n) a h) v v_in a h redux in
            elim touches [
              | inl cell ↦ absurd (copy-bare a.cell copy.has_copies v v_in f.cell has_copies (sym copy.is ∙ cell))
              | inr other ↦
                  let same : a.cell ≡ f.cell = proper.cells.apart (worked_on p v a) a.cell f.cell v other.0 copy (record { has_copies = has_copies; of_worker = other.1; is = other.2 }) in
                  elim (member (inl same)) [ inl own ↦ Contribution own redux same | inr own ↦ absurd (own-of_phase p proper f phase n (inr own) a h redux) ]
            ]
        by_mode (inr direct) =
            let own_cell = direct-cell p v a direct in
            elim touches [
              | inl cell ↦ elim (member (inl (sym own_cell ∙ cell))) [ inr own ↦ of_combine direct own | inl own ↦ absurd (not_twice (sym own_cell ∙ cell) own) ]
              | inr other ↦
                  let copy : IsCopyOf p a.cell f.cell other.0 = record { has_copies = has_copies; of_worker = other.1; is = sym own_cell ∙ other.2 } in
                  elim (member (inr (other.0, copy))) [
                    | inr own ↦ of_combine direct own
                    | inl own ↦ absurd (not_both p proper n a.cell f.cell other.0 copy a (access Redux f.cell) h refl (named own) refl)
                  ]
            ]
          where
            not_twice : a.cell ≡ f.cell → Contains f.contributions n → ⊥
            not_twice same own =
                let b : Access = access Redux f.cell in
                let b_in = Contains-filter (λ x. not (is_scratch x.mode)) (task_number p n).accesses b refl (named own) in
                by_places (AllPairs-two (λ x y. IsTrue (same_cell x.cell y.cell) → (x.mode ≡ R) × (y.mode ≡ R)) (data_operands (task_number p n)) a b (proper.unaliased n no_task (operand-inside p (task n) a h)) in_data b_in)
              where
                redux_isn't_read : Redux ≡ R → ⊥
                redux_isn't_read e = cc

                one : same_cell a.cell f.cell ≡ true
                one = (Decides-eqb a.cell.0 f.cell.0).1 (ap (λ (q : Cell). q.0) same)

                other : same_cell f.cell a.cell ≡ true
                other = (Decides-eqb f.cell.0 a.cell.0).1 (ap (λ (q : Cell). q.0) (sym same))

                by_places : ((a ≡ access Redux f.cell) ⊎ ((IsTrue (same_cell a.cell f.cell) → (a.mode ≡ R) × (Redux ≡ R)) ⊎ (IsTrue (same_cell f.cell a.cell) → (Redux ≡ R) × (a.mode ≡ R)))) → ⊥
                by_places x = search (arith, true≢false, redux_isn't_read, one, other)

    -- ---- after a copy has been combined

    -- the copy is filled anew between the two numbers
    pub record IsRefilled (x : Worker) (k n : ℕ) : Type 0 where
      pub at : ℕ
      pub after : k < at
      pub before : at < n
      pub fills : (task_number p at).accesses ≡ access W (copy_of p f.cell x) ∷ []

    combines-two : (n : ℕ) (d : Cell) → Contains f.combines n → (task_number p n).accesses ≡ access W d ∷ [] → ⊥
    combines-two n d own e =
        let combine = combine-of n own in
        let two : access R (copy_of p f.cell combine.0) ∷ access RW f.cell ∷ [] ≡ access W d ∷ [] = sym combine.2.operands ∙ e in
        cc

    pub init-of : (n : ℕ) → Contains f.inits n → (x : Worker) × IsInit f.by (copy_of p f.cell x) (task_number p n)
    init-of n (k, l, e) =
        let x : Worker = record { 0 = k } in
        let at_k : get_or f.inits k 0 ≡ n = get_or_default f.inits k 0 n l ∙ e in
        (x, subst (λ i. IsInit f.by (copy_of p f.cell x) (task_number p i)) at_k (phase.inits x (omega (arith, l, phase.inits_by_worker))))

  module _ (f : Phase) (phase : IsPhase p f) (has_copies : is_some (cell_info p f.cell).partials ≡ true) (x : Worker) (x_in : x.0 < p.workers) (n : ℕ) (past : combine_at p proper f phase x x_in < n) where
    -- a later phase of the cell fills the copy after it has been combined
    filled-later : (g : Phase) (later : IsPhase p g) → g.cell ≡ f.cell → init_at p proper g later x x_in < n → n ≤ combine_at p proper g later x x_in → IsRefilled f phase has_copies x (combine_at p proper f phase x x_in) n
    filled-later g later cell begun unfinished = search (arith, init_at, cases_lt, combine_at, overlaps)
      where
        k : ℕ
        k = combine_at p proper f phase x x_in

        has : is_some (cell_info p g.cell).partials ≡ true
        has = ap (λ (c : Cell). is_some (cell_info p c).partials) cell ∙ has_copies

        among : Contains f.combines (combine_at p proper f phase x x_in)
        among = combine-among p proper f phase x x_in

        reads : Contains (task_number p (combine_at p proper f phase x x_in)).accesses (access R (copy_of p f.cell x))
        reads = combine-reads p proper f phase x x_in

        overlaps : init_at p proper g later x x_in ≤ combine_at p proper f phase x x_in → ⊥
        overlaps before = by_kind (later.alone (combine_at p proper f phase x x_in) (access R (copy_of p f.cell x))
            (record { begun = (init_at p proper g later x x_in, init-among p proper g later x x_in, before); unfinished = (combine_at p proper g later x x_in, combine-among p proper g later x x_in, omega (arith, past, unfinished)) })
            (Contains-filter (λ b. not (is_scratch b.mode)) (task_number p (combine_at p proper f phase x x_in)).accesses (access R (copy_of p f.cell x)) refl reads)
            (inr (x, record { has_copies = has; of_worker = x_in; is = ap (λ (c : Cell). copy_of p c x) (sym cell) })))
          where
            by_kind : IsOfPhase g (combine_at p proper f phase x x_in) ⊎ IsFirstUnit p g (combine_at p proper f phase x x_in) → ⊥
            by_kind (inl (inl init)) = let own = init-of g later has (combine_at p proper f phase x x_in) init in combines-two f phase has_copies (combine_at p proper f phase x x_in) (copy_of p g.cell own.0) among own.1.operands
            by_kind (inl (inr (inl own))) = own-of_phase p proper f phase (combine_at p proper f phase x x_in) (inr among) (access Redux g.cell) (All-contains (λ i. IsContribution g.by g.cell (task_number p i)) g.contributions (combine_at p proper f phase x x_in) later.contributions own).operand refl
            by_kind (inl (inr (inr own))) =
                let is = combine-is g later has (combine_at p proper f phase x x_in) x x_in own (subst (λ (c : Cell). Contains (task_number p (combine_at p proper f phase x x_in)).accesses (access R (copy_of p c x))) (sym cell) reads) in
                omega (arith, past, unfinished, is)
            by_kind (inr first) = combines-two f phase has_copies (combine_at p proper f phase x x_in) g.cell among first.init.operands

    -- a task that reads the copy after it has been combined finds it filled anew
    pub refilled : (v : Worker) → v.0 < p.workers → (a : Access) → Contains (task_number p n).accesses a → starts_as_zeros a.mode ≡ false → worked_on p v a ≡ copy_of p f.cell x → IsRefilled f phase has_copies x (combine_at p proper f phase x x_in) n
    refilled v v_in a h reads is = by_mode (redux_or a.mode)
      where
        by_mode : (a.mode ≡ Redux) ⊎ (is_redux a.mode ≡ false) → IsRefilled f phase has_copies x (combine_at p proper f phase x x_in) n
        by_mode (inl redux) =
            let copy = copy-of p proper (task n) (operand-inside p (task n) a h) v v_in a h redux in
            let same : a.cell ≡ f.cell = proper.cells.apart (worked_on p v a) a.cell f.cell v x copy (record { has_copies = has_copies; of_worker = x_in; is = is }) in
            let of_n = contributes p proper (task n) a h redux in
            filled-later of_n.phase of_n.is_phase (of_n.cell ∙ same) (init-before p proper of_n.phase of_n.is_phase x x_in n of_n.among) (let l = combine-after p proper of_n.phase of_n.is_phase x x_in n of_n.among in omega (arith, l))
        by_mode (inr direct) =
            let cell : a.cell ≡ copy_of p f.cell x = sym (direct-cell p v a direct) ∙ is in
            let copy : IsCopyOf p a.cell f.cell x = record { has_copies = has_copies; of_worker = x_in; is = cell } in
            let found = proper.phases.copies n a f.cell x h copy in
            let g = found.0 in
            let later : IsPhase p g = All-contains (IsPhase p) proper.phases.phases g proper.phases.each found.1 in
            let has : is_some (cell_info p g.cell).partials ≡ true = ap (λ (c : Cell). is_some (cell_info p c).partials) found.2 ∙ has_copies in
            elim found.3 [
              | inl init ↦
                  let own = init-of g later has n init in
                  let e = one_is (access W (copy_of p g.cell own.0)) a (subst (λ (xs : List Access). Contains xs a) own.1.operands h) in
                  absurd (true≢false (ap (λ (b : Access). starts_as_zeros b.mode) e ∙ reads))
              | inr own ↦
                  let combine = combine-of g later has n own in
                  let at = combine-is g later has n x x_in own (read_copy g found.2 cell combine.0 (subst (λ (xs : List Access). Contains xs a) combine.2.operands h)) in
                  let m = Contains-get_or g.contributions 0 0 later.contributed in
                  filled-later g later found.2
                  (let first = init-before p proper g later x x_in (get_or g.contributions 0 0) m in let last = combine-after p proper g later x x_in (get_or g.contributions 0 0) m in omega (arith, first, last, at)) (omega (arith, at))
            ]
          where
            read_copy : (g : Phase) → g.cell ≡ f.cell → a.cell ≡ copy_of p f.cell x → (y : Worker) → Contains (access R (copy_of p g.cell y) ∷ access RW g.cell ∷ []) a → Contains (task_number p n).accesses (access R (copy_of p g.cell x))
            read_copy g same cell y x = search (arith, copy-bare)
