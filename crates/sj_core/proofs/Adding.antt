-- What the tasks of a phase leave: a contribution adds to its worker's copy, and a combine adds the copy to the cell.
use Rattle.sj_core.proofs.Words.{[], Access, access, Add, after_task, All, ap, arguments_fit, arith, Array, Bool, cell_info, combine_of, combined, Contains, Contents, contributes_of, copy_of, Dims, dims_fit, dims_of, DoesContribute, Equations, false, filter, fits, FitsSigned, found, held_in, if◌then◌else◌, is_in_order, is_redux, is_some, is_written, IsCall, IsCombine, IsContribution, IsLawful, IsPhase, IsTile, Kernel, Least, length, List, Lowest, MakesTiles, map, nat_eq, no_task, Phase, Plus, Program, Proper, R, Reduction, Redux, refl, result_of, RW, Some, starts_as_zeros, suc, sym, Task, task_number, task_of, true, w64, worked_on, Worker, zeros, ℤ, ◌++◌, ◌<◌, ◌∙◌, ◌∷◌, ◌≡◌}
use Rattle.std.proofs.lemmas.{Bool.Decides.Decides-eqb, List.Elements.All-contains, List.Elements.All-get_or}
use Rattle.sj_base.proofs.{Bools.and_middle, Lists.map-agree, Lists.one_is}
use Rattle.sj_core.proofs.{Combining.call-with, Combining.combines, Combining.contribution, Combining.contribution-fills, Copies.copy-bare, Copies.direct-cell, Phases.does_contribute, Phases.kernel-contributes, Phases.reduces, Sized.AreSized, Sized.knows, Sized.task-fits, Sized.worked_on-dims, Swapping.first_ins, Swapping.update-call, Swapping.updated, Swapping.Updates, Updating.updates}
use Rattle.sj_codelet.proofs.NewArrays.{zeros-tile}

module _ (eq : Equations) (has : Kernel → Bool) (p : Program) (proper : Proper p) (lawful : IsLawful eq has p) (f : Phase) (phase : IsPhase p f) where
  -- ---- contributions

  module _ (t : Task) (inside : t.0 < length p.tasks) (a : Access) (among : Contains (task_of p t).accesses a) (redux : a.mode ≡ Redux) (cell : a.cell ≡ f.cell) (own : Contains f.contributions t.0) where
    abbrev pub update : (w : Worker) → w.0 < p.workers → Updates p t w (worked_on p w a)
    update w staffed = updates p proper t inside a among (ap is_in_order redux) w staffed

    -- what the task adds, from what cells hold
    abbrev pub part : (w : Worker) → w.0 < p.workers → Contents → Array
    part w staffed before = contribution eq f.by (update w staffed).kernel (task_of p t).args (first_ins p t w (worked_on p w a) (update w staffed) (held_in p before)) (dims_of p f.cell)

    -- it depends on the cells that are read alone, and on no worker
    pub part-same : (v w : Worker) (v_in : v.0 < p.workers) (w_in : w.0 < p.workers) (before before' : Contents) → ((b : Access) → Contains (update v v_in).before b → starts_as_zeros b.mode ≡ false → held_in p before b.cell ≡ held_in p before' b.cell) → part v v_in before ≡ part w w_in before'
    part-same v w v_in w_in before before' same = ap (λ (ins : List Array). contribution eq f.by (update v v_in).kernel (task_of p t).args ins (dims_of p f.cell)) (map-agree (found p v (held_in p before)) (found p w (held_in p before')) (update v v_in).before (λ b h. by_start b h (starts_as_zeros b.mode) refl))
      where
        by_start : (b : Access) → Contains (update v v_in).before b → (s : Bool) → starts_as_zeros b.mode ≡ s → (if s then zeros (dims_of p b.cell) else held_in p before (worked_on p v b)) ≡ (if s then zeros (dims_of p b.cell) else held_in p before' (worked_on p w b))
        by_start b h true e = refl
        by_start b h false e =
            let direct = (update v v_in).direct b h in
            ap (held_in p before) (direct-cell p v b direct) ∙ same b h e ∙ ap (held_in p before') (sym (direct-cell p w b direct))

    module _ (w : Worker) (staffed : w.0 < p.workers) (before : Contents) (sized : AreSized p before) where
      abbrev ins : List Array
      ins = first_ins p t w (worked_on p w a) (update w staffed) (held_in p before)

      contributes : contributes_of (update w staffed).kernel f.by ≡ true
      contributes = kernel-contributes p proper t f (update w staffed).kernel (update w staffed).codelet (All-contains (λ n. IsContribution f.by f.cell (task_number p n)) f.contributions t.0 phase.contributions own)

      through : DoesContribute eq (update w staffed).kernel f.by
      through = does_contribute p proper eq has lawful f phase w staffed t inside (update w staffed).kernel (update w staffed).codelet contributes

      makes : MakesTiles eq (update w staffed).kernel
      makes = lawful.making (update w staffed).kernel (knows eq has p proper lawful t inside (update w staffed).kernel (update w staffed).codelet)

      call : IsCall (update w staffed).kernel (task_of p t).args (ins ++ held_in p before (worked_on p w a) ∷ [])
      call = update-call eq has p proper lawful t inside w staffed (worked_on p w a) (update w staffed) before sized

      held-dims : (held_in p before (worked_on p w a)).dims ≡ dims_of p f.cell
      held-dims = (sized (worked_on p w a)).dims ∙ worked_on-dims p proper w staffed a ∙ ap (dims_of p) cell

      -- it adds a tile of the cell's dimensions
      pub part-fills : IsTile (part w staffed before) × ((part w staffed before).dims ≡ dims_of p f.cell)
      part-fills =
          contribution-fills eq f.by (reduces p proper eq has lawful f phase w staffed) (update w staffed).kernel makes contributes through (task_of p t).args ins (zeros (dims_of p f.cell)) (All-get_or (λ l. All (FitsSigned w64) l.args) p.tasks t.0 no_task inside lawful.arguments)
          (call-with (update w staffed).kernel (task_of p t).args ins (held_in p before (worked_on p w a)) (zeros (dims_of p f.cell)) call (zeros-tile (dims_of p f.cell)) (sym held-dims))

      -- the copy is combined with it
      pub adds : held_in p (after_task eq p w t before) (worked_on p w a) ≡ combined eq f.by (part w staffed before) (held_in p before (worked_on p w a))
      adds =
          updated eq has p proper lawful t inside w staffed (worked_on p w a) (update w staffed) before
          ∙ combines eq f.by (reduces p proper eq has lawful f phase w staffed) (update w staffed).kernel makes contributes through (task_of p t).args ins (held_in p before (worked_on p w a)) (dims_of p f.cell) held-dims call

  -- ---- combines

  module _ (has_copies : is_some (cell_info p f.cell).partials ≡ true) (x : Worker) (x_in : x.0 < p.workers) (t : Task) (inside : t.0 < length p.tasks) (combine : IsCombine f.by (copy_of p f.cell x) f.cell (task_of p t)) (w : Worker) (staffed : w.0 < p.workers) where
    pub merge : Updates p t w f.cell
    merge = record {
      kernel = combine_of f.by;
      codelet = combine.codelet;
      before = access R (copy_of p f.cell x) ∷ [];
      last = access RW f.cell;
      accesses = combine.operands;
      reads = refl;
      cell = refl;
      written = ap (λ (xs : List Access). map (worked_on p w) (filter (λ b. is_written b.mode) xs)) combine.operands;
      direct = λ b h. ap (λ (z : Access). is_redux z.mode) (sym (only b h));
      others = λ b h reads e. copy-bare p proper f.cell has_copies x x_in f.cell has_copies (ap (worked_on p w) (only b h) ∙ e);
    }
      where
        only : (b : Access) → Contains (access R (copy_of p f.cell x) ∷ []) b → access R (copy_of p f.cell x) ≡ b
        only b h = one_is (access R (copy_of p f.cell x)) b h

    -- a combine has no arguments
    bare : (task_of p t).args ≡ []
    bare =
        let l = task_of p t in
        let own = task-fits p proper t inside in
        let found_by : Some own.kernel ≡ Some (combine_of f.by) = sym own.codelet ∙ combine.codelet in
        let same : own.kernel ≡ combine_of f.by = cc in
        none f.by l.args (map (λ a. dims_of p a.cell) l.accesses) (ap (λ (k : Kernel). fits k l.args (map (λ a. dims_of p a.cell) l.accesses)) (sym same) ∙ own.operands)
      where
        some : (args : List ℤ) → nat_eq (suc (length args)) 0 ≡ true → ⊥
        some args h = let n : suc (length args) ≡ 0 = (Decides-eqb (suc (length args)) 0).0 h in omega (arith, n)

        none : (by : Reduction) (args : List ℤ) (ds : List Dims) → fits (combine_of by) args ds ≡ true → args ≡ []
        none by [] ds h = refl
        none Plus (z ∷ args) ds h = absurd (some args (and_middle (nat_eq (length ds) 2) (arguments_fit Add (z ∷ args) ds) (dims_fit Add (z ∷ args) ds) h))
        none Least (z ∷ args) ds h = absurd (some args (and_middle (nat_eq (length ds) 2) (arguments_fit Lowest (z ∷ args) ds) (dims_fit Lowest (z ∷ args) ds) h))

    -- the cell is combined with the copy
    pub merges : (before : Contents) → held_in p (after_task eq p w t before) f.cell ≡ combined eq f.by (held_in p before (copy_of p f.cell x)) (held_in p before f.cell)
    unfolding merge
    merges before = updated eq has p proper lawful t inside w staffed f.cell merge before ∙ ap (λ (args : List ℤ). result_of eq (combine_of f.by) args (held_in p before (copy_of p f.cell x) ∷ []) (held_in p before f.cell)) bare
