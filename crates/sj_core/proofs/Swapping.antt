-- Tasks that may change places: they work on different cells, or each updates one and the same cell by codelets that may be
-- exchanged. One that may change places with all later chosen tasks may be put last.
use Rattle.sj_core.proofs.Words.{[], Access, after_chosen, after_task, All, ap, arith, Array, Bool, Cell, cells_of, Codelet, codelet_of, cond, Contains, Contents, dims_of, DoCommute, Equations, false, find, fits, FitsSigned, found, has_cell, held_in, if◌then◌else◌, inl, inr, is_redux, IsCall, IsLawful, IsTile, IsTrue, Kernel, kernel_of, length, List, map, no_task, None, operand, Program, Proper, refl, result_of, results, same_cell, Some, starts_as_zeros, subst, suc, sym, Task, task_of, true, w64, worked_on, Worker, written_cells, zero, zeros, zip, ℕ, ℤ, ◌++◌, ◌<◌, ◌||◌, ◌∙◌, ◌∷◌, ◌≡◌, ◌≢◌, ◌≤◌}
use Rattle.std.proofs.lemmas.{Bool.cases_Bool, Bool.cases_lt, Bool.false_from_ne_true, List.map-append, List.Elements.All-get_or}
use Rattle.sj_base.proofs.{Lists.map-agree, SameIds.same_cell-is, SameIds.same_cell-itself}
use Rattle.sj_codelet.proofs.Table.{codelet_of-kernel, each_dims}
use Rattle.sj_core.proofs.{Folding.AddsTask, Folding.after_chosen-same, Folding.after_task-other, Folding.after_task-same, Folding.held-append, Folding.held_over, Sized.after_chosen-sized, Sized.AreSized, Sized.ins-fit, Sized.ins-tiles, Sized.task-fits, Sized.task-makes_tiles, TaskCells.written-among_cells, Values.results-complete}

-- ---- one cell that a task updates

-- the task writes this cell alone, by its last operand, whose old value it reads; those before it have no contribution, and
-- don't read the cell
pub record Updates (p : Program) (t : Task) (w : Worker) (d : Cell) : Type 0 where
  pub kernel : Kernel
  pub codelet : kernel_of (task_of p t).codelet ≡ Some kernel
  pub before : List Access
  pub last : Access
  pub accesses : (task_of p t).accesses ≡ before ++ last ∷ []
  pub reads : starts_as_zeros last.mode ≡ false
  pub cell : worked_on p w last ≡ d
  pub written : written_cells p t w ≡ d ∷ []
  pub direct : (a : Access) → Contains before a → is_redux a.mode ≡ false
  pub others : (a : Access) → Contains before a → starts_as_zeros a.mode ≡ false → worked_on p w a ≢ d

-- the operands before the last one, as the task finds them
abbrev pub first_ins : (p : Program) (t : Task) (w : Worker) (d : Cell) → Updates p t w d → (Cell → Array) → List Array
first_ins p t w d u held = map (found p w held) u.before

-- runs of the two codelets on one array give the same in either order
abbrev pub Exchange : Equations → Kernel → Kernel → Type 0
Exchange eq k k' = (args args' : List ℤ) (before before' : List Array) (v : Array) → All (FitsSigned w64) args → All (FitsSigned w64) args' → IsCall k args (before ++ v ∷ []) → IsCall k' args' (before' ++ v ∷ []) →
    result_of eq k' args' before' (result_of eq k args before v) ≡ result_of eq k args before (result_of eq k' args' before' v)

pub commuting-exchange : (eq : Equations) (k : Kernel) → DoCommute eq k → Exchange eq k k
commuting-exchange eq k law args args' before before' v long long' call call' = law.either_order args args' before before' v call call'

module _ (eq : Equations) (has : Kernel → Bool) (p : Program) (proper : Proper p) (lawful : IsLawful eq has p) where
  module _ (t : Task) (inside : t.0 < length p.tasks) (w : Worker) (staffed : w.0 < p.workers) (d : Cell) (u : Updates p t w d) where
    -- what the task finds ends with the array of the cell
    ins-are : (held : Cell → Array) → map (found p w held) (task_of p t).accesses ≡ first_ins p t w d u held ++ held d ∷ []
    ins-are held =
        ap (map (found p w held)) u.accesses ∙ map-append (found p w held) u.before (u.last ∷ [])
        ∙ ap (λ (x : Array). first_ins p t w d u held ++ x ∷ []) (ap (λ b. if b then zeros (dims_of p u.last.cell) else held (worked_on p w u.last)) u.reads ∙ ap held u.cell)

    -- the array that it leaves there
    pub updated : (before : Contents) → held_in p (after_task eq p w t before) d ≡ result_of eq u.kernel (task_of p t).args (first_ins p t w d u (held_in p before)) (held_in p before d)
    updated before =
        let held = held_in p before in
        let l = task_of p t in
        let made : results eq p t w held ≡ eq (codelet_of u.kernel) l.args (first_ins p t w d u held ++ held d ∷ []) = ap (λ (id : Codelet). eq id l.args (map (found p w held) l.accesses)) (codelet_of-kernel l.codelet u.kernel u.codelet) ∙ ap (eq (codelet_of u.kernel) l.args) (ins-are held) in
        let many : length (results eq p t w held) ≡ 1 = results-complete eq p t w held (task-fits p proper t inside) (task-makes_tiles eq has p proper lawful t inside) ∙ ap length u.written in
        held-append p (zip (written_cells p t w) (results eq p t w held)) before d
        ∙ ap (λ (cs : List Cell). held_over (zip cs (results eq p t w held)) d (held d)) u.written
        ∙ first (results eq p t w held) many (held d)
        ∙ ap (λ (xs : List Array). operand xs 0) made
      where
        first : (xs : List Array) → length xs ≡ 1 → (below : Array) → held_over (zip (d ∷ []) xs) d below ≡ operand xs 0
        first [] e below = absurd (omega arith)
        first (x ∷ xs) e below = ap (λ b. elim (cond b (Some (d, x)) (find (λ (entry : Cell × Array). same_cell entry.0 d) (zip [] xs))) as (λ _. Array) [ None ↦ below | Some entry ↦ entry.1 ]) (same_cell-itself d)

    -- it is one that the codelet takes
    pub update-call : (before : Contents) → AreSized p before → IsCall u.kernel (task_of p t).args (first_ins p t w d u (held_in p before) ++ held_in p before d ∷ [])
    update-call before sized =
        let held = held_in p before in
        let own = task-fits p proper t inside in
        let found_by : Some own.kernel ≡ Some u.kernel = sym own.codelet ∙ u.codelet in
        let same : own.kernel ≡ u.kernel = cc in
        record {
          fits = subst (λ (k : Kernel). IsTrue (fits k (task_of p t).args (each_dims (first_ins p t w d u held ++ held d ∷ [])))) same (subst (λ (xs : List Array). IsTrue (fits own.kernel (task_of p t).args (each_dims xs))) (ins-are held) (ins-fit p proper t inside w staffed held sized));
          tiles = subst (All IsTile) (ins-are held) (ins-tiles p proper t inside w staffed held sized);
        }

    pub update-spares : (before : Contents) (c : Cell) → c ≢ d → held_in p (after_task eq p w t before) c ≡ held_in p before c
    update-spares before c differ = after_task-other eq p w t before c (ap (λ (cs : List Cell). has_cell cs c) u.written ∙ ap (λ b. b || false) (false_from_ne_true (same_cell d c) (λ e. differ (sym (same_cell-is d c e)))))

  -- ---- two tasks

  -- the tasks work on different cells, or update one and the same by codelets that may be exchanged
  pub data MaySwap (t u : Task) (w v : Worker) : Type 0 where
    Apart : ((d : Cell) → has_cell (written_cells p t w) d ≡ true → has_cell (cells_of p u v) d ≡ true → ⊥) → ((d : Cell) → has_cell (written_cells p u v) d ≡ true → has_cell (cells_of p t w) d ≡ true → ⊥) → MaySwap t u w v
    Together : (d : Cell) (x : Updates p t w d) (y : Updates p u v d) → Exchange eq x.kernel y.kernel → MaySwap t u w v

  module _ (t u : Task) (t_in : t.0 < length p.tasks) (u_in : u.0 < length p.tasks) (w v : Worker) (w_in : w.0 < p.workers) (v_in : v.0 < p.workers) (before : Contents) where
    -- a task whose cells the other doesn't write
    apart-half : (x y : Task) (a b : Worker) → ((d : Cell) → has_cell (written_cells p x a) d ≡ true → has_cell (cells_of p y b) d ≡ true → ⊥) → ((d : Cell) → has_cell (written_cells p y b) d ≡ true → has_cell (cells_of p x a) d ≡ true → ⊥) →
        (c : Cell) → has_cell (written_cells p x a) c ≡ true → held_in p (after_task eq p b y (after_task eq p a x before)) c ≡ held_in p (after_task eq p a x (after_task eq p b y before)) c
    apart-half x y a b free free' c writes =
        let spared : (d : Cell) → has_cell (cells_of p x a) d ≡ true → held_in p before d ≡ held_in p (after_task eq p b y before) d = λ d has. sym (after_task-other eq p b y before d (false_from_ne_true (has_cell (written_cells p y b) d) (λ over. free' d over has))) in
        let has = written-among_cells p x a c writes in
        after_task-other eq p b y (after_task eq p a x before) c (false_from_ne_true (has_cell (written_cells p y b) c) (λ over. free' c over has))
        ∙ after_task-same eq p x a a before (after_task eq p b y before) c (λ z h. refl) spared (spared c has)

    apart-neither : (c : Cell) → has_cell (written_cells p t w) c ≡ false → has_cell (written_cells p u v) c ≡ false → held_in p (after_task eq p v u (after_task eq p w t before)) c ≡ held_in p (after_task eq p w t (after_task eq p v u before)) c
    apart-neither c e f = after_task-other eq p v u (after_task eq p w t before) c f ∙ after_task-other eq p w t before c e ∙ sym (after_task-other eq p v u before c f) ∙ sym (after_task-other eq p w t (after_task eq p v u before) c e)

    -- the operands of an update that aren't its cell are found the same after another update of the cell
    ins-kept : (x y : Task) (x_in : x.0 < length p.tasks) (y_in : y.0 < length p.tasks) (a b : Worker) (a_in : a.0 < p.workers) (b_in : b.0 < p.workers) (d : Cell) (ux : Updates p x a d) (uy : Updates p y b d) →
        first_ins p x a d ux (held_in p (after_task eq p b y before)) ≡ first_ins p x a d ux (held_in p before)
    ins-kept x y x_in y_in a b a_in b_in d ux uy = map-agree (found p a (held_in p (after_task eq p b y before))) (found p a (held_in p before)) ux.before (λ z h. elim (cases_Bool (starts_as_zeros z.mode)) [
      | inl zeros ↦ rw zeros
      | inr e ↦ rw e (update-spares y y_in b b_in d uy before (worked_on p a z) (ux.others z h e))
    ])

    together : AreSized p before → (d : Cell) (x : Updates p t w d) (y : Updates p u v d) → Exchange eq x.kernel y.kernel → held_in p (after_task eq p v u (after_task eq p w t before)) d ≡ held_in p (after_task eq p w t (after_task eq p v u before)) d
    together sized d x y exchange =
        let long : (k : Task) → k.0 < length p.tasks → All (FitsSigned w64) (task_of p k).args = λ k k_in. All-get_or (λ l. All (FitsSigned w64) l.args) p.tasks k.0 no_task k_in lawful.arguments in
        let of_t : Array → Array = result_of eq x.kernel (task_of p t).args (first_ins p t w d x (held_in p before)) in
        let of_u : Array → Array = result_of eq y.kernel (task_of p u).args (first_ins p u v d y (held_in p before)) in
        updated u u_in v v_in d y (after_task eq p w t before)
        ∙ ap (λ (ins : List Array). result_of eq y.kernel (task_of p u).args ins (held_in p (after_task eq p w t before) d)) (ins-kept u t u_in t_in v w v_in w_in d y x)
        ∙ ap of_u (updated t t_in w w_in d x before)
        ∙ exchange (task_of p t).args (task_of p u).args (first_ins p t w d x (held_in p before)) (first_ins p u v d y (held_in p before)) (held_in p before d) (long t t_in) (long u u_in) (update-call t t_in w w_in d x before sized) (update-call u u_in v v_in d y before sized)
        ∙ ap of_t (sym (updated u u_in v v_in d y before))
        ∙ ap (λ (ins : List Array). result_of eq x.kernel (task_of p t).args ins (held_in p (after_task eq p v u before) d)) (sym (ins-kept t u t_in u_in w v w_in v_in d x y))
        ∙ sym (updated t t_in w w_in d x (after_task eq p v u before))

    -- tasks that may change places leave the same in either order
    pub swapped : AreSized p before → MaySwap t u w v → (c : Cell) → held_in p (after_task eq p v u (after_task eq p w t before)) c ≡ held_in p (after_task eq p w t (after_task eq p v u before)) c
    swapped sized (Apart free free') c = elim (cases_Bool (has_cell (written_cells p t w) c)) [
      | inl first ↦ apart-half t u w v free free' c first
      | inr e ↦ elim (cases_Bool (has_cell (written_cells p u v) c)) [
        | inl second ↦ sym (apart-half u t v w free' free c second)
        | inr f ↦ apart-neither c e f
      ]
    ]
    swapped sized (Together d x y exchange) c = elim (cases_Bool (same_cell d c)) [
      | inl e ↦ subst (λ (k : Cell). held_in p (after_task eq p v u (after_task eq p w t before)) k ≡ held_in p (after_task eq p w t (after_task eq p v u before)) k) (same_cell-is d c e) (together sized d x y exchange)
      | inr e ↦ apart-neither c (ap (λ (cs : List Cell). has_cell cs c) x.written ∙ ap (λ b. b || false) e) (ap (λ (cs : List Cell). has_cell cs c) y.written ∙ ap (λ b. b || false) e)
    ]

  -- ---- one task last

  module _ (chosen chosen' : Task → Bool) (by by' : Task → Worker) (t : Task) (w : Worker) (staffed : (u : Task) → (by u).0 < p.workers) (w_in : w.0 < p.workers) (adds : AddsTask chosen chosen' by by' t w) where
    -- a task that may change places with each later chosen one may be put last
    pub put-last : (n : ℕ) → t.0 < n → n ≤ length p.tasks → ((u : Task) → t.0 < u.0 → u.0 < n → chosen u ≡ true → MaySwap t u w (by u)) → (c : Cell) → held_in p (after_chosen eq p chosen' by' n) c ≡ held_in p (after_task eq p w t (after_chosen eq p chosen by n)) c
    put-last zero inside l may c = absurd (omega arith)
    put-last (suc n) inside l may c = elim (cases_lt t.0 n) [
      | inl before ↦ later before (put-last n before (omega arith) (λ u h k. may u h (omega arith)))
      | inr here ↦ own (let e : n ≡ t.0 = omega arith in e)
    ]
      where
        number : ℕ → Task
        number k = record { 0 = k }

        differ : (u : Task) → u.0 ≢ t.0 → u ≢ t
        differ u d e = d (ap (λ (k : Task). k.0) e)

        own : n ≡ t.0 → held_in p (after_chosen eq p chosen' by' (suc n)) c ≡ held_in p (after_task eq p w t (after_chosen eq p chosen by (suc n))) c
        own e =
            let before = after_chosen eq p chosen by n in
            let before' = after_chosen eq p chosen' by' n in
            let here : number n ≡ t = ap number e in
            let earlier : (u : Task) → u.0 < n → u ≢ t = λ u h. differ u (λ f. omega (arith, e, f, h)) in
            let below : before' ≡ before = after_chosen-same eq p chosen' chosen by' by n (λ u h. adds.others u (earlier u h)) (λ u h k. adds.workers u (earlier u h)) in
            ap (λ (k : Task). held_in p (cond (chosen' k) (after_task eq p (by' k) k before') before') c) here
            ∙ ap (λ b. held_in p (cond b (after_task eq p (by' t) t before') before') c) adds.present
            ∙ ap (λ (x : Worker). held_in p (after_task eq p x t before') c) adds.worker
            ∙ ap (λ (z : Contents). held_in p (after_task eq p w t z) c) below
            ∙ sym (ap (λ b. held_in p (after_task eq p w t (cond b (after_task eq p (by (number n)) (number n) before) before)) c) (ap chosen here ∙ adds.absent))

        later : t.0 < n → ((d : Cell) → held_in p (after_chosen eq p chosen' by' n) d ≡ held_in p (after_task eq p w t (after_chosen eq p chosen by n)) d) → held_in p (after_chosen eq p chosen' by' (suc n)) c ≡ held_in p (after_task eq p w t (after_chosen eq p chosen by (suc n))) c
        later before rest =
            let d : number n ≢ t = differ (number n) (λ f. omega (arith, f, before)) in
            ap (λ b. held_in p (cond b (after_task eq p (by' (number n)) (number n) (after_chosen eq p chosen' by' n)) (after_chosen eq p chosen' by' n)) c) (adds.others (number n) d)
            ∙ ap (λ (x : Worker). held_in p (cond (chosen (number n)) (after_task eq p x (number n) (after_chosen eq p chosen' by' n)) (after_chosen eq p chosen' by' n)) c) (adds.workers (number n) d)
            ∙ by_choice (chosen (number n)) refl
          where
            by_choice : (b : Bool) → chosen (number n) ≡ b → held_in p (cond b (after_task eq p (by (number n)) (number n) (after_chosen eq p chosen' by' n)) (after_chosen eq p chosen' by' n)) c ≡ held_in p (after_task eq p w t (cond b (after_task eq p (by (number n)) (number n) (after_chosen eq p chosen by n)) (after_chosen eq p chosen by n))) c
            by_choice false e = rest c
            by_choice true e =
                after_task-same eq p (number n) (by (number n)) (by (number n)) (after_chosen eq p chosen' by' n) (after_task eq p w t (after_chosen eq p chosen by n)) c (λ a h. refl) (λ k has. rest k) (rest c)
                ∙ swapped t (number n) (omega arith) (omega arith) w (by (number n)) w_in (staffed (number n)) (after_chosen eq p chosen by n) (after_chosen-sized eq has p proper lawful chosen by staffed n (omega arith)) (may (number n) before (omega arith) e) c
