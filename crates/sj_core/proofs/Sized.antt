-- After any tasks of a proper program each cell holds a tile of its own dimensions.
use Rattle.sj_core.proofs.Words.{[], Access, after_chosen, after_task, All, ap, arith, Array, Bool, Cell, Codelet, codelet_of, cond, Contents, dims_of, Equations, false, filter, find, fits, FitsCodelet, FitsSigned, Formal, formals_of, found, get_or, held_in, if◌then◌else◌, is_known, is_output, is_written, IsCall, IsLawful, IsTile, IsTrue, Kernel, kernel_of, length, List, MakesTiles, map, MayHaveModes, Mode, mode_of, modes_writing_by, no_task, None, Option, outputs_among, Program, Proper, ReadFormal, refl, results, same_cell, ScratchFormal, Some, subst, suc, sym, Task, task_of, true, UpdateFormal, w64, worked_on, Worker, WriteFormal, written_cells, zero, zeros, zip, ℕ, ◌<◌, ◌∙◌, ◌∷◌, ◌≡◌, ◌≤◌}
use mathlib.Core.List.{map-map}
use Rattle.std.proofs.lemmas.{Bool.false≢true, List.length-map, List.Elements.All-get_or, List.Elements.All-head, List.Elements.All-map, List.Elements.All-tail}
use Rattle.sj_base.proofs.{Lists.cons_same, Lists.map-agree, SameIds.same_cell-is}
use Rattle.sj_codelet.proofs.{NewArrays.zeros-tile, Table.codelet_of-kernel, Table.each_dims}
use Rattle.sj_core.proofs.{Folding.held-append, Folding.held_over}

-- ---- which operands get new arrays

own-flags : (fs : List Formal) → map is_written (map mode_of fs) ≡ map is_output fs
own-flags [] = refl
own-flags (ReadFormal ∷ fs) = ap (λ bs. false ∷ bs) (own-flags fs)
own-flags (WriteFormal ∷ fs) = ap (λ bs. true ∷ bs) (own-flags fs)
own-flags (UpdateFormal ∷ fs) = ap (λ bs. true ∷ bs) (own-flags fs)
own-flags (ScratchFormal ∷ fs) = ap (λ bs. false ∷ bs) (own-flags fs)

writing-flags : (x : Mode) → is_written x ≡ true → (k : Kernel) → map is_written (modes_writing_by x k) ≡ map is_output (formals_of k)
writing-flags x written k = search (arith, map-map, map-agree, own-flags)

written-flags : (k : Kernel) (modes : List Mode) → MayHaveModes k modes → map is_written modes ≡ map is_output (formals_of k)
written-flags k modes x = search (arith, own-flags, writing-flags)

-- the outputs of a codelet stand where a task's operands are written
outputs-written : {X : Type 0} (g : Access → X) (fs : List Formal) (list : List Access) → map (λ a. is_written a.mode) list ≡ map is_output fs → outputs_among fs (map g list) ≡ map g (filter (λ a. is_written a.mode) list)
outputs-written g [] [] e = refl
outputs-written g [] (a ∷ list) e = absurd (let n : suc (length list) ≡ 0 = sym (ap suc (length-map list (λ (b : Access). is_written b.mode))) ∙ ap length e in omega arith)
outputs-written g (f ∷ fs) [] e = refl
outputs-written {X} g (f ∷ fs) (a ∷ list) e =
    let both = cons_same (is_written a.mode) (is_output f) (map (λ (b : Access). is_written b.mode) list) (map is_output fs) e in
    by_flag (is_written a.mode) (is_output f) both.0 (outputs-written g fs list both.1)
  where
    by_flag : (b c : Bool) → b ≡ c → outputs_among fs (map g list) ≡ map g (filter (λ x. is_written x.mode) list) → (if c then g a ∷ outputs_among fs (map g list) else outputs_among fs (map g list)) ≡ map g (cond b (a ∷ filter (λ x. is_written x.mode) list) (filter (λ x. is_written x.mode) list))
    by_flag b c e rest = search (arith, false≢true)

-- ---- sizes

-- the array is a tile as large as the cell
pub record Fills (p : Program) (c : Cell) (a : Array) : Type 0 where
  pub tile : IsTile a
  pub dims : a.dims ≡ dims_of p c

-- each cell holds such an array
abbrev pub AreSized : Program → Contents → Type 0
AreSized p contents = (c : Cell) → Fills p c (held_in p contents c)

pub zeros-fill : (p : Program) (c : Cell) → Fills p c (zeros (dims_of p c))
zeros-fill p c = record { tile = zeros-tile (dims_of p c); dims = refl }

-- the arrays of a list are tiles as large as these cells
held_over-sized : (p : Program) (cs : List Cell) (arrays : List Array) (c : Cell) (below : Array) → All IsTile arrays → each_dims arrays ≡ map (dims_of p) cs → Fills p c below → Fills p c (held_over (zip cs arrays) c below)
held_over-sized p [] arrays c below tiles dims h = h
held_over-sized p (d ∷ cs) [] c below tiles dims h = h
held_over-sized p (d ∷ cs) (a ∷ arrays) c below tiles dims h =
    let both = cons_same a.dims (dims_of p d) (each_dims arrays) (map (dims_of p) cs) dims in
    by_first (same_cell d c) refl (All-head IsTile a arrays tiles) both.0 (held_over-sized p cs arrays c below (All-tail IsTile a arrays tiles) both.1 h)
  where
    by_first : (b : Bool) → same_cell d c ≡ b → IsTile a → a.dims ≡ dims_of p d → Fills p c (held_over (zip cs arrays) c below) → Fills p c (elim (cond b (Some (d, a)) (find (λ (entry : Cell × Array). same_cell entry.0 c) (zip cs arrays))) as (λ _. Array) [ None ↦ below | Some entry ↦ entry.1 ])
    by_first b e tile dims rest = search (arith, tile, same_cell-is)

pub task-fits : (p : Program) → Proper p → (t : Task) → t.0 < length p.tasks → FitsCodelet p (task_of p t)
task-fits p proper t inside = All-get_or (FitsCodelet p) p.tasks t.0 no_task inside proper.codelets

-- the arrays of a task's operands, as it finds them
abbrev pub ins : Program → Task → Worker → (Cell → Array) → List Array
ins p t w held = map (found p w held) (task_of p t).accesses

module _ (p : Program) (proper : Proper p) where
  -- the cell that is worked on is as large as the operand's
  pub worked_on-dims : (w : Worker) → w.0 < p.workers → (a : Access) → dims_of p (worked_on p w a) ≡ dims_of p a.cell
  worked_on-dims w staffed a = search arith

  pub found-fills : (w : Worker) → w.0 < p.workers → (held : Cell → Array) → ((c : Cell) → Fills p c (held c)) → (a : Access) → Fills p a.cell (found p w held a)
  found-fills w staffed held sized a = search (arith, zeros-fill, worked_on-dims)

  module _ (t : Task) (inside : t.0 < length p.tasks) (w : Worker) (staffed : w.0 < p.workers) (held : Cell → Array) (sized : (c : Cell) → Fills p c (held c)) where
    ins-dims : each_dims (ins p t w held) ≡ map (λ a. dims_of p a.cell) (task_of p t).accesses
    ins-dims = map-map (λ (x : Array). x.dims) (found p w held) (task_of p t).accesses ∙ map-agree (λ a. (found p w held a).dims) (λ a. dims_of p a.cell) (task_of p t).accesses (λ a h. (found-fills w staffed held sized a).dims)

    -- the operands that a task finds are such as its codelet takes
    pub ins-fit : IsTrue (fits (task-fits p proper t inside).kernel (task_of p t).args (each_dims (ins p t w held)))
    ins-fit = ap (fits (task-fits p proper t inside).kernel (task_of p t).args) ins-dims ∙ (task-fits p proper t inside).operands

    pub ins-tiles : All IsTile (ins p t w held)
    ins-tiles = All-map IsTile (found p w held) (task_of p t).accesses (λ i d l. (found-fills w staffed held sized (get_or (task_of p t).accesses i d)).tile)

module _ (eq : Equations) (has : Kernel → Bool) (p : Program) (proper : Proper p) (lawful : IsLawful eq has p) where
  -- the set has the codelet of a task
  pub knows : (t : Task) → t.0 < length p.tasks → (k : Kernel) → kernel_of (task_of p t).codelet ≡ Some k → has k ≡ true
  knows t inside k e = sym (ap (λ (o : Option Kernel). elim o as (λ _. Bool) [ None ↦ Bool.false | Some kernel ↦ has kernel ]) e) ∙ All-get_or (λ l. IsTrue (is_known has l.codelet)) p.tasks t.0 no_task inside lawful.known

  -- and so it makes tiles
  pub task-makes_tiles : (t : Task) (inside : t.0 < length p.tasks) → MakesTiles eq (task-fits p proper t inside).kernel
  task-makes_tiles t inside = let fit = task-fits p proper t inside in lawful.making fit.kernel (knows t inside fit.kernel fit.codelet)

  module _ (t : Task) (inside : t.0 < length p.tasks) (w : Worker) (staffed : w.0 < p.workers) (held : Cell → Array) (sized : (c : Cell) → Fills p c (held c)) where
    made : results eq p t w held ≡ eq (codelet_of (task-fits p proper t inside).kernel) (task_of p t).args (ins p t w held)
    made = ap (λ (id : Codelet). eq id (task_of p t).args (ins p t w held)) (codelet_of-kernel (task_of p t).codelet (task-fits p proper t inside).kernel (task-fits p proper t inside).codelet)

    call : IsCall (task-fits p proper t inside).kernel (task_of p t).args (ins p t w held)
    call = record { fits = ins-fit p proper t inside w staffed held sized; tiles = ins-tiles p proper t inside w staffed held sized }

    -- the new arrays are tiles as large as the cells that the task writes
    results-tiles : All IsTile (results eq p t w held)
    results-tiles = subst (All IsTile) (sym made) ((task-makes_tiles t inside).tiles (task_of p t).args (ins p t w held) (All-get_or (λ l. All (FitsSigned w64) l.args) p.tasks t.0 no_task inside lawful.arguments) call)

    results-dims : each_dims (results eq p t w held) ≡ map (dims_of p) (written_cells p t w)
    results-dims =
        let l = task_of p t in
        ap each_dims made
        ∙ (task-makes_tiles t inside).dims l.args (ins p t w held) call
        ∙ ap (outputs_among (formals_of (task-fits p proper t inside).kernel)) (ins-dims p proper t inside w staffed held sized)
        ∙ outputs-written (λ a. dims_of p a.cell) (formals_of (task-fits p proper t inside).kernel) l.accesses (sym (map-map is_written (λ (a : Access). a.mode) l.accesses) ∙ written-flags (task-fits p proper t inside).kernel (map (λ (a : Access). a.mode) l.accesses) (task-fits p proper t inside).modes)
        ∙ map-agree (λ a. dims_of p a.cell) (λ a. dims_of p (worked_on p w a)) (filter (λ a. is_written a.mode) l.accesses) (λ a h. sym (worked_on-dims p proper w staffed a))
        ∙ sym (map-map (dims_of p) (worked_on p w) (filter (λ a. is_written a.mode) l.accesses))

  -- a task leaves cells sized
  pub after_task-sized : (t : Task) → t.0 < length p.tasks → (w : Worker) → w.0 < p.workers → (before : Contents) → AreSized p before → AreSized p (after_task eq p w t before)
  after_task-sized t inside w staffed before sized c =
      let held = held_in p before in
      subst (Fills p c) (sym (held-append p (zip (written_cells p t w) (results eq p t w held)) before c))
      (held_over-sized p (written_cells p t w) (results eq p t w held) c (held c) (results-tiles t inside w staffed held sized) (results-dims t inside w staffed held sized) (sized c))

  -- and so do any tasks
  pub after_chosen-sized : (chosen : Task → Bool) (by : Task → Worker) → ((u : Task) → (by u).0 < p.workers) → (n : ℕ) → n ≤ length p.tasks → AreSized p (after_chosen eq p chosen by n)
  after_chosen-sized chosen by staffed zero l c = zeros-fill p c
  after_chosen-sized chosen by staffed (suc n) l c = by_choice (chosen (record { 0 = n })) (λ d. after_chosen-sized chosen by staffed n (omega arith) d)
    where
      by_choice : (b : Bool) → AreSized p (after_chosen eq p chosen by n) → Fills p c (held_in p (if b then after_task eq p (by (record { 0 = n })) (record { 0 = n }) (after_chosen eq p chosen by n) else after_chosen eq p chosen by n) c)
      by_choice true sized = after_task-sized (record { 0 = n }) (omega arith) (by (record { 0 = n })) (staffed (record { 0 = n })) (after_chosen eq p chosen by n) sized c
      by_choice false sized = sized c
