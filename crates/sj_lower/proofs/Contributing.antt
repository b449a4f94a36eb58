-- A task that contributes: its child denotes afterwards what the task line leaves there.
use Rattle.sj_lower.proofs.Words.{[], Access, access_of, add_own, after_task, AllByRecursion, ap, arith, Array, Bool, bytes_eq, Cell, cell_info, cell_of, cells_from, child_array, child_dims, child_rect, clashes, Codelet, codelet_of, combined, cond, Contains, Contents, contributed_to, contributes_of, copy_at, copy_of, Dims, dims_of, each_of, false, found, Handle, has_child, has_child_values, HasValueBefore, held_in, integers_of, is_aliased, is_child, is_read_only, is_some, is_valued_child, IsPlace, IsReduction, IsSoundTask, IsWhole, JobState, Kernel, kernel_of, length, length-append, Line, List, list_all, list_any, Lowered, Lowering, Mode, needs_value, None, not, OpenPhase, Operand, operand, operand_array, Option, out, Parts, Program, put, put_all, rect_dims, Redux, refl, result_of, root_of, RootState, run_task, same_cell, same_child_place, seen_by, Some, subst, suc, sym, task, task_of, task_row, TaskLine, Tasks, true, with_child, worked_on, Worker, written_of, ℕ, ℤ, ◌&&◌, ◌++◌, ◌+◌, ◌<◌, ◌||◌, ◌∙◌, ◌∷◌, ◌≡◌, ◌≤◌}
use Rattle.std.specs.Prelude.{unwrap_or}
use Rattle.std.proofs.lemmas.{Bool.and_parts, Bool.false≢true, Bool.or_parts, List.map-append, Option.same_Some}
use Rattle.sj_codelet.proofs.{NewArrays.AreWhole, Table.codelet_of-kernel, Table.each_dims}
use Rattle.sj_core.proofs.{Sized.AreSized, Swapping.first_ins}
use Rattle.sj_base.proofs.{Bools.implied, Numbers.all_of, SameIds.same_cell-itself, SameIds.same_cell-unlike, Texts.same_text}
use Rattle.sj_plan.proofs.Repartitioning.{same_child_place-law, same_child_place-refl}
use Rattle.sj_lower.proofs.{Adding.added, Adding.all-sized, Adding.denotes-more, Adding.IsSized, Adding.law, Adding.others-kept, Adding.result-more, Adding.sized, Adding.SizedCopies, Adding.updates, Agreeing.puts-parts, Agreeing.reduction-is, Combined.all_workers, Combined.denoted-closed, Combined.denoted-open, Combined.IsTrusted, Combined.range-below, Combined.with_all, Contents.contents-next, Contents.contents_before, Contents.first_worker, Elements.written-array, Elements.written-other, Elements.written-valued, Elements.written-whole, Folding.later, Folding.Stand, Holding.cell-dims, Holding.differs, Holding.HasRoot, Holding.HaveRoots, Holding.held-kept, Holding.IsHeld, Holding.not_copy, Laid.bytes_eq-itself, Laid.cells-apart, Laid.IsTaken, Opening.IsChildOf, Opening.IsOpened, Operands.all-before, Operands.Contributes, Operands.IsRead, Operands.snoc-parts, Running.active_cell-is, Running.by_mode, Running.child_dims-are, Running.child_there, Running.child_values-are, Running.data_needs, Running.is_direct, Running.IsClosed, Running.kernel_there, Running.new_dims, Running.new_whole, Running.seen_there, Stating.Agrees, Stating.Begins, Stating.by_cell, Stating.IsActiveChild, Stating.stands-own}
use Rattle.sj_meaning.proofs.Finding.{root-change}

-- ---- what the task line leaves

module _ (has : Kernel → Bool) (S : JobState) (t : TaskLine (List ℕ)) (s : IsSoundTask has S t) (con : Contributes S t (kernel_there has S t s).call.kernel) where
  abbrev pub o : Operand (List ℕ)
  o = con.last

  abbrev pub kernel : Kernel
  kernel = (kernel_there has S t s).call.kernel

  abbrev pub outs : List Array
  outs = out t.codelet t.args (each_of (operand_array S) t.operands)

  -- the new array of the child
  abbrev pub news : Array
  news = operand outs 0

  one_dims : each_dims outs ≡ child_dims S o ∷ []
  one_dims = new_dims has S t s ∙ ap (each_of (child_dims S)) con.written

  pub news-dims : news.dims ≡ child_dims S o
  news-dims = first outs one_dims
    where
      first : (xs : List Array) → each_dims xs ≡ child_dims S o ∷ [] → (operand xs 0).dims ≡ child_dims S o
      first [] e = absurd (let n : 0 ≡ 1 = ap length e in omega arith)
      first (x ∷ xs) e = let f : x.dims ∷ each_dims xs ≡ child_dims S o ∷ [] = e in cc

  pub news-whole : IsWhole news
  news-whole = first outs (new_whole has S t s)
    where
      first : (xs : List Array) → AreWhole xs → IsWhole (operand xs 0)
      first [] h = refl
      first (x ∷ xs) h = h.0

  pub runs : run_task t S ≡ put o news S
  runs = ap (λ (os : List (Operand (List ℕ))). put_all os outs S) con.written ∙ first outs one_dims
    where
      first : (xs : List Array) → each_dims xs ≡ child_dims S o ∷ [] → put_all (o ∷ []) xs S ≡ put o (operand xs 0) S
      first [] e = absurd (let n : 0 ≡ 1 = ap length e in omega arith)
      first (x ∷ xs) e = refl

  -- it is what the codelet makes of what is contributed to
  pub news-is : news ≡ result_of out kernel t.args (each_of (operand_array S) con.before) (operand_array S o)
  news-is =
      ap (λ (id : Codelet). operand (out id t.args (each_of (operand_array S) t.operands)) 0) (codelet_of-kernel t.codelet kernel (kernel_there has S t s).call.is)
      ∙ ap (λ (os : List (Operand (List ℕ))). operand (out (codelet_of kernel) t.args (each_of (operand_array S) os)) 0) con.is
      ∙ ap (λ (xs : List Array). operand (out (codelet_of kernel) t.args xs) 0) (map-append (operand_array S) con.before (o ∷ []))

-- ---- what the lowered task finds

-- the child of an operand that isn't contributed to
read_direct : (u : Operand (List ℕ)) → IsRead u → is_direct u.mode ≡ true
read_direct u h = ap not h.0

-- ---- the task as a whole

module _ (has : Kernel → Bool) (p : Program) (L M : Lowering) (S : JobState) (g : Agrees p L S) (t : TaskLine (List ℕ)) (line : Line) (s : IsSoundTask has S t) (con : Contributes S t (kernel_there has S t s).call.kernel)
    (c : Cell) (root : RootState) (own : IsChildOf L.cells S con.last.name con.last.place c root) (op : IsOpened p L M c con.by (contributed_to root con.last.place)) (shut : AllByRecursion (IsClosed L.phase S L.cells) con.before)
    (begins : Begins p (add_own S (record { line = line; act = Tasks t }) M)) where
  abbrev u : Operand (List ℕ)
  u = con.last

  abbrev l : Lowered
  l = task_row S M.cells line t

  abbrev n : ℕ
  n = length M.tasks

  abbrev now : ℕ
  now = length (M.tasks ++ l ∷ [])

  abbrev k : Contents
  k = contents_before p (length L.tasks)

  abbrev mid : Contents
  mid = contents_before p n

  abbrev new : Contents
  new = contents_before p now

  longer : now ≡ n + 1
  longer = length-append M.tasks (l ∷ [])

  stand : Stand p n (l ∷ [])
  stand = stands-own p S (record { line = line; act = Tasks t }) M begins

  next : new ≡ after_task out p first_worker (task n) mid
  next = contents-next p n now longer

  b : HasRoot p L.cells L.phase (length L.tasks) k u.name root
  b = g.roots u.name root own.is_root

  -- cells of children, before and after
  moved : (q : List ℕ) (x : Parts) (place : ℕ × ℕ) → cell_of L.cells q x place ≡ cell_of M.cells q x place
  moved q x place = ap (λ (h : List ℕ → Option Handle). cells_from (elim (h q) [ None ↦ 0 | Some i ↦ unwrap_or (i.first x) 0 ]) x place) (sym op.handles)

  taken : (q : List ℕ) (d : Dims) (x : Parts) (f : ℕ) → IsTaken L.cells q d x f → IsTaken M.cells q d x f
  taken q d x f h = record { handle = h.handle; is = ap (λ i. i q) op.handles ∙ h.is; dims = h.dims; first = h.first }

  abbrev a : Access
  a = access_of S M.cells u

  cell-a : a.cell ≡ c
  cell-a = active_cell-is S M.cells u.name u.place root own.is_root ∙ sym (moved u.name root.parts u.place) ∙ sym own.cell

  accesses : (task_of p (task n)).accesses ≡ each_of (access_of S M.cells) con.before ++ a ∷ []
  accesses = ap (λ (x : Lowered). x.accesses) stand.0 ∙ ap (each_of (access_of S M.cells)) con.is ∙ map-append (access_of S M.cells) con.before (u ∷ [])

  among : Contains (task_of p (task n)).accesses a
  among = subst (λ (xs : List Access). Contains xs a) (sym accesses) (in-end (each_of (access_of S M.cells) con.before) a)
    where
      in-end : {X : Type 0} (xs : List X) (x : X) → Contains (xs ++ x ∷ []) x
      in-end [] x = (0, omega arith, refl)
      in-end (y ∷ xs) x = let r = in-end xs x in (suc r.0, omega (arith, r.1), r.2)

  partials : (cell_info p a.cell).partials ≡ Some op.f.copies
  partials = ap (λ (d : Cell). (cell_info p d).partials) cell-a ∙ begins.cells.kept c.0 op.f.copies (op.theirs.theirs c op.f op.is)

  codelet : kernel_of (task_of p (task n)).codelet ≡ Some (kernel_there has S t s).call.kernel
  codelet = ap (λ (x : Lowered). kernel_of x.codelet) stand.0 ∙ (kernel_there has S t s).call.is

  contributes : contributes_of (kernel_there has S t s).call.kernel op.f.by ≡ true
  contributes = ap (contributes_of (kernel_there has S t s).call.kernel) op.of ∙ con.contributes

  -- a child other than that of the contribution
  child_apart : (q : List ℕ) (r : RootState) (place : ℕ × ℕ) → root_of S q ≡ Some r → IsPlace r.parts place → ((q ≡ u.name) → (place ≡ u.place) → ⊥) → same_cell c (cell_of M.cells q r.parts place) ≡ false
  child_apart q r place e inside other =
      let h = g.roots q r e in
      differs c (cell_of M.cells q r.parts place) (λ same.
      let one = cells-apart L.cells u.name q root.dims r.dims root.parts r.parts b.first h.first u.place place g.laid b.taken h.taken own.placed inside (sym own.cell ∙ same ∙ sym (moved q r.parts place)) in
      other (sym one.0) (sym one.2))

  -- a child's cell is none of the partial copies
  child_beside : (q : List ℕ) (r : RootState) (place : ℕ × ℕ) → root_of S q ≡ Some r → IsPlace r.parts place → (e : Cell) (f : OpenPhase) → M.phase e ≡ Some f → (w : ℕ) → w < p.workers → same_cell (cell_of M.cells q r.parts place) (copy_at f.copies w) ≡ false
  child_beside q r place e inside d f is w below = not_copy p.workers M.cells M.phase q r.dims r.parts (g.roots q r e).first place d f w op.theirs (taken q r.dims r.parts (g.roots q r e).first (g.roots q r e).taken) inside is below

  turned : (x y : Cell) → same_cell x y ≡ false → same_cell y x ≡ false
  turned x y e = differs y x (λ same. false≢true (sym e ∙ ap (same_cell x) same ∙ same_cell-itself x))

  child_kept : IsTrusted p → (q : List ℕ) (r : RootState) (place : ℕ × ℕ) → root_of S q ≡ Some r → IsPlace r.parts place → ((q ≡ u.name) → (place ≡ u.place) → ⊥) → held_in p mid (cell_of M.cells q r.parts place) ≡ held_in p k (cell_of M.cells q r.parts place)
  child_kept trust q r place e inside other =
      op.kept (cell_of M.cells q r.parts place) (child_apart q r place e inside other) (λ w below. turned (cell_of M.cells q r.parts place) (copy_at op.f.copies w) (child_beside q r place e inside c op.f op.is w below))

  -- an operand that is only read
  one_read : IsTrusted p → (v : Operand (List ℕ)) → IsRead v → IsClosed L.phase S L.cells v → has_child S v ≡ true → (not (needs_value v.mode) || has_child_values S v) ≡ true → clashes v u ≡ false → found p first_worker (held_in p mid) (access_of S M.cells v) ≡ operand_array S v
  one_read trust v reads closed placed valued apart =
      let h = child_there S v placed in
      let r = g.roots v.name h.root h.is_root in
      let cell = active_cell-is S M.cells v.name v.place h.root h.is_root in
      let before = active_cell-is S L.cells v.name v.place h.root h.is_root in
      ap (λ (d : Cell). let z : Access = record { mode = v.mode; cell = d } in found p first_worker (held_in p mid) z) cell
      ∙ by_mode p mid v.mode (cell_of M.cells v.name h.root.parts v.place) h.root v.place (read_direct v reads)
      (cell-dims p M.cells v.name h.root.dims h.root.parts r.first v.place begins.cells op.laid (taken v.name h.root.dims h.root.parts r.first r.taken) h.placed)
      (λ needs.
      child_kept trust v.name h.root v.place h.is_root h.placed (λ en ep. false≢true (sym apart ∙ clash v.mode u.mode (bytes_eq v.name u.name) (same_child_place v.place u.place) con.redux (ap (bytes_eq v.name) (sym en) ∙ bytes_eq-itself v.name) (ap (same_child_place v.place) (sym ep) ∙ same_child_place-refl v.place)))
      ∙ ap (held_in p k) (sym (moved v.name h.root.parts v.place))
      ∙ sym (denoted-closed p L.phase k (cell_of L.cells v.name h.root.parts v.place) (ap L.phase (sym before) ∙ closed (data_needs v.mode needs)))
      ∙ (r.held v.place h.placed (sym (child_values-are S v h.root h.is_root) ∙ implied (needs_value v.mode) (has_child_values S v) valued needs)).value trust)
      ∙ sym (seen_there S v h.root h.is_root)
    where
      clash : (m j : Mode) (x y : Bool) → j ≡ Redux → x ≡ true → y ≡ true → (x && y && not (is_read_only m && is_read_only j)) ≡ true
      clash m j true true e ex ey = ap (λ z. not (is_read_only m && is_read_only z)) e ∙ ends (is_read_only m)
        where
          ends : (z : Bool) → not (z && false) ≡ true
          ends true = refl
          ends false = refl
      clash m j true false e ex ey = absurd (false≢true ey)
      clash m j false y e ex ey = absurd (false≢true ex)

  all_read : IsTrusted p → (vs : List (Operand (List ℕ))) → AllByRecursion IsRead vs → AllByRecursion (IsClosed L.phase S L.cells) vs → list_all (has_child S) vs ≡ true → list_all (λ v. not (needs_value v.mode) || has_child_values S v) vs ≡ true → AllByRecursion (λ v. clashes v u ≡ false) vs → each_of (found p first_worker (held_in p mid)) (each_of (access_of S M.cells) vs) ≡ each_of (operand_array S) vs
  all_read trust [] reads closed placed valued apart = refl
  all_read trust (v ∷ vs) reads closed placed valued apart =
      let x = and_parts (has_child S v) (list_all (has_child S) vs) placed in
      let y = and_parts (not (needs_value v.mode) || has_child_values S v) (list_all (λ v. not (needs_value v.mode) || has_child_values S v) vs) valued in
      ap (λ (z : Array). z ∷ each_of (found p first_worker (held_in p mid)) (each_of (access_of S M.cells) vs)) (one_read trust v reads.0 closed.0 x.0 y.0 apart.0)
      ∙ ap (λ (zs : List Array). operand_array S v ∷ zs) (all_read trust vs reads.1 closed.1 x.1 y.1 apart.1)

  -- ---- what it leaves

  no_alias : (vs : List (Operand (List ℕ))) → is_aliased (vs ++ u ∷ []) ≡ false → AllByRecursion (λ v. clashes v u ≡ false) vs
  no_alias [] e = tt
  no_alias (v ∷ vs) e =
      let x = or_parts (list_any (clashes v) (vs ++ u ∷ [])) (is_aliased (vs ++ u ∷ [])) e in
      (last_of (clashes v) vs x.0, no_alias vs x.1)
    where
      last_of : (f : Operand (List ℕ) → Bool) (vs : List (Operand (List ℕ))) → list_any f (vs ++ u ∷ []) ≡ false → f u ≡ false
      last_of f [] h = (or_parts (f u) false h).0
      last_of f (w ∷ vs) h = last_of f vs (or_parts (f w) (list_any f (vs ++ u ∷ [])) h).1

  inside : n < length p.tasks
  inside = stand.1

  seen : operand_array S u ≡ contributed_to root u.place
  seen = seen_there S u root own.is_root ∙ ap (λ (m : Mode). seen_by m root u.place) con.redux

  module _ (trust : IsTrusted p) where
    abbrev its_kernel : Kernel
    its_kernel = (kernel_there has S t s).call.kernel

    is_sized : AreSized p mid
    is_sized = sized p trust n inside a among con.redux op.f partials its_kernel codelet contributes

    its_law : IsReduction out op.f.by
    its_law = law p trust n inside a among con.redux op.f partials its_kernel codelet contributes

    abbrev size : Dims
    size = dims_of p a.cell

    copies_sized : SizedCopies p mid op.f size
    copies_sized w below =
        let q = copy_at op.f.copies w in
        let v : Worker = record { 0 = w } in
        let is : q ≡ copy_of p a.cell v = sym (ap (λ (o : Option Cell). elim o as (λ _. Cell) [ None ↦ a.cell | Some g ↦ record { 0 = g.0 + w } ]) partials) in
        let same = (trust.proper.cells.copies q a.cell v (record { has_copies = ap (λ (o : Option Cell). is_some o) partials; of_worker = below; is = is })).1 in
        record { tile = (is_sized q).tile; dims = (is_sized q).dims ∙ same }

    abbrev x : Array
    x = contributed_to root u.place

    own_sized : IsSized size (held_in p mid c)
    own_sized = record { tile = (is_sized c).tile; dims = (is_sized c).dims ∙ ap (dims_of p) (sym cell-a) }

    meant : with_all p mid op.f (all_workers p) (held_in p mid c) ≡ x
    meant = op.value trust its_law is_sized

    x-sized : IsSized size x
    x-sized = subst (IsSized size) meant (all-sized p mid op.f size (all_workers p) (held_in p mid c) copies_sized (range-below 0 p.workers p.workers (all_of p.workers)) own_sized)

    firsts : first_ins p (task n) first_worker (worked_on p first_worker a) (updates p trust n inside a among con.redux op.f partials its_kernel codelet contributes) (held_in p mid) ≡ each_of (operand_array S) con.before
    firsts =
        let up = updates p trust n inside a among con.redux op.f partials its_kernel codelet contributes in
        ap (each_of (found p first_worker (held_in p mid))) (snoc-parts up.before (each_of (access_of S M.cells) con.before) up.last a (sym up.accesses ∙ accesses)).0
        ∙ all_read trust con.before con.reads shut (all-before (has_child S) con.before u (ap (list_all (has_child S)) (sym con.is) ∙ s.placed)).0
        (all-before (λ v. not (needs_value v.mode) || has_child_values S v) con.before u (ap (list_all (λ v. not (needs_value v.mode) || has_child_values S v)) (sym con.is) ∙ s.valued)).0
        (no_alias con.before (ap is_aliased (sym con.is) ∙ s.apart))

    same_kernel : (updates p trust n inside a among con.redux op.f partials its_kernel codelet contributes).kernel ≡ its_kernel
    same_kernel =
        let up = updates p trust n inside a among con.redux op.f partials its_kernel codelet contributes in
        let e : Some up.kernel ≡ Some its_kernel = sym up.codelet ∙ codelet in
        cc

    -- a cell that is none of the copies holds what it held
    rest_kept : (d : Cell) → (d ≡ copy_at op.f.copies 0 → ⊥) → held_in p new d ≡ held_in p mid d
    rest_kept d other = ap (λ (z : Contents). held_in p z d) next ∙ others-kept p trust n inside a among con.redux op.f partials its_kernel codelet contributes d other

    own_not_copy : (w : ℕ) → w < p.workers → same_cell c (copy_at op.f.copies w) ≡ false
    own_not_copy w below = ap (λ (d : Cell). same_cell d (copy_at op.f.copies w)) (own.cell ∙ moved u.name root.parts u.place) ∙ child_beside u.name root u.place own.is_root own.placed c op.f op.is w below

    leaves : with_all p new op.f (all_workers p) (held_in p new c) ≡ news has S t s con
    leaves =
        let up = updates p trust n inside a among con.redux op.f partials its_kernel codelet contributes in
        ap (with_all p new op.f (all_workers p)) (rest_kept c (same_cell-unlike c (copy_at op.f.copies 0) (own_not_copy 0 trust.staffed)))
        ∙ ap (λ (z : Contents). with_all p z op.f (all_workers p) (held_in p mid c)) next
        ∙ denotes-more p trust n inside a among con.redux op.f partials its_kernel codelet contributes copies_sized (held_in p mid c) own_sized
        ∙ ap (combined out op.f.by (added p trust n inside a among con.redux op.f partials its_kernel codelet contributes)) meant
        ∙ sym (result-more p trust n inside a among con.redux op.f partials its_kernel codelet contributes x x-sized)
        ∙ ap (λ (j : Kernel). result_of out j (task_of p (task n)).args (first_ins p (task n) first_worker (worked_on p first_worker a) up (held_in p mid)) x) same_kernel
        ∙ ap (λ (z : Lowered). result_of out its_kernel z.args (first_ins p (task n) first_worker (worked_on p first_worker a) up (held_in p mid)) x) stand.0
        ∙ ap (λ (zs : List Array). result_of out its_kernel t.args zs x) firsts
        ∙ ap (result_of out its_kernel t.args (each_of (operand_array S) con.before)) (sym seen)
        ∙ sym (news-is has S t s con)

    -- another child, and the partial copies of its phase
    other_kept : (q : List ℕ) (r : RootState) (place : ℕ × ℕ) → root_of S q ≡ Some r → IsPlace r.parts place → ((q ≡ u.name) → (place ≡ u.place) → ⊥) → held_in p new (cell_of M.cells q r.parts place) ≡ held_in p k (cell_of M.cells q r.parts place)
    other_kept q r place e at other =
        rest_kept (cell_of M.cells q r.parts place) (same_cell-unlike (cell_of M.cells q r.parts place) (copy_at op.f.copies 0) (child_beside q r place e at c op.f op.is 0 trust.staffed))
        ∙ child_kept trust q r place e at other

    -- the copies of another cell's phase
    copies_kept : (d : Cell) (f : OpenPhase) → same_cell c d ≡ false → L.phase d ≡ Some f → (w : ℕ) → w < p.workers → held_in p new (copy_at f.copies w) ≡ held_in p k (copy_at f.copies w)
    copies_kept d f other is w below =
        let m_is : M.phase d ≡ Some f = op.others d other ∙ is in
        let of_d = op.theirs.theirs d f m_is in
        let of_c = op.theirs.theirs c op.f op.is in
        let apart : (v : ℕ) → v < p.workers → (copy_at f.copies w ≡ copy_at op.f.copies v) → ⊥ = λ v h same. same_cell-unlike c d other (sym (op.theirs.copies.apart d c f.copies op.f.copies w v of_d of_c below h (ap (λ (z : Cell). z.0) same))) in
        rest_kept (copy_at f.copies w) (apart 0 trust.staffed)
        ∙ op.kept (copy_at f.copies w) (ap (λ (z : Cell). same_cell z (copy_at f.copies w)) (own.cell ∙ moved u.name root.parts u.place) ∙ child_beside u.name root u.place own.is_root own.placed d f m_is w below)
        (λ v h. differs (copy_at op.f.copies v) (copy_at f.copies w) (λ same. apart v h (sym same)))

  -- ---- all roots

  more : length L.tasks ≤ now
  more = omega (arith, op.later, longer)

  abbrev new_root : RootState
  new_root = with_child u.place (news has S t s con) root

  sized_news : (news has S t s con).dims ≡ rect_dims (child_rect root u.place)
  sized_news = news-dims has S t s con ∙ child_dims-are S u root own.is_root

  own_held : IsHeld p M.phase now new c (news has S t s con)
  own_held = record {
    value = λ trust. denoted-open p M.phase new c op.f op.is ∙ leaves trust;
    given = later p n now c (omega (arith, longer)) op.given;
    copies = λ f e w below. subst (λ (h : OpenPhase). HasValueBefore p (task now) (copy_at h.copies w)) (same_Some op.f f (sym op.is ∙ e)) (later p n now (copy_at op.f.copies w) (omega (arith, longer)) (op.copies_given w below));
  }

  c-is : c ≡ cell_of M.cells u.name root.parts u.place
  c-is = own.cell ∙ moved u.name root.parts u.place

  -- a child that isn't the contribution's
  other_held : (q : List ℕ) (r : RootState) (place : ℕ × ℕ) → root_of S q ≡ Some r → IsPlace r.parts place → ((q ≡ u.name) → (place ≡ u.place) → ⊥) → is_valued_child r place ≡ true → IsHeld p M.phase now new (cell_of M.cells q r.parts place) (child_array r place)
  other_held q r place e at other v =
      held-kept p L.phase M.phase (length L.tasks) now k new (cell_of M.cells q r.parts place) (child_array r place) more (op.others (cell_of M.cells q r.parts place) (child_apart q r place e at other))
      (λ trust. other_kept trust q r place e at other) (λ trust f is w below. copies_kept trust (cell_of M.cells q r.parts place) f (child_apart q r place e at other) is w below)
      (subst (λ (d : Cell). IsHeld p L.phase (length L.tasks) k d (child_array r place)) (moved q r.parts place) ((g.roots q r e).held place at v))

  other_phase : (q : List ℕ) (r : RootState) (place : ℕ × ℕ) → root_of S q ≡ Some r → IsPlace r.parts place → ((q ≡ u.name) → (place ≡ u.place) → ⊥) → M.phase (cell_of M.cells q r.parts place) ≡ L.phase (cell_of L.cells q r.parts place)
  other_phase q r place e at other = op.others (cell_of M.cells q r.parts place) (child_apart q r place e at other) ∙ ap L.phase (sym (moved q r.parts place))

  unlike_place : (x y : ℕ × ℕ) → same_child_place x y ≡ false → y ≡ x → ⊥
  unlike_place x y e same = false≢true (sym e ∙ ap (same_child_place x) same ∙ same_child_place-refl x)

  stays : (place : ℕ × ℕ) → IsPlace root.parts place → same_child_place u.place place ≡ false → is_valued_child new_root place ≡ is_valued_child root place
  stays place at other = ap (λ es. is_child root.parts place && list_all (λ (e : Option ℤ). is_some e) es) (written-other root u.place place (news has S t s con) own.placed at (λ same. unlike_place u.place place other (sym same)))

  own_root : HasRoot p M.cells M.phase now new u.name new_root
  own_root = record {
    fits = b.fits;
    whole = written-whole root u.place (news has S t s con);
    first = b.first;
    taken = taken u.name root.dims root.parts b.first b.taken;
    held = λ place at v. by_place place at v (same_child_place u.place place) refl;
    blank = λ place at v. by_blank place at v (same_child_place u.place place) refl;
    reduced = λ place f at e. by_reduced place f at e (same_child_place u.place place) refl;
  }
    where
      by_place : (place : ℕ × ℕ) → IsPlace root.parts place → is_valued_child new_root place ≡ true → (x : Bool) → same_child_place u.place place ≡ x → IsHeld p M.phase now new (cell_of M.cells u.name root.parts place) (child_array new_root place)
      by_place place at v true e =
          subst (λ (y : ℕ × ℕ). IsHeld p M.phase now new (cell_of M.cells u.name root.parts y) (child_array new_root y)) (same_child_place-law u.place place e)
          (subst (λ (d : Cell). IsHeld p M.phase now new d (child_array new_root u.place)) c-is
          (subst (λ (z : Array). IsHeld p M.phase now new c z) (sym (written-array root u.place (news has S t s con) own.placed sized_news (news-whole has S t s con))) own_held))
      by_place place at v false e =
          subst (λ (z : Array). IsHeld p M.phase now new (cell_of M.cells u.name root.parts place) z)
          (ap (λ es. record { dims = rect_dims (child_rect root place); elements = integers_of es }) (sym (written-other root u.place place (news has S t s con) own.placed at (λ same. unlike_place u.place place e (sym same)))))
          (other_held u.name root place own.is_root at (λ en ep. unlike_place u.place place e ep) (sym (stays place at e) ∙ v))

      by_blank : (place : ℕ × ℕ) → IsPlace root.parts place → is_valued_child new_root place ≡ false → (x : Bool) → same_child_place u.place place ≡ x → M.phase (cell_of M.cells u.name root.parts place) ≡ None
      by_blank place at v true e = absurd (false≢true (sym v ∙ ap (is_valued_child new_root) (sym (same_child_place-law u.place place e)) ∙ written-valued root u.place (news has S t s con) own.placed))
      by_blank place at v false e = other_phase u.name root place own.is_root at (λ en ep. unlike_place u.place place e ep) ∙ b.blank place at (sym (stays place at e) ∙ v)

      by_reduced : (place : ℕ × ℕ) (f : OpenPhase) → IsPlace root.parts place → M.phase (cell_of M.cells u.name root.parts place) ≡ Some f → (x : Bool) → same_child_place u.place place ≡ x → root.reduction ≡ Some f.by
      by_reduced place f at is true e =
          let same : op.f ≡ f = same_Some op.f f (sym op.is ∙ ap M.phase (c-is ∙ ap (cell_of M.cells u.name root.parts) (same_child_place-law u.place place e)) ∙ is) in
          sym (reduction-is S u.name root own.is_root) ∙ con.reduction ∙ ap (λ y. Some y) (sym op.of) ∙ ap (λ (h : OpenPhase). Some h.by) same
      by_reduced place f at is false e = b.reduced place f at (sym (other_phase u.name root place own.is_root at (λ en ep. unlike_place u.place place e ep)) ∙ is)

  -- another name's root
  other_root : (q : List ℕ) (r : RootState) → root_of S q ≡ Some r → bytes_eq u.name q ≡ false → HasRoot p M.cells M.phase now new q r
  other_root q r e other =
      let h = g.roots q r e in
      let no = λ (en : q ≡ u.name). false≢true (sym other ∙ ap (bytes_eq u.name) en ∙ bytes_eq-itself u.name) in
      record {
        fits = h.fits;
        whole = h.whole;
        first = h.first;
        taken = taken q r.dims r.parts h.first h.taken;
        held = λ place at v. other_held q r place e at (λ en ep. no en) v;
        blank = λ place at v. other_phase q r place e at (λ en ep. no en) ∙ h.blank place at v;
        reduced = λ place f at is. h.reduced place f at (sym (other_phase q r place e at (λ en ep. no en)) ∙ is);
      }

  after_root : (q : List ℕ) → root_of (run_task t S) q ≡ cond (bytes_eq u.name q) (Some new_root) (root_of S q)
  after_root q = ap (λ (T : JobState). root_of T q) (runs has S t s con) ∙ root-change (with_child u.place (news has S t s con)) u.name S root q own.is_root

  all_roots : HaveRoots p M.cells M.phase now new (run_task t S)
  all_roots q r e = by_test (bytes_eq u.name q) refl (sym (after_root q) ∙ e)
    where
      by_test : (x : Bool) → bytes_eq u.name q ≡ x → cond x (Some new_root) (root_of S q) ≡ Some r → HasRoot p M.cells M.phase now new q r
      by_test true eb e = subst (λ (y : RootState). HasRoot p M.cells M.phase now new q y) (same_Some new_root r e) (subst (λ (y : List ℕ). HasRoot p M.cells M.phase now new y new_root) (same_text u.name q eb) own_root)
      by_test false eb e = other_root q r e eb

  all_opened : (d : Cell) (f : OpenPhase) → M.phase d ≡ Some f → IsActiveChild M.cells (run_task t S) d
  all_opened d f e = by_cell (λ d. M.phase d ≡ Some f → IsActiveChild M.cells (run_task t S) d) c d
      (λ h. record { name = u.name; root = new_root; is_root = after_root u.name ∙ ap (λ x. cond x (Some new_root) (root_of S u.name)) (bytes_eq-itself u.name); place = u.place; placed = own.placed; cell = c-is })
      (λ other h. elsewhere (op.others _ other) h) e
    where
      elsewhere : {d : Cell} → M.phase d ≡ L.phase d → M.phase d ≡ Some f → IsActiveChild M.cells (run_task t S) d
      elsewhere {d} same h =
          let child = g.opened d f (sym same ∙ h) in
          let kept = puts-parts (written_of t.operands) (outs has S t s con) S child.name child.root child.is_root in
          record {
            name = child.name;
            root = kept.0;
            is_root = kept.1;
            place = child.place;
            placed = subst (λ (y : Parts). IsPlace y child.place) (sym kept.2) child.placed;
            cell = child.cell ∙ moved child.name child.root.parts child.place ∙ ap (λ (y : Parts). cell_of M.cells child.name y child.place) (sym kept.2);
          }

  -- the task keeps the agreement
  pub agrees_contributed : Agrees p (add_own S (record { line = line; act = Tasks t }) M) (run_task t S)
  agrees_contributed = record { laid = op.laid; theirs = op.theirs; roots = all_roots; opened = all_opened }
