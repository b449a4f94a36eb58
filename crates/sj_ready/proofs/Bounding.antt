-- How many cells and tasks the job of an application is lowered to: no more than the limits allow.
use Rattle.std.specs.FinMap as map
use Rattle.std.proofs.Common.{◌≡◌, ◌≤◌, ℕ, ◌+◌, ◌*◌, Bool, true, false, cond, Option, Some, None, List, [], ◌∷◌, ◌++◌, length, map as each_of, nat_eq, not, refl, sym, ap, subst, ◌∙◌, arith, bytes_eq}
use Rattle.std.specs.Prelude.{is_some, nat_lt, sum_by}
use Rattle.std.specs.List.{AllByRecursion, flat_map, fold, last_or, range_with_len}
use Rattle.std.specs.Cmp.Lexicographic.{nat_list_cmp_total, slice_cmp, texts_ties}
use Rattle.std.specs.Ordering.{nat_cmp}
use Rattle.std.proofs.lemmas.Bool.Decides.{nat_tests}
use Rattle.std.proofs.lemmas.List.{length-append, length-map}
use Rattle.std.proofs.lemmas.List.FromFn.{length-range_with_len}
use Rattle.std.proofs.lemmas.List.Sums.{count_by-le-length, length-filter, sum_by-append, sum_by-cons}
use Rattle.std.proofs.lemmas.Nat.{mul-le}
use Rattle.sj_base.specs.declared.ids.Cell.{Cell}
use Rattle.sj_base.specs.declared.ids.Line.{Line}
use Rattle.sj_base.specs.declared.tile.Dims.{Dims}
use Rattle.sj_base.specs.Array.{Array}
use Rattle.sj_base.specs.Mode.{is_redux}
use Rattle.sj_base.proofs.Lists.{each-append, each-weaker}
use Rattle.sj_codelet.specs.Kernel.{out}
use Rattle.sj_plan.specs.declared.parts.Parts.{Parts}
use Rattle.sj_plan.specs.Parts.{places}
use Rattle.sj_plan.specs.Rect.{child}
use Rattle.sj_plan.proofs.Lists.{each-flat_map, each-map, each-of, filter_gone}
use Rattle.sj_meaning.specs.declared.job.Init.{Init}
use Rattle.sj_meaning.specs.declared.job.Init.TheVariants.{Values, Fill, Nothing}
use Rattle.sj_meaning.specs.Act.{Act, Statement, Register, Plan, Redux, Task, Print, Invalidate, Unregister}
use Rattle.sj_meaning.specs.Meaning.{apply, operand_array, put, put_all, register, registered_root, with_child, written_of}
use Rattle.sj_meaning.specs.State.{RootState, JobState, root_of, start}
use Rattle.sj_meaning.specs.Statement.{Operand, Register as Registration}
use Rattle.sj_meaning.specs.Table.{undivided}
use Rattle.sj_lower.specs.declared.phase.OpenPhase.{OpenPhase}
use Rattle.sj_lower.specs.Cells.{Cells, Handle, cell_of, child_cell, take, take_by, taking_plan, with_handle, with_new_root}
use Rattle.sj_lower.specs.Limits.{above_at_end, cells_in, first_above, late_cells, late_limit, late_tasks, line_or, most, tasks_in}
use Rattle.sj_lower.specs.Lowering.{Lowering, active_cell, active_cells, add_own, all_closed, cells_after, closed, closed_by, load_rows, lower_from, lower_one, nothing, opened_for, parts_in, phase_turned, prepared, rows_added}
use Rattle.sj_lower.specs.Rows.{combine_rows, deliver_row, fill_row, load_row}
use Rattle.sj_lower.proofs.Places.{length-places}
use Rattle.sj_apps.specs.Application.{IsSized, statements_for}
use Rattle.sj_apps.specs.Generated.{IsSize, apart, aparts_in_row, below, beside, factors, first_line, gemm_act, gemms, gemms_at, gemms_in_row, matrix_act, name_C, name_D, numbered, others, part_count, paths_statements, product_statements, upto, walk_step, walk_steps, weights}
use Rattle.sj_apps.specs.declared.application.Application.{Application}
use Rattle.sj_apps.specs.declared.application.Problem.{Problem}
use Rattle.sj_apps.specs.declared.application.Problem.TheVariants.{Product, Paths}
use Rattle.sj_apps.proofs.Starting.{cut-from, root-registered}
use Rattle.sj_apps.proofs.WellFormed.{flat-length}

-- ---- acts that contribute to nothing and change no plan

-- the cells and the tasks that such an act gives at most, where no plan has more than q parts
abbrev cells_given : ℕ → Act (List ℕ) → ℕ
cells_given q (Register r) = q
cells_given q _ = 0

abbrev tasks_given : ℕ → Act (List ℕ) → ℕ
tasks_given q (Register r) = q
tasks_given q (Task t) = 1
tasks_given q (Print name) = q
tasks_given q _ = 0

abbrev IsPlainTask : Act (List ℕ) → Type 0
IsPlainTask (Task t) = AllByRecursion (λ (o : Operand (List ℕ)). is_redux o.mode ≡ false) t.operands
IsPlainTask _ = ⊥

abbrev IsOrdinary : ℕ → Act (List ℕ) → Type 0
IsOrdinary q (Register r) = r.parts.r * r.parts.c ≤ q
IsOrdinary q (Task t) = AllByRecursion (λ (o : Operand (List ℕ)). is_redux o.mode ≡ false) t.operands
IsOrdinary q (Print name) = Unit {0}
IsOrdinary q _ = ⊥

-- a plain task is an ordinary act that gives no cell and one task
record IsOneTask (q : ℕ) (a : Act (List ℕ)) : Type 0 where
  ordinary : IsOrdinary q a
  cells : cells_given q a ≡ 0
  tasks : tasks_given q a ≡ 1

plain-one : (q : ℕ) (a : Act (List ℕ)) → IsPlainTask a → IsOneTask q a
plain-one q (Task t) h = record { ordinary = h; cells = refl; tasks = refl }
plain-one q (Register r) h = absurd h
plain-one q (Plan name p) h = absurd h
plain-one q (Redux name by) h = absurd h
plain-one q (Print name) h = absurd h
plain-one q (Invalidate name) h = absurd h
plain-one q (Unregister name) h = absurd h

-- ---- plans

-- the root's plan has at most q parts
abbrev IsCutTo : ℕ → Option RootState → Type 0
IsCutTo q o = let p = elim o as (λ _. Parts) [ None ↦ undivided | Some r ↦ r.parts ] in p.r * p.c ≤ q

-- so has that of each name
abbrev AreCutTo : ℕ → JobState → Type 0
AreCutTo q S = (name : List ℕ) → IsCutTo q (root_of S name)

cut-start : (q : ℕ) → 1 ≤ q → AreCutTo q start
cut-start q some name = subst (IsCutTo q) (sym (map.get-empty (slice_cmp nat_cmp) name)) (omega (arith, some))

cut-put : (q : ℕ) (o : Operand (List ℕ)) (a : Array) (S : JobState) → AreCutTo q S → AreCutTo q (put o a S)
cut-put q o a S cut name = by_root (root_of S o.name) refl
  where
    with-root : Option RootState → JobState
    with-root x = elim x as (λ _. JobState) [
      | None ↦ S
      | Some r ↦ record { registered = S.registered; ended = S.ended; roots = map.insert S.roots o.name (with_child o.place a r) }
    ]

    by_test : (b : Bool) (r : RootState) → root_of S o.name ≡ Some r → IsCutTo q (cond b (Some (with_child o.place a r)) (root_of S name))
    by_test true r e = subst (IsCutTo q) e (cut o.name)
    by_test false r e = cut name

    by_root : (x : Option RootState) → root_of S o.name ≡ x → IsCutTo q (root_of (put o a S) name)
    by_root None e = subst (λ (T : JobState). IsCutTo q (root_of T name)) (sym (ap with-root e)) (cut name)
    by_root (Some r) e =
        let v = with_child o.place a r in
        subst (λ (T : JobState). IsCutTo q (root_of T name)) (sym (ap with-root e))
        (subst (IsCutTo q) (sym (map.get-insert nat_list_cmp_total S.roots o.name v name ∙ ap (λ b. cond b (Some v) (root_of S name)) (sym (texts_ties name o.name))))
        (by_test (bytes_eq name o.name) r e))

cut-put_all : (q : ℕ) (os : List (Operand (List ℕ))) (xs : List Array) (S : JobState) → AreCutTo q S → AreCutTo q (put_all os xs S)
cut-put_all q [] xs S cut = cut
cut-put_all q (o ∷ os) [] S cut = cut
cut-put_all q (o ∷ os) (x ∷ xs) S cut = cut-put_all q os xs (put o x S) (cut-put q o x S cut)

cut-registered : (q : ℕ) (r : Registration (List ℕ)) (S : JobState) → r.parts.r * r.parts.c ≤ q → AreCutTo q S → AreCutTo q (register r S)
cut-registered q r S h cut name = subst (IsCutTo q) (sym (root-registered r S name)) (by_test (bytes_eq name r.name))
  where
    by_test : (b : Bool) → IsCutTo q (cond b (Some (registered_root r)) (root_of S name))
    by_test true = h
    by_test false = cut name

cut-applied : (q : ℕ) (S : JobState) (a : Act (List ℕ)) → IsOrdinary q a → AreCutTo q S → AreCutTo q (apply a S)
cut-applied q S (Register r) h cut = cut-registered q r S h cut
cut-applied q S (Task t) h cut = cut-put_all q (written_of t.operands) (out t.codelet t.args (each_of (operand_array S) t.operands)) S cut
cut-applied q S (Print name) h cut = cut
cut-applied q S (Plan name p) h cut = absurd h
cut-applied q S (Redux name by) h cut = absurd h
cut-applied q S (Invalidate name) h cut = absurd h
cut-applied q S (Unregister name) h cut = absurd h

-- ---- cells

take-rows : (name : List ℕ) (p : Parts) (C : Cells) → length (take name p C).rows ≤ length C.rows + p.r * p.c
take-rows name p C = by_handle (C.handles name)
  where
    by_plan : (h : Handle) (b : Bool) → length (cond b C (record {
      rows = C.rows ++ each_of (child_cell h.root h.dims p) (places p);
      handles = with_handle name (taking_plan p (length C.rows) h) C.handles;
      roots = C.roots;
    })).rows ≤ length C.rows + p.r * p.c
    by_plan h true = omega arith
    by_plan h false = omega (arith, length-append C.rows (each_of (child_cell h.root h.dims p) (places p)), length-places (child_cell h.root h.dims p) p)

    by_handle : (o : Option Handle) → length (elim o as (λ _. Cells) [ None ↦ C | Some h ↦ take_by name p h C ]).rows ≤ length C.rows + p.r * p.c
    by_handle None = omega arith
    by_handle (Some h) = by_plan h (is_some (h.first p))

cells-few : (q : ℕ) (C : Cells) (a : Act (List ℕ)) → IsOrdinary q a → length (cells_after a C).rows ≤ length C.rows + cells_given q a
cells-few q C (Register r) h = omega (arith, h, take-rows r.name r.parts (with_new_root r.name r.dims C))
cells-few q C (Task t) h = omega arith
cells-few q C (Print name) h = omega arith
cells-few q C (Plan name p) h = absurd h
cells-few q C (Redux name by) h = absurd h
cells-few q C (Invalidate name) h = absurd h
cells-few q C (Unregister name) h = absurd h

-- ---- tasks

loads-few : (i : Init) (d : Dims) (p : Parts) (cell : ℕ × ℕ → Cell) (line : Line) → length (load_rows i d p cell line) ≤ p.r * p.c
loads-few (Values xs) d p cell line = omega (arith, length-places (λ place. load_row xs d (child d p place) (cell place) line) p)
loads-few (Fill a b) d p cell line = omega (arith, length-places (λ place. fill_row a b d (child d p place) (cell place) line) p)
loads-few Nothing d p cell line = omega arith

rows-few : (q : ℕ) (S : JobState) (C : Cells) (line : Line) (a : Act (List ℕ)) → IsOrdinary q a → AreCutTo q S → length (rows_added S C line a) ≤ tasks_given q a
rows-few q S C line (Register r) h cut = omega (arith, h, loads-few r.init r.dims r.parts (cell_of C r.name r.parts) line)
rows-few q S C line (Task t) h cut = omega arith
rows-few q S C line (Print name) h cut = omega (arith, cut name, length-places (λ place. deliver_row (active_cell S C name place) line) (parts_in S name))
rows-few q S C line (Plan name p) h cut = absurd h
rows-few q S C line (Redux name by) h cut = absurd h
rows-few q S C line (Invalidate name) h cut = absurd h
rows-few q S C line (Unregister name) h cut = absurd h

-- ---- no phase is open

abbrev NoneIsOpen : Lowering → Type 0
NoneIsOpen L = (c : Cell) → L.phase c ≡ None

module _ (workers : ℕ) where
  all_closed-stays : (cs : List Cell) (L : Lowering) → NoneIsOpen L → all_closed workers cs L ≡ L
  all_closed-stays [] L none = refl
  all_closed-stays (c ∷ cs) L none =
      ap (λ (o : Option OpenPhase). fold (closed workers) (elim o as (λ _. Lowering) [ None ↦ L | Some f ↦ phase_turned L.cells (combine_rows f c workers) c None L ]) cs) (none c)
      ∙ all_closed-stays cs L none

  prepared-stays : (q : ℕ) (S : JobState) (line : Line) (a : Act (List ℕ)) (L : Lowering) → IsOrdinary q a → NoneIsOpen L → prepared workers S (record { line = line; act = a }) L ≡ L
  prepared-stays q S line (Register r) L h none = refl
  prepared-stays q S line (Task t) L h none =
      let s : Statement (List ℕ) = record { line = line; act = Task t } in
      let cs = closed_by S L.cells s.act in
      ap (λ (os : List (Operand (List ℕ))). fold (opened_for workers S line) (all_closed workers cs L) os) (filter_gone (λ (o : Operand (List ℕ)). is_redux o.mode) t.operands h) ∙ all_closed-stays cs L none
  prepared-stays q S line (Print name) L h none = all_closed-stays (active_cells S L.cells name) L none
  prepared-stays q S line (Plan name p) L h none = absurd h
  prepared-stays q S line (Redux name by) L h none = absurd h
  prepared-stays q S line (Invalidate name) L h none = absurd h
  prepared-stays q S line (Unregister name) L h none = absurd h

  -- ---- one act more

  record Grows (q : ℕ) (a : Act (List ℕ)) (L M : Lowering) : Type 0 where
    none : NoneIsOpen M
    cells : cells_in M ≤ cells_in L + cells_given q a
    tasks : tasks_in M ≤ tasks_in L + tasks_given q a

  grows : (q : ℕ) (S : JobState) (line : Line) (a : Act (List ℕ)) (L : Lowering) → IsOrdinary q a → AreCutTo q S → NoneIsOpen L → Grows q a L (lower_one workers S (record { line = line; act = a }) L)
  grows q S line a L h cut none =
      let s : Statement (List ℕ) = record { line = line; act = a } in
      let C = cells_after a L.cells in
      subst (Grows q a L) (sym (ap (add_own S s) (prepared-stays q S line a L h none))) (record {
        none = none;
        cells = cells-few q L.cells a h;
        tasks = omega (arith, length-append L.tasks (rows_added S C line a), rows-few q S C line a h cut);
      })

  -- ---- all acts

  not-above : (n : ℕ) → n ≤ 262144 → nat_lt most n ≡ false
  not-above n h = grind (arith, nat_tests)

  record AreFew (S : JobState) (L : Lowering) (ss : List (Statement (List ℕ))) : Type 0 where
    cells : first_above workers cells_in S L ss ≡ None
    tasks : first_above workers tasks_in S L ss ≡ None
    none : NoneIsOpen (lower_from workers S L ss)
    all_tasks : tasks_in (lower_from workers S L ss) ≤ 262144

  walk : (q : ℕ) (acts : List (Act (List ℕ))) (line : ℕ) (S : JobState) (L : Lowering) → AllByRecursion (IsOrdinary q) acts → AreCutTo q S → NoneIsOpen L → cells_in L + sum_by (cells_given q) acts ≤ 262144 → tasks_in L + sum_by (tasks_given q) acts ≤ 262144 → AreFew S L (numbered line acts)
  walk q [] line S L ordinary cut none cells tasks = record { cells = refl; tasks = refl; none = none; all_tasks = omega (arith, tasks) }
  walk q (a ∷ acts) line S L ordinary cut none cells tasks =
      let s : Statement (List ℕ) = record { line = record { 0 = line }; act = a } in
      let M = lower_one workers S s L in
      let one = grows q S s.line a L ordinary.0 cut none in
      let more_cells = sum_by-cons (cells_given q) a acts in
      let more_tasks = sum_by-cons (tasks_given q) a acts in
      let rest = walk q acts (line + 1) (apply a S) M ordinary.1 (cut-applied q S a ordinary.0 cut) one.none (omega (arith, cells, one.cells, more_cells)) (omega (arith, tasks, one.tasks, more_tasks)) in
      let further = numbered (line + 1) acts in
      record {
        cells = ap (λ b. cond b (Some s.line) (first_above workers cells_in (apply a S) M further)) (not-above (cells_in M) (omega (arith, cells, one.cells, more_cells))) ∙ rest.cells;
        tasks = ap (λ b. cond b (Some s.line) (first_above workers tasks_in (apply a S) M further)) (not-above (tasks_in M) (omega (arith, tasks, one.tasks, more_tasks))) ∙ rest.tasks;
        none = rest.none;
        all_tasks = rest.all_tasks;
      }

  within : (q : ℕ) (acts : List (Act (List ℕ))) (line : ℕ) → 1 ≤ q → AllByRecursion (IsOrdinary q) acts → sum_by (cells_given q) acts ≤ 262144 → sum_by (tasks_given q) acts ≤ 262144 → late_limit workers (numbered line acts) ≡ None
  within q acts line some ordinary cells tasks =
      let ss = numbered line acts in
      let few = walk q acts line start nothing ordinary (cut-start q some) (λ c. refl) (omega (arith, cells)) (omega (arith, tasks)) in
      let end = lower_from workers start nothing ss in
      let cs : List Cell = each_of (λ n. record { 0 = n }) (range_with_len 0 (length end.cells.rows)) in
      let over : above_at_end workers ss ≡ None = ap (λ b. cond b (last_or None (each_of (λ (s : Statement (List ℕ)). s.line) ss)) None) (ap (λ (M : Lowering). nat_lt most (tasks_in M)) (all_closed-stays cs end few.none) ∙ not-above (tasks_in end) few.all_tasks) in
      λ i. late_cells (few.cells i) (late_tasks (line_or (few.tasks i) (over i)))

-- ---- plain tasks

no-cells : (q : ℕ) (acts : List (Act (List ℕ))) → AllByRecursion IsPlainTask acts → sum_by (cells_given q) acts ≡ 0
no-cells q [] h = refl
no-cells q (a ∷ acts) h = omega (arith, sum_by-cons (cells_given q) a acts, (plain-one q a h.0).cells, no-cells q acts h.1)

one-each : (q : ℕ) (acts : List (Act (List ℕ))) → AllByRecursion IsPlainTask acts → sum_by (tasks_given q) acts ≡ length acts
one-each q [] h = refl
one-each q (a ∷ acts) h = omega (arith, sum_by-cons (tasks_given q) a acts, (plain-one q a h.0).tasks, one-each q acts h.1)

gemms-plain : (p : ℕ) → AllByRecursion IsPlainTask (gemms p)
gemms-plain p =
    each-flat_map IsPlainTask (gemms_in_row p) (upto p) (each-of (λ i. AllByRecursion IsPlainTask (gemms_in_row p i)) (λ i.
    each-flat_map IsPlainTask (gemms_at p i) (upto p) (each-of (λ j. AllByRecursion IsPlainTask (gemms_at p i j)) (λ j.
    each-map IsPlainTask (gemm_act i j) (upto p) (each-of (λ k. IsPlainTask (gemm_act i j k)) (λ k. (refl, (refl, (refl, tt)))) (upto p))) (upto p))) (upto p))

walks-plain : (p : ℕ) → AllByRecursion IsPlainTask (walk_steps p)
walks-plain p =
    each-flat_map IsPlainTask (walk_step p) (upto p) (each-of (λ k. AllByRecursion IsPlainTask (walk_step p k)) (λ k.
    let os = others p k in (
      (refl, tt),
      each-append IsPlainTask (each_of (beside k) os) (each_of (below k) os ++ flat_map (aparts_in_row p k) os)
          (each-map IsPlainTask (beside k) os (each-of (λ j. IsPlainTask (beside k j)) (λ j. (refl, (refl, tt))) os))
          (each-append IsPlainTask (each_of (below k) os) (flat_map (aparts_in_row p k) os)
          (each-map IsPlainTask (below k) os (each-of (λ i. IsPlainTask (below k i)) (λ i. (refl, (refl, tt))) os))
          (each-flat_map IsPlainTask (aparts_in_row p k) os (each-of (λ i. AllByRecursion IsPlainTask (aparts_in_row p k i)) (λ i.
          each-map IsPlainTask (apart k i) os (each-of (λ j. IsPlainTask (apart k i j)) (λ j. (refl, (refl, (refl, tt)))) os)) os))),
    )) (upto p))

-- ---- the applications

-- registrations, plain tasks and a print statement
framed : (workers q line : ℕ) (before tasks : List (Act (List ℕ))) (name : List ℕ) → 1 ≤ q → AllByRecursion (IsOrdinary q) before → AllByRecursion IsPlainTask tasks → sum_by (cells_given q) before ≤ 262144 → sum_by (tasks_given q) before + (length tasks + q) ≤ 262144
    → late_limit workers (numbered line (before ++ (tasks ++ Print name ∷ []))) ≡ None
framed workers q line before tasks name some ordinary plain cells few =
    let last : List (Act (List ℕ)) = Print name ∷ [] in
    within workers q (before ++ (tasks ++ last)) line some
    (each-append (IsOrdinary q) before (tasks ++ last) ordinary (each-append (IsOrdinary q) tasks last (each-weaker IsPlainTask (IsOrdinary q) (λ a h. (plain-one q a h).ordinary) tasks plain) (tt, tt)))
    (omega (arith, cells, sum_by-append (cells_given q) before (tasks ++ last), sum_by-append (cells_given q) tasks last, no-cells q tasks plain))
    (omega (arith, few, sum_by-append (tasks_given q) before (tasks ++ last), sum_by-append (tasks_given q) tasks last, one-each q tasks plain))

product-within : (workers n tile seed : ℕ) → IsSize n tile seed → late_limit workers (product_statements n tile seed) ≡ None
product-within workers n tile seed size =
    let p = part_count n tile in
    let h = cut-from n tile seed size in
    let few = mul-le p p 48 48 h.few h.few in
    let all = length-range_with_len 0 p in
    let inner : (i j : ℕ) → length (gemms_at p i j) ≤ 48 = λ i j. omega (arith, length-map (upto p) (gemm_act i j), all, h.few) in
    let row : (i : ℕ) → length (gemms_in_row p i) ≤ 2304 = λ i. omega (arith, flat-length (gemms_at p i) 48 (inner i) (upto p), all, h.few) in
    framed workers (p * p) first_line (factors n p seed) (gemms p) name_C (omega (arith, mul-le 1 1 p p h.parts h.parts)) (omega arith, (omega arith, (omega arith, tt))) (gemms-plain p)
    (omega (arith, few)) (omega (arith, few, flat-length (gemms_in_row p) 2304 row (upto p), all, h.few))

paths-within : (workers n tile seed : ℕ) → IsSize n tile seed → late_limit workers (paths_statements n tile seed) ≡ None
paths-within workers n tile seed size =
    let p = part_count n tile in
    let h = cut-from n tile seed size in
    let few = mul-le p p 48 48 h.few h.few in
    let all = length-range_with_len 0 p in
    let os : (k : ℕ) → length (others p k) ≤ 48 = λ k. omega (arith, length-filter (λ j. not (nat_eq j k)) (upto p), count_by-le-length (λ j. not (nat_eq j k)) (upto p), all, h.few) in
    let row : (k i : ℕ) → length (aparts_in_row p k i) ≤ 48 = λ k i. omega (arith, length-map (others p k) (apart k i), os k) in
    let step : (k : ℕ) → length (walk_step p k) ≤ 2401 = λ k.
    omega (arith, length-append (each_of (beside k) (others p k)) (each_of (below k) (others p k) ++ flat_map (aparts_in_row p k) (others p k)), length-append (each_of (below k) (others p k)) (flat_map (aparts_in_row p k) (others p k)), length-map (others p k) (beside k), length-map (others p k) (below k), flat-length (aparts_in_row p k) 48 (row k) (others p k), os k) in
    framed workers (p * p) first_line (matrix_act name_D n p (Values (weights n seed)) ∷ []) (walk_steps p) name_D (omega (arith, mul-le 1 1 p p h.parts h.parts)) (omega arith, tt) (walks-plain p)
    (omega (arith, few)) (omega (arith, few, flat-length (walk_step p) 2401 step (upto p), all, h.few))

pub application-within : (a : Application) (workers : ℕ) → IsSized a → late_limit workers (statements_for a) ≡ None
application-within a workers size = by_problem a.problem
  where
    by_problem : (x : Problem) → late_limit workers (statements_for (record a { problem = x })) ≡ None
    by_problem Product = product-within workers a.n a.tile a.seed size
    by_problem Paths = paths-within workers a.n a.tile a.seed size
