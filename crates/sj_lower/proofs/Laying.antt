-- The code's layout is that of the definition, after a root takes a plan or a cell gets its partial copies.
use Rattle.sj_lower.proofs.Words.{a_root, act_seen, ap, AreDistinct, arith, Bool, bytes_eq, Cell, CellInfo, Cells, cells_after, child, child_cell, children_after, children_count, children_of, cond, copy_info, Dims, each_of, false, first_after, first_cell, first_partial, get, get_or, handle_in, info_at, info_of, Init, is_some, Layout, Lays, length, length-append, List, most, name_of, nat_eq, next_handle, no_cell, None, Option, Parts, places, plan_taken, rect_cell, refl, Root, RootInfo, same_parts, same_taken, set, Some, subst, sym, Table, take, Taken, taking_plan, true, unwrap_or, with_copies, with_first, with_handle, with_new_root, with_partials, ℕ, ◌&&◌, ◌*◌, ◌++◌, ◌+◌, ◌<◌, ◌∙◌, ◌≡◌, ◌≤◌}
use Rattle.std.specs.Prelude.{replicate}
use Rattle.std.proofs.lemmas.{Bool.and_from, Bool.and_parts, Bool.false≢true, Bool.ne_eqb, List.set-append_left, Option.same_Some, Simd.map-map}
use Rattle.sj_base.proofs.{Bools.nat_eq-itself, Texts.same_text}
use Rattle.sj_meaning.specs.declared.job.Act.TheVariants as kept
use Rattle.sj_lower.proofs.{Copies.by_copies, Copies.copied-length, Copies.first-new, Laid.bytes_eq-itself, Laid.none_isn't, Laid.take-by, Places.length-places, Places.parts-are}

-- a plan that is new
news : (T : Table) (l : Layout) (C : Cells) (r : Root) (p : Parts) → Lays T l C → r.0 < C.roots → get same_taken l.firsts (plan_taken r.0 p) ≡ None → take (name_of T r) p C ≡ record {
  rows = C.rows ++ each_of (child_cell r (info_of T r).dims p) (places p);
  handles = with_handle (name_of T r) (taking_plan p (length C.rows) (handle_in T l r.0)) C.handles;
  roots = C.roots;
}
news T l C r p s inside none =
    let name = name_of T r in
    let h = handle_in T l r.0 in
    take-by C name p h (s.handles r.0 inside) ∙ ap (λ (o : Option ℕ). cond (is_some o) C (record {
      rows = C.rows ++ each_of (child_cell h.root h.dims p) (places p);
      handles = with_handle name (taking_plan p (length C.rows) h) C.handles;
      roots = C.roots;
    })) none

pub lays_new : (T : Table) (old new : Layout) (C : Cells) (r : Root) (d : Dims) (p : Parts) (first : ℕ) → Lays T old C → r.0 < C.roots → AreDistinct T.names → C.roots ≤ length T.names → (info_of T r).dims ≡ d → get same_taken old.firsts (plan_taken r.0 p) ≡ None
    → new.infos.items ≡ old.infos.items ++ each_of (rect_cell r) (children_of d p) → ((q : Taken) → get same_taken new.firsts q ≡ cond (same_taken (plan_taken r.0 p) q) (Some first) (get same_taken old.firsts q)) → new.roots ≡ old.roots → first ≡ length old.infos.items
    → Lays T new (take (name_of T r) p C) × (first_cell (take (name_of T r) p C) (name_of T r) p ≡ first) × (first + children_count p ≤ length (take (name_of T r) p C).rows)
lays_new T old new C r d p first s inside distinct few dims none rows firsts roots number =
    let whole = news T old C r p s inside none in
    let one = number ∙ ap length s.rows in (
      subst (Lays T new) (sym whole) (record {
        rows = rows ∙ (λ i. s.rows i ++ each_of (rect_cell r) (children_of (sym dims i) p)) ∙ ap (λ is. C.rows ++ is) (map-map (rect_cell r) (child (info_of T r).dims p) (places p));
        roots = roots ∙ s.roots;
        handles = λ m lt. by_name m lt (bytes_eq (name_of T r) (name_of T (a_root m))) refl;
        room = λ m q f e. room_by m q f (same_taken (plan_taken r.0 p) (plan_taken m q)) refl (sym (firsts (plan_taken m q)) ∙ e);
        fresh = λ m q past. sym (there m (λ same. omega (arith, same, past, inside)) q) ∙ s.fresh m q past;
      }),
      ap (λ (D : Cells). first_cell D (name_of T r) p) whole
          ∙ ap (λ b. elim (cond b (Some (taking_plan p (length C.rows) (handle_in T old r.0))) (C.handles (name_of T r))) as (λ _. ℕ) [ None ↦ 0 | Some h ↦ unwrap_or (h.first p) 0 ]) (bytes_eq-itself (name_of T r))
          ∙ ap (λ b. unwrap_or (cond b (Some (length C.rows)) (get same_taken old.firsts (plan_taken r.0 p))) 0) (and_from (nat_eq p.r p.r) (nat_eq p.c p.c) (nat_eq-itself p.r) (nat_eq-itself p.c))
          ∙ sym one,
      subst (λ (D : Cells). first + children_count p ≤ length D.rows) (sym whole) (omega (arith, one, longer)),
    )
  where
    longer : length (C.rows ++ each_of (child_cell r (info_of T r).dims p) (places p)) ≡ length C.rows + children_count p
    longer = length-append C.rows (each_of (child_cell r (info_of T r).dims p) (places p)) ∙ ap (λ n. length C.rows + n) (length-places (child_cell r (info_of T r).dims p) p)

    room_by : (m : ℕ) (q : Parts) (f : ℕ) (b : Bool) → same_taken (plan_taken r.0 p) (plan_taken m q) ≡ b → cond b (Some first) (get same_taken old.firsts (plan_taken m q)) ≡ Some f → f + children_count q ≤ length (C.rows ++ each_of (child_cell r (info_of T r).dims p) (places p))
    room_by m q f true t e =
        let plan : p ≡ q = parts-are p q (and_parts (nat_eq r.0 m) (same_parts p q) t).1 in
        let is : first ≡ f = same_Some first f e in
        subst (λ (x : Parts). f + children_count x ≤ length (C.rows ++ each_of (child_cell r (info_of T r).dims p) (places p))) plan (omega (arith, is, number, ap length s.rows, longer))
    room_by m q f false t e = omega (arith, s.room m q f e, longer)

    here : (q : Parts) → with_first p (length C.rows) (handle_in T old r.0).first q ≡ get same_taken new.firsts (plan_taken r.0 q)
    here q =
        ap (λ n. cond (same_parts p q) (Some n) (get same_taken old.firsts (plan_taken r.0 q))) (sym (number ∙ ap length s.rows))
        ∙ ap (λ b. cond (b && same_parts p q) (Some first) (get same_taken old.firsts (plan_taken r.0 q))) (sym (nat_eq-itself r.0)) ∙ sym (firsts (plan_taken r.0 q))

    there : (m : ℕ) → (r.0 ≡ m → ⊥) → (q : Parts) → get same_taken old.firsts (plan_taken m q) ≡ get same_taken new.firsts (plan_taken m q)
    there m other q = ap (λ b. cond (b && same_parts p q) (Some first) (get same_taken old.firsts (plan_taken m q))) (sym (ne_eqb r.0 m other)) ∙ sym (firsts (plan_taken m q))

    by_name : (m : ℕ) → m < C.roots → (b : Bool) → bytes_eq (name_of T r) (name_of T (a_root m)) ≡ b
        → cond b (Some (taking_plan p (length C.rows) (handle_in T old r.0))) (C.handles (name_of T (a_root m))) ≡ Some (handle_in T new m)
    by_name m lt true e =
        let same : r.0 ≡ m = distinct r.0 m (omega (arith, inside, few)) (omega (arith, lt, few)) (same_text (name_of T r) (name_of T (a_root m)) e) in
        (λ i. Some (record { root = r; dims = (info_of T r).dims; first = λ q. here q i })) ∙ ap (λ n. Some (handle_in T new n)) same
    by_name m lt false e =
        let other : r.0 ≡ m → ⊥ = λ same. false≢true (sym e ∙ ap (λ n. bytes_eq (name_of T r) (name_of T (a_root n))) (sym same) ∙ bytes_eq-itself (name_of T r)) in
        s.handles m lt ∙ (λ i. Some (record { root = a_root m; dims = (info_of T (a_root m)).dims; first = λ q. there m other q i }))

-- too many cells
pub lays_full : (T : Table) (l : Layout) (C : Cells) (r : Root) (p : Parts) → Lays T l C → r.0 < C.roots → get same_taken l.firsts (plan_taken r.0 p) ≡ None → most < length l.infos.items + p.r * p.c → most < length (take (name_of T r) p C).rows
lays_full T l C r p s inside none above =
    let e = ap (λ (D : Cells). length D.rows) (news T l C r p s inside none) in
    let longer = length-append C.rows (each_of (child_cell r (info_of T r).dims p) (places p)) in
    omega (arith, e, longer, length-places (child_cell r (info_of T r).dims p) p, ap length s.rows, above)

-- a root more, before it has taken a plan
pub lays_root : (T : Table) (old new : Layout) (C : Cells) → Lays T old C → AreDistinct T.names → C.roots < length T.names → new.infos.items ≡ old.infos.items → new.firsts ≡ old.firsts → new.roots ≡ old.roots + 1
    → Lays T new (with_new_root (name_of T (a_root C.roots)) (info_of T (a_root C.roots)).dims C)
lays_root T old new C s distinct few rows firsts roots = record {
  rows = rows ∙ s.rows;
  roots = roots ∙ ap (λ n. n + 1) s.roots;
  handles = λ m lt. by_name m lt (bytes_eq (name_of T (a_root C.roots)) (name_of T (a_root m))) refl;
  room = λ m q f e. s.room m q f (ap (λ x. get same_taken x (plan_taken m q)) (sym firsts) ∙ e);
  fresh = λ m q past. ap (λ f. get same_taken f (plan_taken m q)) firsts ∙ s.fresh m q (omega (arith, past));
}
  where
    by_name : (m : ℕ) → m < C.roots + 1 → (b : Bool) → bytes_eq (name_of T (a_root C.roots)) (name_of T (a_root m)) ≡ b
        → cond b (Some (next_handle (info_of T (a_root C.roots)).dims C)) (C.handles (name_of T (a_root m))) ≡ Some (handle_in T new m)
    by_name m lt true e =
        let same : C.roots ≡ m = distinct C.roots m few (omega (arith, lt, few)) (same_text (name_of T (a_root C.roots)) (name_of T (a_root m)) e) in
        (λ i. Some (record { root = a_root C.roots; dims = (info_of T (a_root C.roots)).dims; first = λ q. sym (s.fresh C.roots q (omega arith)) i })) ∙ (λ i. Some (record { root = a_root (same i); dims = (info_of T (a_root (same i))).dims; first = λ q. get same_taken (sym firsts i) (plan_taken (same i) q) }))
    by_name m lt false e =
        let other : m ≡ C.roots → ⊥ = λ same. false≢true (sym e ∙ ap (λ n. bytes_eq (name_of T (a_root C.roots)) (name_of T (a_root n))) same ∙ bytes_eq-itself (name_of T (a_root C.roots))) in
        s.handles m (below other lt) ∙ (λ i. Some (record { root = a_root m; dims = (info_of T (a_root m)).dims; first = λ q. get same_taken (sym firsts i) (plan_taken m q) }))
      where
        below : (m ≡ C.roots → ⊥) → m < C.roots + 1 → m < C.roots
        below other lt = omega (arith, other, lt)

-- ---- a registration

abbrev pub one_root_more : Layout → Layout
one_root_more l = record { infos = l.infos; firsts = l.firsts; roots = l.roots + 1 }

root_at : (T : Table) (old : Layout) (C : Cells) → Lays T old C → AreDistinct T.names → old.roots + 1 ≤ length T.names → Lays T (one_root_more old) (with_new_root (name_of T (a_root old.roots)) (info_of T (a_root old.roots)).dims C)
root_at T old C s distinct few =
    subst (λ (n : ℕ). Lays T (one_root_more old) (with_new_root (name_of T (a_root n)) (info_of T (a_root n)).dims C)) (sym s.roots)
    (lays_root T old (one_root_more old) C s distinct (omega (arith, s.roots, few)) refl refl refl)

-- what the root's first plan leaves, is what the registration does
pub lays_register : (T : Table) (old new : Layout) (C : Cells) (info : RootInfo) (init : Init) (first : ℕ) → Lays T old C → AreDistinct T.names → old.roots + 1 ≤ length T.names → info ≡ info_of T (a_root old.roots)
    → ((D : Cells) → Lays T (one_root_more old) D → old.roots < D.roots → AreDistinct T.names → D.roots ≤ length T.names → (info_of T (a_root old.roots)).dims ≡ info.dims → Lays T new (take (name_of T (a_root old.roots)) info.parts D) × (first_cell (take (name_of T (a_root old.roots)) info.parts D) (name_of T (a_root old.roots)) info.parts ≡ first) × (first + children_count info.parts ≤ length (take (name_of T (a_root old.roots)) info.parts D).rows))
    → Lays T new (cells_after (act_seen T old.roots (kept.Register init)) C) × (first_after (act_seen T old.roots (kept.Register init)) (cells_after (act_seen T old.roots (kept.Register init)) C) ≡ first) × (first + children_after (act_seen T old.roots (kept.Register init)) ≤ length (cells_after (act_seen T old.roots (kept.Register init)) C).rows)
lays_register T old new C info init first s distinct few is takes =
    let D = with_new_root (name_of T (a_root old.roots)) (info_of T (a_root old.roots)).dims C in
    let h = takes D (root_at T old C s distinct few) (omega (arith, s.roots)) distinct (omega (arith, s.roots, few)) (ap (λ (x : RootInfo). x.dims) (sym is)) in
    subst (λ (x : RootInfo). Lays T new (take (name_of T (a_root old.roots)) x.parts D) × (first_cell (take (name_of T (a_root old.roots)) x.parts D) (name_of T (a_root old.roots)) x.parts ≡ first) × (first + children_count x.parts ≤ length (take (name_of T (a_root old.roots)) x.parts D).rows)) is h

pub full_register : (T : Table) (old : Layout) (C : Cells) (info : RootInfo) (init : Init) → Lays T old C → AreDistinct T.names → old.roots + 1 ≤ length T.names → info ≡ info_of T (a_root old.roots)
    → ((D : Cells) → Lays T (one_root_more old) D → old.roots < D.roots → (info_of T (a_root old.roots)).dims ≡ info.dims → most < length (take (name_of T (a_root old.roots)) info.parts D).rows)
    → most < length (cells_after (act_seen T old.roots (kept.Register init)) C).rows
full_register T old C info init s distinct few is full =
    let D = with_new_root (name_of T (a_root old.roots)) (info_of T (a_root old.roots)).dims C in
    subst (λ (x : RootInfo). most < length (take (name_of T (a_root old.roots)) x.parts D).rows) is (full D (root_at T old C s distinct few) (omega (arith, s.roots)) (ap (λ (x : RootInfo). x.dims) (sym is)))

-- ---- partial copies

-- a cell that gets them
pub lays_copies : (T : Table) (old new : Layout) (C : Cells) (c first : Cell) (workers : ℕ) → let i = get_or old.infos.items c.0 no_cell in Lays T old C → c.0 < length old.infos.items → i.partials ≡ None
    → new.infos.items ≡ set (old.infos.items ++ replicate workers i) c.0 (with_partials first i) → new.firsts ≡ old.firsts → new.roots ≡ old.roots → first.0 ≡ length old.infos.items
    → Lays T new (with_copies workers c C) × (first_partial C c ≡ first)
lays_copies T old new C c first workers s there none rows firsts roots number = (
  by_copies workers c C (Lays T new) (λ f e. absurd (none_isn't f (sym none_here ∙ e))) (λ e. record {
    rows = rows ∙ set-append_left old.infos.items (replicate workers i) c.0 (with_partials first i) there ∙ (λ k. set (s.rows k) c.0 (with_partials (first_is k) (is k)) ++ replicate workers (plain k));
    roots = roots ∙ s.roots;
    handles = λ n lt. s.handles n lt ∙ (λ k. Some (record { root = a_root n; dims = (info_of T (a_root n)).dims; first = λ p. get same_taken (sym firsts k) (plan_taken n p) }));
    room = λ n p f h. omega (arith, s.room n p f (ap (λ m. get same_taken m (plan_taken n p)) (sym firsts) ∙ h), copied-length workers c C e inside);
    fresh = λ n p past. ap (λ m. get same_taken m (plan_taken n p)) firsts ∙ s.fresh n p past;
  }),
  sym first_is,
)
  where
    i : CellInfo
    i = get_or old.infos.items c.0 no_cell

    is : i ≡ info_at C c
    is = ap (λ (is : List CellInfo). get_or is c.0 no_cell) s.rows

    none_here : (info_at C c).partials ≡ None
    none_here = ap (λ (i : CellInfo). i.partials) (sym is) ∙ none

    inside : c.0 < length C.rows
    inside = omega (arith, there, ap length s.rows)

    first_is : first ≡ first_partial C c
    first_is = (λ k. let d : Cell = record { 0 = (number ∙ ap length s.rows) k } in d) ∙ sym (first-new C c none_here)

    plain : i ≡ copy_info (info_at C c)
    plain = (λ k. let j : CellInfo = record { root = i.root; dims = i.dims; partials = none k } in j) ∙ ap copy_info is
