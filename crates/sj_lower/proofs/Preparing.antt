-- Phases that are closed, go on or begin before a statement's own tasks: the code does what the definition does.
use Rattle.sj_lower.proofs.Words.{[], all_closed, ap, AreActive, AreCopied, arith, Bool, Cell, closed, combine_row, combine_rows, cond, copy_at, false, get, HasAt, if◌then◌else◌, info_at, JobState, Lays, length, length-append, Line, List, Lowered, Lowering, LoweringProgress, most, nat_lt, None, OpenPhase, Option, over_after, phase_turned, Prepares, refl, Some, StandsAt, subst, sym, Table, tasks_in, true, vec_len, with_phase, ℕ, ◌++◌, ◌+◌, ◌<◌, ◌∙◌, ◌∷◌, ◌≡◌, ◌≤◌}
use Rattle.std.proofs.Common.{nat_eq, is_some}
use Rattle.std.proofs.lemmas.{Bool.ltb-true, Bool.Decides.nat_tests, List.FromFn.length-map-range_with_len}
use Rattle.sj_lower.proofs.{Closing.by_phase, Laid.none_isn't, Stating.by_cell, Stating.phase-other, Stating.phase-own}

-- ---- the line with which there were too many tasks

pub over-late : (line : Line) (L : Lowering) → most < tasks_in L → over_after None line L ≡ Some line
over-late line L h = ap (λ b. if b then Some line else None) (decide most (tasks_in L) h)
  where
    decide : (a b : ℕ) → a < b → nat_lt a b ≡ true
    decide a b h = grind (arith, nat_tests)

pub over-early : (line : Line) (L : Lowering) → tasks_in L ≤ most → over_after None line L ≡ None
over-early line L h = ap (λ b. if b then Some line else None) (decide most (tasks_in L) h)
  where
    decide : (a b : ℕ) → b ≤ a → nat_lt a b ≡ false
    decide a b h = grind (arith, nat_tests)

-- a line stays, also where there are more tasks
pub over-again : (o : Option Line) (line : Line) (L M : Lowering) → tasks_in L ≤ tasks_in M → over_after (over_after o line L) line M ≡ over_after o line M
over-again (Some first) line L M h = refl
over-again None line L M h = by_test (nat_lt most (tasks_in L)) refl
  where
    by_test : (b : Bool) → nat_lt most (tasks_in L) ≡ b → over_after (if b then Some line else None) line M ≡ over_after None line M
    by_test true e = let above = ltb-true most (tasks_in L) e in sym (over-late line M (omega (arith, above, h)))
    by_test false e = refl

pub over-kept : (o : Option Line) (line : Line) (L : Lowering) → (o ≡ None → tasks_in L ≤ most) → o ≡ over_after o line L
over-kept (Some first) line L h = refl
over-kept None line L h = sym (over-early line L (h refl))

pub is-over : (o : Option Line) (b : Bool) → b ≡ is_some o → b ≡ true → (o ≡ None → ⊥)
is-over None b is some none = cc
is-over (Some line) b is some none = none_isn't line (sym none)

pub none-over : (o : Option Line) (b : Bool) → b ≡ is_some o → b ≡ false → o ≡ None
none-over None b is none = refl
none-over (Some line) b is none = absurd (cc (is, none))

-- ---- what stays

-- all but the tasks, the phases and the line with too many tasks
pub record IsBeside (old new : LoweringProgress) : Type 0 where
  pub layout : new.layout ≡ old.layout
  pub workers : new.workers ≡ old.workers
  pub last : new.last ≡ old.last
  pub actives : new.lowerer.actives ≡ old.lowerer.actives
  pub deliveries : new.lowerer.deliveries ≡ old.lowerer.deliveries
  pub prints : new.lowerer.prints ≡ old.lowerer.prints

-- the phase of a cell is this one, or none, after these tasks; its copies are there
pub record Turns (L M : Lowering) (c : Cell) (ls : List Lowered) (o : Option OpenPhase) : Type 0 where
  pub is : M ≡ phase_turned L.cells ls c o L
  pub copies : (f : OpenPhase) → o ≡ Some f → (info_at L.cells c).partials ≡ Some f.copies

copied-turned : (workers : ℕ) (L : Lowering) (c : Cell) (ls : List Lowered) (o : Option OpenPhase) → ((f : OpenPhase) → o ≡ Some f → (info_at L.cells c).partials ≡ Some f.copies) → AreCopied workers L → AreCopied workers (phase_turned L.cells ls c o L)
copied-turned workers L c ls o copies h = record {
  inside = h.inside;
  theirs = λ d f e. by_cell (λ d. with_phase c o L.phase d ≡ Some f → (info_at L.cells d).partials ≡ Some f.copies) c d (λ e. copies f (sym (phase-own c o L.phase) ∙ e)) (λ other e. h.theirs _ f (sym (phase-other c o L.phase _ other) ∙ e)) e;
}

-- ---- one step

-- too many tasks before
at-over : (T : Table) (g : LoweringProgress) (S : JobState) (L M : Lowering) (c : Cell) (ls : List Lowered) (o : Option OpenPhase) → (g.over ≡ None → ⊥) → Turns L M c ls o → StandsAt T g S L → StandsAt T g S M
at-over T g S L M c ls o past t at = subst (λ (N : Lowering). StandsAt T g S N) (sym t.is) (record {
  lays = at.lays;
  few_cells = at.few_cells;
  actives = at.actives;
  follows = λ none. absurd (past none);
  few_tasks = λ none. absurd (past none);
  prints = at.prints;
  copied = copied-turned g.workers L c ls o t.copies at.copied;
})

pub over-stays : (o : Option Line) (line : Line) (L : Lowering) → (o ≡ None → ⊥) → o ≡ over_after o line L
over-stays None line L past = absurd (past refl)
over-stays (Some first) line L past = refl

-- nothing is done any more once there are too many tasks
pub prepares-over : (g : LoweringProgress) (line : Line) (change : Lowering → Lowering) (c : Cell) → (g.over ≡ None → ⊥) → ((T : Table) (S : JobState) (L : Lowering) → StandsAt T g S L → (ls : List Lowered) × (o : Option OpenPhase) × Turns L (change L) c ls o) → Prepares g g line change
prepares-over g line change c past turns = record {
  at = λ T S L at. (let t = turns T S L at in at-over T g S L (change L) c t.0 t.1 past t.2 at);
  over = λ T S L at. over-stays g.over line (change L) past;
  actives = refl;
  workers = refl;
  last = refl;
  cells = omega arith;
}

-- too many tasks with this step
pub prepares-late : (old new : LoweringProgress) (line : Line) (change : Lowering → Lowering) (c : Cell) → old.over ≡ None → new.over ≡ Some line → IsBeside old new → new.lowerer.tasks ≡ old.lowerer.tasks
    → ((T : Table) (S : JobState) (L : Lowering) → StandsAt T old S L → (ls : List Lowered) × (o : Option OpenPhase) × Turns L (change L) c ls o × (most < vec_len old.lowerer.tasks + length ls)) → Prepares old new line change
prepares-late old new line change c none late same tasks turns = record {
  at = λ T S L at.
      let t = turns T S L at in
      subst (λ (N : Lowering). StandsAt T new S N) (sym t.2.is) (record {
        lays = subst (λ l. Lays T l L.cells) (sym same.layout) at.lays;
        few_cells = at.few_cells;
        actives = subst (λ as'. AreActive T L.cells as'.items S) (sym same.actives) at.actives;
        follows = λ early. absurd (past early);
        few_tasks = λ early. absurd (past early);
        prints = fewer at.prints;
        copied = subst (λ (n : ℕ). AreCopied n (phase_turned L.cells t.0 c t.1 L)) (sym same.workers) (copied-turned old.workers L c t.0 t.1 t.2.copies at.copied);
      });
  over = λ T S L at.
      let t = turns T S L at in
      late ∙ sym (ap (λ o. over_after o line (change L)) none ∙ over-late line (change L) (many T S L at));
  actives = same.actives;
  workers = same.workers;
  last = same.last;
  cells = omega (arith, ap (λ l. vec_len l.infos) same.layout);
}
  where
    past : new.over ≡ None → ⊥
    past early = none_isn't line (sym early ∙ late)

    fewer : old.lowerer.prints ≤ vec_len old.lowerer.tasks → new.lowerer.prints ≤ vec_len new.lowerer.tasks
    fewer h = let a = same.prints in let b = ap vec_len tasks in omega (arith, h, a, b)

    many : (T : Table) (S : JobState) (L : Lowering) → StandsAt T old S L → most < tasks_in (change L)
    many T S L at =
        let t = turns T S L at in
        let long = ap tasks_in t.2.is in
        let here = (at.follows none).tasks in
        omega (arith, long, length-append L.tasks t.0, ap length here, old.lowerer.tasks.ok, t.3)

-- the phases afterwards
abbrev pub Sets : LoweringProgress → LoweringProgress → Cell → Option OpenPhase → Type 0
Sets old new c o = (d : ℕ) → get nat_eq new.lowerer.phases d ≡ cond (nat_eq c.0 d) o (get nat_eq old.lowerer.phases d)

-- a step
pub prepares-on : (old new : LoweringProgress) (line : Line) (change : Lowering → Lowering) (c : Cell) (ls : List Lowered) (o : Option OpenPhase) → old.over ≡ None → new.over ≡ None → IsBeside old new → new.lowerer.tasks.items ≡ old.lowerer.tasks.items ++ ls → Sets old new c o → vec_len new.lowerer.tasks ≤ most
    → ((T : Table) (S : JobState) (L : Lowering) → StandsAt T old S L → Turns L (change L) c ls o) → Prepares old new line change
prepares-on old new line change c ls o none early same tasks sets few turns = record {
  at = λ T S L at.
      let t = turns T S L at in
      let f = at.follows none in
      let all : new.lowerer.tasks.items ≡ L.tasks ++ ls = tasks ∙ ap (λ xs. xs ++ ls) f.tasks in
      let actives = subst (λ as'. AreActive T L.cells as'.items S) (sym same.actives) at.actives in
      subst (λ (N : Lowering). StandsAt T new S N) (sym t.is) (record {
        lays = subst (λ l. Lays T l L.cells) (sym same.layout) at.lays;
        few_cells = at.few_cells;
        actives = actives;
        follows = λ _. record {
          tasks = all;
          deliveries = ap (λ ds. ds.items) same.deliveries ∙ f.deliveries;
          prints = same.prints ∙ f.prints;
          phases = λ d. sets d.0 ∙ ap (λ x. cond (nat_eq c.0 d.0) o x) (f.phases d);
          actives = actives;
        };
        few_tasks = λ _. omega (arith, few, new.lowerer.tasks.ok, ap length all);
        prints = fewer at.prints;
        copied = subst (λ (n : ℕ). AreCopied n (phase_turned L.cells ls c o L)) (sym same.workers) (copied-turned old.workers L c ls o t.copies at.copied);
      });
  over = λ T S L at.
      let t = turns T S L at in
      let f = at.follows none in
      early ∙ sym (ap (λ o. over_after o line (change L)) none ∙ over-early line (change L) (omega (arith, ap tasks_in t.is, ap length f.tasks, ap length tasks, length-append L.tasks ls, length-append old.lowerer.tasks.items ls, few, new.lowerer.tasks.ok)));
  actives = same.actives;
  workers = same.workers;
  last = same.last;
  cells = omega (arith, ap (λ l. vec_len l.infos) same.layout);
}
  where
    fewer : old.lowerer.prints ≤ vec_len old.lowerer.tasks → new.lowerer.prints ≤ vec_len new.lowerer.tasks
    fewer h = omega (arith, h, same.prints, new.lowerer.tasks.ok, old.lowerer.tasks.ok, ap length tasks, length-append old.lowerer.tasks.items ls)

-- nothing is changed
pub prepares-none : (old new : LoweringProgress) (line : Line) (change : Lowering → Lowering) → new.over ≡ old.over → IsBeside old new → new.lowerer.tasks ≡ old.lowerer.tasks → ((d : ℕ) → get nat_eq new.lowerer.phases d ≡ get nat_eq old.lowerer.phases d)
    → ((T : Table) (S : JobState) (L : Lowering) → StandsAt T old S L → change L ≡ L) → Prepares old new line change
prepares-none old new line change over same tasks phases is = record {
  at = λ T S L at.
      let actives = subst (λ as'. AreActive T L.cells as'.items S) (sym same.actives) at.actives in
      subst (λ (N : Lowering). StandsAt T new S N) (sym (is T S L at)) (record {
        lays = subst (λ l. Lays T l L.cells) (sym same.layout) at.lays;
        few_cells = at.few_cells;
        actives = actives;
        follows = λ early.
            let f = at.follows (sym over ∙ early) in
            record {
              tasks = ap (λ ts. ts.items) tasks ∙ f.tasks;
              deliveries = ap (λ ds. ds.items) same.deliveries ∙ f.deliveries;
              prints = same.prints ∙ f.prints;
              phases = λ d. phases d.0 ∙ f.phases d;
              actives = actives;
            };
        few_tasks = λ early. at.few_tasks (sym over ∙ early);
        prints = fewer at.prints;
        copied = subst (λ (n : ℕ). AreCopied n L) (sym same.workers) at.copied;
      });
  over = λ T S L at. over ∙ over-kept old.over line (change L) (λ none. omega (arith, at.few_tasks none, ap tasks_in (is T S L at)));
  actives = same.actives;
  workers = same.workers;
  last = same.last;
  cells = omega (arith, ap (λ l. vec_len l.infos) same.layout);
}
  where
    fewer : old.lowerer.prints ≤ vec_len old.lowerer.tasks → new.lowerer.prints ≤ vec_len new.lowerer.tasks
    fewer h = let a = same.prints in let b = ap vec_len tasks in omega (arith, h, a, b)

-- ---- steps one after another

pub prepares-then : (a b c : LoweringProgress) (line : Line) (f g : Lowering → Lowering) → ((L : Lowering) → tasks_in L ≤ tasks_in (g L)) → Prepares a b line f → Prepares b c line g → Prepares a c line (λ L. g (f L))
prepares-then a b c line f g more p q = record {
  at = λ T S L at. q.at T S (f L) (p.at T S L at);
  over = λ T S L at. q.over T S (f L) (p.at T S L at) ∙ ap (λ o. over_after o line (g (f L))) (p.over T S L at) ∙ over-again a.over line (f L) (g (f L)) (more (f L));
  actives = q.actives ∙ p.actives;
  workers = q.workers ∙ p.workers;
  last = q.last ∙ p.last;
  cells = omega (arith, p.cells, q.cells);
}

-- another change that is the same
pub prepares-as : (old new : LoweringProgress) (line : Line) (f g : Lowering → Lowering) → ((T : Table) (S : JobState) (L : Lowering) → StandsAt T old S L → f L ≡ g L) → Prepares old new line f → Prepares old new line g
prepares-as old new line f g same p = record {
  at = λ T S L at. subst (λ (M : Lowering). StandsAt T new S M) (same T S L at) (p.at T S L at);
  over = λ T S L at. p.over T S L at ∙ ap (λ (M : Lowering). over_after old.over line M) (same T S L at);
  actives = p.actives;
  workers = p.workers;
  last = p.last;
  cells = p.cells;
}

pub has-at : (old new : LoweringProgress) (line : Line) (f : Lowering → Lowering) → Prepares old new line f → HasAt old → HasAt new
has-at old new line f p h = record { table = h.table; state = h.state; lowering = f h.lowering; at = p.at h.table h.state h.lowering h.at }

-- there is room for another task at most
pub few-at : (g : LoweringProgress) → HasAt g → g.over ≡ None → vec_len g.lowerer.tasks ≤ most
few-at g h none = omega (arith, h.at.few_tasks none, g.lowerer.tasks.ok, ap length (h.at.follows none).tasks)

-- the partial copies of an open phase are there
pub copies-at : (g : LoweringProgress) (c : Cell) (f : OpenPhase) → HasAt g → g.over ≡ None → get nat_eq g.lowerer.phases c.0 ≡ Some f → f.copies.0 + g.workers ≤ most
copies-at g c f h none is =
    let here = sym ((h.at.follows none).phases c) ∙ is in
    omega (arith, h.at.copied.inside c f.copies (h.at.copied.theirs c f here), h.at.few_cells)

-- ---- closing

pub closed-more : (workers : ℕ) (c : Cell) (L : Lowering) → tasks_in L ≤ tasks_in (closed workers L c)
closed-more workers c L = by_phase workers L c (λ (M : Lowering). tasks_in L ≤ tasks_in M) (λ e. omega arith) (λ f e. omega (arith, length-append L.tasks (combine_rows f c workers)))

pub all_closed-more : (workers : ℕ) (cs : List Cell) (L : Lowering) → tasks_in L ≤ tasks_in (all_closed workers cs L)
all_closed-more workers [] L = omega arith
all_closed-more workers (c ∷ cs) L = omega (arith, closed-more workers c L, all_closed-more workers cs (closed workers L c))

closed-some : (workers : ℕ) (L : Lowering) (c : Cell) (f : OpenPhase) → L.phase c ≡ Some f → closed workers L c ≡ phase_turned L.cells (combine_rows f c workers) c None L
closed-some workers L c f e = ap (λ (o : Option OpenPhase). elim o as (λ _. Lowering) [ None ↦ L | Some f ↦ phase_turned L.cells (combine_rows f c workers) c None L ]) e

closed-none : (workers : ℕ) (L : Lowering) (c : Cell) → L.phase c ≡ None → closed workers L c ≡ L
closed-none workers L c e = ap (λ (o : Option OpenPhase). elim o as (λ _. Lowering) [ None ↦ L | Some f ↦ phase_turned L.cells (combine_rows f c workers) c None L ]) e

combines : (f : OpenPhase) (c : Cell) (workers : ℕ) → length (combine_rows f c workers) ≡ workers
combines f c workers = length-map-range_with_len (λ w. combine_row f.by c f.line (copy_at f.copies w)) 0 workers

no_phase : (L : Lowering) (c : Cell) (f : OpenPhase) → None ≡ Some f → (info_at L.cells c).partials ≡ Some f.copies
no_phase L c f e = absurd (none_isn't f e)

pub closes-over : (g : LoweringProgress) (line : Line) (c : Cell) → (g.over ≡ None → ⊥) → Prepares g g line (λ L. closed g.workers L c)
closes-over g line c past = record {
  at = λ T S L at. by_phase g.workers L c (λ (M : Lowering). StandsAt T g S M) (λ e. at) (λ f e. at-over T g S L (phase_turned L.cells (combine_rows f c g.workers) c None L) c (combine_rows f c g.workers) None past (record { is = refl; copies = no_phase L c }) at);
  over = λ T S L at. over-stays g.over line (closed g.workers L c) past;
  actives = refl;
  workers = refl;
  last = refl;
  cells = omega arith;
}

pub closes-none : (old new : LoweringProgress) (line : Line) (c : Cell) → old.over ≡ None → new.over ≡ old.over → IsBeside old new → new.lowerer.tasks ≡ old.lowerer.tasks → ((d : ℕ) → get nat_eq new.lowerer.phases d ≡ get nat_eq old.lowerer.phases d) → get nat_eq old.lowerer.phases c.0 ≡ None → Prepares old new line (λ L. closed old.workers L c)
closes-none old new line c none over same tasks phases absent = prepares-none old new line (λ L. closed old.workers L c) over same tasks phases (λ T S L at. closed-none old.workers L c (sym ((at.follows none).phases c) ∙ absent))

pub closes-late : (old new : LoweringProgress) (line : Line) (c : Cell) (f : OpenPhase) → old.over ≡ None → new.over ≡ Some line → IsBeside old new → new.lowerer.tasks ≡ old.lowerer.tasks → get nat_eq old.lowerer.phases c.0 ≡ Some f → most < vec_len old.lowerer.tasks + old.workers → Prepares old new line (λ L. closed old.workers L c)
closes-late old new line c f none late same tasks there many = prepares-late old new line (λ L. closed old.workers L c) c none late same tasks (λ T S L at. (
  combine_rows f c old.workers,
  None,
  record { is = closed-some old.workers L c f (sym ((at.follows none).phases c) ∙ there); copies = no_phase L c },
  omega (arith, many, combines f c old.workers),
))

pub closes-on : (old new : LoweringProgress) (line : Line) (c : Cell) (f : OpenPhase) → old.over ≡ None → new.over ≡ None → IsBeside old new → new.lowerer.tasks.items ≡ old.lowerer.tasks.items ++ combine_rows f c old.workers → Sets old new c None → get nat_eq old.lowerer.phases c.0 ≡ Some f → vec_len old.lowerer.tasks + old.workers ≤ most → Prepares old new line (λ L. closed old.workers L c)
closes-on old new line c f none early same tasks sets there few = prepares-on old new line (λ L. closed old.workers L c) c (combine_rows f c old.workers) None none early same tasks sets
    (omega (arith, few, new.lowerer.tasks.ok, old.lowerer.tasks.ok, ap length tasks, length-append old.lowerer.tasks.items (combine_rows f c old.workers), combines f c old.workers))
    (λ T S L at. record { is = closed-some old.workers L c f (sym ((at.follows none).phases c) ∙ there); copies = no_phase L c })
