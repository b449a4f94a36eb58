-- A task's operands and the active plans that it leaves.
use Rattle.sj_lower.proofs.Words.{[], access_by, Active, active_at, actives_after_writes, All, AllByRecursion, ap, AreActive, AreDistinct, AreIn, arith, Array, Bool, bytes_eq, CanPass, Cells, children_count, cond, Does, false, get_or, has_child, is_child, is_written, IsPlace, JobState, KeptOperand, KeptTask, length, Line, List, lowered_task, Lowerer, Lowering, map, most, name_of, None, Operand, operand_array, operand_seen, Option, out, Parts, put, put_all, refl, root_of, RootState, run_task, Some, subst, suc, sym, Table, task_seen, true, with_child, with_child_valued, written_of, ℕ, ◌++◌, ◌+◌, ◌<◌, ◌∙◌, ◌∷◌, ◌≡◌, ◌≤◌}
use Rattle.std.proofs.Math.ListN.{set}
use Rattle.std.proofs.lemmas.{List.append-nil, List.get_or-map, List.length-map, List.Sums.AllPass-from_list_all}
use Rattle.sj_base.proofs.Texts.{same_text}
use Rattle.sj_meaning.specs.declared.job.Act.TheVariants as kept
use Rattle.sj_job.proofs.Children.{tracks-with_child_valued}
use Rattle.sj_meaning.proofs.{Finding.root-change, Giving.gives_all}
use Rattle.sj_lower.proofs.{Following.accesses_same, Following.can-pass, Following.changed-actives, Following.PassesTo, Following.same_phases, Following.seen-children, Running.child_there}

-- ---- operands

-- a child of its name's active plan is one of its root's
child-in : (T : Table) (C : Cells) (as' : List Active) (S : JobState) (o : KeptOperand) → AreActive T C as' S → o.root.0 < C.roots → has_child S (operand_seen T o) ≡ true → AreIn as' o
child-in T C as' S o g lt h =
    let t = child_there S (operand_seen T o) h in
    let a = g.each o.root.0 t.root lt t.is_root in
    record {
      root = omega (arith, lt, g.counted);
      place = subst (λ (p : Parts). IsPlace p o.place) (sym a.tracks.parts) t.placed;
      room = subst (λ (p : Parts). (active_at as' o.root.0).first + children_count p ≤ most) (sym a.tracks.parts) a.room;
    }

pub are-in : (T : Table) (l : Lowerer) (t : KeptTask) (S : JobState) (L : Lowering) → CanPass T l (kept.Task t) S L → All (AreIn l.actives.items) t.operands
are-in T l t S L pass = λ k d lt.
    let os = t.operands in
    let seen = operand_seen T in
    let o = get_or os k d in
    let there : k < length (map seen os) = omega (arith, lt, length-map os seen) in
    let h : has_child S (seen o) ≡ true = ap (has_child S) (sym (get_or-map seen os k d (seen d) lt)) ∙ AllPass-from_list_all (has_child S) (map seen os) pass.sound.placed k (seen d) there in
    child-in T L.cells l.actives.items S o pass.actives (pass.placed k d lt) h

-- ---- what a task writes

abbrev child_by : ℕ × ℕ → Option RootState → Bool
child_by place o = elim o as (λ _. Bool) [ None ↦ false | Some r ↦ is_child r.parts place ]

-- children stay children
has-kept : (S : JobState) (o p : Operand (List ℕ)) (x : Array) (r : RootState) → root_of S o.name ≡ Some r → has_child S p ≡ true → has_child (put o x S) p ≡ true
has-kept S o p x r e h = ap (child_by p.place) (root-change (with_child o.place x) o.name S r p.name e) ∙ by_test (bytes_eq o.name p.name) refl
  where
    by_test : (b : Bool) → bytes_eq o.name p.name ≡ b → child_by p.place (cond b (Some (with_child o.place x r)) (root_of S p.name)) ≡ true
    by_test true t = sym (ap (child_by p.place) (ap (root_of S) (sym (same_text o.name p.name t)) ∙ e)) ∙ h
    by_test false t = h

all-kept : (T : Table) (S : JobState) (o : Operand (List ℕ)) (x : Array) (r : RootState) (os : List KeptOperand) → root_of S o.name ≡ Some r → AllByRecursion (λ (p : KeptOperand). has_child S (operand_seen T p) ≡ true) os → AllByRecursion (λ (p : KeptOperand). has_child (put o x S) (operand_seen T p) ≡ true) os
all-kept T S o x r [] e h = tt
all-kept T S o x r (p ∷ os) e h = (has-kept S o (operand_seen T p) x r e h.0, all-kept T S o x r os e h.1)

-- the active plan of a root, one of whose children is written
abbrev wrote : List Active → KeptOperand → Active
wrote as' o = record { tracked = with_child_valued (active_at as' o.root.0).tracked o.place; first = (active_at as' o.root.0).first; reduction = (active_at as' o.root.0).reduction }

write-follows : (T : Table) (C : Cells) (as' : List Active) (S : JobState) (o : KeptOperand) (x : Array) → AreActive T C as' S → AreDistinct T.names → C.roots ≤ length T.names → o.root.0 < C.roots → has_child S (operand_seen T o) ≡ true → AreActive T C (set as' o.root.0 (wrote as' o)) (put (operand_seen T o) x S)
write-follows T C as' S o x g d few lt h =
    let t = child_there S (operand_seen T o) h in
    let a = g.each o.root.0 t.root lt t.is_root in
    let f = with_child o.place x in
    changed-actives T C C as' S o.root.0 f t.root (wrote as' o) g lt d few refl (λ q d s g k. k) t.is_root
    (record { dims = a.dims; tracks = tracks-with_child_valued o.place x (active_at as' o.root.0).tracked t.root a.tracks t.placed; reduction = a.reduction; handle = a.handle; named = a.named; taken = a.taken; room = a.room })
    (put (operand_seen T o) x S) (λ q. root-change f (name_of T o.root) S t.root q t.is_root)

abbrev seen_of : Table → List KeptOperand → List (Operand (List ℕ))
seen_of T os = written_of (map (operand_seen T) os)

-- where there is an array for each written operand
abbrev Follow : Table → Cells → List KeptOperand → List Array → List Active → JobState → Type 0
Follow T C os xs as' S = AreActive T C (actives_after_writes os as') (put_all (seen_of T os) xs S)

write_by : (T : Table) (C : Cells) (as' : List Active) (S : JobState) (o : KeptOperand) (os : List KeptOperand) (xs : List Array) (b : Bool) → AreActive T C as' S → AreDistinct T.names → C.roots ≤ length T.names → o.root.0 < C.roots → has_child S (operand_seen T o) ≡ true → AllByRecursion (λ (p : KeptOperand). has_child S (operand_seen T p) ≡ true) os
    → length (cond b (operand_seen T o ∷ seen_of T os) (seen_of T os)) ≤ length xs
    → ((ys : List Array) (bs : List Active) (U : JobState) → AreActive T C bs U → AllByRecursion (λ (p : KeptOperand). has_child U (operand_seen T p) ≡ true) os → length (seen_of T os) ≤ length ys → Follow T C os ys bs U)
    → AreActive T C (actives_after_writes os (cond b (set as' o.root.0 (wrote as' o)) as')) (put_all (cond b (operand_seen T o ∷ seen_of T os) (seen_of T os)) xs S)
write_by T C as' S o os [] true g d few lt h hs l rest = absurd (omega (arith, l))
write_by T C as' S o os (x ∷ xs) true g d few lt h hs l rest =
    let t = child_there S (operand_seen T o) h in
    rest xs (set as' o.root.0 (wrote as' o)) (put (operand_seen T o) x S) (write-follows T C as' S o x g d few lt h) (all-kept T S (operand_seen T o) x t.root os t.is_root hs) (omega (arith, l))
write_by T C as' S o os xs false g d few lt h hs l rest = rest xs as' S g hs l

pub writes-follow : (T : Table) (C : Cells) (as' : List Active) (S : JobState) (os : List KeptOperand) (xs : List Array) → AreActive T C as' S → AreDistinct T.names → C.roots ≤ length T.names → All (λ (o : KeptOperand). o.root.0 < C.roots) os → AllByRecursion (λ (o : KeptOperand). has_child S (operand_seen T o) ≡ true) os → length (written_of (map (operand_seen T) os)) ≤ length xs → AreActive T C (actives_after_writes os as') (put_all (written_of (map (operand_seen T) os)) xs S)
writes-follow T C as' S [] xs g d few lts hs l = g
writes-follow T C as' S (o ∷ os) xs g d few lts hs l =
    write_by T C as' S o os xs (is_written o.mode) g d few (lts 0 o (omega arith)) hs.0 hs.1 l
    (λ ys bs U k hk m. writes-follow T C bs U os ys k d few (λ i e lt. lts (suc i) e (omega (arith, lt))) hk m)

-- a task's children have a value from then on
pub passes-task : (T : Table) (old : Lowerer) (as' : List Active) (t : KeptTask) (first : ℕ) → as' ≡ actives_after_writes t.operands old.actives.items → PassesTo T old as' (kept.Task t) first
passes-task T old as' t first ea S L pass place =
    let u = task_seen T t in
    let ins = map (operand_array S) u.operands in
    let many = gives_all pass.has S u ins pass.sound in
    subst (λ (as' : List Active). AreActive T L.cells as' (run_task u S)) (sym ea)
    (writes-follow T L.cells old.actives.items S t.operands (out u.codelet u.args ins) pass.actives pass.distinct pass.few pass.placed (seen-children T S t.operands pass.sound.placed) (omega (arith, many)))

pub does-task : (T : Table) (old new : Lowerer) (t : KeptTask) (line : Line) → new.tasks.items ≡ old.tasks.items ++ lowered_task t line (map (access_by old.actives.items) t.operands) ∷ [] → new.deliveries.items ≡ old.deliveries.items → new.prints ≡ old.prints → new.phases ≡ old.phases
    → new.actives.items ≡ actives_after_writes t.operands old.actives.items → Does T old new (kept.Task t) 0 line
does-task T old new t line et ed ep eh ea S L next place = record {
  tasks = et ∙ (λ i. next.follows.tasks i ++ lowered_task t line (sym (accesses_same T S L.cells old.actives.items t.operands next.follows.actives next.placed (seen-children T S t.operands next.sound.placed)) i) ∷ []);
  deliveries = ed ∙ next.follows.deliveries ∙ sym (append-nil L.deliveries);
  prints = ep ∙ next.follows.prints;
  phases = same_phases T old new (kept.Task t) S L next eh;
  actives = passes-task T old new.actives.items t 0 ea S L (can-pass T old (kept.Task t) S L next) place;
}

-- ---- the code's loop over operands

-- one operand's active plan has another child with a value, and keeps its plan and its cells
pub record SamePlans (old new : List Active) : Type 0 where
  pub counted : length new ≡ length old
  pub parts : (n : ℕ) → (active_at new n).tracked.parts ≡ (active_at old n).tracked.parts
  pub first : (n : ℕ) → (active_at new n).first ≡ (active_at old n).first
