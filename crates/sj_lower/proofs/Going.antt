-- A job lowered one statement after another.
use Rattle.sj_lower.proofs.Words.{[], above_at_end, act_seen, ActsArePlaced, ap, apply, arith, Bool, cells_in, count_after, count_from, false, finished, first_above, Goes, HasAt, HasComing, if◌then◌else◌, IsComing, IsFull, IsLate, IsOverLimit, IsTable, IsWell, JobState, Kernel, last_or, late_cells, late_limit, late_tasks, length, Line, line_or, List, lower_from, lower_one, Lowering, LoweringProgress, LowerRefusal, map, most, nat_lt, None, nothing, Option, OutOfMemory, over_after, Prepares, refl, seen_from, Some, StandsAt, start, Statement, statement_seen, subst, sym, Table, tasks_in, TooManyCells, TooManyTasks, true, ℕ, ◌+◌, ◌<◌, ◌∙◌, ◌∷◌, ◌≡◌, ◌≤◌}
use Rattle.std.proofs.lemmas.Bool.Decides.{nat_tests}
use Rattle.sj_meaning.specs.declared.job.Statement.{Statement as Kept}
use Rattle.sj_meaning.proofs.Views.{counts-grow, count-grows}
use Rattle.sj_lower.proofs.{Allowed.can_be, Naming.AreNumbered, Naming.numbered-cut, Naming.numbered-none, Naming.numbered-one}

line_or-none : (o : Option Line) → line_or o None ≡ o
line_or-none None = refl
line_or-none (Some line) = refl

abbrev pub lines_of : List (Statement (List ℕ)) → List Line
lines_of ss = map (λ s. s.line) ss

-- what is lowered so far for so many workers, and how the rest goes on from it
pub record GoesOn (T : Table) (workers : ℕ) (g : LoweringProgress) (whole rest : List Kept) : Type 0 where
  pub has : Kernel → Bool
  pub before : ℕ
  pub state : JobState
  pub so_far : Lowering
  pub at : StandsAt T g state so_far
  pub workers_are : g.workers ≡ workers
  pub well : IsWell has before state (seen_from T so_far.cells.roots rest)
  pub placed : ActsArePlaced so_far.cells.roots rest
  pub counted : count_from so_far.cells.roots rest ≡ length T.names
  pub numbered : AreNumbered T so_far.cells.roots so_far.cells state
  pub onward : lower_from workers state so_far (seen_from T so_far.cells.roots rest) ≡ lower_from workers start nothing (seen_from T 0 whole)
  pub last : last_or g.last (lines_of (seen_from T so_far.cells.roots rest)) ≡ last_or None (lines_of (seen_from T 0 whole))
  pub late_cells : first_above workers cells_in start nothing (seen_from T 0 whole) ≡ first_above workers cells_in state so_far (seen_from T so_far.cells.roots rest)
  pub late_tasks : first_above workers tasks_in start nothing (seen_from T 0 whole) ≡ line_or g.over (first_above workers tasks_in state so_far (seen_from T so_far.cells.roots rest))

pub going-start : (has : Kernel → Bool) (T : Table) (workers : ℕ) (g : LoweringProgress) (ss : List Kept) → StandsAt T g start nothing → g.over ≡ None → g.last ≡ None → g.workers ≡ workers → IsWell has 0 start (seen_from T 0 ss) → ActsArePlaced 0 ss → count_from 0 ss ≡ length T.names → GoesOn T workers g ss ss
going-start has T workers g ss at none first workers_are well placed counted = record {
  has = has;
  before = 0;
  state = start;
  so_far = nothing;
  at = at;
  workers_are = workers_are;
  well = well;
  placed = placed;
  counted = counted;
  numbered = numbered-none T;
  onward = refl;
  last = ap (λ o. last_or o (lines_of (seen_from T 0 ss))) first;
  late_cells = refl;
  late_tasks = sym (ap (λ o. line_or o (first_above workers tasks_in start nothing (seen_from T 0 ss))) none);
}

pub going-coming : (T : Table) (workers : ℕ) (g : LoweringProgress) (whole rest : List Kept) (s : Kept) → IsTable T → (w : GoesOn T workers g whole (s ∷ rest)) → IsComing T g s w.state w.so_far
going-coming T workers g whole rest s table w =
    let n = w.so_far.cells.roots in
    let sound = (can_be w.has w.before w.state (act_seen T n s.act) w.well.0).sound in
    let here = counts-grow (count_after n s.act) rest in
    let before = count-grows n s.act in
    let few : count_after n s.act ≤ length T.names = omega (arith, here, w.counted) in
    record {
      has = w.has;
      at = w.at;
      sound = sound;
      placed = w.placed.0;
      cut = numbered-cut w.has T n w.so_far.cells w.state s.act table.2 (omega (arith, before, few)) w.placed.0 w.numbered sound;
      distinct = table.2;
      few = few;
      table = table.1;
    }

pub going-has : (T : Table) (workers : ℕ) (g : LoweringProgress) (whole rest : List Kept) (s : Kept) → IsTable T → GoesOn T workers g whole (s ∷ rest) → HasComing T g s
going-has T workers g whole rest s table w = record { state = w.state; lowering = w.so_far; coming = going-coming T workers g whole rest s table w }

no_more : (n : ℕ) (a b : Option Line) → n ≤ most → (if nat_lt most n then a else b) ≡ b
no_more n a b few = ap (λ t. if t then a else b) (decide n few)
  where
    decide : (n : ℕ) → n ≤ most → nat_lt most n ≡ false
    decide n few = grind (arith, nat_tests)

too_many : (n : ℕ) (a b : Option Line) → most < n → (if nat_lt most n then a else b) ≡ a
too_many n a b many = ap (λ t. if t then a else b) (decide n many)
  where
    decide : (n : ℕ) → most < n → nat_lt most n ≡ true
    decide n many = grind (arith, nat_tests)

-- the first line is kept
kept_over : (o : Option Line) (line : Line) (L : Lowering) (rest : Option Line) → line_or o (if nat_lt most (tasks_in L) then Some line else rest) ≡ line_or (over_after o line L) rest
kept_over (Some first) line L rest = refl
kept_over None line L rest = by_test (nat_lt most (tasks_in L))
  where
    by_test : (b : Bool) → (if b then Some line else rest) ≡ line_or (if b then Some line else None) rest
    by_test true = refl
    by_test false = refl

pub going-more : (T : Table) (workers : ℕ) (old new : LoweringProgress) (whole rest : List Kept) (s : Kept) → IsTable T → GoesOn T workers old whole (s ∷ rest) → new.workers ≡ old.workers → new.last ≡ Some s.line → Goes T old new s → GoesOn T workers new whole rest
going-more T workers old new whole rest s table w same line goes =
    let n = w.so_far.cells.roots in
    let m = count_after n s.act in
    let S = apply (act_seen T n s.act) w.state in
    let L = lower_one workers w.state (statement_seen T n s) w.so_far in
    let coming = going-coming T workers old whole rest s table w in
    let numbered = numbered-one workers T n w.so_far w.state s table.2 coming.few w.numbered in
    let roots : L.cells.roots ≡ m = numbered.roots in
    let at : StandsAt T new S L = subst (λ (k : ℕ). StandsAt T new S (lower_one k w.state (statement_seen T n s) w.so_far)) w.workers_are (goes.at w.state w.so_far coming) in
    let over : new.over ≡ over_after old.over s.line L =
    goes.over w.state w.so_far coming ∙ ap (λ k. over_after old.over s.line (lower_one k w.state (statement_seen T n s) w.so_far)) w.workers_are in
    record {
      has = w.has;
      before = w.before + 1;
      state = S;
      so_far = L;
      at = at;
      workers_are = same ∙ w.workers_are;
      well = subst (λ (m : ℕ). IsWell w.has (w.before + 1) S (seen_from T m rest)) (sym roots) w.well.1;
      placed = subst (λ (m : ℕ). ActsArePlaced m rest) (sym roots) w.placed.1;
      counted = ap (λ m. count_from m rest) roots ∙ w.counted;
      numbered = subst (λ (m : ℕ). AreNumbered T m L.cells S) (sym roots) numbered;
      onward = ap (λ m. lower_from workers S L (seen_from T m rest)) roots ∙ w.onward;
      last = (λ i. last_or (line i) (lines_of (seen_from T (roots i) rest))) ∙ w.last;
      late_cells = w.late_cells ∙ no_more (cells_in L) (Some s.line) (first_above workers cells_in S L (seen_from T m rest)) at.few_cells
          ∙ ap (λ m. first_above workers cells_in S L (seen_from T m rest)) (sym roots);
      late_tasks = w.late_tasks ∙ kept_over old.over s.line L (first_above workers tasks_in S L (seen_from T m rest))
          ∙ ap (λ o. line_or o (first_above workers tasks_in S L (seen_from T m rest))) (sym over)
          ∙ ap (λ m. line_or new.over (first_above workers tasks_in S L (seen_from T m rest))) (sym roots);
    }

-- there is not enough room for the statement
pub going-full : (T : Table) (workers : ℕ) (g : LoweringProgress) (whole rest : List Kept) (s : Kept) (e : LowerRefusal) → IsTable T → GoesOn T workers g whole (s ∷ rest) → IsFull T g s e → IsLate e (late_limit workers (seen_from T 0 whole))
going-full T workers g whole rest s OutOfMemory table w full = tt
going-full T workers g whole rest s (TooManyTasks line) table w full = absurd full
going-full T workers g whole rest s (TooManyCells line) table w full =
    let n = w.so_far.cells.roots in
    let S = apply (act_seen T n s.act) w.state in
    let L = lower_one workers w.state (statement_seen T n s) w.so_far in
    let many : most < cells_in L = subst (λ (k : ℕ). most < cells_in (lower_one k w.state (statement_seen T n s) w.so_far)) w.workers_are (full.1 w.state w.so_far (going-coming T workers g whole rest s table w)) in
    let first : first_above workers cells_in start nothing (seen_from T 0 whole) ≡ Some line =
    w.late_cells ∙ too_many (cells_in L) (Some s.line) (first_above workers cells_in S L (seen_from T (count_after n s.act) rest)) many
    ∙ ap Some (sym full.0) in
    ap (λ o. late_cells o (late_tasks (line_or (first_above workers tasks_in start nothing (seen_from T 0 whole)) (above_at_end workers (seen_from T 0 whole))))) first

-- nothing is left
pub record IsDone (T : Table) (workers : ℕ) (g : LoweringProgress) (ss : List (Statement (List ℕ))) : Type 0 where
  pub state : JobState
  pub lowering : Lowering
  pub at : StandsAt T g state lowering
  pub workers_are : g.workers ≡ workers
  pub is : lowering ≡ lower_from workers start nothing ss
  pub last : g.last ≡ last_or None (lines_of ss)
  pub late : late_limit workers ss ≡ late_tasks (line_or g.over (above_at_end workers ss))

pub going-end : (T : Table) (workers : ℕ) (g : LoweringProgress) (whole : List Kept) → GoesOn T workers g whole [] → IsDone T workers g (seen_from T 0 whole)
going-end T workers g whole w = record {
  state = w.state;
  lowering = w.so_far;
  at = w.at;
  workers_are = w.workers_are;
  is = w.onward;
  last = w.last;
  late = (λ i. late_cells (w.late_cells i) (late_tasks (line_or (w.late_tasks i) (above_at_end workers (seen_from T 0 whole)))))
      ∙ ap (λ o. late_tasks (line_or o (above_at_end workers (seen_from T 0 whole)))) (line_or-none g.over);
}

pub done-has : (T : Table) (workers : ℕ) (g : LoweringProgress) (ss : List (Statement (List ℕ))) → IsDone T workers g ss → HasAt g
done-has T workers g ss d = record { table = T; state = d.state; lowering = d.lowering; at = d.at }

-- ---- the phases that are open at the end

-- they are closed
pub record IsShut (T : Table) (workers : ℕ) (g : LoweringProgress) (ss : List (Statement (List ℕ))) : Type 0 where
  pub state : JobState
  pub lowering : Lowering
  pub at : StandsAt T g state lowering
  pub workers_are : g.workers ≡ workers
  pub is : lowering ≡ finished workers (lower_from workers start nothing ss)
  pub late : late_limit workers ss ≡ late_tasks g.over

-- a list of lines has a last one
some_last : (line : Line) (lines : List Line) → last_or (Some line) lines ≡ None → ⊥
some_last line [] e = absurd (cc)
some_last line (next ∷ lines) e = some_last next lines e

no_statement : (ss : List (Statement (List ℕ))) → last_or None (lines_of ss) ≡ None → ss ≡ []
no_statement [] e = refl
no_statement (s ∷ ss) e = absurd (some_last s.line (lines_of ss) e)

-- there was no statement
pub shut-none : (T : Table) (workers : ℕ) (g new : LoweringProgress) (ss : List (Statement (List ℕ))) → IsDone T workers g ss → g.last ≡ None → new ≡ g → IsShut T workers new ss
shut-none T workers g new ss d none same = subst (λ (h : LoweringProgress). IsShut T workers h ss) (sym same) (record {
  state = d.state;
  lowering = d.lowering;
  at = d.at;
  workers_are = d.workers_are;
  is = d.is ∙ (λ i. lower_from workers start nothing (empty i)) ∙ (λ i. finished workers (lower_from workers start nothing (sym empty i)));
  late = d.late ∙ ap (λ o. late_tasks (line_or g.over o)) at_end ∙ ap late_tasks (line_or-none g.over);
})
  where
    empty : ss ≡ []
    empty = no_statement ss (sym d.last ∙ none)

    either : (b : Bool) (o : Option Line) → (if b then o else o) ≡ o
    either true o = refl
    either false o = refl

    at_end : above_at_end workers ss ≡ None
    at_end = ap (λ o. if nat_lt most (tasks_in (finished workers (lower_from workers start nothing ss))) then o else None) (sym d.last ∙ none) ∙ either (nat_lt most (tasks_in (finished workers (lower_from workers start nothing ss)))) None

-- their tasks count for the last statement
pub shut-last : (T : Table) (workers : ℕ) (g new : LoweringProgress) (ss : List (Statement (List ℕ))) (line : Line) → IsDone T workers g ss → g.last ≡ Some line → Prepares g new line (finished g.workers) → IsShut T workers new ss
shut-last T workers g new ss line d is closes = record {
  state = d.state;
  lowering = finished workers d.lowering;
  at = subst (λ (k : ℕ). StandsAt T new d.state (finished k d.lowering)) d.workers_are (closes.at T d.state d.lowering d.at);
  workers_are = closes.workers ∙ d.workers_are;
  is = ap (finished workers) d.is;
  late = d.late ∙ ap (λ o. late_tasks (line_or g.over o)) at_end ∙ ap late_tasks (kept g.over (finished workers d.lowering) ∙ sym over);
}
  where
    over : new.over ≡ over_after g.over line (finished workers d.lowering)
    over = closes.over T d.state d.lowering d.at ∙ ap (λ k. over_after g.over line (finished k d.lowering)) d.workers_are

    at_end : above_at_end workers ss ≡ (if nat_lt most (tasks_in (finished workers d.lowering)) then Some line else None)
    at_end = λ i. if nat_lt most (tasks_in (finished workers (sym d.is i))) then (sym d.last ∙ is) i else None

    kept : (o : Option Line) (L : Lowering) → line_or o (if nat_lt most (tasks_in L) then Some line else None) ≡ over_after o line L
    kept None L = refl
    kept (Some first) L = refl

pub shut : (T : Table) (workers : ℕ) (g new : LoweringProgress) (ss : List (Statement (List ℕ))) → IsDone T workers g ss → (g.last ≡ None → new ≡ g) → ((line : Line) → g.last ≡ Some line → Prepares g new line (finished g.workers)) → IsShut T workers new ss
shut T workers g new ss d none closes = by_last g.last refl
  where
    by_last : (o : Option Line) → g.last ≡ o → IsShut T workers new ss
    by_last None e = shut-none T workers g new ss d e (none e)
    by_last (Some line) e = shut-last T workers g new ss line d e (closes line e)

pub shut-over : (T : Table) (workers : ℕ) (g : LoweringProgress) (ss : List (Statement (List ℕ))) (e : LowerRefusal) → IsShut T workers g ss → IsOverLimit e g.over → IsLate e (late_limit workers ss)
shut-over T workers g ss OutOfMemory d h = tt
shut-over T workers g ss (TooManyCells line) d h = absurd h
shut-over T workers g ss (TooManyTasks line) d h = d.late ∙ ap late_tasks h
