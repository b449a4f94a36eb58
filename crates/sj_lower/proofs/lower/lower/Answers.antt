use Rattle.sj_lower.proofs.Words.{[], ActsArePlaced, All, ap, arith, Bool, count_from, finished, into_iter_items, IsFull, IsJob, IsJobIn, IsLate, IsNumbered, IsTable, IsWell, JobState, Kernel, late_limit, late_tasks, length, Line, List, lowered, lowered_program, Lowering, LoweringProgress, LowerRefusal, None, nothing, Prepares, Program, refl, seen_from, Some, StandsAt, start, Statement, statements_of, subst, sym, Table, ℕ, ◌<◌, ◌∙◌, ◌∷◌, ◌≡◌, ◌≤◌}
use Rattle.sj_meaning.specs.declared.job.Statement.{Statement as Kept}
use Rattle.sj_lower.proofs.{Allowed.all_can_be, Combined.IsTrusted, Going.done-has, Going.GoesOn, Going.going-end, Going.going-full, Going.going-has, Going.going-more, Going.going-start, Going.IsDone, Going.IsShut, Going.shut, Going.shut-over, Known.IsKnown, Known.known, Known.own-of, Lowered.IsWhole, Lowered.whole, Naming.names-all, Naming.numbered-none, Properness.delivers_in_order, Properness.delivers_printed, Properness.names_deliver_tasks, Properness.proper, Steps.handed-on}
use Rattle.sj_lower.proofs.lower.lower.Goals as goal

pub loop-statement-init : goal.loop-statement-init
loop-statement-init c =
    let T = c.args.job.roots in
    let gives = c.into_iter-statement-iterator.ensures.into_iter_gives in
    let vec = c.into_items-statement-items.result in
    let ss = into_iter_items c.into_iter-statement-iterator.result in
    let same : ss ≡ c.args.job.statements = gives.0 ∙ c.into_items-statement-items.ensures in
    record {
      going = going-start c.requires.job.has T c.args.workers c.nothing-progress.result ss (c.nothing-progress.ensures.at T) c.nothing-progress.ensures.over c.nothing-progress.ensures.last c.nothing-progress.ensures.workers
          (subst (λ (xs : List Kept). IsWell c.requires.job.has 0 start (seen_from T 0 xs)) (sym same) c.requires.job.well)
          (subst (λ (xs : List Kept). ActsArePlaced 0 xs) (sym same) c.requires.numbered.placed)
          (ap (count_from 0) same ∙ c.requires.numbered.counted);
      left = omega (arith, gives.1, vec.ok, ap length gives.0);
    }

pub add-requires : goal.add-requires
add-requires c =
    let T = c.args.job.roots in
    let at = c.loop-statement in
    let all = into_iter_items c.into_iter-statement-iterator.result in
    let table : IsTable T = subst (λ (U : Table). IsTable U) c.roots.view_is c.roots.invariant in
    going-has T c.args.workers at.progress all (into_iter_items c.next.new.self) c.in-Some.statement table
    (subst (λ (xs : List Kept). GoesOn T c.args.workers at.progress all xs) c.in-Some.ensures.steps.0 at.invariant.going)

pub loop-statement-preserved : goal.loop-statement-preserved
loop-statement-preserved c =
    let T = c.args.job.roots in
    let at = c.loop-statement in
    let all = into_iter_items c.into_iter-statement-iterator.result in
    let table : IsTable T = subst (λ (U : Table). IsTable U) c.roots.view_is c.roots.invariant in
    record {
      going = going-more T c.args.workers at.progress c.add.new.self all (into_iter_items c.next.new.self) c.in-Some.statement table
          (subst (λ (xs : List Kept). GoesOn T c.args.workers at.progress all xs) c.in-Some.ensures.steps.0 at.invariant.going) c.in_ok-add.ensures.workers c.in_ok-add.ensures.last c.in_ok-add.ensures.goes;
      left = omega (arith, at.invariant.left, c.in-Some.ensures.steps.1, ap length c.in-Some.ensures.steps.0);
    }

pub returns-in_err-add-clause-refused : goal.returns-in_err-add-clause-refused
returns-in_err-add-clause-refused c =
    let T = c.args.job.roots in
    let at = c.loop-statement in
    let all = into_iter_items c.into_iter-statement-iterator.result in
    let table : IsTable T = subst (λ (U : Table). IsTable U) c.roots.view_is c.roots.invariant in
    let same : all ≡ c.args.job.statements = c.into_iter-statement-iterator.ensures.into_iter_gives.0 ∙ c.into_items-statement-items.ensures in
    let going = subst (λ (xs : List Kept). GoesOn T c.args.workers at.progress all xs) c.in-Some.ensures.steps.0 at.invariant.going in
    let full : (e : LowerRefusal) → IsFull T at.progress c.in-Some.statement e → IsLate e (late_limit c.args.workers (statements_of c.args.job)) =
    λ e h. subst (λ (xs : List Kept). IsLate e (late_limit c.args.workers (seen_from T 0 xs))) same (going-full T c.args.workers at.progress all (into_iter_items c.next.new.self) c.in-Some.statement e table going h) in
    handed-on c.from_residual.result c.in_err-add.field-0.0 (λ e. IsLate e (late_limit c.args.workers (statements_of c.args.job))) c.from_residual.ensures.1 (full c.in_err-add.field-0.0 c.in_err-add.ensures.full)

nothing_left : (l : List Kept) → length l ≡ 0 → l ≡ []
nothing_left [] h = refl
nothing_left (x ∷ xs) h = absurd (omega arith)

-- all statements are lowered
ended : (T : Table) (workers : ℕ) (g : LoweringProgress) (all left statements : List Kept) → GoesOn T workers g all left → length left ≡ 0 → all ≡ statements → IsDone T workers g (seen_from T 0 statements)
ended T workers g all left statements going none same =
    subst (λ (xs : List Kept). IsDone T workers g (seen_from T 0 xs)) same (going-end T workers g all (subst (λ (xs : List Kept). GoesOn T workers g all xs) (nothing_left left none) going))

pub close_last-requires : goal.close_last-requires
close_last-requires c =
    let T = c.args.job.roots in
    let at = c.loop-statement in
    let all = into_iter_items c.into_iter-statement-iterator.result in
    let same : all ≡ c.args.job.statements = c.into_iter-statement-iterator.ensures.into_iter_gives.0 ∙ c.into_items-statement-items.ensures in
    record {
      at = done-has T c.args.workers at.progress (statements_of c.args.job)
          (ended T c.args.workers at.progress all (into_iter_items at.statement-iterator) c.args.job.statements at.invariant.going (sym at.invariant.left ∙ c.in-None.ensures.steps.0) same);
    }

-- the open phases are closed
closed_all : (T : Table) (workers : ℕ) (g new : LoweringProgress) (all left statements : List Kept) → GoesOn T workers g all left → length left ≡ 0 → all ≡ statements
    → (g.last ≡ None → new ≡ g) → ((line : Line) → g.last ≡ Some line → Prepares g new line (finished g.workers)) → IsShut T workers new (seen_from T 0 statements)
closed_all T workers g new all left statements going none same untouched closes =
    shut T workers g new (seen_from T 0 statements) (ended T workers g all left statements going none same) untouched closes

shut_at : (c : goal.In_ok-program) → IsShut c.args.job.roots c.args.workers c.close_last.new.self (statements_of c.args.job)
shut_at c =
    let at = c.loop-statement in
    let all = into_iter_items c.into_iter-statement-iterator.result in
    closed_all c.args.job.roots c.args.workers at.progress c.close_last.new.self all (into_iter_items at.statement-iterator) c.args.job.statements at.invariant.going (sym at.invariant.left ∙ c.in-None.ensures.steps.0)
    (c.into_iter-statement-iterator.ensures.into_iter_gives.0 ∙ c.into_items-statement-items.ensures) c.in_ok-close_last.ensures.none c.in_ok-close_last.ensures.closes

pub returns-in_err-program-clause-refused : goal.returns-in_err-program-clause-refused
returns-in_err-program-clause-refused c =
    let T = c.args.job.roots in
    let workers = c.args.workers in
    let at = c.loop-statement in
    let all = into_iter_items c.into_iter-statement-iterator.result in
    let e = c.in_err-program.field-0.0 in
    let done = closed_all T workers at.progress c.close_last.new.self all (into_iter_items at.statement-iterator) c.args.job.statements at.invariant.going (sym at.invariant.left ∙ c.in-None.ensures.steps.0)
    (c.into_iter-statement-iterator.ensures.into_iter_gives.0 ∙ c.into_items-statement-items.ensures) c.in_ok-close_last.ensures.none c.in_ok-close_last.ensures.closes in
    handed-on c.from_residual-in_err-program.result e (λ e. IsLate e (late_limit workers (statements_of c.args.job))) c.from_residual-in_err-program.ensures.1
    (shut-over T workers c.close_last.new.self (statements_of c.args.job) e done c.in_err-program.ensures.err)

-- the program is that of the job, and within the limits
record IsMade (T : Table) (p : Program) (ss : List (Statement (List ℕ))) (workers : ℕ) : Type 0 where
  is : p ≡ lowered ss workers
  few_tasks : length p.tasks ≤ 262144
  few_cells : length p.cells ≤ 262144

made : (T : Table) (g : LoweringProgress) (ss : List (Statement (List ℕ))) (p : Program) (workers : ℕ) → IsShut T workers g ss → g.over ≡ None → ((T : Table) (S : JobState) (L : Lowering) → StandsAt T g S L → p ≡ lowered_program g.workers L) → IsMade T p ss workers
made T g ss p workers d none finish =
    let is : p ≡ lowered_program g.workers d.lowering = finish T d.state d.lowering d.at in
    record {
      is = is ∙ (λ i. lowered_program (d.workers_are i) (d.is i));
      few_tasks = omega (arith, d.at.few_tasks none, ap (λ (p : Program). length p.tasks) is);
      few_cells = omega (arith, d.at.few_cells, ap (λ (p : Program). length p.cells) is);
    }

whole_job : (T : Table) (p : Program) (statements : List Kept) (workers : ℕ) → IsTable T → IsNumbered T statements → (j : IsJob (seen_from T 0 statements)) → IsMade T p (seen_from T 0 statements) workers → IsWhole T p (seen_from T 0 statements)
whole_job T p statements workers table numbered j m =
    let ss = seen_from T 0 statements in
    let named = names-all workers T 0 nothing start statements table.2 (omega (arith, numbered.counted)) numbered.placed (numbered-none T) in
    subst (λ (q : Program). IsWhole T q ss) (sym m.is) (whole j.has T ss workers (all_can_be j.has 0 start ss j.well) named)

lowered_to : (c : goal.In_ok-program) → IsMade c.args.job.roots c.in_ok-program.program (statements_of c.args.job) c.args.workers
lowered_to c =
    made c.args.job.roots c.close_last.new.self (statements_of c.args.job) c.in_ok-program.program c.args.workers (shut_at c) c.in_ok-program.ensures.ok.0 c.in_ok-program.ensures.ok.1

whole_at : (c : goal.In_ok-program) → IsWhole c.args.job.roots c.in_ok-program.program (statements_of c.args.job)
whole_at c =
    let T = c.args.job.roots in
    let table : IsTable T = subst (λ (U : Table). IsTable U) c.roots.view_is c.roots.invariant in
    whole_job T c.in_ok-program.program c.args.job.statements c.args.workers table c.requires.numbered c.requires.job (lowered_to c)

pub returns-clause-fits : goal.returns-clause-fits
returns-clause-fits c = (shut_at c).late ∙ ap late_tasks c.in_ok-program.ensures.ok.0

pub returns-clause-is : goal.returns-clause-is
returns-clause-is c = (lowered_to c).is

pub returns-clause-proper : goal.returns-clause-proper
returns-clause-proper c = let m = lowered_to c in proper c.args.job.roots c.in_ok-program.program (statements_of c.args.job) (whole_at c) m.few_tasks m.few_cells

-- the set has the codelets of the program
all_known : (p : Program) (ss : List (Statement (List ℕ))) (workers : ℕ) (has : Kernel → Bool) → p ≡ lowered ss workers → IsJobIn has ss → All (IsKnown has) p.tasks
all_known p ss workers has is j = subst (λ (q : Program). All (IsKnown has) q.tasks) (sym is) (known has workers ss (own-of has j.own) (all_can_be has 0 start ss j.well))

pub returns-clause-known : goal.returns-clause-known
returns-clause-known c = λ has j. all_known c.in_ok-program.program (statements_of c.args.job) c.args.workers has (lowered_to c).is j

pub returns-clause-prints : goal.returns-clause-prints
returns-clause-prints c = λ has lawful some.
    let m = lowered_to c in
    let p = c.in_ok-program.program in
    let T = c.args.job.roots in
    let w = whole_at c in
    let staffed : 0 < p.workers = subst (λ (q : Program). 0 < q.workers) (sym m.is) some in
    let trust : IsTrusted p = record { has = has; lawful = lawful; proper = proper T p (statements_of c.args.job) w m.few_tasks m.few_cells; staffed = staffed } in
    delivers_printed T p (statements_of c.args.job) w trust

pub returns-clause-handed_over : goal.returns-clause-handed_over
returns-clause-handed_over c = names_deliver_tasks c.args.job.roots c.in_ok-program.program (statements_of c.args.job) (whole_at c)

pub returns-clause-in_order : goal.returns-clause-in_order
returns-clause-in_order c = delivers_in_order c.args.job.roots c.in_ok-program.program (statements_of c.args.job) (whole_at c)
