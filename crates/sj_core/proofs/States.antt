-- Legal traces: where all tasks are done each was claimed, ran and ended once; and what one event more needs and leaves.
use Rattle.sj_core.proofs.Words.{[], a_transfer, after, arith, arrays_after, arrays_of, AtNode, Bool, CanFollow, Cell, Claim, Claimed, Coherent, count_by, dims_of, Done, EachRanOnce, End, Equations, Event, false, fold, is_begun, is_claim_of, is_done, is_end_of, is_run_of, IsFinished, IsLegal, length, List, Machine, May, Move, mover_of, nat_eq, OnDisk, opening, Place, Program, Progress, progress, refl, Run, Running, Some, State, state_of, Task, transfer, true, Waiting, Worker, zeros, ℕ, ◌++◌, ◌+◌, ◌∙◌, ◌∷◌, ◌≡◌}
use Rattle.std.proofs.lemmas.{Bool.false≢true, Bool.Decides.Decides-eqb, List.get_or-replicate, List.length-replicate, List.length-set, List.Sums.AllPass-from_list_all, List.Sums.fold-append, List.Sums.sum_by-cons}
use Rattle.sj_base.proofs.Bools.{tally}
use Rattle.sj_core.proofs.{Advancing.Advances, Advancing.Claims-advances_task, Advancing.done-begun, Advancing.Ends-advances, Advancing.Runs-advances, Eviction.evicted-after, Replicas.coming_by-is, Replicas.leaving_by-is}

-- ---- legal traces: where all tasks are done each was claimed, ran and ended once

-- the task runs or is done
abbrev is_started : Progress → Bool
is_started (Running w) = true
is_started (Done w) = true
is_started _ = false

-- so many claims, runs and ends of a task take it from x to y
record Takes (x y : Progress) (claims runs ends : ℕ) : Type 0 where
  pub begun : claims + tally (is_begun x) ≡ tally (is_begun y)
  pub started : runs + tally (is_started x) ≡ tally (is_started y)
  pub done : ends + tally (is_done x) ≡ tally (is_done y)

stays : (x y : Progress) → y ≡ x → Takes x y 0 0 0
stays x y same = search (arith, tally, is_started)

-- ---- one step

-- what a step of the task t says of the task u: the numbers are by whether u is t
takes-by : (s s' : State) (t u : Task) (old new : Progress) (claims runs ends : Bool → ℕ) → Advances s s' t old new → Takes old new (claims true) (runs true) (ends true) → claims false ≡ 0 → runs false ≡ 0 → ends false ≡ 0 → (same : Bool) → nat_eq t.0 u.0 ≡ same → Takes (progress s u) (progress s' u) (claims same) (runs same) (ends same)
takes-by s s' t u old new claims runs ends a takes no_claim no_run no_end x h =
    search (arith, Decides-eqb, false≢true, stays)

abbrev none : Bool → ℕ
none same = 0

-- a step of the machine takes each task as far as its event says
step-takes : (p : Program) (m : Machine) (s : State) (e : Event) (u : Task) → length s.tasks ≡ length p.tasks → May p m s e → Takes (progress s u) (progress (after p m s e) u) (tally (is_claim_of u e)) (tally (is_run_of u e)) (tally (is_end_of u e))
step-takes p m s (Claim t w) u rows may =
    takes-by s (after p m s (Claim t w)) t u Waiting (Claimed w) tally none none (Claims-advances_task p m s t w (after p m s (Claim t w)) rows may (evicted-after p m s t w)) (record { begun = refl; started = refl; done = refl }) refl refl refl (nat_eq t.0 u.0) refl
step-takes p m s (Run t w) u rows may =
    takes-by s (after p m s (Run t w)) t u (Claimed w) (Running w) none tally none (Runs-advances p m s t w (after p m s (Run t w)) may refl) (record { begun = refl; started = refl; done = refl }) refl refl refl (nat_eq t.0 u.0) refl
step-takes p m s (End t w) u rows may =
    takes-by s (after p m s (End t w)) t u (Running w) (Done w) none none tally (Ends-advances p m s t w (after p m s (End t w)) may refl) (record { begun = refl; started = refl; done = refl }) refl refl refl (nat_eq t.0 u.0) refl
step-takes p m s (Move c from (AtNode n)) u rows may = stays (progress s u) (progress s u) refl
step-takes p m s (Move c from (OnDisk d)) u rows may = stays (progress s u) (progress s u) refl
step-takes p m s e u rows may = stays (progress s u) (progress s u) refl

-- each step keeps a row for each task
pub step-rows : (p : Program) (m : Machine) (s : State) (e : Event) → length (after p m s e).tasks ≡ length s.tasks
step-rows p m s e = search (arith, length-set)

-- ---- whole traces

pub trace-rows : (p : Program) (m : Machine) (s : State) (trace : List Event) → length (fold (after p m) s trace).tasks ≡ length s.tasks
trace-rows p m s [] = refl
trace-rows p m s (e ∷ trace) = trace-rows p m (after p m s e) trace ∙ step-rows p m s e

-- a legal trace takes each task as far as its events say
trace-takes : (p : Program) (m : Machine) (s : State) (trace : List Event) (u : Task) → length s.tasks ≡ length p.tasks → CanFollow p m s trace → Takes (progress s u) (progress (fold (after p m) s trace) u) (count_by (is_claim_of u) trace) (count_by (is_run_of u) trace) (count_by (is_end_of u) trace)
trace-takes p m s [] u rows follows = stays (progress s u) (progress s u) refl
trace-takes p m s (e ∷ trace) u rows (may, rest) =
    let first = step-takes p m s e u rows may in
    let later = trace-takes p m (after p m s e) trace u (step-rows p m s e ∙ rows) rest in
    let claims = sum_by-cons (λ (d : Event). tally (is_claim_of u d)) e trace in
    let runs = sum_by-cons (λ (d : Event). tally (is_run_of u d)) e trace in
    let ends = sum_by-cons (λ (d : Event). tally (is_end_of u d)) e trace in
    record { begun = omega (arith, first.begun, later.begun, claims); started = omega (arith, first.started, later.started, runs); done = omega (arith, first.done, later.done, ends) }

done-started : (x : Progress) → is_done x ≡ true → is_started x ≡ true
done-started x h = search arith

-- what takes a task from waiting to done is one claim, one run and one end
takes-all : (x y : Progress) (claims runs ends : ℕ) → Takes x y claims runs ends → x ≡ Waiting → is_done y ≡ true → (claims ≡ 1) × (runs ≡ 1) × (ends ≡ 1)
takes-all x y claims runs ends takes waits is_last = search (arith, tally, done-begun, is_started, done-started)

-- in a finished trace each task was claimed, ran and ended once
pub finished-once : (p : Program) (m : Machine) (trace : List Event) → IsFinished p m trace → EachRanOnce p trace
finished-once p m trace finished t inside =
    let rows : length (opening p m).tasks ≡ length p.tasks = length-replicate (length p.tasks) Waiting in
    let waits : progress (opening p m) t ≡ Waiting = get_or-replicate (length p.tasks) t.0 Waiting Waiting inside in
    let is_last : is_done (progress (state_of p m trace) t) ≡ true = AllPass-from_list_all is_done (state_of p m trace).tasks finished.complete t.0 Waiting (omega (arith, inside, rows, trace-rows p m (opening p m) trace)) in
    let once = takes-all (progress (opening p m) t) (progress (state_of p m trace) t) (count_by (is_claim_of t) trace) (count_by (is_run_of t) trace) (count_by (is_end_of t) trace) (trace-takes p m (opening p m) trace t rows finished.legal) waits is_last in
    record { claimed_once = once.0; run_once = once.1; ended_once = once.2 }

-- ---- the mover

-- in a coherent state the worker of a transfer is the one by whose claim its cell comes or leaves
pub one-mover : (p : Program) (m : Machine) (s : State) (c : Cell) (from to : Place) (w : Worker) → Coherent p m s → transfer s w ≡ Some (a_transfer c from to) → w ≡ mover_of s c from to
one-mover p m s c from to w coherent under_way = search (arith, coming_by-is, leaving_by-is)

-- ---- one event more

-- events that may follow one another are two traces of which the second may follow the first, and the other way round
pub follow-both : (p : Program) (m : Machine) (s : State) (front back : List Event) → CanFollow p m s front → CanFollow p m (fold (after p m) s front) back → CanFollow p m s (front ++ back)
follow-both p m s [] back follows rest = rest
follow-both p m s (e ∷ front) back (may, follows) rest = (may, follow-both p m (after p m s e) front back follows rest)

pub follow-front : (p : Program) (m : Machine) (s : State) (front back : List Event) → CanFollow p m s (front ++ back) → CanFollow p m s front × CanFollow p m (fold (after p m) s front) back
follow-front p m s [] back follows = (tt, follows)
follow-front p m s (e ∷ front) back (may, follows) = let parts = follow-front p m (after p m s e) front back follows in ((may, parts.0), parts.1)

-- the front of a legal trace is legal
pub legal-front : (p : Program) (m : Machine) (front back : List Event) → IsLegal p m (front ++ back) → IsLegal p m front
legal-front p m front back legal = (follow-front p m (opening p m) front back legal).0

pub state_of-more : (p : Program) (m : Machine) (trace : List Event) (e : Event) → state_of p m (trace ++ e ∷ []) ≡ after p m (state_of p m trace) e
state_of-more p m trace e = fold-append (after p m) (opening p m) trace (e ∷ [])

pub arrays_of-more : (eq : Equations) (p : Program) (m : Machine) (trace : List Event) (e : Event) → arrays_of eq p m (trace ++ e ∷ []) ≡ arrays_after eq p m (arrays_of eq p m trace) e
arrays_of-more eq p m trace e = fold-append (arrays_after eq p m) (λ c q. zeros (dims_of p c)) trace (e ∷ [])

pub legal-more : (p : Program) (m : Machine) (trace : List Event) (e : Event) → IsLegal p m trace → May p m (state_of p m trace) e → IsLegal p m (trace ++ e ∷ [])
legal-more p m trace e legal may = follow-both p m (opening p m) trace (e ∷ []) legal (may, tt)

pub legal-before : (p : Program) (m : Machine) (trace : List Event) (e : Event) → IsLegal p m (trace ++ e ∷ []) → IsLegal p m trace
legal-before p m trace e legal = legal-front p m trace (e ∷ []) legal

pub legal-last : (p : Program) (m : Machine) (trace : List Event) (e : Event) → IsLegal p m (trace ++ e ∷ []) → May p m (state_of p m trace) e
legal-last p m trace e legal = (follow-front p m (opening p m) trace (e ∷ []) legal).1.0
