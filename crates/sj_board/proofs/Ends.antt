-- What the ends of tasks leave, as events happen: what was handed over, what is kept for that, and how many tasks aren't done.
use Rattle.sj_board.proofs.Words.{[], All, ap, arith, Array, Bool, Claimed, cond, delivered_cell, DeliversDone, DeliversEach, dims_of, Done, done_in, Equations, false, get_or, gift_in, given, handed, if◌then◌else◌, inl, inr, is_deliver_task, is_done, is_some, is_task_of, IsComplete, IsDeliveryOf, IsKeptFor, KeepsEnds, length, List, nat_eq, None, not, Option, Program, Progress, progress, refl, Running, set, Some, State, subst, sum_by, sym, Task, tasks_of, true, undelivered, undone, Waiting, Worker, ℕ, ◌&&◌, ◌++◌, ◌+◌, ◌-◌, ◌<◌, ◌∙◌, ◌∷◌, ◌≡◌, ◌≢◌, ◌≤◌}
use Rattle.std.proofs.lemmas.{Bool.cases_Bool, Bool.eq-eqb, Bool.false_from_ne_true, Bool.false≢true, Bool.ne_eqb, Bool.true_from_ne_false, List.append-nil, List.get_or-set_other, List.get_or-set_same, List.length-set, List.Elements.All-push, List.Sums.AllPass-from_list_all, List.Sums.get_or-le-sum_by, List.Sums.list_all-from_AllPass, List.Sums.sum_by-le, List.Sums.sum_by-set, List.Sums.sum_by_push, Option.none-some}
use Rattle.sj_core.proofs.{Advancing.Advances, Advancing.done-kept, Advancing.same_task, Finding.task-counted, Sums.same_test, Sums.sum-agree, Sums.sum-within, Sums.tally}

-- ---- counting tasks that aren't done

abbrev unfinished : Progress → ℕ
unfinished x = cond (not (is_done x)) 1 0

-- none is left exactly where all tasks are done
pub none-undone : (s : State) (left : ℕ) → undone s ≡ left → left ≡ 0 → IsComplete s
none-undone s left counted none = list_all-from_AllPass is_done s.tasks (λ k d within. true_from_ne_false (is_done (get_or s.tasks k d)) (λ waits. (
    let one : unfinished (get_or s.tasks k d) ≡ 1 = ap (λ b. cond (not b) 1 0) waits in
    omega (arith, counted, none, one, get_or-le-sum_by unfinished s.tasks k d within)
    )))

pub complete-none : (s : State) (left : ℕ) → undone s ≡ left → IsComplete s → left ≡ 0
complete-none s left counted complete =
    let each : All (λ (x : Progress). unfinished x ≤ 0) s.tasks = λ k d within. (let none : unfinished (get_or s.tasks k d) ≡ 0 = ap (λ b. cond (not b) 1 0) (AllPass-from_list_all is_done s.tasks complete k d within) in omega (arith, none)) in
    omega (arith, counted, sum_by-le unfinished 0 s.tasks each)

-- what a task counts among those that are yet to hand over
abbrev unhanded : Program → State → Task → ℕ
unhanded p s t = tally (is_deliver_task p t && not (done_in s t))

-- ---- an event

module _ (eq : Equations) (p : Program) (s s' : State) (Tells : Type 0) (pairs : List (Task × Array)) (gifts : List (Option Array)) (spare left : ℕ) (keeps : KeepsEnds eq p s Tells pairs gifts spare left) where
  -- where the same deliver tasks are done
  delivered-still : ((u : Task) → is_deliver_task p u ≡ true → done_in s' u ≡ done_in s u) → DeliversDone eq p s' Tells pairs
  delivered-still dones = record {
    only = keeps.delivered.only;
    once = λ u hands. keeps.delivered.once u hands ∙ ap (λ b. if b then 1 else 0) (sym (dones u hands));
    dims = keeps.delivered.dims;
    arrays = keeps.delivered.arrays;
  }

  undelivered-same : ((u : Task) → is_deliver_task p u ≡ true → done_in s' u ≡ done_in s u) → undelivered p s' ≡ undelivered p s
  undelivered-same dones = sum-agree (unhanded p s') (unhanded p s) each (tasks_of p)
    where
      each : (u : Task) → unhanded p s' u ≡ unhanded p s u
      each u = elim (cases_Bool (is_deliver_task p u)) as (λ _. unhanded p s' u ≡ unhanded p s u) [
        | inl hands ↦ ap (λ b. tally (is_deliver_task p u && not b)) (dones u hands)
        | inr other ↦ ap (λ b. tally (b && not (done_in s' u))) other ∙ sym (ap (λ b. tally (b && not (done_in s u))) other)
      ]

  -- no task becomes done, and what running ones are to hand over is kept
  ends-still : (gifts' : List (Option Array)) → length gifts' ≡ p.workers → ((v : Worker) (u : Task) → progress s' u ≡ Running v → IsKeptFor eq p Tells u (gift_in gifts' v)) → ((u : Task) → done_in s' u ≡ done_in s u) → undone s' ≡ undone s → KeepsEnds eq p s' Tells pairs gifts' spare left
  ends-still gifts' workers kept dones counted = record {
    delivered = delivered-still (λ u hands. dones u);
    gifts_kept = record { every_worker = workers; kept = kept };
    room = omega (arith, undelivered-same (λ u hands. dones u), keeps.room);
    counted = counted ∙ keeps.counted;
  }

  -- all tasks are as they were
  pub ends-same : s'.tasks ≡ s.tasks → KeepsEnds eq p s' Tells pairs gifts spare left
  ends-same same =
      let each : (u : Task) → progress s' u ≡ progress s u = λ u. ap (λ (ts : List Progress). get_or ts u.0 Waiting) same in
      ends-still gifts keeps.gifts_kept.every_worker (λ v u r. keeps.gifts_kept.kept v u (sym (each u) ∙ r)) (λ u. ap is_done (each u)) (ap (λ (ts : List Progress). sum_by unfinished ts) same)

  module _ (t : Task) (w : Worker) (inside : t.0 < length s.tasks) where
    -- how many aren't done, as one goes on
    undone-set : (old new : Progress) → Advances s s' t old new → s'.tasks ≡ set s.tasks t.0 new → undone s' + unfinished old ≡ undone s + unfinished new
    undone-set old new step is = ap (λ x. undone s' + unfinished x) (sym step.was) ∙ ap (λ (ts : List Progress). sum_by unfinished ts + unfinished (progress s t)) is ∙ sum_by-set unfinished s.tasks t.0 new Waiting inside

    -- one goes on that isn't done before or after
    ends-onward : (old new : Progress) → Advances s s' t old new → is_done old ≡ false → is_done new ≡ false → s'.tasks ≡ set s.tasks t.0 new → (gifts' : List (Option Array)) → length gifts' ≡ p.workers → ((v : Worker) (u : Task) → progress s' u ≡ Running v → IsKeptFor eq p Tells u (gift_in gifts' v)) → KeepsEnds eq p s' Tells pairs gifts' spare left
    ends-onward old new step waits still is gifts' workers kept =
        ends-still gifts' workers kept (λ u. same_test (done_in s' u) (done_in s u) (done-kept s' s t u new old (record { was = step.is; is = step.was; others = λ v d. sym (step.others v d) }) still) (done-kept s s' t u old new step waits))
        (omega (arith, undone-set old new step is, ap (λ (b : Bool). cond {A = ℕ} (not b) 1 0) waits, ap (λ (b : Bool). cond {A = ℕ} (not b) 1 0) still))

    -- what other running tasks are to hand over is kept still, whatever the worker's place has
    others_kept : (old new : Progress) → Advances s s' t old new → ((u : Task) → is_task_of w (progress s u) ≡ true → u ≡ t) → (gift : Option Array) (v : Worker) (u : Task) → u ≢ t → progress s' u ≡ Running v → IsKeptFor eq p Tells u (gift_in (set gifts w.0 gift) v)
    others_kept old new step one gift v u d r =
        let ran : progress s u ≡ Running v = sym (step.others u d) ∙ r in
        let other : v.0 ≢ w.0 = λ same. d (one u (ap (is_task_of w) ran ∙ eq-eqb v.0 w.0 same)) in
        subst (λ (g : Option Array). IsKeptFor eq p Tells u g) (sym (get_or-set_other gifts w.0 v.0 gift None other)) (keeps.gifts_kept.kept v u ran)

    -- a waiting task is claimed
    pub ends-claimed : Advances s s' t Waiting (Claimed w) → s'.tasks ≡ set s.tasks t.0 (Claimed w) → KeepsEnds eq p s' Tells pairs gifts spare left
    ends-claimed step is = ends-onward Waiting (Claimed w) step refl refl is gifts keeps.gifts_kept.every_worker (λ v u r. keeps.gifts_kept.kept v u (runs u v r))
      where
        runs : (u : Task) (v : Worker) → progress s' u ≡ Running v → progress s u ≡ Running v
        runs u v r = elim (same_task u t) as (λ _. progress s u ≡ Running v) [
          | inl e ↦ absurd (let f : Claimed w ≡ Running v = sym step.is ∙ ap (progress s') (sym e) ∙ r in cc)
          | inr d ↦ sym (step.others u d) ∙ r
        ]

    -- a claimed task begins to run, and what it is to hand over is kept
    pub ends-begun : Advances s s' t (Claimed w) (Running w) → s'.tasks ≡ set s.tasks t.0 (Running w) → w.0 < p.workers → ((u : Task) → is_task_of w (progress s u) ≡ true → u ≡ t) → (gift : Option Array) → IsKeptFor eq p Tells t gift → KeepsEnds eq p s' Tells pairs (set gifts w.0 gift) spare left
    ends-begun step is staffed one gift kept = ends-onward (Claimed w) (Running w) step refl refl is (set gifts w.0 gift) (length-set gifts w.0 gift ∙ keeps.gifts_kept.every_worker) kept_now
      where
        kept_now : (v : Worker) (u : Task) → progress s' u ≡ Running v → IsKeptFor eq p Tells u (gift_in (set gifts w.0 gift) v)
        kept_now v u r = elim (same_task u t) as (λ _. IsKeptFor eq p Tells u (gift_in (set gifts w.0 gift) v)) [
          | inl e ↦ (
              let f : Running w ≡ Running v = sym step.is ∙ ap (progress s') (sym e) ∙ r in
              let same : w ≡ v = cc in
              let here : gift_in (set gifts w.0 gift) w ≡ gift = get_or-set_same gifts w.0 gift None (omega (arith, staffed, keeps.gifts_kept.every_worker)) in
              subst (λ (x : Worker). IsKeptFor eq p Tells u (gift_in (set gifts w.0 gift) x)) same (subst (λ (g : Option Array). IsKeptFor eq p Tells u g) (sym here) (subst (λ (k : Task). IsKeptFor eq p Tells k gift) (sym e) kept))
              )
          | inr d ↦ others_kept (Claimed w) (Running w) step one gift v u d r
        ]

    -- a running task ends, and hands over what was kept for it
    module _ (step : Advances s s' t (Running w) (Done w)) (is : s'.tasks ≡ set s.tasks t.0 (Done w)) (known : t.0 < length p.tasks) (one : (u : Task) → is_task_of w (progress s u) ≡ true → u ≡ t) where
      abbrev gift : Option Array
      gift = gift_in gifts w

      kept-here : IsKeptFor eq p Tells t gift
      kept-here = keeps.gifts_kept.kept w t step.was

      other-done : (u : Task) → u ≢ t → done_in s' u ≡ done_in s u
      other-done u d = ap is_done (step.others u d)

      before : done_in s t ≡ false
      before = ap is_done step.was

      -- one more is done
      done_in-more : (u : Task) → tally (done_in s' u) ≡ tally (done_in s u) + tally (nat_eq t.0 u.0)
      done_in-more u = elim (same_task u t) as (λ _. tally (done_in s' u) ≡ tally (done_in s u) + tally (nat_eq t.0 u.0)) [
        | inl e ↦ omega (arith, ap tally (ap (done_in s') e ∙ ap is_done step.is), ap tally (ap (done_in s) e ∙ before), ap tally (eq-eqb t.0 u.0 (ap (λ (k : Task). k.0) (sym e))))
        | inr d ↦ omega (arith, ap tally (other-done u d), ap tally (ne_eqb t.0 u.0 (λ g. d (ap (λ n. let k : Task = record { 0 = n } in k) (sym g)))))
      ]

      -- fewer are undelivered afterwards
      fewer : is_deliver_task p t ≡ true → undelivered p s' < undelivered p s
      fewer hands =
          let is_t : Task → Bool = λ u. nat_eq t.0 u.0 in
          let now_t : unhanded p s' t ≡ 0 = ap (λ b. tally (is_deliver_task p t && not b)) (ap is_done step.is) ∙ ap (λ b. tally (b && false)) hands in
          let was_t : unhanded p s t ≡ 1 = ap (λ b. tally (is_deliver_task p t && not b)) before ∙ ap (λ b. tally (b && true)) hands in
          let each : (u : Task) → unhanded p s' u + tally (is_t u) ≤ unhanded p s u = λ u. elim (same_task u t) as (λ _. unhanded p s' u + tally (is_t u) ≤ unhanded p s u) [
            | inl e ↦ subst (λ (k : Task). unhanded p s' k + tally (is_t k) ≤ unhanded p s k) (sym e) (omega (arith, now_t, was_t, ap tally (eq-eqb t.0 t.0 refl)))
            | inr d ↦ omega (arith, done_in-more u, ap tally (other-done u d), ap (λ (b : Bool). tally (is_deliver_task p u && not b)) (other-done u d))
          ] in
          omega (arith, sum-within (unhanded p s') (λ (u : Task). tally (is_t u)) (unhanded p s) each (tasks_of p), task-counted p is_t t known (eq-eqb t.0 t.0 refl))

      -- a deliver task is counted among those that aren't done
      pub ends-some_left : 0 < left
      ends-some_left = omega (arith, undone-set (Running w) (Done w) step is, keeps.counted)

      pub ends-spare : is_some gift ≡ true → 0 < spare
      ends-spare some = elim (cases_Bool (is_deliver_task p t)) as (λ _. 0 < spare) [
        | inl hands ↦ omega (arith, fewer hands, keeps.room)
        | inr keeps_it ↦ absurd (false≢true (sym (ap is_some (kept-here.none keeps_it)) ∙ some))
      ]

      delivered-more : (a : Array) → is_deliver_task p t ≡ true → IsDeliveryOf eq p Tells t a → DeliversDone eq p s' Tells (pairs ++ (t, a) ∷ [])
      delivered-more a hands its = record {
        only = All-push (λ (d : Task × Array). is_deliver_task p d.0 ≡ true) pairs (t, a) keeps.delivered.only hands;
        once = λ u wants. omega (arith, sum_by_push (λ (d : Task × Array). tally (nat_eq d.0.0 u.0)) pairs (t, a), keeps.delivered.once u wants, done_in-more u);
        dims = All-push (λ (d : Task × Array). d.1.dims ≡ dims_of p (delivered_cell p d.0)) pairs (t, a) keeps.delivered.dims its.dims;
        arrays = λ tells. All-push (λ (d : Task × Array). d.1 ≡ given eq p d.0) pairs (t, a) (keeps.delivered.arrays tells) (its.array tells);
      }

      -- with what is kept for it, its own or nothing
      delivered-now : (g : Option Array) → IsKeptFor eq p Tells t g → DeliversDone eq p s' Tells (pairs ++ handed t g) × (undelivered p s' + length (handed t g) ≤ undelivered p s)
      delivered-now None kept =
          let other : is_deliver_task p t ≡ false = false_from_ne_true (is_deliver_task p t) kept.some in
          let same : (u : Task) → is_deliver_task p u ≡ true → done_in s' u ≡ done_in s u = λ u hands. other-done u (λ e. false≢true (sym other ∙ ap (is_deliver_task p) (sym e) ∙ hands)) in
          (subst (DeliversDone eq p s' Tells) (sym (append-nil pairs)) (delivered-still same), omega (arith, undelivered-same same))
      delivered-now (Some a) kept =
          let hands : is_deliver_task p t ≡ true = true_from_ne_false (is_deliver_task p t) (λ other. none-some a (sym (kept.none other))) in
          (delivered-more a hands (kept.some hands), omega (arith, fewer hands))

      pub ends-ended : (spare' : ℕ) → spare' + length (handed t gift) ≡ spare → KeepsEnds eq p s' Tells (pairs ++ handed t gift) (set gifts w.0 None) spare' (left - 1)
      ends-ended spare' room = record {
        delivered = (delivered-now gift kept-here).0;
        gifts_kept = record {
          every_worker = length-set gifts w.0 None ∙ keeps.gifts_kept.every_worker;
          kept = λ v u r. others_kept (Running w) (Done w) step one None v u (λ e. (let f : Done w ≡ Running v = sym step.is ∙ ap (progress s') (sym e) ∙ r in cc)) r;
        };
        room = omega (arith, (delivered-now gift kept-here).1, keeps.room, room);
        counted = omega (arith, undone-set (Running w) (Done w) step is, keeps.counted);
      }

-- ---- at the end

-- where all tasks are done, each deliver task has handed over
pub delivers-each : (eq : Equations) (p : Program) (s : State) (Tells : Type 0) (pairs : List (Task × Array)) → ((t : Task) → is_deliver_task p t ≡ true → done_in s t ≡ true) → DeliversDone eq p s Tells pairs → DeliversEach eq p Tells pairs
delivers-each eq p s Tells pairs done delivered = record {
  only = delivered.only;
  once = λ t hands. delivered.once t hands ∙ ap (λ b. if b then 1 else 0) (done t hands);
  dims = delivered.dims;
  arrays = delivered.arrays;
}
