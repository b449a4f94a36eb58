-- What is taken from a pool for a worker that has passed some tasks.
use Rattle.sj_board.proofs.Words.{[], ap, arith, Bool, cond, count_by, count_entries, Entry, entry_for, entry_of, false, first_fitting, fits_room, footprint, get_or, has_fitting, HasLost, home, inl, inr, is_among, is_entry_of, is_passed, IsEntry, IsFirstLeft, IsLeft, IsMostUrgent, IsPoolOf, IsTakenBehind, IsTrue, length, length-set, List, list_any, nat_eq, None, Option, Pooled, precedes, Prio, Program, queue, refl, serves, Some, subst, sym, Task, task_for, times_of, times_pooled, true, turns, with_entry, without_entry_for, without_first_fitting, ℕ, ◌+◌, ◌<◌, ◌∙◌, ◌∷◌, ◌≡◌}
use Rattle.std.proofs.Common.{IfSome, All}
use Rattle.std.specs.Option.{option_and_then, option_map}
use Rattle.std.proofs.lemmas.{Bool.cases_lt, Bool.eqb-true, Bool.false_from_ne_true, Bool.false≢true, Bool.le-leb, Bool.leb-false, Bool.leb-true, List.Elements.All-contains, List.Elements.All-get_or, List.Elements.All-head, List.Elements.All-tail, List.Folds.list_any_at, List.Sums.sum_by-cons, List.Sums.sum_by-set, Option.IfSome_then}
use Rattle.sj_base.proofs.Lists.{counted_some, find-passes}
use Rattle.sj_core.proofs.Readiness.{list_any-some}
use Rattle.sj_pool.proofs.{Keeping.home-within, Serving.serving-fits}
use Rattle.sj_board.proofs.Pooling.{Serves, all-pooled, all-taken, first-all, queue-inside, queues-length, queues_from, task_from, times-put, times-taken, times_in}

-- ---- a task that stands in a pool has an entry there

-- an entry of the task, of which this is so
abbrev HasEntry : (Entry → Type 0) → Task → Type 0
HasEntry P t = (e : Entry) × (e.task ≡ t) × P e

entry-in : (P : Entry → Type 0) (q : List Entry) (t : Task) → All P q → 0 < count_by (is_entry_of t) q → HasEntry P t
entry-in P q t all h =
    let found = list_any-some (is_entry_of t) q (counted_some (is_entry_of t) q h) in
    (found.0, ap (λ (n : ℕ). let u : Task = record { 0 = n } in u) (eqb-true found.0.task.0 t.0 found.2), All-contains P q found.0 all found.1)

entry-among : (P : Entry → Type 0) (qs : List (List Entry)) (t : Task) → All (All P) qs → 0 < times_in t qs → HasEntry P t
entry-among P [] t all h = absurd (omega (arith, h))
entry-among P (q ∷ qs) t all h =
    elim (cases_lt 0 (count_by (is_entry_of t) q)) as (λ _. HasEntry P t) [
      | inl here ↦ entry-in P q t (All-head (All P) q qs all) here
      | inr none ↦ entry-among P qs t (All-tail (All P) q qs all) (omega (arith, h, none, sum_by-cons (λ (k : List Entry). count_by (is_entry_of t) k) q qs))
    ]

none-any : (f : Entry → Bool) (es : List Entry) → list_any f es ≡ false → All (λ e. f e ≡ false) es
none-any f es h = λ i d l. false_from_ne_true (f (get_or es i d)) (λ passes. false≢true (sym h ∙ list_any_at f es i d l passes))

-- what is so of each entry is so of the one that is taken, and that one fits
entry-taken : (P : Entry → Type 0) (qs : List (List Entry)) (room : ℕ) (o : Option ℕ) (e : Entry) → Serves qs room o → All (All P) qs → option_and_then (λ i. first_fitting room (queue qs i)) o ≡ Some e → (fits_room room e ≡ true) × P e
entry-taken P qs room None e serves all is = absurd (cc)
entry-taken P qs room (Some i) e serves all is = (find-passes (fits_room room) (queue qs i) e is, first-all P room (queue qs i) e (All-get_or (All P) qs i [] (queue-inside qs room i (serves i refl)) all) is)

-- ---- taking

length-taken : (room : ℕ) (es : List Entry) → has_fitting room es ≡ true → length (without_first_fitting room es) + 1 ≡ length es
length-taken room [] h = absurd (false≢true h)
length-taken room (e ∷ es) h = grind (arith, length-taken room es)

-- the pool has fewer entries then
fewer-left : (qs : List (List Entry)) (room : ℕ) (o : Option ℕ) (t : Task) → Serves qs room o → task_from qs room o ≡ Some t → count_entries (queues_from qs room o) < count_entries qs
fewer-left qs room None t serves is = absurd (cc)
fewer-left qs room (Some i) t serves is =
    omega (arith, sum_by-set {X = List Entry} length qs i (without_first_fitting room (queue qs i)) [] (queue-inside qs room i (serves i refl)), length-taken room (queue qs i) (serves i refl))

module _ (p : Program) (passed : List Task) (w room : ℕ) (old : Pooled) (is : IsPoolOf p old) where
  serving : Serves old.queues room (serves old w room)
  serving i e = serving-fits old.queues room (turns (length old.queues) (home old.policy w)) i e

  abbrev taken : Pooled
  taken = without_entry_for old w room

  lost-taken : HasLost (task_for old w room) old taken
  lost-taken t = times-taken old.queues room (serves old w room) t serving

  pub pool-taken : IsPoolOf p taken
  pool-taken = record {
    workers = is.workers;
    tasks = is.tasks;
    queues = queues-length old.queues room (serves old w room) ∙ is.queues;
    entries = all-taken (IsEntry p) old.queues room (serves old w room) serving is.entries;
    known = λ t h. is.known t (omega (arith, h, lost-taken t));
    once = λ t. omega (arith, is.once t, lost-taken t);
  }

  -- what is so of each entry is so of that of each task that stands there
  entry-stands : (P : Entry → Type 0) → All (All P) old.queues → (t : Task) → 0 < times_pooled old t → P (entry_of p t)
  entry-stands P all t stands =
      let found = entry-among (λ e. IsEntry p e × P e) old.queues t (λ i d h j k g. (is.entries i d h j k g, all i d h j k g)) stands in
      subst P (found.2.0 ∙ ap (entry_of p) found.1) found.2.1

  pub taken-none : task_for old w room ≡ None → All (λ q. has_fitting room q ≡ false) old.queues → IsTakenBehind p passed w room old taken None
  taken-none none unfit = record {
    policy = refl;
    pool = pool-taken;
    lost = subst (λ (o : Option Task). HasLost o old taken) none lost-taken;
    left = tt;
    none = λ e t l. absurd (omega (arith, l.fits, leb-false (footprint p t) room (entry-stands (λ x. fits_room room x ≡ false) (λ i d h. none-any (fits_room room) _ (unfit i d h)) t l.stands)));
    urgent = λ e. tt;
    first = λ e. (sym none, refl);
  }

  module _ (t : Task) (gives : task_for old w room ≡ Some t) where
    lost-given : HasLost (Some t) old taken
    lost-given = subst (λ (o : Option Task). HasLost o old taken) gives lost-taken

    own : times_of (Some t) t ≡ 1
    own = grind arith

    pub fewer : count_entries taken.queues < count_entries old.queues
    fewer = fewer-left old.queues room (serves old w room) t serving gives

    pub stood : 0 < times_pooled old t
    stood = omega (arith, lost-given t, own)

    -- the entry that is taken is the task's, and fits
    own-entry : (o : Option Entry) → entry_for old w room ≡ o → option_map (λ e. e.task) o ≡ Some t → (o ≡ Some (entry_of p t)) × (fits_room room (entry_of p t) ≡ true)
    own-entry None some task = absurd (cc)
    own-entry (Some e) some task =
        let has = entry-taken (IsEntry p) old.queues room (serves old w room) e serving is.entries some in
        let same : e.task ≡ t = cc in
        let its : e ≡ entry_of p t = has.1 ∙ ap (entry_of p) same in
        (ap Some its, subst (λ (x : Entry). fits_room room x ≡ true) its has.0)

    given : (entry_for old w room ≡ Some (entry_of p t)) × (fits_room room (entry_of p t) ≡ true)
    given = own-entry (entry_for old w room) refl gives

    -- no entry that fits is more urgent, and so none of a task that is left
    urgent-given : IfSome (entry_for old w room) (λ e. IsMostUrgent e room old.queues) → IsFirstLeft p passed room old t
    urgent-given law u l =
        let most : IsMostUrgent (entry_of p t) room old.queues = subst (λ (o : Option Entry). IfSome o (λ e. IsMostUrgent e room old.queues)) given.0 law in
        entry-stands (λ x. IsTrue (fits_room room x) → precedes x (entry_of p t) ≡ false) most u l.stands (le-leb (footprint p u) room l.fits)

    pub taken-some : is_among passed t ≡ false → (old.policy ≡ Prio → IfSome (entry_for old w room) (λ e. IsMostUrgent e room old.queues)) → IsTakenBehind p passed w room old taken (Some t)
    taken-some new law = record {
      policy = refl;
      pool = pool-taken;
      lost = lost-given;
      left = record { stands = stood; fits = leb-true (footprint p t) room given.1; not_passed = new };
      none = λ e. absurd (cc);
      urgent = λ prio. urgent-given (law prio);
      first = λ e. (sym gives, refl);
    }

    -- ---- and back

    module _ (known : w < p.workers) (was : is_among passed t ≡ true) (mid : Pooled) (other : Option Task) (behind : IsTakenBehind p passed w room taken mid other) where
      abbrev back : Pooled
      back = with_entry mid (entry_of p t) w

      pub back-task : t.0 < length p.tasks
      back-task = is.known t stood

      pub back-known : t.0 < mid.limit
      back-known = subst (λ (n : ℕ). t.0 < n) (sym behind.pool.tasks) back-task

      pub back-absent : times_pooled mid t ≡ 0
      back-absent = omega (arith, is.once t, lost-given t, own, behind.lost t)

      home-here : home mid.policy w < length mid.queues
      home-here = subst (λ (n : ℕ). home mid.policy w < n) (sym behind.pool.queues) (home-within mid.policy mid.workers w (subst (λ (n : ℕ). w < n) (sym behind.pool.workers) known))

      lost-back : HasLost other old back
      lost-back u = omega (arith, times-put mid.policy mid.queues (home mid.policy w) (entry_of p t) u home-here, behind.lost u, lost-given u)

      -- what is left to take is left behind it
      still-left : (u : Task) → IsLeft p passed room old u → IsLeft p passed room taken u
      still-left u l =
          let other_task : nat_eq t.0 u.0 ≡ false = false_from_ne_true (nat_eq t.0 u.0) (λ same. false≢true (sym l.not_passed ∙ ap (λ (n : ℕ). let k : Task = record { 0 = n } in is_among passed k) (sym (eqb-true t.0 u.0 same)) ∙ was)) in
          record {
            stands = omega (arith, l.stands, lost-given u, ap (λ (b : Bool). cond {A = ℕ} b 1 0) other_task);
            fits = l.fits;
            not_passed = l.not_passed;
          }

      was-left : (u : Task) → IsLeft p passed room taken u → IsLeft p passed room old u
      was-left u l = record { stands = omega (arith, l.stands, lost-given u); fits = l.fits; not_passed = l.not_passed }

      pub put-behind : IsTakenBehind p passed w room old back other
      put-behind = record {
        policy = behind.policy;
        pool = record {
          workers = behind.pool.workers;
          tasks = behind.pool.tasks;
          queues = length-set mid.queues (home mid.policy w) _ ∙ behind.pool.queues;
          entries = all-pooled (IsEntry p) mid.policy mid.queues (home mid.policy w) (entry_of p t) home-here refl behind.pool.entries;
          known = λ u h. is.known u (omega (arith, h, lost-back u));
          once = λ u. omega (arith, is.once u, lost-back u);
        };
        lost = lost-back;
        left = IfSome_then other behind.left was-left;
        none = λ e u l. behind.none e u (still-left u l);
        urgent = λ prio. IfSome_then other (behind.urgent prio) (λ u first v l. first v (still-left v l));
        first = λ e. absurd (false≢true (sym e ∙ ap (is_passed passed) gives ∙ was));
      }
