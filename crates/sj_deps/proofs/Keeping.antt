-- The counters are those of the tasks that are done.
use Rattle.std.proofs.Common.{◌≡◌, ◌↔◌, ℕ, ◌+◌, ◌<◌, ◌≤◌, Bool, true, false, not, cond, List, [], ◌∷◌, ◌++◌, length, sym, ap, refl, ◌∙◌, subst, arith, ⊎_elim, slice_index_or, slice_set, nat_eq, nat_lt, IsTrue, map}
use Rattle.std.specs.Prelude.{Contains, vec_capacity, All, ◌⊎◌}
use Rattle.std.specs.List.{count_by}
use Rattle.std.specs.List.Sorted.{IsStrictlyIncreasing}
use Rattle.std.proofs.lemmas.List.{get_or-set_same, get_or-set_other, get_or_default, get_or_past, get_or-map, length-map, length_push}
use Rattle.std.proofs.lemmas.List.Sums.{sum_by-cons, sum_by-set, get_or-le-sum_by}
use Rattle.std.proofs.lemmas.List.Elements.{Contains-append_left, Contains-push, Contains-push_cases, All-from_get_or}
use Rattle.std.proofs.lemmas.Bool.{cases_lt, cases_eq, eq-eqb, eqb-true, ne_eqb, cond-true, cond-false, false_from_ne_true, lt-ltb, ltb-true}
use Rattle.sj_base.specs.declared.ids.Task.{Task}
use Rattle.sj_base.specs.declared.program.Program.{Program}
use Rattle.sj_base.specs.Ids.{task}
use Rattle.sj_deps.specs.declared.manner.Manner.{Manner}
use Rattle.sj_deps.specs.declared.manner.Manner.TheVariants.{Contribute}
use Rattle.sj_deps.specs.Conflict.{Uses, Ready}
use Rattle.sj_deps.specs.declared.chain.Chain.{Chain}
use Rattle.sj_deps.specs.declared.chain.Member.{Member}
use Rattle.sj_deps.specs.declared.counters.Counters.{Counters}
use Rattle.sj_deps.specs.Chains.{party_at, manner_at, is_of, is_party, left_of, waits_of}
use Rattle.sj_deps.specs.Counts.{HoldsAccesses, Present, Flags, In, IsPhaseParty, SameMembers, is_task, tasks_at, parties_at, undone_among, blocked}
use Rattle.sj_deps.specs.Progress.{KeepsCounts, Completes}
use Rattle.sj_deps.proofs.Counting.{none_dropped, some_counted, two_counted}
use Rattle.sj_deps.proofs.Readiness.{flag_at, ready-waits, waits-ready}

-- a task that is one of a party's is in its list, and the party is in the task's
pub listed_task : (tasks : List (List Task)) (n t : ℕ) → 0 < count_by (is_task t) (tasks_at tasks n) → In tasks n t
listed_task tasks n t some =
    let found = some_counted (is_task t) (task 0) (tasks_at tasks n) some in
    let x : Task = slice_index_or (tasks_at tasks n) found.0 (task 0) in
    let same : x ≡ task t = ap task (eqb-true x.0 t found.2) in
    (found.0, found.1, get_or_default (tasks_at tasks n) found.0 (task t) (task 0) found.1 ∙ same)

pub task_listed : (tasks : List (List Task)) (n t : ℕ) → In tasks n t → 0 < count_by (is_task t) (tasks_at tasks n)
task_listed tasks n t here =
    let part = get_or-le-sum_by (λ x. cond {A = ℕ} (is_task t x) 1 0) (tasks_at tasks n) here.0 (task t) here.1 in
    let one : cond {A = ℕ} (is_task t (slice_index_or (tasks_at tasks n) here.0 (task t))) 1 0 ≡ 1 = ap (λ (x : Task). cond {A = ℕ} (is_task t x) 1 0) here.2 ∙ cond-true (nat_eq t t) 1 0 (eq-eqb t t refl) in
    omega arith

pub party_counted : (ns : List ℕ) (i : ℕ) → i < length ns → 0 < count_by (is_party (slice_index_or ns i 0)) ns
party_counted ns i h =
    let n : ℕ = slice_index_or ns i 0 in
    let part = get_or-le-sum_by (λ x. cond {A = ℕ} (is_party n x) 1 0) ns i 0 h in
    let one : cond {A = ℕ} (is_party n n) 1 0 ≡ 1 = cond-true _ 1 0 (eq-eqb n n refl) in
    omega arith

-- none of these parties waits exactly where the count of those that do is 0
pub blocked_none : (w ns : List ℕ) → ((i : ℕ) → i < length ns → waits_of w (slice_index_or ns i 0) ≡ 0) → blocked w ns ≡ 0
blocked_none w ns free = none_dropped (λ n. nat_lt 0 (waits_of w n)) ns 0 0 (λ p from below. false_from_ne_true _ (λ some. absurd (let e = free p below in let more : 0 < waits_of w (slice_index_or ns p 0) = ltb-true _ _ some in omega arith)))

pub none_blocked : (w ns : List ℕ) → blocked w ns ≡ 0 → (i : ℕ) → i < length ns → waits_of w (slice_index_or ns i 0) ≡ 0
none_blocked w ns none i h =
    ⊎_elim (λ some.
    let part = get_or-le-sum_by (λ n. cond {A = ℕ} (nat_lt 0 (waits_of w n)) 1 0) ns i 0 h in
    let one : cond {A = ℕ} (nat_lt 0 (waits_of w (slice_index_or ns i 0))) 1 0 ≡ 1 = cond-true _ 1 0 (lt-ltb _ _ some) in
    absurd (omega arith)) (λ free. omega arith) (cases_lt 0 (waits_of w (slice_index_or ns i 0)))

module _ (P : Program) (c : Counters) (keeps : KeepsCounts P c) where
  -- each party of a task has it
  pub has_task : (t i : ℕ) → i < length (parties_at c.parties.items t) → In c.tasks.items (slice_index_or (parties_at c.parties.items t) i 0) t
  has_task t i h =
      let ns = parties_at c.parties.items t in
      let some = party_counted ns i h in
      let e = keeps.ledger.matching t (slice_index_or ns i 0) in
      listed_task c.tasks.items (slice_index_or ns i 0) t (omega arith)

  pub ready_done : (t : ℕ) → flag_at c.is_done.items t ≡ true → Ready P c.order.items t → ⊥
  ready_done t done ready = ready.waiting (keeps.flags.listed t done)

  pub ready_flag : (t : ℕ) → Ready P c.order.items t → flag_at c.is_done.items t ≡ false
  ready_flag t ready = false_from_ne_true _ (λ done. ready_done t done ready)

  pub ready_free : (t : ℕ) → Ready P c.order.items t → (n : ℕ) → In c.tasks.items n t → waits_of c.waits.items n ≡ 0
  ready_free t ready n by = ready-waits P keeps.program c.chains.items c.cells.items c.tasks.items keeps.holds c.is_done.items c.order.items keeps.flags c.left.items keeps.left c.waits.items keeps.ledger.fits t n by ready

  pub ready_held : (t : ℕ) → Ready P c.order.items t → waits_of c.held.items t ≡ 0
  ready_held t ready = keeps.ledger.held t ∙ blocked_none c.waits.items (parties_at c.parties.items t) (λ i h. ready_free t ready _ (has_task t i h))

  pub held_ready : (t : ℕ) → t < length P.tasks → flag_at c.is_done.items t ≡ false → waits_of c.held.items t ≡ 0 → Ready P c.order.items t
  held_ready t inside idle none =
      waits-ready P keeps.program c.chains.items c.cells.items c.tasks.items keeps.holds c.is_done.items c.order.items keeps.flags c.left.items keeps.left c.waits.items keeps.ledger.fits t keeps.all inside idle (λ n by.
      let some = task_listed c.tasks.items n t by in
      let e = keeps.ledger.matching t n in
      let found = some_counted (is_party n) 0 (parties_at c.parties.items t) (omega arith) in
      let same : slice_index_or (parties_at c.parties.items t) found.0 0 ≡ n = eqb-true _ _ found.2 in
      subst (λ k. waits_of c.waits.items k ≡ 0) same (none_blocked c.waits.items (parties_at c.parties.items t) (sym (keeps.ledger.held t) ∙ none) found.0 found.1))

  -- a task that is done is held by nothing: what it waits for is released before
  pub ready_iff : (t : ℕ) → t < length P.tasks → flag_at c.is_done.items t ≡ false → IsTrue (nat_eq (waits_of c.held.items t) 0) ↔ Ready P c.order.items t
  ready_iff t inside idle = (λ none. held_ready t inside idle (eqb-true _ _ none), λ ready. eq-eqb _ _ (ready_held t ready))

-- one task more has a flag
module _ (flags : List Bool) (t : ℕ) (known : t < length flags) (idle : flag_at flags t ≡ false) where
  abbrev marked : List Bool
  marked = slice_set flags t true

  marked_same : flag_at marked t ≡ true
  marked_same = get_or-set_same flags t true false known

  marked_other : (u : ℕ) → (t ≡ u → ⊥) → flag_at marked u ≡ flag_at flags u
  marked_other u other = get_or-set_other flags t u true false (λ e. other (sym e))

  marked_more : (u : ℕ) → flag_at flags u ≡ true → flag_at marked u ≡ true
  marked_more u h = ⊎_elim (λ same. subst (λ n. flag_at marked n ≡ true) same marked_same) (λ other. marked_other u other ∙ h) (cases_eq t u)

  one_fewer : (x : Task) → cond {A = ℕ} (not (flag_at flags x.0)) 1 0 ≡ cond (not (flag_at marked x.0)) 1 0 + cond {A = ℕ} (is_task t x) 1 0
  one_fewer x =
      ⊎_elim (λ same.
      let now : cond {A = ℕ} (not (flag_at marked x.0)) 1 0 ≡ 0 = ap (λ b. cond {A = ℕ} (not b) 1 0) (subst (λ n. flag_at marked n ≡ true) same marked_same) in
      let was : cond {A = ℕ} (not (flag_at flags x.0)) 1 0 ≡ 1 = ap (λ b. cond {A = ℕ} (not b) 1 0) (subst (λ n. flag_at flags n ≡ false) same idle) in
      let one : cond {A = ℕ} (is_task t x) 1 0 ≡ 1 = cond-true _ 1 0 (eq-eqb _ _ (sym same)) in
      omega arith) (λ other.
      let now : cond {A = ℕ} (not (flag_at marked x.0)) 1 0 ≡ cond {A = ℕ} (not (flag_at flags x.0)) 1 0 = ap (λ b. cond {A = ℕ} (not b) 1 0) (marked_other x.0 other) in
      let none : cond {A = ℕ} (is_task t x) 1 0 ≡ 0 = cond-false _ 1 0 (ne_eqb _ _ (λ e. other (sym e))) in
      omega arith) (cases_eq t x.0)

  pub undone_marked : (ts : List Task) → undone_among flags ts ≡ undone_among marked ts + count_by (is_task t) ts
  undone_marked [] = refl
  undone_marked (x ∷ ts) =
      let a = sum_by-cons (λ (y : Task). cond {A = ℕ} (not (flag_at flags y.0)) 1 0) x ts in
      let b = sum_by-cons (λ (y : Task). cond {A = ℕ} (not (flag_at marked y.0)) 1 0) x ts in
      let d = sum_by-cons (λ y. cond {A = ℕ} (is_task t y) 1 0) x ts in
      let rest = undone_marked ts in
      let one = one_fewer x in
      omega arith

  count_unmarked : count_by not marked + 1 ≡ count_by not flags
  count_unmarked =
      let set = sum_by-set (λ b. cond {A = ℕ} (not b) 1 0) flags t true false known in
      let was : cond {A = ℕ} (not (flag_at flags t)) 1 0 ≡ 1 = ap (λ b. cond {A = ℕ} (not b) 1 0) idle in
      omega arith

  flags_marked : (done : List ℕ) → Flags flags done → Flags marked (done ++ t ∷ [])
  flags_marked done marks = record {
    flagged = λ u h. ⊎_elim (λ before. marked_more u (marks.flagged u before)) (λ same. subst (λ n. flag_at marked n ≡ true) same marked_same) (Contains-push_cases done t u h);
    listed = λ u h. ⊎_elim (λ same. subst (Contains (done ++ t ∷ [])) same (Contains-push done t)) (λ other. Contains-append_left done (t ∷ []) u (marks.listed u (sym (marked_other u other) ∙ h))) (cases_eq t u);
  }

-- the same chains, but for their counts
HoldsAccesses-same : (P : Program) (old new : List Chain) (cells : List (List ℕ)) (tasks : List (List Task)) → SameMembers old new → HoldsAccesses P old cells tasks → HoldsAccesses P new cells tasks
HoldsAccesses-same P old new cells tasks same holds = record {
  every_cell = same.len ∙ holds.every_cell;
  every_party = holds.every_party;
  every_task = holds.every_task;
  itself = holds.itself;
  some = holds.some;
  inside = holds.inside;
  known = λ c. subst (λ (ms : List Member). (p : ℕ) → p < length ms → party_at ms p < length tasks) (sym (same.members c)) (holds.known c);
  sound = λ c. subst (λ (ms : List Member). (p t : ℕ) → p < length ms → In tasks (party_at ms p) t → Uses P t c (manner_at ms p)) (sym (same.members c)) (holds.sound c);
  ordered = λ c. subst (λ (ms : List Member). (i j u t : ℕ) → i < j → j < length ms → In tasks (party_at ms i) u → In tasks (party_at ms j) t → u ≤ t) (sym (same.members c)) (holds.ordered c);
  own = λ c. subst (λ (ms : List Member). (p t : ℕ) → p < length ms → In tasks (party_at ms p) t → (manner_at ms p ≡ Contribute) ⊎ (party_at ms p ≡ t)) (sym (same.members c)) (holds.own c);
  once = λ c. subst (λ (ms : List Member). (i j t : ℕ) → i < j → j < length ms → In tasks (party_at ms i) t → In tasks (party_at ms j) t → manner_at ms i ≡ Contribute) (sym (same.members c)) (holds.once c);
  phases = λ c. subst (λ (ms : List Member). (p : ℕ) → p < length ms → manner_at ms p ≡ Contribute → IsPhaseParty P cells (party_at ms p)) (sym (same.members c)) (holds.phases c);
  listed = λ n c. holds.listed n c ∙ ap (count_by (is_of n)) (sym (same.members c));
}

Present-same : (old new : List Chain) (tasks : List (List Task)) → SameMembers old new → (t c : ℕ) (m : Manner) → Present old tasks t c m → Present new tasks t c m
Present-same old new tasks same t c m here = record {
  place = here.place;
  within = subst (λ (ms : List Member). here.place < length ms) (sym (same.members c)) here.within;
  by = subst (λ (ms : List Member). In tasks (party_at ms here.place) t) (sym (same.members c)) here.by;
  manner = ap (λ (ms : List Member). manner_at ms here.place) (same.members c) ∙ here.manner;
}

module _ (P : Program) (c : Counters) (keeps : KeepsCounts P c) (t : ℕ) (ready : Ready P c.order.items t) where
  pub known_task : t < length c.held.items
  known_task = let task = ready.task in let every = keeps.every_task in omega arith

  known_flag : t < length c.is_done.items
  known_flag = let known = known_task in let every = keeps.ledger.every_flag in omega arith

  pub enough_left : (n : ℕ) → count_by (is_party n) (parties_at c.parties.items t) ≤ left_of c.left.items n
  enough_left n =
      let e = keeps.ledger.matching t n in
      ⊎_elim (λ here.
      let few = keeps.left n here in
      let one = undone_marked c.is_done.items t known_flag (ready_flag P c keeps t ready) (tasks_at c.tasks.items n) in
      omega arith) (λ past.
      let none : count_by (is_task t) (tasks_at c.tasks.items n) ≡ 0 = ap (count_by (is_task t)) (get_or_past c.tasks.items n [] past) in
      omega arith) (cases_lt n (length c.tasks.items))

  pub all_free : All (λ n. waits_of c.waits.items n ≡ 0) (parties_at c.parties.items t)
  all_free = All-from_get_or (λ n. waits_of c.waits.items n ≡ 0) (parties_at c.parties.items t) 0 (λ i h. ready_free P c keeps t ready _ (has_task P c keeps t i h))

  pub room_for_done : length c.order.items < vec_capacity c.order
  room_for_done =
      let one = count_unmarked c.is_done.items t known_flag (ready_flag P c keeps t ready) in
      let room = keeps.room_done in
      omega arith

  module _ (new : Counters) (done : Completes c new t) where
    pub keeps_after : KeepsCounts P new
    keeps_after =
        let idle = ready_flag P c keeps t ready in
        let marked_is : new.is_done.items ≡ slice_set c.is_done.items t true = done.flags in
        record {
          program = keeps.program;
          holds = subst (λ (ts : List (List Task)). HoldsAccesses P new.chains.items new.cells.items ts) (sym done.tasks) (subst (λ (cs : List (List ℕ)). HoldsAccesses P new.chains.items cs c.tasks.items) (sym done.cells) (HoldsAccesses-same P c.chains.items new.chains.items c.cells.items c.tasks.items done.chains keeps.holds));
          all = record { complete = λ u d m uses. subst (λ (ts : List (List Task)). Present new.chains.items ts u d m) (sym done.tasks) (Present-same c.chains.items new.chains.items c.tasks.items done.chains u d m (keeps.all.complete u d m uses)) };
          ledger = done.ledger;
          left = λ n known.
              let long : length new.tasks.items ≡ length c.tasks.items = ap length done.tasks in
              let few = keeps.left n (omega arith) in
              let law = done.left n in
              let e = keeps.ledger.matching t n in
              let one = undone_marked c.is_done.items t known_flag idle (tasks_at c.tasks.items n) in
              let now : undone_among new.is_done.items (tasks_at new.tasks.items n) ≡ undone_among (slice_set c.is_done.items t true) (tasks_at c.tasks.items n) = rw (done.tasks, marked_is) refl in
              omega arith;
          flags = subst (λ fs. Flags fs new.order.items) (sym marked_is) (subst (Flags (slice_set c.is_done.items t true)) (sym done.order) (flags_marked c.is_done.items t known_flag idle c.order.items keeps.flags));
          free = λ u marked.
              let law = done.answers u in
              let was : waits_of c.held.items u ≡ 0 = ⊎_elim (λ same. subst (λ n. waits_of c.held.items n ≡ 0) same (ready_held P c keeps t ready)) (λ other. keeps.free u (sym (marked_other c.is_done.items t known_flag idle u other) ∙ ap (λ fs. flag_at fs u) (sym marked_is) ∙ marked)) (cases_eq t u) in
              omega arith;
          every_task = done.len ∙ keeps.every_task;
          room_done =
              let one = count_unmarked c.is_done.items t known_flag idle in
              let count : count_by not new.is_done.items ≡ count_by not (slice_set c.is_done.items t true) = ap (count_by not) marked_is in
              let long : length new.order.items ≡ length c.order.items + 1 = ap length done.order ∙ length_push c.order.items t in
              let room = keeps.room_done in
              let more = done.room_done in
              omega arith;
        }

    -- the answers are the tasks that are ready now and weren't before
    pub answer_ready : (u : Task) → Contains new.ready.items u → Ready P new.order.items u.0 × (Ready P c.order.items u.0 → ⊥)
    answer_ready u h =
        let counted = done.answers u.0 in
        let some = get_or-le-sum_by (λ x. cond {A = ℕ} (is_task u.0 x) 1 0) new.ready.items h.0 u h.1 in
        let one : cond {A = ℕ} (is_task u.0 (slice_index_or new.ready.items h.0 u)) 1 0 ≡ 1 = cond-true _ 1 0 (eq-eqb _ _ (ap (λ (x : Task). x.0) h.2)) in
        let waited : 0 < waits_of c.held.items u.0 = omega arith in
        let free : waits_of new.held.items u.0 ≡ 0 = omega arith in
        let every = keeps.every_task in
        let task : u.0 < length P.tasks = ⊎_elim (λ inside. inside) (λ past. absurd (let e = get_or_past c.held.items u.0 0 (omega arith) in omega arith)) (cases_lt u.0 (length P.tasks)) in
        let idle : flag_at c.is_done.items u.0 ≡ false = false_from_ne_true _ (λ marked. absurd (let e = keeps.free u.0 marked in omega arith)) in
        let other : t ≡ u.0 → ⊥ = λ same. absurd (let e = ready_held P c keeps t ready in let at_u : waits_of c.held.items t ≡ waits_of c.held.items u.0 = ap (waits_of c.held.items) same in omega arith) in
        let idle_now : flag_at new.is_done.items u.0 ≡ false = ap (λ fs. flag_at fs u.0) done.flags ∙ marked_other c.is_done.items t known_flag (ready_flag P c keeps t ready) u.0 other ∙ idle in
        (held_ready P new keeps_after u.0 task idle_now free, λ was. absurd (let e = ready_held P c keeps u.0 was in omega arith))

    pub ready_answer : (u : Task) → Ready P new.order.items u.0 → (Ready P c.order.items u.0 → ⊥) → Contains new.ready.items u
    ready_answer u now was =
        let counted = done.answers u.0 in
        let free = ready_held P new keeps_after u.0 now in
        let idle : flag_at c.is_done.items u.0 ≡ false = false_from_ne_true _ (λ marked. now.waiting (subst (λ xs. Contains xs u.0) (sym done.order) (Contains-append_left c.order.items (t ∷ []) u.0 (keeps.flags.listed u.0 marked)))) in
        let waited : 0 < waits_of c.held.items u.0 = ⊎_elim (λ some. some) (λ none. absurd (was (held_ready P c keeps u.0 now.task idle (omega arith)))) (cases_lt 0 (waits_of c.held.items u.0)) in
        let found = some_counted (is_task u.0) u new.ready.items (omega arith) in
        (found.0, found.1, ap (λ (n : ℕ). let x : Task = record { 0 = n } in x) (eqb-true _ _ found.2))

    pub answers_rise : IsStrictlyIncreasing (map (λ (x : Task). x.0) new.ready.items)
    answers_rise = λ k h.
        let long = length-map new.ready.items (λ (x : Task). x.0) in
        let d : Task = record { 0 = 0 } in
        let first = get_or-map (λ (x : Task). x.0) new.ready.items k d 0 (omega arith) in
        let second = get_or-map (λ (x : Task). x.0) new.ready.items (k + 1) d 0 (omega arith) in
        let order = done.sorted k (k + 1) d (omega arith) (omega arith) in
        let u : ℕ = (slice_index_or new.ready.items k d).0 in
        let counted = done.answers u in
        ⊎_elim (λ lower. lower) (λ above. absurd (let two = two_counted (is_task u) d new.ready.items k (k + 1) (omega arith) (omega arith) (eq-eqb _ _ refl) (eq-eqb _ _ (omega arith)) in omega arith)) (cases_lt (slice_index_or (map (λ (x : Task). x.0) new.ready.items) k 0) (slice_index_or (map (λ (x : Task). x.0) new.ready.items) (k + 1) 0))
