-- The accesses of a task are entered: by itself, and in a phase.
use Rattle.std.proofs.Common.{◌≡◌, ℕ, zero, suc, ◌+◌, ◌-◌, ◌<◌, ◌≤◌, ◌==◌, true, false, cond, List, [], ◌∷◌, ◌++◌, length, map, sym, ap, refl, ◌∙◌, subst, arith, ⊎_elim, inl, inr, slice_index_or, nat_eq}
use Rattle.std.specs.Prelude.{Contains, ◌⊎◌}
use Rattle.std.specs.List.{count_by, range_with_len}
use Rattle.std.proofs.lemmas.List.{get_or_past, get_or_push, get_or_append_left, get_or-set_same, get_or-set_other, length-set, length_push}
use Rattle.std.proofs.lemmas.List.FromFn.{get_or-range_with_len, length-map-range_with_len, get_or-map-range_with_len}
use Rattle.std.proofs.lemmas.List.Sums.{sum_by_push, sum_by-append, sum_by-cons, get_or-le-sum_by}
use Rattle.std.proofs.lemmas.List.Elements.{Contains-append_left, Contains-push, Contains-push_cases, Contains-append_cases}
use Rattle.std.proofs.lemmas.Bool.{cases_lt, cases_eq, cases_Bool, both_ways, eq-eqb, eqb-true, ne_eqb, cond-true, cond-false}
use Rattle.sj_base.specs.declared.ids.Task.{Task}
use Rattle.sj_base.specs.declared.program.Program.{Program}
use Rattle.sj_base.specs.Ids.{task}
use Rattle.sj_deps.specs.declared.manner.Manner.{Manner}
use Rattle.sj_deps.specs.declared.manner.Manner.TheVariants.{Contribute}
use Rattle.sj_deps.specs.declared.manner.Usage.{Usage}
use Rattle.sj_deps.specs.Conflict.{Uses, HasDependencies, usage}
use Rattle.sj_deps.specs.declared.chain.Chain.{Chain}
use Rattle.sj_deps.specs.declared.chain.Member.{Member}
use Rattle.sj_deps.specs.declared.entry.Entered.{Entered}
use Rattle.sj_deps.specs.Chains.{member, no_member, member_at, party_at, manner_at, members_at, is_of}
use Rattle.sj_deps.specs.Counts.{Begun, HoldsAccesses, Present, Entering, Appends, Opens, JoinsParty, In, IsPhaseParty, IsOpen, tasks_at, cells_at, ends_with_party}
use Rattle.sj_deps.proofs.Counting.{some_counted}
use Rattle.sj_deps.proofs.Pushing.{each_pushed, at_old, at_new, closed_at}

-- the only task of a list of one
pub single_is : (t u : ℕ) → Contains (task t ∷ []) (task u) → u ≡ t
single_is t u h =
    let within = h.1 in
    let z : h.0 ≡ 0 = omega arith in
    let same : task t ≡ task u = subst (λ i. slice_index_or (task t ∷ []) i (task u) ≡ task u) z h.2 in
    sym (ap (λ (x : Task). x.0) same)

count_below : (a k c : ℕ) → c < a → count_by (λ d. nat_eq d c) (range_with_len a k) ≡ 0
count_below a zero c h = refl
count_below a (suc k) c h =
    let cons = sum_by-cons (λ d. cond {A = ℕ} (nat_eq d c) 1 0) a (range_with_len (a + 1) k) in
    let none : cond {A = ℕ} (nat_eq a c) 1 0 ≡ 0 = cond-false _ 1 0 (ne_eqb a c (λ (e : a ≡ c). absurd (omega arith))) in
    let rest = count_below (a + 1) k c (omega arith) in
    omega arith

pub count_outside : (a k c : ℕ) → (c < a) ⊎ (a + k ≤ c) → count_by (λ d. nat_eq d c) (range_with_len a k) ≡ 0
count_outside a zero c h = refl
count_outside a (suc k) c h =
    let cons = sum_by-cons (λ d. cond {A = ℕ} (nat_eq d c) 1 0) a (range_with_len (a + 1) k) in
    let other : a ≡ c → ⊥ = λ same. ⊎_elim (λ (low : c < a). absurd (omega arith)) (λ (high : a + suc k ≤ c). absurd (omega arith)) h in
    let none : cond {A = ℕ} (nat_eq a c) 1 0 ≡ 0 = cond-false _ 1 0 (ne_eqb a c other) in
    let rest = count_outside (a + 1) k c (⊎_elim (λ low. inl (omega arith)) (λ high. inr (omega arith)) h) in
    omega arith

pub count_inside : (a k c : ℕ) → a ≤ c → c < a + k → count_by (λ d. nat_eq d c) (range_with_len a k) ≡ 1
count_inside a zero c low high = absurd (omega arith)
count_inside a (suc k) c low high =
    let cons = sum_by-cons (λ d. cond {A = ℕ} (nat_eq d c) 1 0) a (range_with_len (a + 1) k) in
    ⊎_elim (λ same.
    let one : cond {A = ℕ} (nat_eq a c) 1 0 ≡ 1 = cond-true _ 1 0 (eq-eqb _ _ same) in
    let rest = count_below (a + 1) k c (omega arith) in
    omega arith) (λ other.
    let none : cond {A = ℕ} (nat_eq a c) 1 0 ≡ 0 = cond-false _ 1 0 (ne_eqb _ _ other) in
    let above : a < c = ⊎_elim (λ less. less) (λ least. absurd (other (omega arith))) (cases_lt a c) in
    let rest = count_inside (a + 1) k c (omega arith) (omega arith) in
    omega arith) (cases_eq a c)

pub range_cases : (a k c : ℕ) → ((a ≤ c) × (c < a + k)) ⊎ ((c < a) ⊎ (a + k ≤ c))
range_cases a k c = ⊎_elim (λ low. inr (inl low)) (λ up. ⊎_elim (λ inner. inl (up, inner)) (λ past. inr (inr past)) (cases_lt c (a + k))) (cases_lt c a)

-- an access of a range in one manner
usage_range : (m : Manner) (a k c : ℕ) (n : Manner) → Contains (map (usage m) (range_with_len a k)) (usage n c) → (a ≤ c) × (c < a + k) × (n ≡ m)
usage_range m a k c n h =
    let long = length-map-range_with_len (usage m) a k in
    let within = h.1 in
    let at_i : slice_index_or (map (usage m) (range_with_len a k)) h.0 (usage n c) ≡ usage m (a + h.0) = get_or-map-range_with_len (usage m) a k h.0 (a + h.0) (usage n c) (omega arith) refl in
    let same : usage m (a + h.0) ≡ usage n c = sym at_i ∙ h.2 in
    let cell : a + h.0 ≡ c = ap (λ (u : Usage). u.cell) same in
    (omega arith, omega arith, sym (ap (λ (u : Usage). u.manner) same))

module _ (P : Program) (deps : HasDependencies P) (t : ℕ) (task_in : t < length P.tasks) (us : List Usage) (e : Entered) (entering : Entering P t us e) where
  abbrev ms_of : ℕ → List Member
  ms_of c = members_at e.chains.items c

  abbrev holds : HoldsAccesses P e.chains.items e.cells.items e.tasks.items
  holds = entering.holds

  -- a party's accesses to these cells are appended, with this task alone
  module _ (new : Entered) (n : ℕ) (m : Manner) (first k : ℕ) (len : length new.chains.items ≡ length e.chains.items) (pushed : (c : ℕ) → first ≤ c → c < first + k → members_at new.chains.items c ≡ ms_of c ++ member n m ∷ []) (others : (c : ℕ) → (c < first) ⊎ (first + k ≤ c) → members_at new.chains.items c ≡ ms_of c) (tasks_n : tasks_at new.tasks.items n ≡ task t ∷ []) (tasks_o : (u : ℕ) → u < length e.tasks.items → tasks_at new.tasks.items u ≡ tasks_at e.tasks.items u) (cells_n : cells_at new.cells.items n ≡ cells_at e.cells.items n ++ range_with_len first k) (cells_o : (u : ℕ) → (n ≡ u → ⊥) → cells_at new.cells.items u ≡ cells_at e.cells.items u) (longer : length e.tasks.items ≤ length new.tasks.items) (n_known : n < length new.tasks.items) (only_n : (u : ℕ) → u < length new.tasks.items → (u < length e.tasks.items) ⊎ (u ≡ n)) (every : length new.cells.items ≡ length new.tasks.items) (uses : (c : ℕ) → first ≤ c → c < first + k → Uses P t c m) (own_n : (m ≡ Contribute) ⊎ (n ≡ t)) (phase : m ≡ Contribute → IsPhaseParty P new.cells.items n) (no_phase : (u : ℕ) → u < length e.tasks.items → length P.tasks ≤ u → n ≡ u → ⊥) (fresh : (c i : ℕ) → first ≤ c → c < first + k → i < length (ms_of c) → In e.tasks.items (party_at (ms_of c) i) t → manner_at (ms_of c) i ≡ Contribute) where
    abbrev x : Member
    x = member n m

    each : (Q : ℕ → List Member → Type 0) → ((c : ℕ) → Q c (ms_of c)) → ((c : ℕ) → first ≤ c → c < first + k → Q c (ms_of c ++ x ∷ [])) → (c : ℕ) → Q c (members_at new.chains.items c)
    each Q old more c = ⊎_elim (λ inner. subst (Q c) (sym (pushed c inner.0 inner.1)) (more c inner.0 inner.1)) (λ outer. subst (Q c) (sym (others c outer)) (old c)) (range_cases first k c)

    was_in : (c p u : ℕ) → p < length (ms_of c) → In new.tasks.items (party_at (ms_of c) p) u → In e.tasks.items (party_at (ms_of c) p) u
    was_in c p u h by = subst (λ (ts : List Task). Contains ts (task u)) (tasks_o (party_at (ms_of c) p) (holds.known c p h)) by

    is_in : (c p u : ℕ) → p < length (ms_of c) → In e.tasks.items (party_at (ms_of c) p) u → In new.tasks.items (party_at (ms_of c) p) u
    is_in c p u h by = subst (λ (ts : List Task). Contains ts (task u)) (sym (tasks_o (party_at (ms_of c) p) (holds.known c p h))) by

    is_t : (u : ℕ) → In new.tasks.items n u → u ≡ t
    is_t u by = single_is t u (subst (λ (ts : List Task). Contains ts (task u)) tasks_n by)

    by_t : In new.tasks.items n t
    by_t = subst (λ (ts : List Task). Contains ts (task t)) (sym tasks_n) (Contains-push [] (task t))

    sound' : (c p u : ℕ) → p < length (members_at new.chains.items c) → In new.tasks.items (party_at (members_at new.chains.items c) p) u → Uses P u c (manner_at (members_at new.chains.items c) p)
    sound' c p u h by =
        each (λ c ms. (p : ℕ) → p < length ms → (u : ℕ) → In new.tasks.items (party_at ms p) u → Uses P u c (manner_at ms p)) (λ c p h u by. holds.sound c p u h (was_in c p u h by)) (λ c low high. each_pushed (ms_of c) x (λ p y. (u : ℕ) → In new.tasks.items y.party u → Uses P u c y.manner) (λ p h u by. holds.sound c p u h (was_in c p u h by)) (λ u by. subst (λ v. Uses P v c m) (sym (is_t u by)) (uses c low high))) c p h u by

    ordered' : (c i j u v : ℕ) → i < j → j < length (members_at new.chains.items c) → In new.tasks.items (party_at (members_at new.chains.items c) i) u → In new.tasks.items (party_at (members_at new.chains.items c) j) v → u ≤ v
    ordered' c i j u v order within by_u by_v =
        each (λ c ms. (j : ℕ) → j < length ms → (i u v : ℕ) → i < j → In new.tasks.items (party_at ms i) u → In new.tasks.items (party_at ms j) v → u ≤ v) (λ c j within i u v order by_u by_v. holds.ordered c i j u v order within (was_in c i u (omega arith) by_u) (was_in c j v within by_v)) (λ c low high. each_pushed (ms_of c) x (λ j y. (i u v : ℕ) → i < j → In new.tasks.items (party_at (ms_of c ++ x ∷ []) i) u → In new.tasks.items y.party v → u ≤ v) (λ j within i u v order by_u by_v. holds.ordered c i j u v order within (was_in c i u (omega arith) (subst (λ (y : Member). In new.tasks.items y.party u) (at_old (ms_of c) x i (omega arith)) by_u)) (was_in c j v within by_v)) (λ i u v order by_u by_v.
        let most = entering.upto c i u order (was_in c i u order (subst (λ (y : Member). In new.tasks.items y.party u) (at_old (ms_of c) x i order) by_u)) in
        let same = is_t v by_v in
        omega arith)) c j within i u v order by_u by_v

    own' : (c p u : ℕ) → p < length (members_at new.chains.items c) → In new.tasks.items (party_at (members_at new.chains.items c) p) u → (manner_at (members_at new.chains.items c) p ≡ Contribute) ⊎ (party_at (members_at new.chains.items c) p ≡ u)
    own' c p u h by =
        each (λ c ms. (p : ℕ) → p < length ms → (u : ℕ) → In new.tasks.items (party_at ms p) u → (manner_at ms p ≡ Contribute) ⊎ (party_at ms p ≡ u)) (λ c p h u by. holds.own c p u h (was_in c p u h by)) (λ c low high. each_pushed (ms_of c) x (λ p y. (u : ℕ) → In new.tasks.items y.party u → (y.manner ≡ Contribute) ⊎ (y.party ≡ u)) (λ p h u by. holds.own c p u h (was_in c p u h by)) (λ u by. ⊎_elim (λ yes. inl yes) (λ itself. inr (itself ∙ sym (is_t u by))) own_n)) c p h u by

    once' : (c i j u : ℕ) → i < j → j < length (members_at new.chains.items c) → In new.tasks.items (party_at (members_at new.chains.items c) i) u → In new.tasks.items (party_at (members_at new.chains.items c) j) u → manner_at (members_at new.chains.items c) i ≡ Contribute
    once' c i j u order within by_i by_j =
        each (λ c ms. (j : ℕ) → j < length ms → (i u : ℕ) → i < j → In new.tasks.items (party_at ms i) u → In new.tasks.items (party_at ms j) u → manner_at ms i ≡ Contribute) (λ c j within i u order by_i by_j. holds.once c i j u order within (was_in c i u (omega arith) by_i) (was_in c j u within by_j)) (λ c low high. each_pushed (ms_of c) x (λ j y. (i u : ℕ) → i < j → In new.tasks.items (party_at (ms_of c ++ x ∷ []) i) u → In new.tasks.items y.party u → manner_at (ms_of c ++ x ∷ []) i ≡ Contribute) (λ j within i u order by_i by_j. ap (λ (y : Member). y.manner) (at_old (ms_of c) x i (omega arith)) ∙ holds.once c i j u order within (was_in c i u (omega arith) (subst (λ (y : Member). In new.tasks.items y.party u) (at_old (ms_of c) x i (omega arith)) by_i)) (was_in c j u within by_j)) (λ i u order by_i by_j. ap (λ (y : Member). y.manner) (at_old (ms_of c) x i order) ∙ fresh c i low high order (subst (In e.tasks.items (party_at (ms_of c) i)) (is_t u by_j) (was_in c i u order (subst (λ (y : Member). In new.tasks.items y.party u) (at_old (ms_of c) x i order) by_i))))) c j within i u order by_i by_j

    IsPhase-kept : (u : ℕ) → u < length e.tasks.items → IsPhaseParty P e.cells.items u → IsPhaseParty P new.cells.items u
    IsPhase-kept u known is = record {
      later = is.later;
      first = is.first;
      copies = cells_o u (no_phase u known is.later) ∙ is.copies;
    }

    phases' : (c p : ℕ) → p < length (members_at new.chains.items c) → manner_at (members_at new.chains.items c) p ≡ Contribute → IsPhaseParty P new.cells.items (party_at (members_at new.chains.items c) p)
    phases' = each (λ c ms. (p : ℕ) → p < length ms → manner_at ms p ≡ Contribute → IsPhaseParty P new.cells.items (party_at ms p)) (λ c p h yes. IsPhase-kept _ (holds.known c p h) (holds.phases c p h yes)) (λ c low high. each_pushed (ms_of c) x (λ p y. y.manner ≡ Contribute → IsPhaseParty P new.cells.items y.party) (λ p h yes. IsPhase-kept _ (holds.known c p h) (holds.phases c p h yes)) phase)

    listed' : (u c : ℕ) → count_by (λ d. nat_eq d c) (cells_at new.cells.items u) ≡ count_by (is_of u) (members_at new.chains.items c)
    listed' u c =
        let was = holds.listed u c in
        ⊎_elim (λ same.
        let cells_u : cells_at new.cells.items u ≡ cells_at e.cells.items u ++ range_with_len first k = subst (λ v. cells_at new.cells.items v ≡ cells_at e.cells.items v ++ range_with_len first k) same cells_n in
        let split : count_by (λ d. nat_eq d c) (cells_at new.cells.items u) ≡ count_by (λ d. nat_eq d c) (cells_at e.cells.items u) + count_by (λ d. nat_eq d c) (range_with_len first k) = ap (count_by (λ d. nat_eq d c)) cells_u ∙ sum_by-append (λ d. cond {A = ℕ} (nat_eq d c) 1 0) (cells_at e.cells.items u) (range_with_len first k) in
        ⊎_elim (λ inner.
        let one = count_inside first k c inner.0 inner.1 in
        let now : count_by (is_of u) (members_at new.chains.items c) ≡ count_by (is_of u) (ms_of c) + cond {A = ℕ} (is_of u x) 1 0 = ap (count_by (is_of u)) (pushed c inner.0 inner.1) ∙ sum_by_push (λ y. cond {A = ℕ} (is_of u y) 1 0) (ms_of c) x in
        let yes : cond {A = ℕ} (is_of u x) 1 0 ≡ 1 = cond-true _ 1 0 (eq-eqb _ _ same) in
        omega arith) (λ outer.
        let none = count_outside first k c outer in
        let now : count_by (is_of u) (members_at new.chains.items c) ≡ count_by (is_of u) (ms_of c) = ap (count_by (is_of u)) (others c outer) in
        omega arith) (range_cases first k c)) (λ other.
        let row : count_by (λ d. nat_eq d c) (cells_at new.cells.items u) ≡ count_by (λ d. nat_eq d c) (cells_at e.cells.items u) = ap (count_by (λ d. nat_eq d c)) (cells_o u other) in
        ⊎_elim (λ inner.
        let now : count_by (is_of u) (members_at new.chains.items c) ≡ count_by (is_of u) (ms_of c) + cond {A = ℕ} (is_of u x) 1 0 = ap (count_by (is_of u)) (pushed c inner.0 inner.1) ∙ sum_by_push (λ y. cond {A = ℕ} (is_of u y) 1 0) (ms_of c) x in
        let no : cond {A = ℕ} (is_of u x) 1 0 ≡ 0 = cond-false _ 1 0 (ne_eqb _ _ other) in
        omega arith) (λ outer.
        let now : count_by (is_of u) (members_at new.chains.items c) ≡ count_by (is_of u) (ms_of c) = ap (count_by (is_of u)) (others c outer) in
        omega arith) (range_cases first k c)) (cases_eq n u)

    holds' : HoldsAccesses P new.chains.items new.cells.items new.tasks.items
    holds' =
        let enough = holds.every_task in
        record {
          every_cell = len ∙ holds.every_cell;
          every_party = every;
          every_task = omega arith;
          itself = λ u h. tasks_o u (omega arith) ∙ holds.itself u h;
          some = λ u h. ⊎_elim (λ known. let s = holds.some u known in (s.0, s.1, subst (λ (ts : List Task). Contains ts (task s.0)) (sym (tasks_o u known)) s.2)) (λ same. (t, task_in, subst (λ v. In new.tasks.items v t) (sym same) by_t)) (only_n u h);
          inside = λ u v by. ⊎_elim (λ known. holds.inside u v (subst (λ (ts : List Task). Contains ts (task v)) (tasks_o u known) by)) (λ past.
              ⊎_elim (λ here. ⊎_elim (λ known. holds.inside u v (subst (λ (ts : List Task). Contains ts (task v)) (tasks_o u known) by)) (λ same. let e = is_t v (subst (λ w. In new.tasks.items w v) same by) in omega arith) (only_n u here)) (λ gone.
              let none : length (tasks_at new.tasks.items u) ≡ 0 = ap (λ (ts : List Task). length ts) (get_or_past new.tasks.items u [] gone) in
              let some = by.1 in
              absurd (omega arith)) (cases_lt u (length new.tasks.items))) (cases_lt u (length e.tasks.items));
          known = each (λ c ms. (p : ℕ) → p < length ms → party_at ms p < length new.tasks.items) (λ c p h. let known = holds.known c p h in omega arith) (λ c low high. each_pushed (ms_of c) x (λ p y. y.party < length new.tasks.items) (λ p h. let known = holds.known c p h in omega arith) n_known);
          sound = sound';
          ordered = ordered';
          own = own';
          once = once';
          phases = phases';
          listed = listed';
        }

    kept : (u c : ℕ) (w : Manner) → Present e.chains.items e.tasks.items u c w → Present new.chains.items new.tasks.items u c w
    kept u c w here =
        each (λ c ms. (p : ℕ) → p < length (ms_of c) → In e.tasks.items (party_at (ms_of c) p) u → manner_at (ms_of c) p ≡ w → members_at new.chains.items c ≡ ms → Present new.chains.items new.tasks.items u c w) (λ c p h by is ms_is. record {
          place = p;
          within = subst (λ (ms : List Member). p < length ms) (sym ms_is) h;
          by = subst (λ (ms : List Member). In new.tasks.items (party_at ms p) u) (sym ms_is) (is_in c p u h by);
          manner = ap (λ (ms : List Member). manner_at ms p) ms_is ∙ is;
        }) (λ c low high p h by is ms_is. record {
          place = p;
          within = subst (λ (ms : List Member). p < length ms) (sym ms_is) (let long = length_push (ms_of c) x in omega arith);
          by = subst (λ (ms : List Member). In new.tasks.items (party_at ms p) u) (sym ms_is) (subst (λ (y : Member). In new.tasks.items y.party u) (sym (at_old (ms_of c) x p h)) (is_in c p u h by));
          manner = ap (λ (ms : List Member). manner_at ms p) ms_is ∙ ap (λ (y : Member). y.manner) (at_old (ms_of c) x p h) ∙ is;
        }) c here.place here.within here.by here.manner refl

    pub Entering-appended : Entering P t (us ++ map (usage m) (range_with_len first k)) new
    Entering-appended = record {
      holds = holds';
      before = λ u c w below used. kept u c w (entering.before u c w below used);
      current = λ c w h. ⊎_elim (λ old. kept t c w (entering.current c w old)) (λ more.
          let r = usage_range m first k c w more in
          let ms_is = pushed c r.0 r.1 in
          let long = length_push (ms_of c) x in
          record {
            place = length (ms_of c);
            within = subst (λ (ms : List Member). length (ms_of c) < length ms) (sym ms_is) (omega arith);
            by = subst (λ (ms : List Member). In new.tasks.items (party_at ms (length (ms_of c))) t) (sym ms_is) (subst (λ (y : Member). In new.tasks.items y.party t) (sym (at_new (ms_of c) x (length (ms_of c)) refl)) by_t);
            manner = ap (λ (ms : List Member). manner_at ms (length (ms_of c))) ms_is ∙ ap (λ (y : Member). y.manner) (at_new (ms_of c) x (length (ms_of c)) refl) ∙ sym r.2;
          }) (Contains-append_cases us (map (usage m) (range_with_len first k)) (usage w c) h);
      upto = λ c p u h by. each (λ c ms. (p : ℕ) → p < length ms → (u : ℕ) → In new.tasks.items (party_at ms p) u → u ≤ t) (λ c p h u by. entering.upto c p u h (was_in c p u h by)) (λ c low high. each_pushed (ms_of c) x (λ p y. (u : ℕ) → In new.tasks.items y.party u → u ≤ t) (λ p h u by. entering.upto c p u h (was_in c p u h by)) (λ u by. let same = is_t u by in omega arith)) c p h u by;
    }

  -- where a list ends with a party
  ends_some : (ms : List Member) (n : ℕ) → ends_with_party ms n ≡ true → (0 < length ms) × (party_at ms (length ms - 1) ≡ n)
  ends_some ms n h =
      ⊎_elim (λ none. absurd (both_ways _ (cond-true _ false (is_of n (member_at ms (length ms - 1))) none) h)) (λ some.
      (⊎_elim (λ order. order) (λ short. absurd (both_ways _ some (eq-eqb (length ms) 0 (omega arith)))) (cases_lt 0 (length ms)), eqb-true _ _ (sym (cond-false _ false (is_of n (member_at ms (length ms - 1))) some) ∙ h))) (cases_Bool (length ms == 0))

  ends_other : (ms : List Member) (n : ℕ) → ends_with_party ms n ≡ false → 0 < length ms → party_at ms (length ms - 1) ≡ n → ⊥
  ends_other ms n h some same =
      let long : (length ms == 0) ≡ false = ne_eqb (length ms) 0 (λ none. omega arith) in
      both_ways _ (sym (cond-false _ false (is_of n (member_at ms (length ms - 1))) long) ∙ h) (eq-eqb _ _ same)

  itself_in : In e.tasks.items t t
  itself_in = subst (λ (ts : List Task). Contains ts (task t)) (sym (holds.itself t task_in)) (Contains-push [] (task t))

  module _ (m : Manner) (c : ℕ) (uses : Uses P t c m) (plain : m ≡ Contribute → ⊥) where
    -- the task stands at the end already
    pub Entering-skip : ends_with_party (ms_of c) t ≡ true → Entering P t (us ++ usage m c ∷ []) e
    Entering-skip ends =
        let last = ends_some (ms_of c) t ends in
        let p : ℕ = length (ms_of c) - 1 in
        let within : p < length (ms_of c) = let long = last.0 in omega arith in
        let by : In e.tasks.items (party_at (ms_of c) p) t = subst (λ n. In e.tasks.items n t) (sym last.1) itself_in in
        let manner_is : manner_at (ms_of c) p ≡ m = deps.manners t c _ m (holds.sound c p t within by) uses in
        let here : Present e.chains.items e.tasks.items t c m = record { place = p; within = within; by = by; manner = manner_is } in
        record {
          holds = holds;
          before = entering.before;
          current = λ d w h. ⊎_elim (λ old. entering.current d w old) (λ same. subst (λ (u : Usage). Present e.chains.items e.tasks.items t u.cell u.manner) same here) (Contains-push_cases us (usage m c) (usage w d) h);
          upto = entering.upto;
        }

    fresh_here : ends_with_party (ms_of c) t ≡ false → (i : ℕ) → i < length (ms_of c) → In e.tasks.items (party_at (ms_of c) i) t → manner_at (ms_of c) i ≡ Contribute
    fresh_here ends i h by =
        let l : ℕ = length (ms_of c) - 1 in
        let other = ends_other (ms_of c) t ends (omega arith) in
        ⊎_elim (λ yes. yes) (λ itself. ⊎_elim (λ inner.
        let s = holds.some (party_at (ms_of c) l) (holds.known c l (omega arith)) in
        let low = holds.ordered c i l t s.0 inner (omega arith) by s.2 in
        let high = entering.upto c l s.0 (omega arith) s.2 in
        let same : s.0 ≡ t = omega arith in
        let by_l : In e.tasks.items (party_at (ms_of c) l) t = subst (In e.tasks.items (party_at (ms_of c) l)) same s.2 in
        ⊎_elim (λ yes. absurd (plain (deps.manners t c m Contribute uses (subst (Uses P t c) yes (holds.sound c l t (omega arith) by_l))))) (λ at_l. absurd (other at_l)) (holds.own c l t (omega arith) by_l)) (λ last.
        let same : party_at (ms_of c) i ≡ party_at (ms_of c) l = ap (party_at (ms_of c)) (omega arith) in
        absurd (other (sym same ∙ itself))) (cases_lt i l)) (holds.own c i t h by)

    -- the task's own access is appended
    pub Entering-own : (new : Entered) → ends_with_party (ms_of c) t ≡ false → t < length e.cells.items → Appends e new (member t m) c 1 → Entering P t (us ++ usage m c ∷ []) new
    Entering-own new ends listed app =
        let row : List ℕ = cells_at e.cells.items t ++ range_with_len c 1 in
        let long : length new.tasks.items ≡ length e.tasks.items = ap length app.tasks in
        let enough = holds.every_task in
        Entering-appended new t m c 1 app.len app.pushed app.others (ap (λ (ts : List (List Task)). tasks_at ts t) app.tasks ∙ holds.itself t task_in) (λ u known. ap (λ (ts : List (List Task)). tasks_at ts u) app.tasks) (ap (λ (cs : List (List ℕ)). cells_at cs t) app.cells ∙ get_or-set_same e.cells.items t row [] listed) (λ u other. ap (λ (cs : List (List ℕ)). cells_at cs u) app.cells ∙ get_or-set_other e.cells.items t u row [] (λ q. other (sym q))) (omega arith) (omega arith) (λ u h. inl (omega arith)) (ap length app.cells ∙ length-set e.cells.items t row ∙ holds.every_party ∙ sym long) (λ d low high. subst (λ a. Uses P t a m) (omega arith) uses) (inr refl) (λ yes. absurd (plain yes)) (λ u known later same. absurd (omega arith)) (λ d i low high h by. subst (λ a. i < length (ms_of a) → In e.tasks.items (party_at (ms_of a) i) t → manner_at (ms_of a) i ≡ Contribute) (omega arith) (fresh_here ends i) h by)

  -- a phase is opened
  module _ (first k : ℕ) (workers : P.workers ≡ k) (uses : (c : ℕ) → first ≤ c → c < first + k → Uses P t c Contribute) where
    pub Entering-opened : (new : Entered) → Opens e new t first k → Entering P t (us ++ map (usage Contribute) (range_with_len first k)) new
    Entering-opened new opens =
        let b : Entered = opens.between in
        let n : ℕ = length e.tasks.items in
        let cells_len : length e.cells.items ≡ n = holds.every_party in
        let enough = holds.every_task in
        let row : List ℕ = cells_at b.cells.items n ++ range_with_len first k in
        let new_tasks : new.tasks.items ≡ e.tasks.items ++ (task t ∷ []) ∷ [] = opens.appends.tasks ∙ opens.adds.tasks in
        let long : length new.tasks.items ≡ n + 1 = ap length new_tasks ∙ length_push e.tasks.items (task t ∷ []) in
        let b_long : length b.cells.items ≡ length e.cells.items + 1 = ap length opens.adds.cells ∙ length_push e.cells.items [] in
        let b_none : cells_at b.cells.items n ≡ [] = ap (λ (cs : List (List ℕ)). cells_at cs n) opens.adds.cells ∙ get_or_push e.cells.items [] [] n cells_len in
        let e_none : cells_at e.cells.items n ≡ [] = get_or_past e.cells.items n [] (omega arith) in
        let new_row : cells_at new.cells.items n ≡ row = ap (λ (cs : List (List ℕ)). cells_at cs n) opens.appends.cells ∙ get_or-set_same b.cells.items n row [] (omega arith) in
        let row_is : cells_at new.cells.items n ≡ range_with_len first k = new_row ∙ ap (λ (cs : List ℕ). cs ++ range_with_len first k) b_none in
        Entering-appended new n Contribute first k (opens.appends.len ∙ ap length opens.adds.chains) (λ c low high. opens.appends.pushed c low high ∙ ap (λ (cs : List Chain). members_at cs c ++ member n Contribute ∷ []) opens.adds.chains) (λ c outer. opens.appends.others c outer ∙ ap (λ (cs : List Chain). members_at cs c) opens.adds.chains) (ap (λ (ts : List (List Task)). tasks_at ts n) new_tasks ∙ get_or_push e.tasks.items (task t ∷ []) [] n refl) (λ u known. ap (λ (ts : List (List Task)). tasks_at ts u) new_tasks ∙ get_or_append_left e.tasks.items ((task t ∷ []) ∷ []) [] u known) (row_is ∙ ap (λ (cs : List ℕ). cs ++ range_with_len first k) (sym e_none)) (λ u other. ap (λ (cs : List (List ℕ)). cells_at cs u) opens.appends.cells ∙ get_or-set_other b.cells.items n u row [] (λ q. other (sym q)) ∙ ap (λ (cs : List (List ℕ)). cells_at cs u) opens.adds.cells ∙ ⊎_elim (λ lower. get_or_append_left e.cells.items ([] ∷ []) [] u lower) (λ past. get_or_past (e.cells.items ++ [] ∷ []) u [] (let l = length_push e.cells.items [] in ⊎_elim (λ less. absurd (other (omega arith))) (λ more. more) (cases_lt u (length (e.cells.items ++ [] ∷ [])))) ∙ sym (get_or_past e.cells.items u [] past)) (cases_lt u (length e.cells.items))) (omega arith) (omega arith) (λ u h. ⊎_elim (λ less. inl less) (λ more. inr (omega arith)) (cases_lt u n)) (ap length opens.appends.cells ∙ length-set b.cells.items n row ∙ b_long ∙ ap (λ x. x + 1) cells_len ∙ sym long) uses (inl refl) (λ yes. record { later = enough; first = first; copies = row_is ∙ ap (range_with_len first) (sym workers) }) (λ u known later same. absurd (omega arith)) (λ c i low high h by. deps.manners t c _ Contribute (holds.sound c i t h by) (uses c low high))

    -- or joined
    module _ (some : 0 < k) (begun : Begun e) (n : ℕ) (is : IsOpen e first n) (new : Entered) (joins : JoinsParty e new n t) where
      at_first : is.ends.place < length (ms_of first)
      at_first = let last = is.ends.last in omega arith

      n_known : n < length e.tasks.items
      n_known = subst (λ u. u < length e.tasks.items) is.ends.party (holds.known first is.ends.place at_first)

      phase_is : IsPhaseParty P e.cells.items n
      phase_is = subst (IsPhaseParty P e.cells.items) is.ends.party (holds.phases first is.ends.place at_first is.ends.manner)

      copies_are : cells_at e.cells.items n ≡ range_with_len first k
      copies_are =
          let head : slice_index_or (range_with_len phase_is.first P.workers) 0 0 ≡ first = subst (λ (cs : List ℕ). slice_index_or cs 0 0 ≡ first) phase_is.copies is.copies in
          let at_0 = get_or-range_with_len phase_is.first P.workers 0 0 (omega arith) in
          let same : phase_is.first ≡ first = omega arith in
          phase_is.copies ∙ ap (λ a. range_with_len a P.workers) same ∙ ap (range_with_len first) workers

      counted : (c : ℕ) → count_by (is_of n) (ms_of c) ≡ count_by (λ d. nat_eq d c) (range_with_len first k)
      counted c = sym (holds.listed n c) ∙ ap (count_by (λ d. nat_eq d c)) copies_are

      in_copies : (c p : ℕ) → p < length (ms_of c) → party_at (ms_of c) p ≡ n → (first ≤ c) × (c < first + k)
      in_copies c p h same =
          ⊎_elim (λ inner. inner) (λ outer.
          let part = get_or-le-sum_by (λ y. cond {A = ℕ} (is_of n y) 1 0) (ms_of c) p no_member h in
          let one : cond {A = ℕ} (is_of n (member_at (ms_of c) p)) 1 0 ≡ 1 = cond-true _ 1 0 (eq-eqb _ _ same) in
          let none = count_outside first k c outer in
          let e = counted c in
          absurd (omega arith)) (range_cases first k c)

      at_end : (c p : ℕ) → p < length (ms_of c) → party_at (ms_of c) p ≡ n → p + 1 ≡ length (ms_of c)
      at_end c p h same =
          ⊎_elim (λ inner. absurd (both_ways _ is.unclosed (subst (λ u. closed_at e.is_closed.items u ≡ true) same (begun.closed c p inner)))) (λ last. omega arith) (cases_lt (p + 1) (length (ms_of c)))

      contributes : (c p : ℕ) → p < length (ms_of c) → party_at (ms_of c) p ≡ n → manner_at (ms_of c) p ≡ Contribute
      contributes c p h same =
          let s = holds.some n n_known in
          let later = phase_is.later in
          let inside = s.1 in
          ⊎_elim (λ yes. yes) (λ itself. absurd (omega arith)) (holds.own c p s.0 h (subst (λ u. In e.tasks.items u s.0) (sym same) s.2))

      row_n : tasks_at new.tasks.items n ≡ tasks_at e.tasks.items n ++ task t ∷ []
      row_n = ap (λ (ts : List (List Task)). tasks_at ts n) joins.tasks ∙ get_or-set_same e.tasks.items n (tasks_at e.tasks.items n ++ task t ∷ []) [] n_known

      row_o : (u : ℕ) → (n ≡ u → ⊥) → tasks_at new.tasks.items u ≡ tasks_at e.tasks.items u
      row_o u other = ap (λ (ts : List (List Task)). tasks_at ts u) joins.tasks ∙ get_or-set_other e.tasks.items n u (tasks_at e.tasks.items n ++ task t ∷ []) [] (λ q. other (sym q))

      in_cases : (u v : ℕ) → In new.tasks.items u v → In e.tasks.items u v ⊎ ((u ≡ n) × (v ≡ t))
      in_cases u v by =
          ⊎_elim (λ same.
          let by_n : Contains (tasks_at e.tasks.items n ++ task t ∷ []) (task v) = subst (λ (ts : List Task). Contains ts (task v)) row_n (subst (λ w. In new.tasks.items w v) (sym same) by) in
          ⊎_elim (λ old. inl (subst (λ w. In e.tasks.items w v) same old)) (λ now. inr (sym same, sym (ap (λ (y : Task). y.0) now))) (Contains-push_cases (tasks_at e.tasks.items n) (task t) (task v) by_n)) (λ other. inl (subst (λ (ts : List Task). Contains ts (task v)) (row_o u other) by)) (cases_eq n u)

      in_kept : (u v : ℕ) → In e.tasks.items u v → In new.tasks.items u v
      in_kept u v by =
          ⊎_elim (λ same. subst (λ w. In new.tasks.items w v) same (subst (λ (ts : List Task). Contains ts (task v)) (sym row_n) (Contains-append_left (tasks_at e.tasks.items n) (task t ∷ []) (task v) (subst (λ w. In e.tasks.items w v) (sym same) by)))) (λ other. subst (λ (ts : List Task). Contains ts (task v)) (sym (row_o u other)) by) (cases_eq n u)

      in_n : In new.tasks.items n t
      in_n = subst (λ (ts : List Task). Contains ts (task t)) (sym row_n) (Contains-push (tasks_at e.tasks.items n) (task t))

      same_len : length new.tasks.items ≡ length e.tasks.items
      same_len = ap length joins.tasks ∙ length-set e.tasks.items n (tasks_at e.tasks.items n ++ task t ∷ [])

      uses_there : (c p : ℕ) → p < length (ms_of c) → party_at (ms_of c) p ≡ n → Uses P t c Contribute
      uses_there c p h same = let r = in_copies c p h same in uses c r.0 r.1

      holds_joined : HoldsAccesses P e.chains.items e.cells.items new.tasks.items
      holds_joined =
          let enough = holds.every_task in
          let later = phase_is.later in
          let len = same_len in
          record {
            every_cell = holds.every_cell;
            every_party = holds.every_party ∙ sym same_len;
            every_task = omega arith;
            itself = λ u h. row_o u (λ same. omega arith) ∙ holds.itself u h;
            some = λ u h. let len = same_len in let s = holds.some u (omega arith) in (s.0, s.1, in_kept u s.0 s.2);
            inside = λ u v by. ⊎_elim (λ old. holds.inside u v old) (λ now. let same = now.1 in omega arith) (in_cases u v by);
            known = λ c p h. let len = same_len in let known = holds.known c p h in omega arith;
            sound = λ c p v h by. ⊎_elim (λ old. holds.sound c p v h old) (λ now. subst (λ w. Uses P w c (manner_at (ms_of c) p)) (sym now.1) (subst (Uses P t c) (sym (contributes c p h now.0)) (uses_there c p h now.0))) (in_cases _ v by);
            ordered = λ c i j u v order within by_u by_v. ⊎_elim (λ old. ⊎_elim (λ old'. holds.ordered c i j u v order within old old') (λ now. let most = entering.upto c i u (omega arith) old in let same = now.1 in omega arith) (in_cases _ v by_v)) (λ now. let last = at_end c i (omega arith) now.0 in absurd (omega arith)) (in_cases _ u by_u);
            own = λ c p v h by. ⊎_elim (λ old. holds.own c p v h old) (λ now. inl (contributes c p h now.0)) (in_cases _ v by);
            once = λ c i j v order within by_i by_j. ⊎_elim (λ old. ⊎_elim (λ old'. holds.once c i j v order within old old') (λ now. deps.manners t c _ Contribute (holds.sound c i t (omega arith) (subst (In e.tasks.items (party_at (ms_of c) i)) now.1 old)) (uses_there c j within now.0)) (in_cases _ v by_j)) (λ now. let last = at_end c i (omega arith) now.0 in absurd (omega arith)) (in_cases _ v by_i);
            phases = holds.phases;
            listed = holds.listed;
          }

      Present-joined : (u c : ℕ) (w : Manner) → Present e.chains.items e.tasks.items u c w → Present e.chains.items new.tasks.items u c w
      Present-joined u c w here = record { place = here.place; within = here.within; by = in_kept _ u here.by; manner = here.manner }

      there : (c : ℕ) (w : Manner) → Contains (map (usage Contribute) (range_with_len first k)) (usage w c) → Present e.chains.items new.tasks.items t c w
      there c w more =
          let r = usage_range Contribute first k c w more in
          let one = count_inside first k c r.0 r.1 in
          let e' = counted c in
          let found = some_counted (is_of n) no_member (ms_of c) (omega arith) in
          let same : party_at (ms_of c) found.0 ≡ n = eqb-true _ _ found.2 in
          record {
            place = found.0;
            within = found.1;
            by = subst (λ u. In new.tasks.items u t) (sym same) in_n;
            manner = contributes c found.0 found.1 same ∙ sym r.2;
          }

      pub Entering-joined : Entering P t (us ++ map (usage Contribute) (range_with_len first k)) new
      Entering-joined =
          let moved : (cs : List Chain) → cs ≡ e.chains.items → (u c : ℕ) (w : Manner) → Present e.chains.items new.tasks.items u c w → Present cs new.tasks.items u c w = λ cs same u c w. subst (λ (ds : List Chain). Present ds new.tasks.items u c w) (sym same) in
          record {
            holds = subst (λ (cs : List Chain). HoldsAccesses P cs new.cells.items new.tasks.items) (sym joins.chains) (subst (λ (rows : List (List ℕ)). HoldsAccesses P e.chains.items rows new.tasks.items) (sym joins.cells) holds_joined);
            before = λ u c w below used. moved new.chains.items joins.chains u c w (Present-joined u c w (entering.before u c w below used));
            current = λ c w h. moved new.chains.items joins.chains t c w (⊎_elim (λ old. Present-joined t c w (entering.current c w old)) (λ more. there c w more) (Contains-append_cases us (map (usage Contribute) (range_with_len first k)) (usage w c) h));
            upto = subst (λ (cs : List Chain). (c p u : ℕ) → p < length (members_at cs c) → In new.tasks.items (party_at (members_at cs c) p) u → u ≤ t) (sym joins.chains) (λ c p u h by. ⊎_elim (λ old. entering.upto c p u h old) (λ now. let same = now.1 in omega arith) (in_cases _ u by));
          }
