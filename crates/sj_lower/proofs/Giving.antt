-- The log of phases when a task contributes: its phase goes on, or begins.
use Rattle.sj_lower.proofs.Words.{[], Access, ap, arith, begin_rows, Bool, Cell, cond, Contains, copy_at, data_operands, extended, false, init_row, init_rows, inl, inr, IsContribution, IsCopyOf, IsInit, IsPlain, kernel_of, length, length-append, Line, List, Lowered, names_as, None, OpenPhase, Program, range_with_len, Reduction, Redux, refl, same_cell, Some, subst, sym, task_number, Touches, true, W, with_phase, Worker, ℕ, ◌++◌, ◌+◌, ◌-◌, ◌<◌, ◌∙◌, ◌∷◌, ◌≡◌, ◌≤◌, ◌⊎◌}
use Rattle.std.specs.Prelude.{All}
use Rattle.std.proofs.lemmas.{Bool.cases_lt, Bool.false≢true, List.length-map, List.Elements.All-append, List.Elements.All-cons, List.Elements.All-nil, List.Elements.All-weaker, List.Elements.Contains-append_left, List.FromFn.length-range_with_len}
use Rattle.sj_base.proofs.{Lists.one_is, Numbers.none_first, Numbers.none_more, SameIds.same_cell-is, SameIds.same_cell-itself, SameIds.same_cell-unlike}
use Rattle.sj_core.specs.Proper.{access}
use Rattle.sj_lower.proofs.{Combined.Phases, Folding.Stand, Folding.stand-append, Logging.away-touches, Logging.data-of, Logging.IsAdded, Logging.IsAway, Logging.IsLogged, Logging.IsNamed, Logging.IsOpen, Logging.IsOwn, Logging.kernel-init, Logging.last-has, Logging.Logged, Logging.row-range, Owning.is-copy, Stating.phase-other, Stating.phase-own}

-- the task contributes to the cell, and otherwise accesses no cell with an open phase
pub record IsGiving (p : Program) (phases : Phases) (c : Cell) (by : Reduction) (l : Lowered) : Type 0 where
  pub gives : IsContribution by c l
  pub others : (a : Access) → Contains l.accesses a → (a ≡ access Redux c) ⊎ IsAway p phases a

-- which of two cells it is
by_which : (c d : Cell) (P : Type 0) → (c ≡ d → P) → (same_cell c d ≡ false → P) → P
by_which c d P own other = by_test (same_cell c d) refl
  where
    by_test : (b : Bool) → same_cell c d ≡ b → P
    by_test true h = own (same_cell-is c d h)
    by_test false h = other h

-- another value at one cell
with_value : {X : Type 0} → Cell → X → (Cell → X) → Cell → X
with_value c x f d = cond (same_cell c d) x (f d)

value-own : {X : Type 0} (c : Cell) (x : X) (f : Cell → X) → with_value c x f c ≡ x
unfolding with_value
value-own c x f = ap (λ b. cond b x (f c)) (same_cell-itself c)

value-other : {X : Type 0} (c : Cell) (x : X) (f : Cell → X) (d : Cell) → same_cell c d ≡ false → with_value c x f d ≡ f d
unfolding with_value
value-other c x f d h = ap (λ b. cond b x (f d)) h

module _ (p : Program) (phases : Phases) (c : Cell) (by : Reduction) (l : Lowered) (plain : IsPlain p c) (giving : IsGiving p phases c by l) where
  -- it touches no other cell with an open phase
  giving-untouched : (m : ℕ) → task_number p m ≡ l → (a : Access) (d : Cell) (g : OpenPhase) → Contains (data_operands (task_number p m)) a → same_cell c d ≡ false → phases d ≡ Some g → Touches p d a → ⊥
  giving-untouched m row a d g h other is touches =
      let both = data-of p m a h in
      elim (giving.others a (subst (λ (x : Lowered). Contains x.accesses a) row both.0)) [
        | inr away ↦ away-touches p phases d g a is away both.1 touches
        | inl it ↦ elim touches [
          | inl same ↦ same_cell-unlike c d other (ap (λ (b : Access). b.cell) (sym it) ∙ same)
          | inr copy ↦ plain d copy.0 (subst (λ (q : Cell). IsCopyOf p q d copy.0) (ap (λ (b : Access). b.cell) it) copy.1)
        ]
      ]

  -- it names no partial copy
  giving-plain : (m : ℕ) → task_number p m ≡ l → (a : Access) (d : Cell) (w : Worker) → Contains (task_number p m).accesses a → IsCopyOf p a.cell d w → ⊥
  giving-plain m row a d w h copy = elim (giving.others a (subst (λ (x : Lowered). Contains x.accesses a) row h)) [
    | inr away ↦ away.plain d w copy
    | inl it ↦ plain d w (subst (λ (q : Cell). IsCopyOf p q d w) (ap (λ (b : Access). b.cell) it) copy)
  ]

  giving-own : (m : ℕ) → task_number p m ≡ l → (d : Cell) → names_as Redux d (task_number p m) → c ≡ d
  giving-own m row d h = elim (giving.others (access Redux d) (subst (λ (x : Lowered). Contains x.accesses (access Redux d)) row h)) [
    | inr away ↦ absurd (false≢true (sym away.direct))
    | inl it ↦ sym (ap (λ (b : Access). b.cell) it)
  ]

  is_gift : (m : ℕ) → task_number p m ≡ l → IsContribution by c (task_number p m)
  is_gift m row = subst (IsContribution by c) (sym row) giving.gives

-- a log goes on beside what touches none of its cells
longer-log : (p : Program) (n k : ℕ) (d : Cell) (g : OpenPhase) (start : ℕ) (contributions : List ℕ) → n ≤ k → ((m : ℕ) (a : Access) → n ≤ m → m < k → Contains (data_operands (task_number p m)) a → Touches p d a → ⊥) → IsLogged p n d g start contributions → IsLogged p k d g start contributions
longer-log p n k d g start contributions e untouched h = record {
  begun = omega (arith, e, h.begun);
  init = h.init;
  contribution = h.contribution;
  after = h.after;
  below = All-weaker (λ m. m < n) (λ m. m < k) (λ m l. omega (arith, e, l)) contributions h.below;
  contributed = h.contributed;
  alone = λ m a lo hi among touches. elim (cases_lt m n) [
    | inl old ↦ h.alone m a lo old among touches
    | inr new ↦ absurd (untouched m a new hi among touches)
  ];
}

-- ---- the phase goes on

module _ (p : Program) (n k : ℕ) (phases : Phases) (c : Cell) (f : OpenPhase) (line : Line) (l : Lowered) (is : phases c ≡ Some f) (e : k ≡ n + 1) (row : task_number p n ≡ l) (plain : IsPlain p c) (giving : IsGiving p phases c f.by l) (log : Logged p n phases) where
  abbrev mine : IsLogged p n c f (log.start c) (log.contributions c)
  mine = log.opened c f is

  abbrev new : OpenPhase
  new = extended f line

  abbrev after : Phases
  after = with_phase c (Some new) phases

  abbrev given : List ℕ
  given = log.contributions c ++ n ∷ []

  row-at : (m : ℕ) → n ≤ m → m < k → task_number p m ≡ l
  row-at m lo hi = let same : m ≡ n = omega (arith, lo, hi, e) in ap (task_number p) same ∙ row

  own_log : IsLogged p k c new (log.start c) given
  own_log = record {
    begun = omega (arith, e, mine.begun);
    init = mine.init;
    contribution = All-append (λ m. IsContribution f.by c (task_number p m)) (log.contributions c) (n ∷ []) mine.contribution (All-cons (λ m. IsContribution f.by c (task_number p m)) n [] (is_gift p phases c f.by l plain giving n row) (All-nil (λ m. IsContribution f.by c (task_number p m))));
    after = All-append (λ m. log.start c + p.workers ≤ m) (log.contributions c) (n ∷ []) mine.after (All-cons (λ m. log.start c + p.workers ≤ m) n [] mine.begun (All-nil (λ m. log.start c + p.workers ≤ m)));
    below = All-append (λ m. m < k) (log.contributions c) (n ∷ []) (All-weaker (λ m. m < n) (λ m. m < k) (λ m h. omega (arith, e, h)) (log.contributions c) mine.below) (All-cons (λ m. m < k) n [] (omega (arith, e)) (All-nil (λ m. m < k)));
    contributed = omega (arith, length-append (log.contributions c) (n ∷ []));
    alone = λ m a lo hi among touches. elim (cases_lt m n) [
      | inr late ↦ (let same : n ≡ m = omega (arith, late, hi, e) in inr (inl (subst (Contains given) same (last-has (log.contributions c) n))))
      | inl early ↦ elim (mine.alone m a lo early among touches) [
        | inl first ↦ inl first
        | inr rest ↦ elim rest [
          | inl old ↦ inr (inl (Contains-append_left (log.contributions c) (n ∷ []) m old))
          | inr unit ↦ inr (inr (unit.0, All-append (λ j. m < j) (log.contributions c) (n ∷ []) unit.1 (All-cons (λ j. m < j) n [] early (All-nil (λ j. m < j)))))
        ]
      ]
    ];
  }

  abbrev contributions : Cell → List ℕ
  contributions = with_value c given log.contributions

  pub log-extend : Logged p k after
  log-extend = record {
    closed = log.closed;
    each = log.each;
    start = log.start;
    contributions = contributions;
    opened = λ d g h. by_which c d (IsLogged p k d g (log.start d) (contributions d))
        (λ same. subst (λ (x : Cell). IsLogged p k x g (log.start x) (contributions x)) same
        (subst (λ (y : OpenPhase). IsLogged p k c y (log.start c) (contributions c)) (own_phase g (ap after same ∙ h))
        (subst (λ (ms : List ℕ). IsLogged p k c new (log.start c) ms) (sym (value-own c given log.contributions)) own_log)))
        (λ other. subst (λ (ms : List ℕ). IsLogged p k d g (log.start d) ms) (sym (value-other c given log.contributions d other))
        (longer-log p n k d g (log.start d) (log.contributions d) (omega (arith, e)) (λ m a lo hi among touches. giving-untouched p phases c f.by l plain giving m (row-at m lo hi) a d g among other (sym (phase-other c (Some new) phases d other) ∙ h) touches) (log.opened d g (sym (phase-other c (Some new) phases d other) ∙ h))));
    named = λ m a d w hi h copy. elim (cases_lt m n) [
      | inr late ↦ absurd (giving-plain p phases c f.by l plain giving m (row-at m late hi) a d w h copy)
      | inl early ↦ elim (log.named m a d w early h copy) [
        | inl past ↦ inl past
        | inr now ↦ inr (still d now.0, now.1, now.2)
      ]
    ];
    added = λ m d hi h. elim (cases_lt m n) [
      | inr late ↦ inr (
        subst (IsOpen after) (giving-own p phases c f.by l plain giving m (row-at m late hi) d h) (new, phase-own c (Some new) phases),
        subst (λ (x : Cell). Contains (contributions x) m) (giving-own p phases c f.by l plain giving m (row-at m late hi) d h)
            (subst (λ (ms : List ℕ). Contains ms m) (sym (value-own c given log.contributions)) (let same : n ≡ m = omega (arith, late, hi, e) in subst (Contains given) same (last-has (log.contributions c) n))),
      )
      | inl early ↦ elim (log.added m d early h) [
        | inl past ↦ inl past
        | inr now ↦ inr (
          still d now.0,
          by_which c d (Contains (contributions d) m)
              (λ same. subst (λ (x : Cell). Contains (contributions x) m) same (subst (λ (ms : List ℕ). Contains ms m) (sym (value-own c given log.contributions)) (Contains-append_left (log.contributions c) (n ∷ []) m (subst (λ (x : Cell). Contains (log.contributions x) m) (sym same) now.1))))
              (λ other. subst (λ (ms : List ℕ). Contains ms m) (sym (value-other c given log.contributions d other)) now.1),
        )
      ]
    ];
  }
    where
      own_phase : (g : OpenPhase) → after c ≡ Some g → new ≡ g
      own_phase g h = let x : Some new ≡ Some g = sym (phase-own c (Some new) phases) ∙ h in cc

      still : (d : Cell) → IsOpen phases d → IsOpen after d
      still d now = by_which c d (IsOpen after d) (λ same. subst (IsOpen after) same (new, phase-own c (Some new) phases)) (λ other. (now.0, phase-other c (Some new) phases d other ∙ now.1))

-- ---- the phase begins

module _ (p : Program) (n k : ℕ) (phases : Phases) (c : Cell) (by : Reduction) (first : Cell) (valued : Bool) (line : Line) (l : Lowered) (none : phases c ≡ None) (stand : Stand p n (begin_rows by first c valued p.workers line ++ l ∷ []))
    (e : k ≡ (n + length (begin_rows by first c valued p.workers line)) + 1) (own : IsOwn p c (record { by = by; copies = first; line = line })) (others : (d : Cell) (g : OpenPhase) → phases d ≡ Some g → IsPlain p d) (giving : IsGiving p phases c by l) (log : Logged p n phases) where
  abbrev fresh : OpenPhase
  fresh = record { by = by; copies = first; line = line }

  abbrev opened_now : Phases
  opened_now = with_phase c (Some fresh) phases

  abbrev own_unit : List Lowered
  own_unit = cond valued [] (init_row by line c ∷ [])

  abbrev gift : ℕ
  gift = n + length (begin_rows by first c valued p.workers line)

  inits-length : length (init_rows by first p.workers line) ≡ p.workers
  inits-length = length-map (range_with_len 0 p.workers) (λ w. init_row by line (copy_at first w)) ∙ length-range_with_len 0 p.workers

  both : Stand p n (begin_rows by first c valued p.workers line) × Stand p gift (l ∷ [])
  both = stand-append p n (begin_rows by first c valued p.workers line) (l ∷ []) stand

  parts : Stand p n (init_rows by first p.workers line) × Stand p (n + length (init_rows by first p.workers line)) own_unit
  parts = stand-append p n (init_rows by first p.workers line) own_unit both.0

  gift-after : n + p.workers ≤ gift
  gift-after = omega (arith, inits-length, length-append (init_rows by first p.workers line) own_unit)

  gift-row : task_number p gift ≡ l
  gift-row = both.1.0

  init-row : (w : ℕ) → w < p.workers → task_number p (n + w) ≡ init_row by line (copy_at first w)
  init-row w h = row-range p (λ w. init_row by line (copy_at first w)) 0 p.workers n parts.0 w h ∙ ap (λ w. init_row by line (copy_at first w)) (none_first w)

  -- the tasks from n on
  data Kind (m : ℕ) : Type 0 where
    Inits : m < n + p.workers → task_number p m ≡ init_row by line (copy_at first (m - n)) → Kind m
    Own : m < gift → task_number p m ≡ init_row by line c → Kind m
    Gift : m ≡ gift → task_number p m ≡ l → Kind m

  kind : (m : ℕ) → n ≤ m → m < k → Kind m
  kind m lo hi = elim (cases_lt m (n + p.workers)) [
    | inl early ↦ (let back : m ≡ n + (m - n) = omega (arith, lo) in Inits early (ap (task_number p) back ∙ init-row (m - n) (omega (arith, lo, early))))
    | inr late ↦ by_unit valued refl parts.1 late
  ]
    where
      by_unit : (v : Bool) → valued ≡ v → Stand p (n + length (init_rows by first p.workers line)) (cond v [] (init_row by line c ∷ [])) → n + p.workers ≤ m → Kind m
      by_unit true is s late =
          let count : length (begin_rows by first c valued p.workers line) ≡ p.workers = length-append (init_rows by first p.workers line) own_unit ∙ (λ i. inits-length i + length (cond (is i) [] (init_row by line c ∷ []))) ∙ none_more p.workers in
          let same : m ≡ gift = omega (arith, late, hi, e, count) in
          Gift same (ap (task_number p) same ∙ gift-row)
      by_unit false is s late =
          let count : length (begin_rows by first c valued p.workers line) ≡ p.workers + 1 = length-append (init_rows by first p.workers line) own_unit ∙ (λ i. inits-length i + length (cond (is i) [] (init_row by line c ∷ []))) in
          elim (cases_lt m gift) [
            | inl before ↦ (let same : m ≡ n + length (init_rows by first p.workers line) = omega (arith, late, before, count, inits-length) in Own before (ap (task_number p) same ∙ s.0))
            | inr past ↦ (let same : m ≡ gift = omega (arith, past, hi, e) in Gift same (ap (task_number p) same ∙ gift-row))
          ]

  init_is : (d : Cell) (m : ℕ) → task_number p m ≡ init_row by line d → IsInit by d (task_number p m)
  init_is d m row = record { codelet = ap (λ (x : Lowered). kernel_of x.codelet) row ∙ kernel-init by; operands = ap (λ (x : Lowered). x.accesses) row }

  written : (d : Cell) (m : ℕ) (a : Access) → task_number p m ≡ init_row by line d → Contains (task_number p m).accesses a → access W d ≡ a
  written d m a row h = one_is (access W d) a (subst (λ (x : Lowered). Contains x.accesses a) row h)

  begin-untouched : (m : ℕ) (a : Access) (d : Cell) (g : OpenPhase) → n ≤ m → m < k → Contains (data_operands (task_number p m)) a → same_cell c d ≡ false → phases d ≡ Some g → Touches p d a → ⊥
  begin-untouched m a d g lo hi h other is touches = by_kind (kind m lo hi) touches
    where
      by_kind : Kind m → Touches p d a → ⊥
      by_kind (Gift same row) touches = giving-untouched p phases c by l own.plain giving m row a d g h other is touches
      by_kind (Own before row) (inl same) = same_cell-unlike c d other (ap (λ (b : Access). b.cell) (written c m a row (data-of p m a h).0) ∙ same)
      by_kind (Own before row) (inr copy) = own.plain d copy.0 (subst (λ (q : Cell). IsCopyOf p q d copy.0) (ap (λ (b : Access). b.cell) (sym (written c m a row (data-of p m a h).0))) copy.1)
      by_kind (Inits early row) (inl same) =
          others d g is c (record { 0 = m - n }) (subst (λ (q : Cell). IsCopyOf p q c (record { 0 = m - n })) (ap (λ (b : Access). b.cell) (written (copy_at first (m - n)) m a row (data-of p m a h).0) ∙ same) (is-copy p c first (record { 0 = m - n }) own.partials (omega (arith, lo, early))))
      by_kind (Inits early row) (inr copy) =
          same_cell-unlike c d other (own.copies (m - n) d copy.0 (omega (arith, lo, early)) (subst (λ (q : Cell). IsCopyOf p q d copy.0) (ap (λ (b : Access). b.cell) (sym (written (copy_at first (m - n)) m a row (data-of p m a h).0))) copy.1))

  fresh_log : IsLogged p k c fresh n (gift ∷ [])
  fresh_log = record {
    begun = omega (arith, e, gift-after);
    init = λ w h. init_is (copy_at first w) (n + w) (init-row w h);
    contribution = All-cons (λ m. IsContribution by c (task_number p m)) gift [] (is_gift p phases c by l own.plain giving gift gift-row) (All-nil (λ m. IsContribution by c (task_number p m)));
    after = All-cons (λ m. n + p.workers ≤ m) gift [] gift-after (All-nil (λ m. n + p.workers ≤ m));
    below = All-cons (λ m. m < k) gift [] (omega (arith, e)) (All-nil (λ m. m < k));
    contributed = omega arith;
    alone = λ m a lo hi among touches. by_kind m (kind m lo hi);
  }
    where
      by_kind : (m : ℕ) → Kind m → (m < n + p.workers) ⊎ (Contains (gift ∷ []) m ⊎ (IsInit by c (task_number p m) × All (λ j. m < j) (gift ∷ [])))
      by_kind m (Inits early row) = inl early
      by_kind m (Own before row) = inr (inr (init_is c m row, All-cons (λ j. m < j) gift [] before (All-nil (λ j. m < j))))
      by_kind m (Gift same row) = inr (inl (subst (Contains (gift ∷ [])) (sym same) (last-has [] gift)))

  abbrev starts : Cell → ℕ
  starts = with_value c n log.start

  abbrev gifts : Cell → List ℕ
  gifts = with_value c (gift ∷ []) log.contributions

  own_named : (d : Cell) → c ≡ d → (m : ℕ) → n ≤ m → m < n + p.workers → IsNamed p log.closed opened_now starts m d
  own_named d same m lo hi = subst (λ (x : Cell). IsNamed p log.closed opened_now starts m x) same
      (inr ((fresh, phase-own c (Some fresh) phases), subst (λ j. j ≤ m) (sym (value-own c n log.start)) lo, subst (λ j. m < j + p.workers) (sym (value-own c n log.start)) hi))

  old_open : (d : Cell) → IsOpen phases d → same_cell c d ≡ false
  old_open d now = by_which c d (same_cell c d ≡ false) (λ same. absurd (let x : None ≡ Some now.0 = sym none ∙ ap phases same ∙ now.1 in cc)) (λ other. other)

  pub log-begin : Logged p k opened_now
  log-begin = record {
    closed = log.closed;
    each = log.each;
    start = starts;
    contributions = gifts;
    opened = λ d g h. by_which c d (IsLogged p k d g (starts d) (gifts d))
        (λ same. subst (λ (x : Cell). IsLogged p k x g (starts x) (gifts x)) same
        (subst (λ (y : OpenPhase). IsLogged p k c y (starts c) (gifts c)) (own_phase g (ap opened_now same ∙ h))
        (subst (λ (j : ℕ). IsLogged p k c fresh j (gifts c)) (sym (value-own c n log.start)) (subst (λ (ms : List ℕ). IsLogged p k c fresh n ms) (sym (value-own c (gift ∷ []) log.contributions)) fresh_log))))
        (λ other. (let old : phases d ≡ Some g = sym (phase-other c (Some fresh) phases d other) ∙ h in
        subst (λ (j : ℕ). IsLogged p k d g j (gifts d)) (sym (value-other c n log.start d other)) (subst (λ (ms : List ℕ). IsLogged p k d g (log.start d) ms) (sym (value-other c (gift ∷ []) log.contributions d other))
        (longer-log p n k d g (log.start d) (log.contributions d) (omega (arith, e)) (λ m a lo hi among touches. begin-untouched m a d g lo hi among other old touches) (log.opened d g old)))));
    named = λ m a d w hi h copy. elim (cases_lt m n) [
      | inl early ↦ elim (log.named m a d w early h copy) [
        | inl past ↦ inl past
        | inr now ↦ (let other = old_open d now.0 in inr ((now.0.0, phase-other c (Some fresh) phases d other ∙ now.0.1), subst (λ j. j ≤ m) (sym (value-other c n log.start d other)) now.1, subst (λ j. m < j + p.workers) (sym (value-other c n log.start d other)) now.2))
      ]
      | inr late ↦ by_kind m a d w late h copy (kind m late hi)
    ];
    added = λ m d hi h. elim (cases_lt m n) [
      | inl early ↦ elim (log.added m d early h) [
        | inl past ↦ inl past
        | inr now ↦ (let other = old_open d now.0 in inr ((now.0.0, phase-other c (Some fresh) phases d other ∙ now.0.1), subst (λ (ms : List ℕ). Contains ms m) (sym (value-other c (gift ∷ []) log.contributions d other)) now.1))
      ]
      | inr late ↦ gift_kind m d h (kind m late hi)
    ];
  }
    where
      own_phase : (g : OpenPhase) → opened_now c ≡ Some g → fresh ≡ g
      own_phase g h = let x : Some fresh ≡ Some g = sym (phase-own c (Some fresh) phases) ∙ h in cc

      by_kind : (m : ℕ) (a : Access) (d : Cell) (w : Worker) → n ≤ m → Contains (task_number p m).accesses a → IsCopyOf p a.cell d w → Kind m → IsNamed p log.closed opened_now starts m d
      by_kind m a d w lo h copy (Gift same row) = absurd (giving-plain p phases c by l own.plain giving m row a d w h copy)
      by_kind m a d w lo h copy (Own before row) = absurd (own.plain d w (subst (λ (q : Cell). IsCopyOf p q d w) (ap (λ (b : Access). b.cell) (sym (written c m a row h))) copy))
      by_kind m a d w lo h copy (Inits early row) =
          own_named d (own.copies (m - n) d w (omega (arith, lo, early)) (subst (λ (q : Cell). IsCopyOf p q d w) (ap (λ (b : Access). b.cell) (sym (written (copy_at first (m - n)) m a row h))) copy)) m lo early

      no_redux : (q d : Cell) (m : ℕ) → task_number p m ≡ init_row by line q → names_as Redux d (task_number p m) → ⊥
      no_redux q d m row h = let x : W ≡ Redux = ap (λ (b : Access). b.mode) (written q m (access Redux d) row h) in absurd (cc)

      gift_kind : (m : ℕ) (d : Cell) → names_as Redux d (task_number p m) → Kind m → IsAdded log.closed opened_now gifts m d
      gift_kind m d h (Inits early row) = absurd (no_redux (copy_at first (m - n)) d m row h)
      gift_kind m d h (Own before row) = absurd (no_redux c d m row h)
      gift_kind m d h (Gift same row) = subst (λ (x : Cell). IsAdded log.closed opened_now gifts m x) (giving-own p phases c by l own.plain giving m row d h)
          (inr ((fresh, phase-own c (Some fresh) phases), subst (λ (ms : List ℕ). Contains ms m) (sym (value-own c (gift ∷ []) log.contributions)) (subst (Contains (gift ∷ [])) (sym same) (last-has [] gift))))
