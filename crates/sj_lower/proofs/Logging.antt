-- The phases of a program, as they are begun, go on and are closed task by task.
use Rattle.sj_lower.proofs.Words.{[], Access, AllByRecursion, ap, arith, Bool, Cell, cell_info, codelet_of, combine_of, combine_row, combine_rows, Contains, copy_at, copy_of, data_operands, false, get_or, HasPhases, init_of, inl, inr, is_data, is_redux, is_scratch, IsCombine, IsContribution, IsCopyOf, IsFirstUnit, IsInit, IsOfPhase, IsOpenAt, IsPhase, IsPlain, kernel_of, Least, length, List, Lowered, map, names_as, None, not, OpenPhase, Phase, Plus, Program, R, range_with_len, Reduction, Redux, refl, RW, same_cell, slice_index_or, Some, subst, suc, sym, task_number, Touches, true, with_phase, Worker, zero, ℕ, ◌++◌, ◌+◌, ◌-◌, ◌<◌, ◌∙◌, ◌∷◌, ◌≡◌, ◌≤◌, ◌⊎◌}
use Rattle.std.specs.Prelude.{All}
use Rattle.std.proofs.lemmas.{Bool.cases_lt, Bool.false≢true, List.Elements.All-cons, List.Elements.All-contains, List.Elements.All-nil, List.Elements.All-weaker, List.Elements.Contains-append_right, List.FromFn.get_or-range_with_len, List.FromFn.length-range_with_len}
use Rattle.sj_base.proofs.{Lists.Contains-range, Numbers.none_first, Numbers.none_more, Numbers.one_more, SameIds.same_cell-is, SameIds.same_cell-itself}
use Rattle.sj_core.specs.Proper.{access}
use Rattle.sj_core.proofs.Readiness.{filter-Contains, Contains-from_filter}
use Rattle.sj_lower.proofs.{Combined.Phases, Folding.Stand, Owning.copy-is, Owning.is-copy, Stating.phase-other, Stating.phase-own}

-- ---- tasks one after another

pub each-row : (p : Program) (P : Lowered → Type 0) (n : ℕ) (ls : List Lowered) → Stand p n ls → AllByRecursion P ls → (m : ℕ) → n ≤ m → m < n + length ls → P (task_number p m)
each-row p P n [] s all m lo hi = absurd (omega arith)
each-row p P n (l ∷ ls) s all m lo hi = elim (cases_lt n m) [
  | inl later ↦ each-row p P (n + 1) ls s.2 all.1 m (omega (arith, later)) (omega (arith, hi))
  | inr here ↦ (let same : n ≡ m = omega (arith, lo, here) in subst (λ i. P (task_number p i)) same (subst P (sym s.0) all.0))
]

pub row-range : (p : Program) (g : ℕ → Lowered) (a k n : ℕ) → Stand p n (map g (range_with_len a k)) → (w : ℕ) → w < k → task_number p (n + w) ≡ g (a + w)
row-range p g a zero n s w h = absurd (omega (arith, h))
row-range p g a (suc k) n s zero h = ap (task_number p) (none_more n) ∙ s.0 ∙ ap g (sym (none_more a))
row-range p g a (suc k) n s (suc w) h = ap (task_number p) (one_more n w) ∙ row-range p g (a + 1) k (n + 1) s.2 w (omega (arith, h)) ∙ ap g (sym (one_more a w))

-- ---- the log

-- what is logged of an open phase of a cell: where its inits begin, and its contributions
pub record IsLogged (p : Program) (n : ℕ) (c : Cell) (f : OpenPhase) (start : ℕ) (contributions : List ℕ) : Type 0 where
  pub begun : start + p.workers ≤ n
  pub init : (w : ℕ) → w < p.workers → IsInit f.by (copy_at f.copies w) (task_number p (start + w))
  pub contribution : All (λ m. IsContribution f.by c (task_number p m)) contributions
  pub after : All (λ m. start + p.workers ≤ m) contributions
  pub below : All (λ m. m < n) contributions
  pub contributed : 0 < length contributions
  pub alone : (m : ℕ) (a : Access) → start ≤ m → m < n → Contains (data_operands (task_number p m)) a → Touches p c a → (m < start + p.workers) ⊎ (Contains contributions m ⊎ (IsInit f.by c (task_number p m) × All (λ k. m < k) contributions))

abbrev pub IsOpen : Phases → Cell → Type 0
IsOpen phases c = (f : OpenPhase) × (phases c ≡ Some f)

-- the task is one that begins or closes a closed phase of the cell, or begins its open one
abbrev pub IsNamed : Program → List Phase → Phases → (Cell → ℕ) → ℕ → Cell → Type 0
IsNamed p closed phases start m c =
    ((f : Phase) × Contains closed f × (f.cell ≡ c) × (Contains f.inits m ⊎ Contains f.combines m)) ⊎ (IsOpen phases c × (start c ≤ m) × (m < start c + p.workers))

-- the task is a contribution of a phase of the cell
abbrev pub IsAdded : List Phase → Phases → (Cell → List ℕ) → ℕ → Cell → Type 0
IsAdded closed phases contributions m c =
    ((f : Phase) × Contains closed f × (f.cell ≡ c) × Contains f.contributions m) ⊎ (IsOpen phases c × Contains (contributions c) m)

-- the phases that are closed, and what is logged of the others, after n tasks
pub record Logged (p : Program) (n : ℕ) (phases : Phases) : Type 0 where
  pub closed : List Phase
  pub each : All (IsPhase p) closed
  pub start : Cell → ℕ
  pub contributions : Cell → List ℕ
  pub opened : (c : Cell) (f : OpenPhase) → phases c ≡ Some f → IsLogged p n c f (start c) (contributions c)
  pub named : (m : ℕ) (a : Access) (c : Cell) (w : Worker) → m < n → Contains (task_number p m).accesses a → IsCopyOf p a.cell c w → IsNamed p closed phases start m c
  pub added : (m : ℕ) (c : Cell) → m < n → names_as Redux c (task_number p m) → IsAdded closed phases contributions m c

pub logged-none : (p : Program) (phases : Phases) → ((c : Cell) → phases c ≡ None) → Logged p 0 phases
logged-none p phases none = record {
  closed = [];
  each = All-nil (IsPhase p);
  start = λ c. 0;
  contributions = λ c. [];
  opened = λ c f e. absurd (let g : None ≡ Some f = sym (none c) ∙ e in cc);
  named = λ m a c w h. absurd (omega (arith, h));
  added = λ m c h. absurd (omega (arith, h));
}

-- with all phases closed the program has its phases
pub has-phases : (p : Program) (phases : Phases) → ((c : Cell) → phases c ≡ None) → Logged p (length p.tasks) phases → ((m : ℕ) (a : Access) → Contains (task_number p m).accesses a → m < length p.tasks) → HasPhases p
has-phases p phases none log inside = record {
  phases = log.closed;
  each = log.each;
  copies = λ n a c w h copy. elim (log.named n a c w (inside n a h) h copy) [
    | inl in_closed ↦ in_closed
    | inr in_open ↦ absurd (no c in_open.0.0 in_open.0.1)
  ];
  contributions = λ n c h. elim (log.added n c (inside n (access Redux c) h) h) [
    | inl in_closed ↦ in_closed
    | inr in_open ↦ absurd (no c in_open.0.0 in_open.0.1)
  ];
}
  where
    no : (c : Cell) (f : OpenPhase) → phases c ≡ Some f → ⊥
    no c f e = let g : None ≡ Some f = sym (none c) ∙ e in absurd (cc)

-- ---- tasks beside all open phases

-- an access to a cell that is no partial copy, and on which no phase is open
pub record IsAway (p : Program) (phases : Phases) (a : Access) : Type 0 where
  pub plain : IsPlain p a.cell
  pub direct : is_redux a.mode ≡ false
  pub closed : is_data a.mode ≡ true → phases a.cell ≡ None

abbrev pub AreAway : Program → Phases → Lowered → Type 0
AreAway p phases l = All (IsAway p phases) l.accesses

-- a task's data operand is one of its accesses, and is no scratch
pub data-of : (p : Program) (m : ℕ) (a : Access) → Contains (data_operands (task_number p m)) a → Contains (task_number p m).accesses a × (is_data a.mode ≡ true)
data-of p m a h = (Contains-from_filter (λ (b : Access). not (is_scratch b.mode)) (task_number p m).accesses a h, filter-Contains (λ (b : Access). not (is_scratch b.mode)) (task_number p m).accesses a h)

pub away-touches : (p : Program) (phases : Phases) (c : Cell) (f : OpenPhase) (a : Access) → phases c ≡ Some f → IsAway p phases a → is_data a.mode ≡ true → Touches p c a → ⊥
away-touches p phases c f a is away isdata (inl same) = let g : None ≡ Some f = sym (away.closed isdata) ∙ ap phases same ∙ is in absurd (cc)
away-touches p phases c f a is away isdata (inr (w, copy)) = away.plain c w copy

pub log-beside : (p : Program) (n k : ℕ) (phases : Phases) (ls : List Lowered) → k ≡ n + length ls → Stand p n ls → AllByRecursion (AreAway p phases) ls → Logged p n phases → Logged p k phases
log-beside p n k phases ls e stand away log = record {
  closed = log.closed;
  each = log.each;
  start = log.start;
  contributions = log.contributions;
  opened = λ c f is. (let h = log.opened c f is in record {
    begun = omega (arith, e, h.begun);
    init = h.init;
    contribution = h.contribution;
    after = h.after;
    below = All-weaker (λ m. m < n) (λ m. m < k) (λ m l. omega (arith, e, l)) (log.contributions c) h.below;
    contributed = h.contributed;
    alone = λ m a lo hi among touches. elim (cases_lt m n) [
      | inl old ↦ h.alone m a lo old among touches
      | inr new ↦ absurd (let d = data-of p m a among in away-touches p phases c f a is (All-contains (IsAway p phases) (task_number p m).accesses a (each-row p (AreAway p phases) n ls stand away m new (omega (arith, hi, e))) d.0) d.1 touches)
    ];
  });
  named = λ m a c w hi h copy. elim (cases_lt m n) [
    | inl old ↦ log.named m a c w old h copy
    | inr new ↦ absurd ((All-contains (IsAway p phases) (task_number p m).accesses a (each-row p (AreAway p phases) n ls stand away m new (omega (arith, hi, e))) h).plain c w copy)
  ];
  added = λ m c hi h. elim (cases_lt m n) [
    | inl old ↦ log.added m c old h
    | inr new ↦ absurd (false≢true (sym (All-contains (IsAway p phases) (task_number p m).accesses (access Redux c) (each-row p (AreAway p phases) n ls stand away m new (omega (arith, hi, e))) h).direct))
  ];
}

-- ---- lists of numbers

range-has : (a n m : ℕ) → a ≤ m → m < a + n → Contains (range_with_len a n) m
range-has a n m lo hi = (m - a, omega (arith, lo, hi, length-range_with_len a n), get_or-range_with_len a n (m - a) m (omega (arith, lo, hi)) ∙ back)
  where
    back : a + (m - a) ≡ m
    back = omega (arith, lo)

all-range : (P : ℕ → Type 0) (a n : ℕ) → ((m : ℕ) → a ≤ m → m < a + n → P m) → All P (range_with_len a n)
all-range P a n f k d h =
    let inside : k < n = omega (arith, h, length-range_with_len a n) in
    subst P (sym (get_or-range_with_len a n k d inside)) (f (a + k) (omega arith) (omega (arith, inside)))

two-cases : {X : Type 0} (x y a : X) → Contains (x ∷ y ∷ []) a → (x ≡ a) ⊎ (y ≡ a)
two-cases x y a (zero, l, e) = inl e
two-cases x y a (suc zero, l, e) = inr e
two-cases x y a (suc (suc k), l, e) = absurd (omega (arith, l))

more-has : {X : Type 0} (x : X) (xs : List X) (y : X) → Contains xs y → Contains (x ∷ xs) y
more-has x xs y (k, l, e) = (suc k, omega (arith, l), e)

first-has : {X : Type 0} (x : X) (xs : List X) → Contains (x ∷ xs) x
first-has x xs = (0, omega arith, refl)

pub last-has : {X : Type 0} (xs : List X) (x : X) → Contains (xs ++ x ∷ []) x
last-has xs x = Contains-append_right xs (x ∷ []) x (first-has x [])

pub kernel-init : (by : Reduction) → kernel_of (codelet_of (init_of by)) ≡ Some (init_of by)
kernel-init Plus = refl
kernel-init Least = refl

kernel-combine : (by : Reduction) → kernel_of (codelet_of (combine_of by)) ≡ Some (combine_of by)
kernel-combine Plus = refl
kernel-combine Least = refl

-- ---- a phase is closed

-- what is known of an open phase's cell
pub record IsOwn (p : Program) (c : Cell) (f : OpenPhase) : Type 0 where
  pub partials : (cell_info p c).partials ≡ Some f.copies
  pub plain : IsPlain p c
  pub copies : (w : ℕ) (d : Cell) (v : Worker) → w < p.workers → IsCopyOf p (copy_at f.copies w) d v → c ≡ d

module _ (p : Program) (n k : ℕ) (phases : Phases) (c : Cell) (f : OpenPhase) (is : phases c ≡ Some f) (e : k ≡ n + p.workers) (stand : Stand p n (combine_rows f c p.workers)) (own : IsOwn p c f) (others : (d : Cell) (g : OpenPhase) → phases d ≡ Some g → IsPlain p d) (log : Logged p n phases) where
  abbrev mine : IsLogged p n c f (log.start c) (log.contributions c)
  mine = log.opened c f is

  abbrev combines : List ℕ
  combines = range_with_len n p.workers

  abbrev inits : List ℕ
  inits = range_with_len (log.start c) p.workers

  abbrev done : Phase
  done = record { cell = c; by = f.by; inits = inits; contributions = log.contributions c; combines = combines }

  row : (m : ℕ) → n ≤ m → m < k → task_number p m ≡ combine_row f.by c f.line (copy_at f.copies (m - n))
  row m lo hi =
      let back : m ≡ n + (m - n) = omega (arith, lo) in
      ap (task_number p) back ∙ row-range p (λ w. combine_row f.by c f.line (copy_at f.copies w)) 0 p.workers n stand (m - n) (omega (arith, lo, hi, e)) ∙ ap (λ w. combine_row f.by c f.line (copy_at f.copies w)) (none_first (m - n))

  copy-of-is : (w : Worker) → copy_of p c w ≡ copy_at f.copies w.0
  copy-of-is w = copy-is p c f.copies w own.partials

  at : (a w d : ℕ) → w < p.workers → slice_index_or (range_with_len a p.workers) w d ≡ a + w
  at a w d h = get_or-range_with_len a p.workers w d h

  is_phase : IsPhase p done
  is_phase = record {
    inits_by_worker = length-range_with_len (log.start c) p.workers;
    combines_by_worker = length-range_with_len n p.workers;
    contributed = mine.contributed;
    inits = λ w h. subst (λ (q : Cell). IsInit f.by q (task_number p (slice_index_or inits w.0 0))) (sym (copy-of-is w)) (subst (λ m. IsInit f.by (copy_at f.copies w.0) (task_number p m)) (sym (at (log.start c) w.0 0 h)) (mine.init w.0 h));
    contributions = mine.contribution;
    combines = λ w h. subst (λ m. IsCombine f.by (copy_of p c w) c (task_number p m)) (sym (at n w.0 0 h)) (combine w h);
    inits_first = all-range (λ i. All (λ m. i < m) (log.contributions c)) (log.start c) p.workers (λ i lo hi. All-weaker (λ m. log.start c + p.workers ≤ m) (λ m. i < m) (λ m g. omega (arith, g, hi)) (log.contributions c) mine.after);
    combines_last = All-weaker (λ m. m < n) (λ m. All (λ j. m < j) combines) (λ m g. all-range (λ j. m < j) n p.workers (λ j lo hi. omega (arith, g, lo))) (log.contributions c) mine.below;
    in_worker_order = λ i j d before within. order i j d before (omega (arith, within, length-range_with_len n p.workers));
    alone = λ m a is_open h touches. alone_at m a (begun_at m is_open) (ended_at m is_open) h touches;
  }
    where
      combine : (w : Worker) → w.0 < p.workers → IsCombine f.by (copy_of p c w) c (task_number p (n + w.0))
      combine w h =
          let r = row-range p (λ w. combine_row f.by c f.line (copy_at f.copies w)) 0 p.workers n stand w.0 h ∙ ap (λ w. combine_row f.by c f.line (copy_at f.copies w)) (none_first w.0) in
          record {
            codelet = ap (λ (l : Lowered). kernel_of l.codelet) r ∙ kernel-combine f.by;
            operands = ap (λ (l : Lowered). l.accesses) r ∙ ap (λ (q : Cell). access R q ∷ access RW c ∷ []) (sym (copy-of-is w));
          }

      order : (i j d : ℕ) → i < j → j < p.workers → get_or combines i d < get_or combines j d
      order i j d before within = let x = at n i d (omega (arith, before, within)) in let y = at n j d within in omega (arith, x, y, before)

      begun_at : (m : ℕ) → IsOpenAt done m → log.start c ≤ m
      begun_at m is_open = omega (arith, (Contains-range (log.start c) p.workers is_open.begun.0 is_open.begun.1).0, is_open.begun.2)

      ended_at : (m : ℕ) → IsOpenAt done m → m < n + p.workers
      ended_at m is_open = omega (arith, (Contains-range n p.workers is_open.unfinished.0 is_open.unfinished.1).1, is_open.unfinished.2)

      alone_at : (m : ℕ) (a : Access) → log.start c ≤ m → m < n + p.workers → Contains (data_operands (task_number p m)) a → Touches p c a → IsOfPhase done m ⊎ IsFirstUnit p done m
      alone_at m a lo hi h touches = elim (cases_lt m n) [
        | inr late ↦ inl (inr (inr (range-has n p.workers m late hi)))
        | inl early ↦ elim (mine.alone m a lo early h touches) [
          | inl first ↦ inl (inl (range-has (log.start c) p.workers m lo first))
          | inr rest ↦ elim rest [
            | inl given ↦ inl (inr (inl given))
            | inr unit ↦ inr (record { init = unit.0; before = unit.1 })
          ]
        ]
      ]

  -- which of two cells it is
  by_which : (d : Cell) (P : Type 0) → (c ≡ d → P) → (same_cell c d ≡ false → P) → P
  by_which d P own other = by_test (same_cell c d) refl
    where
      by_test : (b : Bool) → same_cell c d ≡ b → P
      by_test true h = own (same_cell-is c d h)
      by_test false h = other h

  kept : (d : Cell) (g : OpenPhase) → same_cell c d ≡ false → with_phase c None phases d ≡ Some g → phases d ≡ Some g
  kept d g other h = sym (phase-other c None phases d other) ∙ h

  shut : (g : OpenPhase) → with_phase c None phases c ≡ Some g → ⊥
  shut g h = let no : None ≡ Some g = sym (phase-own c None phases) ∙ h in absurd (cc)

  operands : (m : ℕ) (a : Access) → n ≤ m → m < k → Contains (task_number p m).accesses a → (a ≡ access R (copy_at f.copies (m - n))) ⊎ (a ≡ access RW c)
  operands m a lo hi h = elim (two-cases (access R (copy_at f.copies (m - n))) (access RW c) a (subst (λ (l : Lowered). Contains l.accesses a) (row m lo hi) h)) [
    | inl x ↦ inl (sym x)
    | inr x ↦ inr (sym x)
  ]

  -- a combine touches no other cell with an open phase
  untouched : (m : ℕ) (a : Access) (d : Cell) (g : OpenPhase) → n ≤ m → m < k → Contains (task_number p m).accesses a → same_cell c d ≡ false → phases d ≡ Some g → Touches p d a → ⊥
  untouched m a d g lo hi h other open' touches = elim (operands m a lo hi h) [
    | inl x ↦ elim touches [
      | inl same ↦ others d g open' c (record { 0 = m - n }) (subst (λ (q : Cell). IsCopyOf p q c (record { 0 = m - n })) (ap (λ (b : Access). b.cell) (sym x) ∙ same) (is-copy p c f.copies (record { 0 = m - n }) own.partials (omega (arith, lo, hi, e))))
      | inr copy ↦ unlike d other (own.copies (m - n) d copy.0 (omega (arith, lo, hi, e)) (subst (λ (q : Cell). IsCopyOf p q d copy.0) (ap (λ (b : Access). b.cell) x) copy.1))
    ]
    | inr x ↦ elim touches [
      | inl same ↦ unlike d other (ap (λ (b : Access). b.cell) (sym x) ∙ same)
      | inr copy ↦ own.plain d copy.0 (subst (λ (q : Cell). IsCopyOf p q d copy.0) (ap (λ (b : Access). b.cell) x) copy.1)
    ]
  ]
    where
      unlike : (d : Cell) → same_cell c d ≡ false → c ≡ d → ⊥
      unlike d h same = false≢true (sym h ∙ ap (same_cell c) (sym same) ∙ same_cell-itself c)

  pub log-close : Logged p k (with_phase c None phases)
  log-close = record {
    closed = done ∷ log.closed;
    each = All-cons (IsPhase p) done log.closed is_phase log.each;
    start = log.start;
    contributions = log.contributions;
    opened = λ d g h. by_which d (IsLogged p k d g (log.start d) (log.contributions d)) (λ same. absurd (shut g (ap (with_phase c None phases) same ∙ h))) (λ other. longer d g other (kept d g other h));
    named = λ m a d v hi h copy. elim (cases_lt m n) [
      | inl old ↦ elim (log.named m a d v old h copy) [
        | inl past ↦ inl (past.0, more-has done log.closed past.0 past.1, past.2, past.3)
        | inr now ↦ by_which d (IsNamed p (done ∷ log.closed) (with_phase c None phases) log.start m d)
            (λ same. inl (done, first-has done log.closed, same, inl (subst (λ (x : Cell). Contains inits m) same (range-has (log.start c) p.workers m (lower m d same now.1) (upper m d same now.2)))))
            (λ other. inr ((now.0.0, phase-other c None phases d other ∙ now.0.1), now.1, now.2))
      ]
      | inr new ↦ elim (operands m a new hi h) [
        | inl x ↦ inl (done, first-has done log.closed, own.copies (m - n) d v (omega (arith, new, hi, e)) (subst (λ (q : Cell). IsCopyOf p q d v) (ap (λ (b : Access). b.cell) x) copy), inr (range-has n p.workers m new (omega (arith, hi, e))))
        | inr x ↦ absurd (own.plain d v (subst (λ (q : Cell). IsCopyOf p q d v) (ap (λ (b : Access). b.cell) x) copy))
      ]
    ];
    added = λ m d hi h. elim (cases_lt m n) [
      | inl old ↦ elim (log.added m d old h) [
        | inl past ↦ inl (past.0, more-has done log.closed past.0 past.1, past.2, past.3)
        | inr now ↦ by_which d (IsAdded (done ∷ log.closed) (with_phase c None phases) log.contributions m d)
            (λ same. inl (done, first-has done log.closed, same, subst (λ (x : Cell). Contains (log.contributions x) m) (sym same) now.1))
            (λ other. inr ((now.0.0, phase-other c None phases d other ∙ now.0.1), now.1))
      ]
      | inr new ↦ elim (operands m (access Redux d) new hi h) [
        | inl x ↦ absurd (let y : Redux ≡ R = ap (λ (b : Access). b.mode) x in cc)
        | inr x ↦ absurd (let y : Redux ≡ RW = ap (λ (b : Access). b.mode) x in cc)
      ]
    ];
  }
    where
      lower : (m : ℕ) (d : Cell) → c ≡ d → log.start d ≤ m → log.start c ≤ m
      lower m d same h = subst (λ (x : Cell). log.start x ≤ m) (sym same) h

      upper : (m : ℕ) (d : Cell) → c ≡ d → m < log.start d + p.workers → m < log.start c + p.workers
      upper m d same h = subst (λ (x : Cell). m < log.start x + p.workers) (sym same) h

      longer : (d : Cell) (g : OpenPhase) → same_cell c d ≡ false → phases d ≡ Some g → IsLogged p k d g (log.start d) (log.contributions d)
      longer d g other open' =
          let h = log.opened d g open' in
          record {
            begun = omega (arith, e, h.begun);
            init = h.init;
            contribution = h.contribution;
            after = h.after;
            below = All-weaker (λ m. m < n) (λ m. m < k) (λ m l. omega (arith, e, l)) (log.contributions d) h.below;
            contributed = h.contributed;
            alone = λ m a lo hi among touches. elim (cases_lt m n) [
              | inl old ↦ h.alone m a lo old among touches
              | inr new ↦ absurd (untouched m a d g new hi (data-of p m a among).0 other open' touches)
            ];
          }
