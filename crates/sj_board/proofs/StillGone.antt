-- Victims that are gone stay so until their worker claims again.
use Rattle.sj_board.proofs.Words.{after, ap, AreGone, arith, arrived, AtNode, CanHappen, Cell, cell_state, CellState, Claim, DiskState, Drop, End, Equations, Event, false, get_or, inl, inr, Invalid, is_gone, is_leaving_by, IsSound, IsSoundRun, KnowsGone, length, List, list_all, Machine, Mark, mark, mark_in, May, Move, Moved, Node, node_of, not, OnDisk, Option, Place, Program, refl, reverse, Run, set, StandingBy, starting, State, state, stored, subst, sym, take, Task, true, Valid, victims_of, with_event, with_mark, with_row, Worker, WorkerState, ℕ, ◌<◌, ◌∙◌, ◌≡◌, ◌≢◌}
use Rattle.std.specs.Prelude.{replicate}
use Rattle.std.proofs.lemmas.{Bool.cases_lt, Bool.false_from_ne_true, Bool.false≢true, Bool.not-true, List.get_or-set_other, List.get_or-set_same, List.get_or_default, List.get_or_past, List.length-replicate, List.length-set, List.Elements.All-weaker, List.Sums.AllPass-from_list_all, List.Sums.list_all-from_AllPass}
use Rattle.sj_core.proofs.{Claiming.claim-leaving, Claiming.Claims-other_worker, Ending.end-change, Eviction.evicted-after, Placing.mark-cases, Placing.row-cases, Placing.victims-same, Reading.workers_differ, Running.run-leaving, Running.run-worker, States.state_of-more}
use Rattle.sj_base.proofs.Lists.{get_or-replicate_same}
use Rattle.sj_board.proofs.SparingBoards.{sound as run-sound}

-- ---- events

-- the worker's victims are the same, and none leaves by its claim that didn't
pub record Stays (v : Worker) (s s' : State) : Type 0 where
  pub victims : victims_of s' v ≡ victims_of s v
  pub leaves : (c : Cell) (n : Node) → is_leaving_by v (mark s' c n) ≡ true → is_leaving_by v (mark s c n) ≡ true

gone-stays : (m : Machine) (v : Worker) (s s' : State) → Stays v s s' → (count : ℕ) → AreGone m s v count → AreGone m s' v count
gone-stays m v s s' stays count gone =
    ap (λ (cs : List Cell). list_all (is_gone m s' v) (take count (reverse cs))) stays.victims
    ∙ list_all-from_AllPass (is_gone m s' v) (take count (reverse (victims_of s v))) (All-weaker (λ (c : Cell). is_gone m s v c ≡ true) (λ (c : Cell). is_gone m s' v c ≡ true) (λ c was. ap not (false_from_ne_true (is_leaving_by v (mark s' c (node_of m v))) (λ leaving. false≢true (sym (not-true (is_leaving_by v (mark s c (node_of m v))) was) ∙ stays.leaves c (node_of m v) leaving)))) (take count (reverse (victims_of s v))) (AllPass-from_list_all (is_gone m s v) (take count (reverse (victims_of s v))) gone))

-- the event isn't a claim of the worker
abbrev pub NotClaimedBy : Event → Worker → Type 0
NotClaimedBy (Claim t w) v = v ≢ w
NotClaimedBy _ v = Unit {0}

module _ (p : Program) (m : Machine) (s : State) (h : IsSound p m s) (v : Worker) where
  -- a mark is written by which nothing leaves
  unmarked : (x : Cell) (k : Node) (r : Mark) → is_leaving_by v r ≡ false → (c : Cell) (n : Node) → is_leaving_by v (mark (with_row s x (with_mark (cell_state s x) k r)) c n) ≡ true → is_leaving_by v (mark s c n) ≡ true
  unmarked x k r none c n now = elim (mark-cases s x k r c n) [
    | inl same ↦ sym (ap (is_leaving_by v) same) ∙ now
    | inr (e, at, is) ↦ absurd (false≢true (sym none ∙ sym (ap (is_leaving_by v) is) ∙ now))
  ]

  Step-stays : (e : Event) (s' : State) → May p m s e → s' ≡ after p m s e → NotClaimedBy e v → Stays v s s'
  Step-stays (Claim t w) s' step leaves other = record {
    victims = ap (λ (row : WorkerState). row.victims) (Claims-other_worker p m s t w v s' step (leaves ∙ (evicted-after p m s t w)) other);
    leaves = λ c n leaving. elim (claim-leaving p m s h t w s' step (leaves ∙ (evicted-after p m s t w)) v c n leaving) [ inl (at, same, evicted) ↦ absurd (other same) | inr (away, was) ↦ was ];
  }
  Step-stays (Move x from to) s' step leaves other = record {
    victims = ap (λ (z : State). victims_of z v) leaves ∙ victims-same s _ _ v;
    leaves = λ c n leaving. sym (ap (λ (z : State). is_leaving_by v (mark z c n)) leaves) ∙ leaving;
  }
  Step-stays (Moved x from to) s' step leaves other =
      record {
        victims = ap (λ (z : State). victims_of z v) leaves ∙ victims-same (with_row s x (arrived to (cell_state s x))) _ _ v;
        leaves = λ c n leaving. by_target to c n (sym (ap (λ (z : State). is_leaving_by v (mark z c n)) leaves) ∙ leaving);
      }
    where
      by_target : (q : Place) (c : Cell) (n : Node) → is_leaving_by v (mark (with_row s x (arrived q (cell_state s x))) c n) ≡ true → is_leaving_by v (mark s c n) ≡ true
      by_target (AtNode k) c n now = unmarked x k Valid refl c n now
      by_target (OnDisk d) c n now = elim (row-cases s x (stored (cell_state s x)) c) [
        | inl same ↦ sym (ap (λ (row : CellState). is_leaving_by v (mark_in row n)) same) ∙ now
        | inr (e, is) ↦ ap (λ (y : Cell). is_leaving_by v (mark s y n)) e ∙ sym (ap (λ (row : CellState). is_leaving_by v (mark_in row n)) is) ∙ now
      ]
  Step-stays (Drop x k) s' step leaves other = record {
    victims = ap (λ (z : State). victims_of z v) leaves;
    leaves = λ c n leaving. unmarked x k Invalid refl c n (sym (ap (λ (z : State). is_leaving_by v (mark z c n)) leaves) ∙ leaving);
  }
  Step-stays (Run t w) s' step leaves other = record {
    victims = ap (λ (row : WorkerState). row.victims) (run-worker p m s t w s' step leaves v);
    leaves = λ c n leaving. run-leaving p m s t w s' step leaves v c n leaving;
  }
  Step-stays (End t w) s' step leaves other =
      let change = end-change p m s h t w s' step leaves in
      record {
        victims = change.victims v;
        leaves = λ c n leaving. change.leaves v c n leaving;
      }

-- ---- a board's count of them

-- of a run as it stands
abbrev pub Knows : {D : Type 0} {eq : Equations} → StandingBy eq D → List ℕ → Type 0
Knows run gone = KnowsGone run.program.workers run.machine (state run) gone

pub knows-none : {D : Type 0} (eq : Equations) (p : Program) (m : Machine) (disks : DiskState D) (run : StandingBy eq D) → run ≡ starting eq p m disks → (n : ℕ) → n ≡ p.workers → (gone : List ℕ) → gone ≡ replicate n 0 → Knows run gone
knows-none eq p m disks run starts n many gone is = subst (λ (ks : List ℕ). Knows run ks) (sym is) (record {
  every_worker = length-replicate {A = ℕ} n 0 ∙ many ∙ ap (λ (r : StandingBy _ _). r.program.workers) (sym starts);
  gone = λ w. ap (λ (k : ℕ). list_all (is_gone run.machine (state run) w) (take k (reverse (victims_of (state run) w)))) (get_or-replicate_same n w.0 0);
})

-- what is read of the count of a worker
pub knows-read : {D : Type 0} {eq : Equations} (run : StandingBy eq D) (gone : List ℕ) → Knows run gone → (w : Worker) → w.0 < length gone → (x d : ℕ) → x ≡ get_or gone w.0 d → AreGone run.machine (state run) w x
knows-read run gone knows w inside x d read = subst (λ (k : ℕ). AreGone run.machine (state run) w k) (sym (read ∙ get_or_default gone w.0 d 0 inside)) (knows.gone w)

-- where the count of one worker is noted
pub knows-noted : {D : Type 0} {eq : Equations} (run run' : StandingBy eq D) → run'.program ≡ run.program → (w : Worker) → ((v : Worker) → v ≢ w → Stays v (state run) (state run')) → run'.machine ≡ run.machine → (gone : List ℕ) → Knows run gone → (count : ℕ) → AreGone run'.machine (state run') w count → (gone' : List ℕ) → gone' ≡ set gone w.0 count → Knows run' gone'
knows-noted run run' program w stays machine gone knows count first gone' is = subst (λ (ks : List ℕ). Knows run' ks) (sym is) (record {
  every_worker = length-set gone w.0 count ∙ knows.every_worker ∙ ap (λ (p : Program). p.workers) (sym program);
  gone = λ v. elim (workers_differ v w) [
    | inl e ↦ subst (λ (x : Worker). AreGone run'.machine (state run') x (get_or (set gone w.0 count) x.0 0)) (sym e) (elim (cases_lt w.0 (length gone)) [
      | inl inside ↦ subst (λ (k : ℕ). AreGone run'.machine (state run') w k) (sym (get_or-set_same gone w.0 count 0 inside)) first
      | inr past ↦ subst (λ (k : ℕ). AreGone run'.machine (state run') w k) (sym (get_or_past (set gone w.0 count) w.0 0 (omega (arith, past, length-set gone w.0 count)))) refl
    ])
    | inr d ↦
        subst (λ (k : ℕ). AreGone run'.machine (state run') v k) (sym (get_or-set_other gone w.0 v.0 count 0 (λ e. d (ap (λ (i : ℕ). let x : Worker = record { 0 = i } in x) e))))
        (subst (λ (n : Machine). AreGone n (state run') v (get_or gone v.0 0)) (sym machine) (gone-stays run.machine v (state run) (state run') (stays v d) (get_or gone v.0 0) (knows.gone v)))
  ];
})

module _ {D : Type 0} {eq : Equations} (size faults mismatches : D → ℕ) (held : D → Option (List ℕ)) (run : StandingBy eq D) (sound : IsSoundRun size faults mismatches held run) where
  event-stays : (e : Event) → CanHappen run e → (v : Worker) → NotClaimedBy e v → Stays v (state run) (state (with_event run e))
  event-stays e can v other = subst (λ (z : State). Stays v (state run) z) (sym (state_of-more run.program run.machine run.trace e)) (Step-stays run.program run.machine (state run) (run-sound size faults mismatches held run sound) v e (after run.program run.machine (state run) e) can refl other)

  module _ (gone : List ℕ) (knows : Knows run gone) where
    -- an event that is no claim
    pub knows-event : (e : Event) → CanHappen run e → ((v : Worker) → NotClaimedBy e v) → (run' : StandingBy eq D) → run' ≡ with_event run e → Knows run' gone
    knows-event e can other run' is = subst (λ (r : StandingBy eq D). Knows r gone) (sym is) (record {
      every_worker = knows.every_worker;
      gone = λ v. gone-stays run.machine v (state run) (state (with_event run e)) (event-stays e can v (other v)) (get_or gone v.0 0) (knows.gone v);
    })

    -- a claim: none of its victims is known to be gone
    pub knows-claimed : (t : Task) (w : Worker) → CanHappen run (Claim t w) → (run' : StandingBy eq D) → run' ≡ with_event run (Claim t w) → (gone' : List ℕ) → gone' ≡ set gone w.0 0 → Knows run' gone'
    knows-claimed t w can run' is gone' noted = subst (λ (r : StandingBy eq D). Knows r gone') (sym is) (knows-noted run (with_event run (Claim t w)) refl w (λ v other. event-stays (Claim t w) can v other) refl gone knows 0 refl gone' noted)

-- where the disks alone change
pub knows-stored : {D : Type 0} {eq : Equations} (run run' : StandingBy eq D) (gone : List ℕ) → Knows run gone → run' ≡ record run { disks = run'.disks; out = run'.out } → Knows run' gone
knows-stored run run' gone knows is = subst (λ (r : StandingBy _ _). Knows r gone) (sym is) knows

-- where it is found that more are gone
pub knows-found : {D : Type 0} {eq : Equations} (run : StandingBy eq D) (gone : List ℕ) → Knows run gone → (w : Worker) (count : ℕ) → AreGone run.machine (state run) w count → (gone' : List ℕ) → gone' ≡ set gone w.0 count → Knows run gone'
knows-found run gone knows w count found gone' noted = knows-noted run run refl w (λ v d. record { victims = refl; leaves = λ c n leaving. leaving }) refl gone knows count found gone' noted
