-- A board stays sound where a worker takes a unit, and where it puts it back.
use Rattle.sj_board.proofs.Words.{ap, AreGivenBack, arith, Array, board_state, BoardBy, Bool, Cell, Dependencies, DiskRefusal, Equations, Err, extent_of, false, GivesUnitBack, Hand, hand_in, hand_of, has_back, has_taken, HasFetchedMoved, HasStoredMoved, IfSome, is_node, is_out, is_some, is_task_of, IsBusy, IsComplete, IsFetching, IsKept, IsMovingOut, IsTaken, IsTileMoved, IsTileOf, IsTrue, IsWorkedOn, KeepsBoard, LendingState, length, length-set, lent, List, None, Ok, OnlyDisksChange, OnOk, Option, OthersKeepUnits, Pooled, progress, refl, Result, RunFault, slice_set, Some, StandingBy, State, state, subst, sym, TakesUnit, Task, times_pooled, Transfer, transfer, true, unit_in_hand, UnitFetches, UnitsStand, UnitState, UnitStores, with_hand, Worker, writes, ℕ, ◌+◌, ◌<◌, ◌∙◌, ◌≡◌, ◌⊎◌}
use Rattle.sj_base.proofs.Options.{IfSome-at, IsSomeAnd-at}
use Rattle.sj_edge.proofs.GivenBackLemmas.{all_given_back-untouched, all_untouched-same}
use Rattle.sj_board.proofs.{BoardEnds.stays-stored, Boarding.keeps-disks, Hands.given-same, Hands.hand-set, Hands.pool_for-same, Hands.stands-same, ReleasedTasks.released-hands, StillGone.knows-stored, UnitHands.others-keep, UnitHands.units-back, UnitHands.units-taken, UnitPuts.same-back}

-- a worker's unit is no matter of what a board keeps beside
keeps-unit : {D : Type 0} {eq : Equations} (faults mismatches : D → ℕ) (held : D → Option (List ℕ)) (b : BoardBy eq D) (deps : Dependencies) (footprints : List ℕ) (w : Worker) (unit : Option Cell) → w.0 < length b.hands → KeepsBoard faults mismatches held b deps footprints → KeepsBoard faults mismatches held (with_hand b w (record (hand_of b w) { unit = unit })) deps footprints
keeps-unit faults mismatches held b deps footprints w unit inside keeps =
    let h : Hand = record (hand_of b w) { unit = unit } in
    let s : State = state b.run in
    record {
      fault = keeps.fault;
      inside = record {
        hands_agree = record {
          every_worker = length-set b.hands w.0 h ∙ keeps.inside.hands_agree.every_worker;
          has = hand-set (λ v x. (t : Task) → x.task ≡ Some t → IsTrue (is_task_of v (progress s t))) b.hands w h inside (keeps.inside.hands_agree.has w) keeps.inside.hands_agree.has;
          tells = λ none. hand-set (λ v x. (t : Task) → IsTrue (is_task_of v (progress s t)) → x.task ≡ Some t) b.hands w h inside (keeps.inside.hands_agree.tells none w) (keeps.inside.hands_agree.tells none);
        };
        stops = record {
          no_task = hand-set (λ v x. x.has_stopped ≡ true → x.task ≡ None) b.hands w h inside (keeps.inside.stops.no_task w) keeps.inside.stops.no_task;
          over = λ v. hand-set (λ u x. x.has_stopped ≡ true → IsComplete s ⊎ IsTrue (is_some b.fault)) b.hands w h inside (keeps.inside.stops.over w) keeps.inside.stops.over v;
        };
        stands_once = λ prio. stands-same b.run.program s b.hands (slice_set b.hands w.0 h) b.pool b.pool (λ t. ap (λ (n : ℕ). times_pooled b.pool t + n) (given-same b.hands w h t inside refl)) (keeps.inside.stands_once prio);
        stands_released = λ other. released-hands b.run.program s b.hands (slice_set b.hands w.0 h) b.pool (hand-set (λ v x. x.given ≡ None) b.hands w h inside ((keeps.inside.stands_released other).none_given w) (keeps.inside.stands_released other).none_given) (keeps.inside.stands_released other);
        pool_fits = pool_for-same b.run.program b.run.machine b.hands b.pool w h inside refl keeps.inside.pool_fits;
      };
      counts = keeps.counts;
      bytes = keeps.bytes;
    }

-- as the code leaves it: the disks have changed, and the worker's unit
pub keeps-unit_left : {D : Type 0} {eq : Equations} (size faults mismatches : D → ℕ) (held : D → Option (List ℕ)) (b : BoardBy eq D) (deps : Dependencies) (footprints : List ℕ) (run' : StandingBy eq D) (w : Worker) (unit : Option Cell) (hands' : List Hand) → w.0 < length b.hands → OnlyDisksChange b.run run' → AreGivenBack size faults mismatches held b.run.disks.disks run'.disks.disks → hands' ≡ slice_set b.hands w.0 (record (hand_in b.hands w) { unit = unit }) → KeepsBoard faults mismatches held b deps footprints → KeepsBoard faults mismatches held (record b { run = run'; hands = hands' }) deps footprints
keeps-unit_left size faults mismatches held b deps footprints run' w unit hands' inside only back is keeps =
    subst (λ (hs : List Hand). KeepsBoard faults mismatches held (record b { run = run'; hands = hs }) deps footprints) (sym is)
    (keeps-unit faults mismatches held (record b { run = run' }) deps footprints w unit inside (keeps-disks size faults mismatches held b deps footprints run' only back keeps))

-- ---- where only what is out changes

module _ {D : Type 0} {eq : Equations} (run run' : StandingBy eq D) (out : List Bool) (now : run' ≡ record run { out = out }) where
  pub out-only : OnlyDisksChange run run'
  out-only = now ∙ ap (λ (z : StandingBy eq D). record run { disks = z.disks; out = z.out }) (sym now)

  pub out-given : (size faults mismatches : D → ℕ) (held : D → Option (List ℕ)) → AreGivenBack size faults mismatches held run.disks.disks run'.disks.disks
  out-given size faults mismatches held =
      subst (λ (z : StandingBy eq D). AreGivenBack size faults mismatches held run.disks.disks z.disks.disks) (sym now)
      (all_given_back-untouched size faults mismatches held run.disks.disks run.disks.disks (all_untouched-same size faults mismatches held run.disks.disks))

-- ---- a unit is taken

module _ {D : Type 0} {eq : Equations} (run run' : StandingBy eq D) (w : Worker) (u : UnitState D) (takes : TakesUnit w u run run') where
  pub taken-units : (hands hands' : List Hand) → w.0 < length hands → (hand_in hands w).unit ≡ None → hands' ≡ slice_set hands w.0 (record (hand_in hands w) { unit = Some u.cell }) → UnitsStand run.disks run.out hands → UnitsStand run'.disks run'.out hands'
  taken-units hands hands' inside none is stand =
      let its = ap (λ (z : StandingBy eq D). extent_of z.disks.directory u.cell.0) (sym takes.nothing_else) ∙ takes.is_its_unit.taken.its_extent in
      let now_out = ap (λ (z : StandingBy eq D). is_out z.out u.extent.disk.0) (sym takes.nothing_else) ∙ takes.is_its_unit.taken.its_disk_is_out in
      subst (λ (z : StandingBy eq D). UnitsStand z.disks z.out hands') (sym takes.nothing_else)
      (subst (λ (hs : List Hand). UnitsStand run.disks (slice_set run.out u.extent.disk.0 true) hs) (sym is)
      (units-taken run.disks run.out hands stand w inside none u.cell u.extent its takes.was_in now_out))

  pub taken-board : (hands hands' : List Hand) (pool : Pooled) (fault : Option RunFault) (delivered : List (Task × Array)) → hands' ≡ slice_set hands w.0 (record (hand_in hands w) { unit = Some u.cell }) → board_state run' hands' pool fault delivered ≡ has_taken (board_state run hands pool fault delivered) w u
  taken-board hands hands' pool fault delivered is =
      ap (λ (hs : List Hand). board_state run' hs pool fault delivered) is
      ∙ ap (λ (z : StandingBy eq D). board_state z (slice_set hands w.0 (record (hand_in hands w) { unit = Some u.cell })) pool fault delivered) takes.nothing_else

-- ---- and put back

pub put-board : {D : Type 0} {eq : Equations} (run run' : StandingBy eq D) (w : Worker) (hands hands' : List Hand) → hands' ≡ slice_set hands w.0 (record (hand_in hands w) { unit = None }) → (pool : Pooled) (fault : Option RunFault) (delivered : List (Task × Array)) (b : BoardBy eq D) → board_state run hands pool fault delivered ≡ b → OnlyDisksChange run run' → GivesUnitBack w b (board_state run' hands' pool fault delivered)
put-board {D} {eq} run run' w hands hands' is pool fault delivered b same only =
    subst (λ (k : BoardBy eq D). GivesUnitBack w k (board_state run' hands' pool fault delivered)) same
    (ap (λ (hs : List Hand). board_state run' hs pool fault delivered) is
    ∙ ap (λ (z : StandingBy eq D). board_state z (slice_set hands w.0 (record (hand_in hands w) { unit = None })) pool fault delivered) only)

-- a busy worker's hand, on a board that is kept
module _ {D : Type 0} {eq : Equations} (faults mismatches : D → ℕ) (held : D → Option (List ℕ)) (b : BoardBy eq D) (deps : Dependencies) (footprints : List ℕ) (gifts : List (Option Array)) (spare left : ℕ) (gone : List ℕ) (kept : IsKept faults mismatches held b deps footprints gifts spare left gone) (b' : BoardBy eq D) (same : b ≡ b') (w : Worker) (busy : IsBusy b' w) where
  pub busy-inside : w.0 < length b.hands
  busy-inside =
      let known = (subst (λ (k : BoardBy eq D). IsBusy k w) (sym same) busy).works.known in
      omega (arith, known, kept.board.inside.hands_agree.every_worker)

  -- its unit comes back
  module _ (size : D → ℕ) (u before : UnitState D) (in_hand : (hand_of b' w).unit ≡ Some u.cell) (run' : StandingBy eq D) (hands' : List Hand) (is : hands' ≡ slice_set b.hands w.0 (record (hand_of b w) { unit = None })) (taken : IsTaken (lent b.run) before) (cell : u.cell ≡ before.cell) (disk : u.extent.disk ≡ before.extent.disk) (back : lent run' ≡ has_back (lent b.run) u) where
    its : extent_of b.run.disks.directory u.cell.0 ≡ Some before.extent
    its = ap (λ (c : Cell). extent_of b.run.disks.directory c.0) cell ∙ taken.its_extent

    was-in_hand : (hand_of b w).unit ≡ Some u.cell
    was-in_hand = ap (λ (k : BoardBy eq D). (hand_of k w).unit) same ∙ in_hand

    pub put-kept : OnlyDisksChange b.run run' → AreGivenBack size faults mismatches held b.run.disks.disks run'.disks.disks → IsKept faults mismatches held (record b { run = run'; hands = hands' }) deps footprints gifts spare left gone
    put-kept only given_back = record {
      board = keeps-unit_left size faults mismatches held b deps footprints run' w None hands' busy-inside only given_back is kept.board;
      ends = stays-stored held b.run b.delivered gifts spare left kept.ends run' only;
      victims = knows-stored b.run run' gone kept.victims only;
      units =
          subst (λ (l : LendingState D). UnitsStand l.set l.out hands') (sym back)
          (subst (λ (hs : List Hand). UnitsStand (has_back (lent b.run) u).set (has_back (lent b.run) u).out hs) (sym is)
          (units-back b.run.disks b.run.out b.hands kept.units w busy-inside u.cell was-in_hand before.extent u.extent its disk u.disk));
    }

    pub put-others : OthersKeepUnits w b' (record b { run = run'; hands = hands' })
    put-others v far =
        ap (λ (hs : List Hand). unit_in_hand (record b { run = run'; hands = hs }) v) is
        ∙ ap (λ (l : LendingState D). unit_in_hand (record b { run = record b.run { disks = l.set }; hands = slice_set b.hands w.0 (record (hand_of b w) { unit = None }) }) v) back
        ∙ others-keep b.run.disks b.run.out b.hands kept.units w busy-inside u.cell was-in_hand before.extent u.extent its disk u.disk v far
        ∙ ap (λ (k : BoardBy eq D). unit_in_hand k v) same

-- what was done with a unit kept its cell and its disk
module _ {D : Type 0} {eq : Equations} (size faults mismatches : D → ℕ) (held : D → Option (List ℕ)) (run : StandingBy eq D) (w : Worker) (u : UnitState D) (result : Result (Unit {0}) DiskRefusal) where
  pub stored-worked : IsMovingOut run w → (moved : HasStoredMoved size faults mismatches held run w u result) → IsWorkedOn size faults mismatches held moved.before u
  stored-worked under_way moved =
      let x = IsSomeAnd-at (λ (y : Transfer). is_node y.to ≡ false) (transfer (state run) w) under_way in
      (IfSome-at (λ (y : Transfer). UnitStores size faults mismatches held (writes (state run) y.cell) moved.array.elements result moved.before u) (transfer (state run) w) x.0 x.1 moved.stores).is_worked_on

  pub fetched-worked : IsFetching run w → (array : Array) (moved : HasFetchedMoved size faults mismatches held run w u result array) → IsWorkedOn size faults mismatches held moved.before u
  fetched-worked under_way array moved =
      let x = IsSomeAnd-at (λ (y : Transfer). is_node y.from ≡ false) (transfer (state run) w) under_way in
      (IfSome-at (λ (y : Transfer). UnitFetches size faults mismatches held (writes (state run) y.cell) array.elements result moved.before u) (transfer (state run) w) x.0 x.1 moved.fetches).is_worked_on

-- ---- what is told of the move stays so as the disks change

module _ {D : Type 0} {eq : Equations} (held : D → Option (List ℕ)) (run run' : StandingBy eq D) (w : Worker) (only : OnlyDisksChange run run') where
  pub tile-now : (a : Array) → IsTileMoved held run w a → IsTileMoved held run' w a
  tile-now a is = subst (λ (z : StandingBy eq D). IsTileMoved held z w a) (sym only) (by_move (transfer (state run) w) is)
    where
      by_move : (o : Option Transfer) → IfSome o (λ x. IsTileOf held run x.cell x.from a) → IfSome o (λ x. IsTileOf held (record run { disks = run'.disks; out = run'.out }) x.cell x.from a)
      by_move None h = tt
      by_move (Some x) h = record { dims = h.dims; array = h.array }

  pub tiles-now : {A E : Type 0} (result : Result A E) (M : Array → Type 0) → OnOk result ((a : Array) → M a → IsTileMoved held run w a) → OnOk result ((a : Array) → M a → IsTileMoved held run' w a)
  tiles-now (Ok x) M h = λ a m. tile-now a (h a m)
  tiles-now (Err x) M h = tt

-- a unit that comes back as it was taken
pub untouched-back : {D : Type 0} {eq : Equations} (run run' : StandingBy eq D) (u : UnitState D) → IsTaken (lent run) u → run' ≡ record run { out = slice_set run.out u.extent.disk.0 false } → lent run' ≡ has_back (lent run) u
untouched-back {D} {eq} run run' u taken now = ap (λ (z : StandingBy eq D). lent z) now ∙ sym (same-back (lent run) u taken)
