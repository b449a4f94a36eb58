-- A computed test of legal traces, for worked runs: in it a task begins only once all earlier tasks are done.
use Rattle.sj_core.proofs.Words.{[], a_transfer, after, arith, AtNode, Bool, CanFollow, Cell, Claim, commuting_cells, disk_of, DiskNo, done_in, Drop, End, Event, false, fits, footprint, has_room, is_claimed_by, is_coming_by, is_elsewhere, is_fresh, is_idle, is_in_use, is_leaving, is_leaving_by, is_moving, is_none, is_present, is_read, is_running_on, is_some, is_waiting, IsLegal, length, List, list_all, Machine, mark, May, Move, Moved, mover_of, nat_eq, nat_le, nat_lt, node_of, node_size, None, none_leaving, not, OnDisk, opening, Option, Place, Program, Progress, progress, range_with_len, Run, same_cell, same_place, Some, source_of, State, Task, Transfer, transfer, true, victims_for, Waiting, worker, written_cells, ◌&&◌, ◌∷◌, ◌≡◌}
use Rattle.std.proofs.lemmas.Bool.{and_parts, eqb-true, false≢true, leb-true, ltb-true}
use Rattle.sj_base.proofs.SameIds.{same_cell-is}
use Rattle.sj_core.proofs.{Advancing.claimed_by-is, Advancing.running_on-is, Placing.same_place-is, Readiness.EarlierAreDone-all, Readiness.Ready-from}

abbrev all_earlier_done : State → Task → Bool
all_earlier_done s t = list_all (λ n. done_in s (record { 0 = n })) (range_with_len 0 t.0)

abbrev is_here : Option Place → Place → Bool
is_here None q = false
is_here (Some k) q = same_place k q

abbrev is_on : Option DiskNo → DiskNo → Bool
is_on None d = false
is_on (Some k) d = nat_eq k.0 d.0

abbrev is_transfer : Cell → Place → Place → Option Transfer → Bool
is_transfer c from to None = false
is_transfer c from to (Some x) = same_cell x.cell c && same_place x.from from && same_place x.to to

-- the event is a step, as far as the test sees
abbrev is_step : Program → Machine → State → Event → Bool
is_step p m s (Claim t w) =
    nat_lt w.0 p.workers && (is_waiting (progress s t) && (nat_lt t.0 (length p.tasks) && (all_earlier_done s t && (is_idle s w && (nat_le (footprint p t) (node_size m (node_of m w)) && (none_leaving s (node_of m w) && (list_all (λ c. not (is_in_use p s c)) (commuting_cells p t) && is_some (victims_for p m s t w))))))))
is_step p m s (Move c from (AtNode n)) =
    let w = mover_of s c from (AtNode n) in
    nat_eq n.0 (node_of m w).0 && (is_none (transfer s w) && (is_coming_by w (mark s c n) && (not (is_fresh p s w c) && (has_room m s w && is_here (source_of p m s c) from))))
is_step p m s (Move c (AtNode k) (OnDisk d)) =
    let w = mover_of s c (AtNode k) (OnDisk d) in
    is_none (transfer s w) && (is_leaving_by w (mark s c k) && (not (is_elsewhere s c k) && is_on (disk_of p m c) d))
is_step p m s (Move c (OnDisk e) (OnDisk d)) = false
is_step p m s (Moved c from to) = is_transfer c from to (transfer s (mover_of s c from to))
is_step p m s (Drop c n) = is_leaving (mark s c n) && (not (is_read s c (AtNode n)) && is_elsewhere s c n)
is_step p m s (Run t w) =
    is_claimed_by w (progress s t) && (all_earlier_done s t && (has_room m s w && (is_present p s t w (node_of m w) && list_all (λ c. not (is_moving s c)) (written_cells p t w))))
is_step p m s (End t w) = is_running_on w (progress s t)

-- ---- the test is right

pub waiting-is : (x : Progress) → is_waiting x ≡ true → x ≡ Waiting
waiting-is x h = search (arith, false≢true)

none-is : {X : Type 0} (o : Option X) → is_none o ≡ true → o ≡ None
none-is b h = search (arith, false≢true)

here-is : (o : Option Place) (q : Place) → is_here o q ≡ true → o ≡ Some q
here-is b q h = search (arith, false≢true, same_place-is)

on-is : (o : Option DiskNo) (d : DiskNo) → is_on o d ≡ true → o ≡ Some d
on-is b d h = search (arith, false≢true, eqb-true)

transfer-is : (c : Cell) (from to : Place) (o : Option Transfer) → is_transfer c from to o ≡ true → o ≡ Some (a_transfer c from to)
transfer-is c from to b h = search (arith, false≢true, and_parts, same_cell-is, same_place-is)

module _ (p : Program) (m : Machine) where
  step-from : (s : State) (e : Event) → is_step p m s e ≡ true → May p m s e
  step-from s (Claim t w) h =
      let (worker, h1) = and_parts _ _ h in
      let (waits, h2) = and_parts _ _ h1 in
      let (inside, h3) = and_parts _ _ h2 in
      let (earlier, h4) = and_parts _ _ h3 in
      let (idle, h5) = and_parts _ _ h4 in
      let (fits, h6) = and_parts _ _ h5 in
      let (settled, h7) = and_parts _ _ h6 in
      let (alone, room) = and_parts _ _ h7 in
      let waiting = waiting-is (progress s t) waits in
      record { worker = ltb-true w.0 p.workers worker; waiting = waiting; ready = Ready-from p s t (ltb-true t.0 (length p.tasks) inside) waiting (EarlierAreDone-all p s t earlier); idle = idle; fits = leb-true (footprint p t) (node_size m (node_of m w)) fits; settled = settled; alone = alone; room = room }
  step-from s (Move c from (AtNode n)) h = search (arith, and_parts, eqb-true, none-is, here-is)
  step-from s (Move c (AtNode k) (OnDisk d)) h = search (arith, and_parts, none-is, on-is)
  step-from s (Move c (OnDisk e) (OnDisk d)) h = h
  step-from s (Moved c from to) h = transfer-is c from to (transfer s (mover_of s c from to)) h
  step-from s (Drop c n) h = search (arith, and_parts)
  step-from s (Run t w) h =
      let (claimed, h1) = and_parts _ _ h in
      let (earlier, h2) = and_parts _ _ h1 in
      let (room, h3) = and_parts _ _ h2 in
      let (present, unmoved) = and_parts _ _ h3 in
      record { claimed = claimed_by-is w (progress s t) claimed; earlier = EarlierAreDone-all p s t earlier; room = room; present = present; unmoved = unmoved }
  step-from s (End t w) h = running_on-is w (progress s t) h

  -- each event of the trace passes in the state that the ones before it leave
  abbrev pub are_steps : State → List Event → Bool
  are_steps s [] = true
  are_steps s (e ∷ trace) = is_step p m s e && are_steps (after p m s e) trace

  follow-from : (s : State) (trace : List Event) → are_steps s trace ≡ true → CanFollow p m s trace
  follow-from s [] h = tt
  follow-from s (e ∷ trace) h = let (first, later) = and_parts (is_step p m s e) (are_steps (after p m s e) trace) h in (step-from s e first, follow-from (after p m s e) trace later)

  -- such a trace is legal
  pub legal-from : (trace : List Event) → are_steps (opening p m) trace ≡ true → IsLegal p m trace
  legal-from trace h = follow-from (opening p m) trace h
