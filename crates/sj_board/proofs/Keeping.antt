-- What one legal event more leaves: a legal trace, a coherent state, and blocks that stay.
use Rattle.sj_board.proofs.Words.{[], after, All, AllTell, ap, arith, Array, Arrays, arrays_after, block, CanHappen, Cell, DiskNo, DiskState, Equations, Event, Extent, extent_of, FitsSigned, has_copy, has_happened, HasTiles, Holds, HoldsArray, HoldsBlocks, is_home, IsLegal, IsSomeAnd, IsSound, IsStored, Keeps, last_store, LendingState, length, List, Machine, None, on_disk, OnDisk, Option, Place, Program, Recorded, Rows, run_arrays, Some, standing, StandingBy, State, state, subst, sym, true, w64, with_event, writes, ℕ, ◌++◌, ◌+◌, ◌<◌, ◌∙◌, ◌∷◌, ◌≡◌}
use Rattle.std.proofs.lemmas.{Bool.and_from, Bool.and_parts, List.length-append}
use Rattle.sj_core.proofs.{Bound.legal-within_bound, Replaying.legal-coherent, Replaying.legal-content, States.arrays_of-more, States.legal-more, States.state_of-more}

-- a block that holds a cell's array still does where the array and the count of writes stay, at whichever place
pub HoldsArray-moved : {D : Type 0} (held : D → Option (List ℕ)) (disks : List D) (p : Program) (s s' : State) (A A' : Arrays) (c : Cell) (q q' : Place) (e : Extent) → A' c q' ≡ A c q → writes s' c ≡ writes s c → HoldsArray held disks p s A c q e → HoldsArray held disks p s' A' c q' e
HoldsArray-moved held disks p s s' A A' c q q' e a count had = record {
  dims = ap (λ (x : Array). x.dims) a ∙ had.dims;
  whole = ap (λ (x : Array). length x.elements) a ∙ had.whole;
  fits = subst (λ (x : Array). All (FitsSigned w64) x.elements) (sym a) had.fits;
  told = subst (λ (n : ℕ). Holds held disks e (block c.0 n (A' c q').elements)) (sym count) (subst (λ (x : Array). Holds held disks e (block c.0 (writes s c) x.elements)) (sym a) had.told);
}

pub IsStored-kept : (s s' : State) (c : Cell) (e : Extent) → writes s' c ≡ writes s c → IsStored s c e → IsStored s' c e
IsStored-kept s s' c e count is = record { last = is.last ∙ ap (λ (n : ℕ). Some (last_store n true)) (sym count) }

pub IsSomeAnd-map : {X : Type 0} (P Q : X → Type 0) → ((x : X) → P x → Q x) → (o : Option X) → IsSomeAnd o P → IsSomeAnd o Q
IsSomeAnd-map P Q f None h = h
IsSomeAnd-map P Q f (Some x) h = f x h

-- what a copy on a disk says, and what it takes
pub copy-on_disk : (p : Program) (m : Machine) (s : State) (c : Cell) (d : DiskNo) → has_copy p m s c (OnDisk d) ≡ true → (on_disk s c ≡ true) × (is_home p m c d ≡ true)
copy-on_disk p m s c d copy = and_parts (on_disk s c) (is_home p m c d) copy

-- blocks stay where each cell that has one as a copy had it so before, with the same count of writes, and arrays on disks do
pub HoldsBlocks-kept : {D : Type 0} (held : D → Option (List ℕ)) (p : Program) (m : Machine) (s s' : State) (A A' : Arrays) (Tells : Type 0) (disks : DiskState D) → ((c : Cell) (d : DiskNo) → A' c (OnDisk d) ≡ A c (OnDisk d)) → ((c : Cell) → on_disk s' c ≡ true → (on_disk s c ≡ true) × (writes s' c ≡ writes s c)) → HoldsBlocks held p m s A Tells disks → HoldsBlocks held p m s' A' Tells disks
HoldsBlocks-kept held p m s s' A A' Tells disks same kept had = record {
  placed = had.placed;
  stored = λ c d copy. (let k = kept c (copy-on_disk p m s' c d copy).0 in IsSomeAnd-map (IsStored s c) (IsStored s' c) (λ e is. IsStored-kept s s' c e k.1 is) (extent_of disks.directory c.0) (had.stored c d (before c d copy)));
  blocks = λ tells c d copy. (let k = kept c (copy-on_disk p m s' c d copy).0 in IsSomeAnd-map (HoldsArray held disks.disks p s A c (OnDisk d)) (HoldsArray held disks.disks p s' A' c (OnDisk d)) (λ e is. HoldsArray-moved held disks.disks p s s' A A' c (OnDisk d) (OnDisk d) e (same c d) k.1 is) (extent_of disks.directory c.0) (had.blocks tells c d (before c d copy)));
}
  where
    before : (c : Cell) (d : DiskNo) → has_copy p m s' c (OnDisk d) ≡ true → has_copy p m s c (OnDisk d) ≡ true
    before c d copy = let parts = copy-on_disk p m s' c d copy in and_from (on_disk s c) (is_home p m c d) (kept c parts.0).0 parts.1

module _ {D : Type 0} {eq : Equations} (size faults mismatches : D → ℕ) (held : D → Option (List ℕ)) (b : StandingBy eq D) (rows : Rows) (tiles : List (List (Option Array))) (spare : ℕ) (keeps : Keeps size faults mismatches held b rows tiles spare) where
  abbrev p : Program
  p = b.program

  abbrev m : Machine
  m = b.machine

  pub sound_state : IsSound p m (state b)
  sound_state = record { proper = keeps.sound.run.proper; machine = keeps.sound.run.machine; coherent = keeps.sound.coherent }

  -- the trace has room for an event that can happen, since with it the trace is a legal one
  pub has-room : (e : Event) → CanHappen b e → 0 < spare
  has-room e can = omega (arith, legal-within_bound p m keeps.sound.run.proper keeps.sound.run.machine (b.trace ++ e ∷ []) (legal-more p m b.trace e keeps.sound.legal can), keeps.room, length-append b.trace (e ∷ []))

  -- one event more: the tiles are those of the state after it, and so on
  pub keeps-event : (e : Event) (tiles' : List (List (Option Array))) (spare' : ℕ) → CanHappen b e → HoldsBlocks held p m (after p m (state b) e) (arrays_after eq p m (run_arrays b) e) (AllTell held b) b.disks → HasTiles p m (after p m (state b) e) (arrays_after eq p m (run_arrays b) e) (AllTell held b) tiles' → spare' + 1 ≡ spare → Keeps size faults mismatches held (with_event b e) (has_happened rows e) tiles' spare'
  keeps-event e tiles' spare' can blocks has left =
      let now : state (with_event b e) ≡ after p m (state b) e = state_of-more p m b.trace e in
      let now_arrays : run_arrays (with_event b e) ≡ arrays_after eq p m (run_arrays b) e = arrays_of-more eq p m b.trace e in
      let legal : IsLegal p m (b.trace ++ e ∷ []) = legal-more p m b.trace e keeps.sound.legal can in
      record {
        sound = record {
          run = keeps.sound.run;
          legal = legal;
          coherent = legal-coherent p m keeps.sound.run.proper keeps.sound.run.machine (b.trace ++ e ∷ []) legal;
          content = legal-content p m keeps.sound.run.proper keeps.sound.run.machine eq keeps.sound.run.has keeps.sound.run.lawful (b.trace ++ e ∷ []) legal;
          blocks = subst (λ (z : State). HoldsBlocks held p m z (run_arrays (with_event b e)) (AllTell held b) b.disks) (sym now) (subst (λ (A : Arrays). HoldsBlocks held p m (after p m (state b) e) A (AllTell held b) b.disks) (sym now_arrays) blocks);
          given_back = keeps.sound.given_back;
        };
        rows = ap (λ (r : Rows). has_happened r e) keeps.rows ∙ ap (λ (z : State). (let r : Rows = record { program = b.program; machine = b.machine; state = z } in r)) (sym now);
        tiles = subst (λ (z : State). HasTiles p m z (run_arrays (with_event b e)) (AllTell held b) tiles') (sym now) (subst (λ (A : Arrays). HasTiles p m (after p m (state b) e) A (AllTell held b) tiles') (sym now_arrays) has);
        room = omega (arith, left, keeps.room, length-append b.trace (e ∷ []));
      }

-- as the code leaves it: the rows and the trace have the event, and the tiles are these
pub keeps-told : {D : Type 0} (size faults mismatches : D → ℕ) (held : D → Option (List ℕ)) (eq : Equations) (rows : Rows) (trace : Recorded) (lent : LendingState D) (opened : DiskState D) (e : Event) (tiles : List (List (Option Array))) (rows' : Rows) (tiles' : List (List (Option Array))) (trace' : Recorded) → rows' ≡ has_happened rows e → tiles' ≡ tiles → trace'.events ≡ trace.events ++ e ∷ [] → Keeps size faults mismatches held (with_event (standing eq rows.program rows.machine trace lent opened) e) (has_happened rows e) tiles trace'.spare → Keeps size faults mismatches held (standing eq rows'.program rows'.machine trace' lent opened) rows' tiles' trace'.spare
keeps-told size faults mismatches held eq rows trace lent opened e tiles rows' tiles' trace' happened are told keeps =
    subst (λ (r : Rows). Keeps size faults mismatches held (standing eq r.program r.machine trace' lent opened) r tiles' trace'.spare) (sym happened)
    (subst (λ (ts : List (List (Option Array))). Keeps size faults mismatches held (standing eq rows.program rows.machine trace' lent opened) (has_happened rows e) ts trace'.spare) (sym are)
    (subst (λ (es : List Event). Keeps size faults mismatches held (record (standing eq rows.program rows.machine trace' lent opened) { trace = es }) (has_happened rows e) tiles trace'.spare) (sym told) keeps))
