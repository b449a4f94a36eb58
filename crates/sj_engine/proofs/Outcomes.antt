-- What a board leaves, by what is true of it: the outcome of a run that is over, and of one that no worker has come to.
use Rattle.std.proofs.Common.{◌≡◌, ℕ, ◌<◌, ◌∙◌, ◌⊎◌, false, Option, Some, None, List, [], IsTrue, ap, arith, get_or, inl, inr, length, refl, replicate, subst, sym}
use Rattle.std.specs.Prelude.{Err, IfSome, IsOk, IsSomeAnd, MatchOption, Ok, Result, is_some, option_map, slice_get}
use Rattle.std.proofs.lemmas.Bool.{and_parts, cases_lt, false≢true}
use Rattle.std.proofs.lemmas.List.{get_or-replicate, get_or_past, length-replicate}
use Rattle.std.proofs.lemmas.List.Elements.{All-from_get_or, All-get_or}
use Rattle.std.proofs.lemmas.Option.{none-some}
use Rattle.sj_base.specs.declared.ids.Cell.{Cell}
use Rattle.sj_base.specs.declared.ids.DiskNo.{DiskNo}
use Rattle.sj_base.specs.declared.ids.Place.TheVariants.{Disk as OnDisk}
use Rattle.sj_base.specs.declared.ids.Task.{Task}
use Rattle.sj_base.specs.declared.program.Machine.{Machine}
use Rattle.sj_base.specs.declared.program.Program.{Program}
use Rattle.sj_base.specs.declared.trace.Event.{Event}
use Rattle.sj_base.specs.Array.{Array}
use Rattle.sj_codelet.specs.Kernel.{out}
use Rattle.sj_core.specs.Legal.{IsComplete}
use Rattle.sj_core.specs.Machine.{CellState, State, cell_state, no_copy, on_disk, opening, writes}
use Rattle.sj_core.specs.Step.{has_copy, is_home}
use Rattle.sj_core.proofs.Placing.{home-is}
use Rattle.sj_core.proofs.Reading.{no_row}
use Rattle.sj_core.specs.Needs.{Block}
use Rattle.sj_disk.specs.Directory.{extent_of}
use Rattle.sj_disk.specs.Block.{block}
use Rattle.sj_disk.specs.Holding.{CountsStay}
use Rattle.sj_edge.specs.Held.{GivesHeld}
use Rattle.sj_disk.specs.declared.directory.Extent.{Extent}
use Rattle.sj_edge.proofs.GivenBackLemmas.{all_given_back-untouched, all_untouched-same}
use Rattle.sj_board.specs.Cause.{HasCause}
use Rattle.sj_board.specs.Sound.{HoldsArray, IsBlock, block_of}
use Rattle.sj_board.specs.Standing.{AllTell, run_arrays, state}
use Rattle.sj_board.specs.declared.fault.RunFault.{RunFault}
use Rattle.sj_board.specs.declared.fault.RunFault.TheVariants.{Damaged, DiskFault, OutOfMemory}
use Rattle.sj_board.specs.Board.{BoardState}
use Rattle.sj_board.specs.BoardSound.{IsSoundBoard}
use Rattle.sj_board.specs.Delivered.{DeliversEach}
use Rattle.sj_board.specs.declared.hand.Hand.{Hand}
use Rattle.sj_engine.specs.Outcome.{AllDisksTell, HoldBlocks, HoldsBlockAt, IsCausedBy, WantsLastWritten}
use Rattle.sj_engine.specs.Run.{AllStopped, IsOutcome, NoneHasTask, NoneHasUnit}
use Rattle.sj_engine.specs.Stage.{stopped_hand}

-- the result where memory is wanting
abbrev pub wanting : {A : Type 0} → Result A RunFault
wanting {A} = let r : Result A RunFault = Err OutOfMemory in r

module _ {D : Type 0} (size faults mismatches : D → ℕ) (held : D → Option (List ℕ)) where
  -- ---- a sound board

  module _ (b : BoardState D) (sound : IsSoundBoard size faults mismatches held b) where
    abbrev pub p : Program
    p = b.run.program

    abbrev pub m : Machine
    m = b.run.machine

    abbrev pub s : State
    s = state b.run

    -- what stands in the extent of a cell stands in its block
    in-block : (c : Cell) (d : DiskNo) (k : Block) (o : Option Extent) → IsSomeAnd o (IsBlock p c k) → IsSomeAnd o (HoldsArray held b.run.disks.disks p s (run_arrays b.run) c (OnDisk d)) → HoldsBlockAt held b.run.disks.disks s (run_arrays b.run) c d k
    in-block c d k None is holds = absurd is
    in-block c d k (Some e) is holds = λ x there. subst (λ (at : ℕ). GivesHeld (held x) at (block c.0 (writes s c) (run_arrays b.run c (OnDisk d)).elements)) is.position (holds.told x (ap (λ (n : DiskNo). slice_get b.run.disks.disks n.0) is.disk ∙ there))

    blocks : AllDisksTell held b.run.opened → HoldBlocks held out p m b.run.trace b.run.disks.disks
    blocks tells c d valid = by_block (block_of p m c) refl (home-is p m c d (and_parts (on_disk s c) (is_home p m c d) valid).1) (sound.run.blocks.placed c)
      where
        by_block : (o : Option Block) → block_of p m c ≡ o → option_map (λ k. k.disk) o ≡ Some d → IfSome o (λ k. IsSomeAnd (extent_of b.run.disks.directory c.0) (IsBlock p c k)) → IsSomeAnd o (HoldsBlockAt held b.run.disks.disks s (run_arrays b.run) c d)
        by_block None e home placed = absurd (none-some d home)
        by_block (Some k) e home placed = in-block c d k (extent_of b.run.disks.directory c.0) placed (sound.run.blocks.blocks tells c d valid)

    caused : (f : RunFault) → HasCause faults mismatches held b.run f → IsCausedBy faults mismatches held b.run.opened b.run.disks.disks f
    caused (DiskFault d) has = has
    caused (Damaged d want found) has = (has.0, has.1, has.2)
    caused OutOfMemory has = tt

    wants : (f : RunFault) → HasCause faults mismatches held b.run f → WantsLastWritten p m b.run.trace f
    wants (DiskFault d) has = tt
    wants (Damaged d want found) has = has.3
    wants OutOfMemory has = tt

    -- ---- a board that no worker has come to

    pub abandons : {A : Type 0} (result : Result A RunFault) → result ≡ wanting {A = A} → (pairs : List (Task × Array)) (events : List Event) → events ≡ b.run.trace → (back : List D) → back ≡ b.run.disks.disks → IsOutcome size faults mismatches held p m b.run.opened result pairs events back
    abandons {A} result r pairs events e back d =
        subst (λ (x : Result A RunFault). IsOutcome size faults mismatches held p m b.run.opened x pairs events back) (sym r)
        (subst (λ (x : List Event). IsOutcome size faults mismatches held p m b.run.opened (wanting {A = A}) pairs x back) (sym e)
        (subst (λ (x : List D). IsOutcome size faults mismatches held p m b.run.opened (wanting {A = A}) pairs b.run.trace x) (sym d) (record {
          legal = sound.run.legal;
          given_back = sound.run.given_back;
          finished = λ ok. absurd (false≢true ok);
          delivers = λ ok. absurd (false≢true ok);
          no_fault_is_swallowed = λ ok. absurd (false≢true ok);
          blocks = blocks;
          cause = tt;
          wanted = tt;
        })))

    -- ---- a board whose workers have stopped

    module _ (counts : b.fault ≡ None → CountsStay faults mismatches b.run.opened b.run.disks.disks) (stopped : AllStopped b.hands) where
      has-stopped : (i : ℕ) → i < length b.hands → get_or b.hands i (record { given = None; task = None; unit = None; has_stopped = false }) ≡ stopped_hand
      has-stopped i inside = All-get_or (λ (h : Hand). h ≡ stopped_hand) b.hands i (record { given = None; task = None; unit = None; has_stopped = false }) inside stopped

      pub none-has : NoneHasTask b.hands
      none-has = All-from_get_or (λ (h : Hand). h.task ≡ None) b.hands (record { given = None; task = None; unit = None; has_stopped = false }) (λ i inside. ap (λ (h : Hand). h.task) (has-stopped i inside))

      pub none-unit : NoneHasUnit b.hands
      none-unit = All-from_get_or (λ (h : Hand). h.unit ≡ None) b.hands (record { given = None; task = None; unit = None; has_stopped = false }) (λ i inside. ap (λ (h : Hand). h.unit) (has-stopped i inside))

      is-over : IsComplete s ⊎ IsTrue (is_some b.fault)
      is-over = sound.inside.stops.over (record { 0 = 0 }) (ap (λ (h : Hand). h.has_stopped) (has-stopped 0 (omega (arith, sound.inside.hands_agree.every_worker, sound.run.run.machine.workers, sound.run.run.machine.some_worker))))

      complete : b.fault ≡ None → IsComplete s
      complete none = elim is-over [
        | inl done ↦ done
        | inr kept ↦ absurd (false≢true (sym (ap is_some none) ∙ kept))
      ]

      module _ {A : Type 0} (pairs : List (Task × Array)) (each : IsComplete s → DeliversEach out p (AllTell held b.run) pairs) where
        by_fault : (fault : Option RunFault) → b.fault ≡ fault → (result : Result A RunFault) → MatchOption fault (IsOk result) (λ f. result ≡ Err f) → IsOutcome size faults mismatches held p m b.run.opened result pairs b.run.trace b.run.disks.disks
        by_fault None e (Err f) ok = absurd (false≢true ok)
        by_fault None e (Ok x) ok = record {
          legal = sound.run.legal;
          given_back = sound.run.given_back;
          finished = λ is. record { legal = sound.run.legal; complete = complete e };
          delivers = λ is. each (complete e);
          no_fault_is_swallowed = λ is. counts e;
          blocks = blocks;
          cause = tt;
          wanted = tt;
        }
        by_fault (Some f) e result r = subst (λ (x : Result A RunFault). IsOutcome size faults mismatches held p m b.run.opened x pairs b.run.trace b.run.disks.disks) (sym r) (record {
          legal = sound.run.legal;
          given_back = sound.run.given_back;
          finished = λ ok. absurd (false≢true ok);
          delivers = λ ok. absurd (false≢true ok);
          no_fault_is_swallowed = λ ok. absurd (false≢true ok);
          blocks = blocks;
          cause = caused f (subst (λ (o : Option RunFault). IfSome o (HasCause faults mismatches held b.run)) e sound.fault);
          wanted = wants f (subst (λ (o : Option RunFault). IfSome o (HasCause faults mismatches held b.run)) e sound.fault);
        })

        pub ends : (fault : Option RunFault) → fault ≡ b.fault → (result : Result A RunFault) → MatchOption fault (IsOk result) (λ f. result ≡ Err f) → (events : List Event) → events ≡ b.run.trace → (back : List D) → back ≡ b.run.disks.disks → IsOutcome size faults mismatches held p m b.run.opened result pairs events back
        ends fault f result r events e back d =
            subst (λ (x : List Event). IsOutcome size faults mismatches held p m b.run.opened result pairs x back) (sym e)
            (subst (λ (x : List D). IsOutcome size faults mismatches held p m b.run.opened result pairs b.run.trace x) (sym d) (by_fault fault (sym f) result r))

  -- ---- no board at all

  module _ (p : Program) (m : Machine) where
    nowhere : (c : Cell) (d : DiskNo) → IsTrue (has_copy p m (opening p m) c (OnDisk d)) → ⊥
    nowhere c d copy = elim (cases_lt c.0 (length p.cells)) [
      | inl inside ↦ in_row (no_copy (length m.nodes)) (get_or-replicate (length p.cells) c.0 (no_copy (length m.nodes)) no_row inside) refl
      | inr past ↦ in_row no_row (get_or_past (replicate (length p.cells) (no_copy (length m.nodes))) c.0 no_row (let e = length-replicate (length p.cells) (no_copy (length m.nodes)) in omega (arith, e, past))) refl
    ]
      where
        in_row : (row : CellState) → cell_state (opening p m) c ≡ row → row.on_disk ≡ false → ⊥
        in_row row e none = false≢true (sym none ∙ sym (ap (λ (r : CellState). r.on_disk) e) ∙ (and_parts (on_disk (opening p m) c) (is_home p m c d) copy).0)

    pub unopened-is : {A : Type 0} (disks : List D) (result : Result A RunFault) → result ≡ wanting {A = A} → (pairs : List (Task × Array)) (events : List Event) → events ≡ [] → (back : List D) → back ≡ disks → IsOutcome size faults mismatches held p m disks result pairs events back
    unopened-is {A} disks result r pairs events e back d =
        subst (λ (x : Result A RunFault). IsOutcome size faults mismatches held p m disks x pairs events back) (sym r)
        (subst (λ (x : List Event). IsOutcome size faults mismatches held p m disks (wanting {A = A}) pairs x back) (sym e)
        (subst (λ (x : List D). IsOutcome size faults mismatches held p m disks (wanting {A = A}) pairs [] x) (sym d) (record {
          legal = tt;
          given_back = all_given_back-untouched size faults mismatches held disks disks (all_untouched-same size faults mismatches held disks);
          finished = λ ok. absurd (false≢true ok);
          delivers = λ ok. absurd (false≢true ok);
          no_fault_is_swallowed = λ ok. absurd (false≢true ok);
          blocks = λ tells c n valid. absurd (nowhere c n valid);
          cause = tt;
          wanted = tt;
        })))
