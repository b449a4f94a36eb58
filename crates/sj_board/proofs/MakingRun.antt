-- A run on which nothing has happened.
use Rattle.sj_board.proofs.Words.{[], AllTell, ap, arith, Array, Arrays, AtNode, block_of, Cell, CellState, dims_of, DiskNo, DiskState, Equations, extent_of, false, get_or, has_copy, HasTiles, IfSome, is_some, is_valid, IsBlock, IsRunnableOn, IsSomeAnd, Keeps, lending, LendingState, length, List, Machine, most_events, no_copy, Node, None, on_disk, OnDisk, opening, Option, Program, Recorded, refl, replicate, Rows, rows_at_start, run_arrays, standing, StandingBy, starting, subst, suc, sym, tile_at, tile_in, true, zero, ℕ, ◌+◌, ◌∙◌, ◌≡◌, ◌≤◌}
use Rattle.std.proofs.lemmas.{Bool.false≢true, List.length-replicate, List.Elements.All-replicate}
use Rattle.sj_base.proofs.Lists.{get_or-replicate_same}
use Rattle.sj_core.proofs.{Opening.nowhere, Opening.opening-coherent, Opening.opening-content, Reading.no_row}
use Rattle.sj_edge.proofs.GivenBackLemmas.{all_given_back-untouched, all_untouched-same}
use Rattle.sj_board.proofs.{Keeping.copy-on_disk, TileTables.Places}

-- what is so of the item in each place, and of the one past the last, is so wherever one looks
replicate-at : {X : Type 0} (P : X → Type 0) (n i : ℕ) (x d : X) → P x → P d → P (get_or (replicate n x) i d)
replicate-at P zero i x d there past = past
replicate-at P (suc n) zero x d there past = there
replicate-at P (suc n) (suc i) x d there past = replicate-at P n i x d there past

module _ (p : Program) (m : Machine) where
  abbrev pub no_tiles : List Places
  no_tiles = replicate (length p.cells) (replicate (length m.nodes) None)

  no_tile : (c : Cell) (n : Node) → tile_at no_tiles c n ≡ None
  no_tile c n = replicate-at (λ (places : Places). tile_in places n ≡ None) (length p.cells) c.0 (replicate (length m.nodes) None) [] (get_or-replicate_same (length m.nodes) n.0 None) refl

  first_tiles : (A : Arrays) (Tells : Type 0) → HasTiles p m (opening p m) A Tells no_tiles
  first_tiles A Tells = record {
    every_cell = length-replicate (length p.cells) (replicate (length m.nodes) None);
    every_node = All-replicate (λ (places : Places). length places ≡ length m.nodes) (length p.cells) (replicate (length m.nodes) None) (length-replicate (length m.nodes) None);
    there = λ c n rests. ap is_some (no_tile c n) ∙ sym (ap is_valid (nowhere p m c n));
    out = λ c n written. no_tile c n;
    dims = λ c n. subst (λ (o : Option Array). IfSome o (λ a. a.dims ≡ dims_of p c)) (sym (no_tile c n)) tt;
    arrays = λ tells c n. subst (λ (o : Option Array). IfSome o (λ a. a ≡ A c (AtNode n))) (sym (no_tile c n)) tt;
  }

module _ {D : Type 0} (size faults mismatches : D → ℕ) (held : D → Option (List ℕ)) (eq : Equations) (p : Program) (m : Machine) (run : IsRunnableOn eq p m) (disks : DiskState D) (placed : (c : Cell) → IfSome (block_of p m c) (λ b. IsSomeAnd (extent_of disks.directory c.0) (IsBlock p c b))) where
  abbrev b : StandingBy eq D
  b = starting eq p m disks

  keeps-first : (spare : ℕ) → most_events p ≤ spare → Keeps size faults mismatches held b (rows_at_start p m) (no_tiles p m) spare
  keeps-first spare room = record {
    sound = record {
      run = run;
      legal = tt;
      coherent = opening-coherent p m;
      content = opening-content p m eq;
      blocks = record {
        placed = placed;
        stored = λ c d copy. absurd (no_block c d copy);
        blocks = λ tells c d copy. absurd (no_block c d copy);
      };
      given_back = all_given_back-untouched size faults mismatches held disks.disks disks.disks (all_untouched-same size faults mismatches held disks.disks);
    };
    rows = refl;
    tiles = first_tiles p m (run_arrays b) (AllTell held b);
    room = (let r : most_events p ≤ 0 + spare = omega (arith, room) in r);
  }
    where
      no_block : (c : Cell) (d : DiskNo) → has_copy p m (opening p m) c (OnDisk d) ≡ true → ⊥
      no_block c d copy =
          let none : on_disk (opening p m) c ≡ false = replicate-at (λ (row : CellState). row.on_disk ≡ false) (length p.cells) c.0 (no_copy (length m.nodes)) no_row refl refl in
          false≢true (sym none ∙ (copy-on_disk p m (opening p m) c d copy).0)

  -- as the code makes it
  pub keeps-made : (rows : Rows) (tiles : List Places) (trace : Recorded) (lends : LendingState D) (opened : DiskState D) → rows ≡ rows_at_start p m → tiles ≡ no_tiles p m → trace.events ≡ [] → most_events p ≤ trace.spare → lends ≡ lending disks (replicate (length disks.disks) false) → opened ≡ disks → Keeps size faults mismatches held (standing eq rows.program rows.machine trace lends opened) rows tiles trace.spare
  keeps-made rows tiles trace lends opened at_start are none room lent as_opened =
      let made : standing eq rows.program rows.machine trace lends opened ≡ b = λ i. standing eq (at_start i).program (at_start i).machine (record trace { events = none i }) (lent i) (as_opened i) in
      subst (λ (x : StandingBy eq D × Rows × List Places). Keeps size faults mismatches held x.0 x.1 x.2 trace.spare) (λ i. (sym made i, sym at_start i, sym are i)) (keeps-first trace.spare room)
