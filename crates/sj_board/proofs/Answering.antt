-- What the rows answer is so of the run's state; and what is done with a victim, and from where a cell is brought.
use Rattle.sj_board.proofs.Words.{ap, arith, Array, AtNode, Bool, Cell, cell_state, Discard, disk_of, DiskNo, Equations, Evicts, Extent, extent_of, false, first_node, is_elsewhere, is_entry, is_leaving, is_read, is_some, is_valid, IsSomeAnd, IsSound, Keeps, length, List, Machine, mark, MatchBool, next_cell, Node, node_of, None, OnDisk, Option, option_map, Place, position, Program, refl, Rows, Some, source_of, StandingBy, State, state, subst, sym, Task, Todo, TransferNext, true, Wait, Worker, writes, ℕ, ◌<◌, ◌∙◌, ◌≡◌}
use Rattle.std.proofs.Common.{if◌then◌else◌}
use Rattle.sj_core.proofs.{Blocks.has-disk, Placing.copy-row, Reading.entry-inside, Replicas.coming_by-is, Replicas.leaving-by_some, Replicas.leaving_by-valid}
use Rattle.sj_board.proofs.{Keeping.sound_state, NextSteps.cell-comes, Storing.extent}

module _ {D : Type 0} {eq : Equations} (size faults mismatches : D → ℕ) (held : D → Option (List ℕ)) (b : StandingBy eq D) (rows : Rows) (tiles : List (List (Option Array))) (spare : ℕ) (keeps : Keeps size faults mismatches held b rows tiles spare) where
  abbrev p : Program
  p = b.program

  abbrev m : Machine
  m = b.machine

  abbrev s : State
  s = state b

  sound : IsSound p m s
  sound = sound_state size faults mismatches held b rows tiles spare keeps

  pub rows-state : rows.state ≡ s
  rows-state = ap (λ (r : Rows). r.state) keeps.rows

  -- what is so of the rows is so of the run
  pub from-rows : (b' : StandingBy eq D) → b ≡ b' → (P : Program → Machine → State → Type 0) → P rows.program rows.machine rows.state → P b'.program b'.machine (state b')
  from-rows b' same P told = subst (λ (z : StandingBy eq D). P z.program z.machine (state z)) same (subst (λ (r : Rows). P r.program r.machine r.state) keeps.rows told)

  -- and the other way round
  pub to-rows : (b' : StandingBy eq D) → b ≡ b' → (P : Program → Machine → State → Type 0) → P b'.program b'.machine (state b') → P rows.program rows.machine rows.state
  to-rows b' same P told = subst (λ (r : Rows). P r.program r.machine r.state) (sym keeps.rows) (subst (λ (z : StandingBy eq D). P z.program z.machine (state z)) (sym same) told)

  -- the disk of a cell's block is the one that the directory has
  pub home-is : (c : Cell) → c.0 < length p.cells → option_map (λ (e : Extent). e.disk) (extent_of b.disks.directory c.0) ≡ disk_of p m c
  home-is c inside =
      let home = has-disk p m c keeps.sound.run.swap inside in
      let e = extent size faults mismatches held b rows tiles spare keeps c home.0 home.1 in
      ap (λ (o : Option Extent). option_map (λ (x : Extent). x.disk) o) e.1 ∙ ap Some e.3 ∙ sym home.1

  -- a cell that leaves is one of the program
  pub leaving-inside : (c : Cell) (n : Node) → is_leaving (mark s c n) ≡ true → c.0 < length p.cells
  leaving-inside c n leaving = omega (arith, copy-row p m s c (AtNode n) (let by = leaving-by_some (mark s c n) leaving in leaving_by-valid by.0 (mark s c n) by.1), keeps.sound.coherent.state.rows.cells)

  -- so is one that is brought
  pub brought-inside : (b' : StandingBy eq D) → b ≡ b' → (t : Task) (w : Worker) (c : Cell) → next_cell rows.program rows.machine rows.state t w ≡ Some c → c.0 < length b'.program.cells
  brought-inside b' same t w c next =
      let comes = cell-comes p m s w t c (subst (λ (r : Rows). next_cell r.program r.machine r.state t w ≡ Some c) keeps.rows next) in
      let there = entry-inside s c (node_of m w) (ap is_entry (coming_by-is w (mark s c (node_of m w)) comes.0)) in
      subst (λ (z : StandingBy eq D). c.0 < length z.program.cells) same (omega (arith, there.0, keeps.sound.coherent.state.rows.cells))

  module _ (c : Cell) (inside : c.0 < length p.cells) where
    -- a cell of the program has its disk in the directory
    pub disk-some : is_some (option_map (λ (e : Extent). e.disk) (extent_of b.disks.directory c.0)) ≡ true
    disk-some = ap is_some (home-is c inside ∙ (has-disk p m c keeps.sound.run.swap inside).1)

    -- ---- where the cell is fetched from

    source-from : (first : Option Node) → first_node (cell_state rows.state c) ≡ first → source_of p m s c ≡ (elim first as (λ _. Option Place) [ None ↦ option_map OnDisk (disk_of p m c) | Some n ↦ Some (AtNode n) ])
    source-from first is = by_place (position is_valid (cell_state s c).marks) ∙ ap (λ (o : Option Node). elim o as (λ _. Option Place) [ None ↦ option_map OnDisk (disk_of p m c) | Some n ↦ Some (AtNode n) ]) (sym (ap (λ (z : State). first_node (cell_state z c)) rows-state) ∙ is)
      where
        by_place : (o : Option ℕ) → (elim o as (λ _. Option Place) [ None ↦ option_map OnDisk (disk_of p m c) | Some k ↦ Some (AtNode (record { 0 = k })) ]) ≡ (elim (option_map (λ k. let j : Node = record { 0 = k } in j) o) as (λ _. Option Place) [ None ↦ option_map OnDisk (disk_of p m c) | Some n ↦ Some (AtNode n) ])
        by_place None = refl
        by_place (Some k) = refl

    pub source-node : (n : Node) → first_node (cell_state rows.state c) ≡ Some n → (b' : StandingBy eq D) → b ≡ b' → source_of b'.program b'.machine (state b') c ≡ Some (AtNode n)
    source-node n first b' same = subst (λ (z : StandingBy eq D). source_of z.program z.machine (state z) c ≡ Some (AtNode n)) same (source-from (Some n) first)

    pub source-disk : first_node (cell_state rows.state c) ≡ None → (k : DiskNo) → option_map (λ (e : Extent). e.disk) (extent_of b.disks.directory c.0) ≡ Some k → (b' : StandingBy eq D) → b ≡ b' → source_of b'.program b'.machine (state b') c ≡ Some (OnDisk k)
    source-disk first k home b' same = subst (λ (z : StandingBy eq D). source_of z.program z.machine (state z) c ≡ Some (OnDisk k)) same (source-from None first ∙ ap (λ (o : Option DiskNo). option_map OnDisk o) (sym (home-is c inside) ∙ home))

    -- ---- what is done with a victim

    module _ (n : Node) (b' : StandingBy eq D) (same : b ≡ b') where
      evicts-by : (y : Bool) → is_elsewhere rows.state c n ≡ y → (todo : Todo) → MatchBool y (todo ≡ (if is_read s c (AtNode n) then Wait else Discard c)) (IsSomeAnd (disk_of p m c) (λ j. todo ≡ TransferNext c (AtNode n) (OnDisk j) (writes s c))) → Evicts b'.program b'.machine (state b') c n todo
      evicts-by y asked todo is =
          subst (λ (z : StandingBy eq D). Evicts z.program z.machine (state z) c n todo) same
          (subst (λ (x : Bool). MatchBool x (todo ≡ (if is_read s c (AtNode n) then Wait else Discard c)) (IsSomeAnd (disk_of p m c) (λ j. todo ≡ TransferNext c (AtNode n) (OnDisk j) (writes s c)))) (sym asked ∙ ap (λ (z : State). is_elsewhere z c n) rows-state) is)

      pub evict-out : is_elsewhere rows.state c n ≡ false → (k : DiskNo) → option_map (λ (e : Extent). e.disk) (extent_of b.disks.directory c.0) ≡ Some k → (count : ℕ) → count ≡ writes rows.state c → Evicts b'.program b'.machine (state b') c n (TransferNext c (AtNode n) (OnDisk k) count)
      evict-out only k home count counts =
          let todo : Todo = TransferNext c (AtNode n) (OnDisk k) count in
          evicts-by false only todo
          (subst (λ (o : Option DiskNo). IsSomeAnd o (λ j. todo ≡ TransferNext c (AtNode n) (OnDisk j) (writes s c))) (sym home ∙ home-is c inside)
          (ap (λ (i : ℕ). TransferNext c (AtNode n) (OnDisk k) i) (counts ∙ ap (λ (z : State). writes z c) rows-state)))

      pub evict-here : is_elsewhere rows.state c n ≡ true → (y : Bool) → is_read rows.state c (AtNode n) ≡ y → Evicts b'.program b'.machine (state b') c n (if y then Wait else Discard c)
      evict-here shared y asked = evicts-by true shared (if y then Wait else Discard c) (ap (λ (z : Bool). if z then Wait else Discard c) (sym asked ∙ ap (λ (z : State). is_read z c (AtNode n)) rows-state))
