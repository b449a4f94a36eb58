-- Blocks by first fit: how a set of disks stands while the cells of a program get theirs in order.
use Rattle.sj_board.proofs.Words.{[], ap, area, ArePlaced, arith, Block, block_bytes, Cell, cell_block_bytes, cell_info, CellInfo, dims_of, DiskNo, DiskState, drop, Extent, extent_of, first_fit, first_that_fits, get_or, HasSwapFor, IfSome, inl, inr, IsBlock, IsEmptySet, IsSome, IsSomeAnd, length, List, Machine, map, no_cell, None, Option, option_and_then, option_map, place, place_after, Program, refl, replicate, ReservesSome, set, slice_get, Some, subst, sym, true, ℕ, ◌+◌, ◌<◌, ◌∙◌, ◌∷◌, ◌≡◌, ◌≤◌}
use Rattle.std.specs.Prelude.{is_some}
use Rattle.std.specs.List.{slice_index_or}
use Rattle.std.proofs.lemmas.{Bool.cases_lt, Bool.false≢true, List.drop_all, List.drop_more, List.get_or-drop, List.length-drop, Option.none-some, Option.same_Some, Option.slice_get-get_or, Option.slice_get_past}
use lib.Seq.{drop-drop}
use Rattle.sj_base.proofs.SameIds.{cell_of_number}

-- the cells before the i-th have their blocks on these disks, those from it on have none, and the blocks of these are as if
-- they were placed now
pub record IsPlacing {D : Type 0} (p : Program) (m : Machine) (disks : List D) (i : ℕ) (s : DiskState D) : Type 0 where
  pub blocks : List Block
  pub all : place p m.disks ≡ Some blocks
  pub disks_stay : s.disks ≡ disks
  pub rest : place_after m.disks s.taken (drop i p.cells) ≡ Some (drop i blocks)
  pub behind : (c : ℕ) → i ≤ c → extent_of s.directory c ≡ None
  pub done : (c : Cell) → c.0 < i → IfSome (slice_get blocks c.0) (λ b. IsSomeAnd (extent_of s.directory c.0) (IsBlock p c b))

-- ---- the first block

abbrev block_at : List ℕ → ℕ → Block
block_at taken d = record { disk = record { 0 = d }; position = slice_index_or taken d 0 }

abbrev taking : List ℕ → ℕ → CellInfo → List ℕ
taking taken d c = set taken d (slice_index_or taken d 0 + cell_block_bytes c)

-- the first of some cells gets the first of their blocks, and the others get the others
record GetsFirst (sizes taken : List ℕ) (c : CellInfo) (cs : List CellInfo) (blocks : List Block) : Type 0 where
  disk : ℕ
  fits : first_fit sizes taken (cell_block_bytes c) ≡ Some disk
  later : List Block
  after : place_after sizes (taking taken disk c) cs ≡ Some later
  are : blocks ≡ block_at taken disk ∷ later

gets-first : (sizes taken : List ℕ) (c : CellInfo) (cs : List CellInfo) (blocks : List Block) → place_after sizes taken (c ∷ cs) ≡ Some blocks → GetsFirst sizes taken c cs blocks
gets-first sizes taken c cs blocks e = by_disk (first_fit sizes taken (cell_block_bytes c)) refl e
  where
    by_rest : (d : ℕ) → first_fit sizes taken (cell_block_bytes c) ≡ Some d → (o : Option (List Block)) → place_after sizes (taking taken d c) cs ≡ o → option_map (λ bs. block_at taken d ∷ bs) o ≡ Some blocks → GetsFirst sizes taken c cs blocks
    by_rest d f None g e = absurd (none-some blocks e)
    by_rest d f (Some bs) g e = record { disk = d; fits = f; later = bs; after = g; are = sym (same_Some (block_at taken d ∷ bs) blocks e) }

    by_disk : (o : Option ℕ) → first_fit sizes taken (cell_block_bytes c) ≡ o → elim o as (λ _. Option (List Block)) [
      | None ↦ None
      | Some d ↦ option_map (λ bs. (record { disk = record { 0 = d }; position = slice_index_or taken d 0 }) ∷ bs) (place_after sizes (set taken d (slice_index_or taken d 0 + cell_block_bytes c)) cs)
    ] ≡ Some blocks → GetsFirst sizes taken c cs blocks
    by_disk None f e = absurd (none-some blocks e)
    by_disk (Some d) f e = by_rest d f (place_after sizes (taking taken d c) cs) refl e

-- ---- the loop

zeros : {D : Type 0} (size : D → ℕ) (disks : List D) → map {B = ℕ} (λ n. 0) (map size disks) ≡ replicate (length disks) 0
zeros size [] = refl
zeros size (d ∷ ds) = ap (λ (ns : List ℕ). 0 ∷ ns) (zeros size ds)

module _ {D : Type 0} (size : D → ℕ) (p : Program) (m : Machine) (disks : List D) (sizes : m.disks ≡ map size disks) where
  pub placing-begins : (s : DiskState D) → s.disks ≡ disks → HasSwapFor p m → IsEmptySet s → IsPlacing p m disks 0 s
  placing-begins s stay swap empty = by_blocks (place p m.disks) refl swap.blocks_fit
    where
      taken : s.taken ≡ map {B = ℕ} (λ n. 0) m.disks
      taken = empty.nothing_taken ∙ ap (λ (ds : List D). replicate (length ds) 0) stay ∙ sym (zeros size disks) ∙ ap (λ (ns : List ℕ). map {B = ℕ} (λ n. 0) ns) (sym sizes)

      by_blocks : (o : Option (List Block)) → place p m.disks ≡ o → is_some o ≡ true → IsPlacing p m disks 0 s
      by_blocks None e fits = absurd (false≢true fits)
      by_blocks (Some blocks) e fits = record {
        blocks = blocks;
        all = e;
        disks_stay = stay;
        rest = ap (λ (ns : List ℕ). place_after m.disks ns p.cells) taken ∙ e;
        behind = λ c l. ap (λ (directory : List (Option Extent)). extent_of directory c) empty.no_extent;
        done = λ c l. absurd (omega (arith, l));
      }

  module _ (i : ℕ) (s : DiskState D) (is : IsPlacing p m disks i s) where
    module _ (inside : i < length p.cells) where
      abbrev pub cell : Cell
      cell = record { 0 = i }

      first : GetsFirst m.disks s.taken (cell_info p cell) (drop (i + 1) p.cells) (drop i is.blocks)
      first = gets-first m.disks s.taken (cell_info p cell) (drop (i + 1) p.cells) (drop i is.blocks) (ap (λ (cs : List CellInfo). place_after m.disks s.taken cs) (sym (drop_more p.cells i no_cell inside)) ∙ is.rest)

      fits-now : first_that_fits (map size s.disks) s.taken (block_bytes (area (dims_of p cell))) ≡ Some first.disk
      fits-now = ap (λ (ns : List ℕ). first_that_fits ns s.taken (block_bytes (area (dims_of p cell)))) (ap (λ (ds : List D). map size ds) is.disks_stay ∙ sym sizes) ∙ first.fits

      pub one-fits : IsSome (first_that_fits (map size s.disks) s.taken (block_bytes (area (dims_of p cell))))
      one-fits = ap is_some fits-now

      its-block : slice_get is.blocks i ≡ Some (block_at s.taken first.disk)
      its-block =
          let b = block_at s.taken first.disk in
          let long : length (drop i is.blocks) ≡ length (b ∷ first.later) = ap length first.are in
          let short = length-drop i is.blocks in
          slice_get-get_or is.blocks i b (omega (arith, long, short)) ∙ ap (λ (x : Block). Some x) (ap (λ (k : ℕ). get_or is.blocks k b) (let n : i ≡ i + 0 = omega arith in n) ∙ sym (get_or-drop i is.blocks 0 b) ∙ ap (λ (bs : List Block). get_or bs 0 b) first.are)

      module _ (new : DiskState D) (gets : ReservesSome size i (area (dims_of p cell)) s new) where
        same-disk : gets.0.0 ≡ first.disk
        same-disk = same_Some gets.0.0 first.disk (sym gets.1.on_the_first_that_fits ∙ fits-now)

        has-block : IsSomeAnd (extent_of new.directory i) (IsBlock p cell (block_at s.taken first.disk))
        has-block = subst (λ (o : Option Extent). IsSomeAnd o (IsBlock p cell (block_at s.taken first.disk))) (sym gets.1.behind_what_is_taken) (record {
          disk = ap (λ (k : ℕ). let n : DiskNo = record { 0 = k } in n) same-disk;
          position = ap (λ (k : ℕ). slice_index_or s.taken k 0) same-disk;
          whole = refl;
        })

        pub placing-goes-on : IsPlacing p m disks (i + 1) new
        placing-goes-on = record {
          blocks = is.blocks;
          all = is.all;
          disks_stay = gets.1.disks_stay ∙ is.disks_stay;
          rest = ap (λ (ns : List ℕ). place_after m.disks ns (drop (i + 1) p.cells)) (gets.1.takes_its_bytes ∙ ap (λ (k : ℕ). taking s.taken k (cell_info p cell)) same-disk) ∙ first.after ∙ ap (λ (bs : List Block). Some (drop 1 bs)) (sym first.are) ∙ ap (λ (bs : List Block). Some bs) (drop-drop 1 i is.blocks);
          behind = λ c l. gets.1.other_extents_stay c (λ e. omega (arith, e, l)) ∙ is.behind c (omega (arith, l));
          done = λ c l. elim (cases_lt c.0 i) [
            | inl before ↦ subst (λ (o : Option Extent). IfSome (slice_get is.blocks c.0) (λ b. IsSomeAnd o (IsBlock p c b))) (sym (gets.1.other_extents_stay c.0 (λ e. omega (arith, e, before)))) (is.done c before)
            | inr from ↦
                let here : i ≡ c.0 = omega (arith, from, l) in
                subst (λ (q : Cell). IfSome (slice_get is.blocks q.0) (λ b. IsSomeAnd (extent_of new.directory q.0) (IsBlock p q b))) (cell_of_number cell c here) (subst (λ (o : Option Block). IfSome o (λ b. IsSomeAnd (extent_of new.directory i) (IsBlock p cell b))) (sym its-block) has-block)
          ];
        }

    pub placing-ends : length p.cells ≤ i → ArePlaced p m s.directory
    placing-ends past c = subst (λ (o : Option (List Block)). IfSome (option_and_then (λ blocks. slice_get blocks c.0) o) (λ b. IsSomeAnd (extent_of s.directory c.0) (IsBlock p c b))) (sym is.all) (has c)
      where
        none-left : drop i is.blocks ≡ []
        none-left = sym (same_Some [] (drop i is.blocks) (ap (λ (cs : List CellInfo). place_after m.disks s.taken cs) (sym (drop_all i p.cells past)) ∙ is.rest))

        has : (c : Cell) → IfSome (slice_get is.blocks c.0) (λ b. IsSomeAnd (extent_of s.directory c.0) (IsBlock p c b))
        has c = elim (cases_lt c.0 i) [
          | inl before ↦ is.done c before
          | inr from ↦ subst (λ (o : Option Block). IfSome o (λ b. IsSomeAnd (extent_of s.directory c.0) (IsBlock p c b))) (sym (slice_get_past is.blocks c.0 (omega (arith, from, length-drop i is.blocks, ap length none-left)))) tt
        ]
