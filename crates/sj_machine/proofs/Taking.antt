-- The loop over the cells that a claim takes.
use Rattle.sj_machine.proofs.Words.{ap, CanTakeAll, Cell, drop, fold, get_or, has_entry, length, List, pins_of, Store, subst, sym, taken, true, ℕ, ◌+◌, ◌<◌, ◌∙◌, ◌∷◌, ◌≡◌, ◌≤◌}
use Rattle.std.proofs.lemmas.List.{drop_all, drop_more}

-- so many of the cells were taken, and the rest is to come
pub record IsTaking (old now : Store) (cells : List Cell) (i : ℕ) : Type 0 where
  pub left : fold taken now (drop i cells) ≡ fold taken old cells
  pub can : CanTakeAll now (drop i cells)

module _ (old now : Store) (cells : List Cell) (i : ℕ) (d : Cell) (inside : i < length cells) (turn : IsTaking old now cells i) where
  abbrev cell : Cell
  cell = get_or cells i d

  next : CanTakeAll now (cell ∷ drop (i + 1) cells)
  next = subst (CanTakeAll now) (drop_more cells i d inside) turn.can

  pub taking-has : has_entry now.entries cell ≡ true
  taking-has = next.0

  pub taking-pins : pins_of now.entries cell < 1024
  taking-pins = next.1

  pub taking-next : IsTaking old (taken now cell) cells (i + 1)
  taking-next = record {
    left = sym (ap (fold taken now) (drop_more cells i d inside)) ∙ turn.left;
    can = next.2;
  }

pub taking-ends : (old now : Store) (cells : List Cell) (i : ℕ) → length cells ≤ i → IsTaking old now cells i → now ≡ fold taken old cells
taking-ends old now cells i all turn = sym (ap (fold taken now) (drop_all i cells all)) ∙ turn.left
