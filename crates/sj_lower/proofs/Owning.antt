-- Whose partial copy a cell of the program is.
use Rattle.sj_lower.proofs.Words.{ap, arith, Cell, cell_info, cell_of, Cells, copy_at, copy_of, Dims, info_at, inl, inr, is_some, IsCopyOf, IsPlace, IsPlain, List, None, Option, Parts, Program, refl, Some, sym, Worker, ℕ, ◌+◌, ◌<◌, ◌∙◌, ◌≡◌}
use Rattle.std.proofs.lemmas.Bool.{false≢true}
use Rattle.sj_lower.proofs.{Copies.HaveCopies, Holding.HasCells, Laid.AreLaid, Laid.cell-inside, Laid.cell-is, Laid.IsTaken}

-- the first partial copy of a cell that has copies
pub first-of : (p : Program) (q c : Cell) (w : Worker) → IsCopyOf p q c w → (f : Cell) × ((cell_info p c).partials ≡ Some f) × (q.0 ≡ f.0 + w.0)
first-of p q c w h = by_option (cell_info p c).partials refl
  where
    by_option : (o : Option Cell) → (cell_info p c).partials ≡ o → (f : Cell) × ((cell_info p c).partials ≡ Some f) × (q.0 ≡ f.0 + w.0)
    by_option None e = absurd (false≢true (sym (ap (λ (o : Option Cell). is_some o) e) ∙ h.has_copies))
    by_option (Some f) e = (f, e, ap (λ (d : Cell). d.0) (h.is ∙ ap (λ (o : Option Cell). elim o as (λ _. Cell) [ None ↦ c | Some g ↦ record { 0 = g.0 + w.0 } ]) e))

pub copy-is : (p : Program) (c f : Cell) (w : Worker) → (cell_info p c).partials ≡ Some f → copy_of p c w ≡ copy_at f w.0
copy-is p c f w e = ap (λ (o : Option Cell). elim o as (λ _. Cell) [ None ↦ c | Some g ↦ record { 0 = g.0 + w.0 } ]) e

pub is-copy : (p : Program) (c f : Cell) (w : Worker) → (cell_info p c).partials ≡ Some f → w.0 < p.workers → IsCopyOf p (copy_at f w.0) c w
is-copy p c f w e h = record { has_copies = ap (λ (o : Option Cell). is_some o) e; of_worker = h; is = sym (copy-is p c f w e) }

module _ (p : Program) (C : Cells) (cells : HasCells p C) (copies : HaveCopies p.workers C) where
  -- a partial copy that is there is one of the cell alone
  pub one-owner : (c f : Cell) (w : ℕ) (d : Cell) (v : Worker) → (info_at C c).partials ≡ Some f → w < p.workers → IsCopyOf p (copy_at f w) d v → c ≡ d
  one-owner c f w d v is below h =
      let o = first-of p (copy_at f w) d v h in
      elim (cells.news d.0 o.0 o.1) [
        | inl old ↦ copies.apart c d f o.0 w v.0 is old below h.of_worker o.2
        | inr new ↦ absurd (omega (arith, new, o.2, copies.inside c f is, below))
      ]

  -- a child's cell is no partial copy
  pub plain-child : (q : List ℕ) (d : Dims) (s : Parts) (g : ℕ) (place : ℕ × ℕ) → AreLaid C → IsTaken C q d s g → IsPlace s place → IsPlain p (cell_of C q s place)
  plain-child q d s g place laid t at c w h =
      let o = first-of p (cell_of C q s place) c w h in
      elim (cells.news c.0 o.0 o.1) [
        | inl old ↦ copies.beside c o.0 w.0 q d s g place old h.of_worker t at (sym o.2 ∙ cell-is C q d s g place t)
        | inr new ↦ (let inside = cell-inside C q d s g place laid t at in omega (arith, new, o.2, inside))
      ]
