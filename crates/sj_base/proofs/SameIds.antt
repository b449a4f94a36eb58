-- Ids that have one number are one.
use Rattle.std.proofs.Common.{◌≡◌, ◌≢◌, ◌⊎◌, ℕ, Bool, true, false, refl, sym, ap, ◌∙◌, inl, inr}
use Rattle.std.proofs.lemmas.Bool.{cases_eq, false≢true, false_from_ne_true}
use Rattle.std.proofs.lemmas.Bool.Decides.{Decides-eqb}
use Rattle.sj_base.specs.declared.ids.Cell.{Cell}
use Rattle.sj_base.specs.declared.ids.Node.{Node}
use Rattle.sj_base.specs.declared.ids.Worker.{Worker}
use Rattle.sj_base.specs.declared.ids.Place.{Place}
use Rattle.sj_base.specs.declared.ids.Place.TheVariants.{Node as AtNode, Disk as OnDisk}
use Rattle.sj_base.specs.Ids.{cell, worker, same_cell, same_place}

pub cell_of_number : (c d : Cell) → c.0 ≡ d.0 → c ≡ d
cell_of_number c d e = ap cell e

pub same_cell-is : (c d : Cell) → same_cell c d ≡ true → c ≡ d
same_cell-is c d h = ap cell ((Decides-eqb c.0 d.0).0 h)

pub same_cell-itself : (c : Cell) → same_cell c c ≡ true
same_cell-itself c = (Decides-eqb c.0 c.0).1 refl

pub same_cell-unlike : (c d : Cell) → same_cell c d ≡ false → c ≡ d → ⊥
same_cell-unlike c d h same = false≢true (sym h ∙ ap (same_cell c) (sym same) ∙ same_cell-itself c)

pub same_cell-turned : (c d : Cell) → same_cell c d ≡ false → same_cell d c ≡ false
same_cell-turned c d h = false_from_ne_true (same_cell d c) (λ e. same_cell-unlike c d h (sym (same_cell-is d c e)))

pub same_place-itself : (q : Place) → same_place q q ≡ true
same_place-itself (AtNode n) = (Decides-eqb n.0 n.0).1 refl
same_place-itself (OnDisk d) = (Decides-eqb d.0 d.0).1 refl

pub other_node : (n k : Node) → k ≢ n → k.0 ≢ n.0
other_node n k h e = h (ap (λ (i : ℕ). let j : Node = record { 0 = i } in j) e)

pub workers_differ : (v w : Worker) → (v ≡ w) ⊎ (v ≢ w)
workers_differ v w = elim (cases_eq v.0 w.0) as (λ _. (v ≡ w) ⊎ (v ≢ w)) [
  | inl e ↦ inl (ap worker e)
  | inr d ↦ inr (λ e. d (ap (λ (k : Worker). k.0) e))
]
