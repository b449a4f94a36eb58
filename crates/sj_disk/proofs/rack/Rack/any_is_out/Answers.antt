use Rattle.std.proofs.Common.{◌≡◌, ◌∙◌, ℕ, List, ap, false, sym, subst}
use Rattle.std.specs.List.{list_any}
use Rattle.sj_disk.specs.Rack.{Racked, Shelved, is_out}
use Rattle.sj_disk.proofs.Racking.{none_any, none_out}
use Rattle.sj_disk.proofs.rack.Rack.any_is_out.Goals as goal

pub returns : goal.returns
returns g c =
    let shelves = c.self.inside.shelves.items in
    let e = c.any_out.ensures ∙ ap (λ (ss : List (Shelved g.row.D.Denot)). list_any (λ s. s.out) ss) c.deref.ensures.value in
    let P = λ (r : Racked g.row.D.Denot). (d : ℕ) → is_out r.out d ≡ false in
    ((λ none. subst P c.self.view_is (none_out shelves (sym e ∙ none))), (λ none. e ∙ none_any shelves (subst P (sym c.self.view_is) none)))
