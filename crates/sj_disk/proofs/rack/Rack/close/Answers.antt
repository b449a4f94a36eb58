use Rattle.std.proofs.Common.{◌≡◌, ℕ, false, sym, subst}
use Rattle.sj_disk.specs.Rack.{Racked, is_out}
use Rattle.sj_disk.proofs.Racking.{none_all}
use Rattle.sj_disk.proofs.rack.Rack.close.Goals as goal

pub gather-requires-clause-none_is_out : goal.gather-requires-clause-none_is_out
gather-requires-clause-none_is_out g c = none_all c.self.inside.shelves.items (subst (λ (r : Racked g.row.D.Denot). (d : ℕ) → is_out r.out d ≡ false) (sym c.self.view_is) c.requires.none_is_out)
