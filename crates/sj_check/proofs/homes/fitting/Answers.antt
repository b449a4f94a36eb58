use Rattle.sj_check.proofs.Words.{arith, IfSome, None, Option, refl, Some, sym, w64, ℕ, ◌∙◌, ◌≡◌}
use Rattle.std.proofs.Math.Facts.{Fits-lt-pow}
use Rattle.sj_base.proofs.FirstFit.{first_fit-room}
use Rattle.sj_check.proofs.homes.fitting.Goals as goal

found : (o : Option ℕ) (P : ℕ → Type 0) → ((d : ℕ) → o ≡ Some d → P d) → IfSome o P
found None P each = tt
found (Some d) P each = each d refl

pub returns-clause-disk : goal.returns-clause-disk
returns-clause-disk c = found c.first_fit.result _ (λ d is. (let room = first_fit-room c.args.disks.now c.args.taken.now c.args.need d c.requires (sym c.first_fit.ensures ∙ is) in omega (arith, room.0, c.requires)))

pub returns-clause-room : goal.returns-clause-room
returns-clause-room c = found c.first_fit.result _ (λ d is. (let room = first_fit-room c.args.disks.now c.args.taken.now c.args.need d c.requires (sym c.first_fit.ensures ∙ is) in omega (arith, room.1, Fits-lt-pow {w = w64} (c.type_inv.disks d))))
