use Rattle.std.proofs.Common.{sym, ap}
use Rattle.sj_node.specs.Entries.{listed}
use Rattle.sj_node.proofs.Kept.{IsListed-promoted}
use Rattle.sj_node.proofs.Shown.{to_front-shown}
use Rattle.sj_node.proofs.entries.Entries.touch.Goals as goal

pub invariant_of-self : goal.invariant_of-self
invariant_of-self c = rw c.promote.ensures.entries (IsListed-promoted c.args.cell.0 c.self.inside.cache c.self.inside.limit c.self.invariant)

pub returns : goal.returns
returns c = rw (c.promote.ensures.entries, ← c.self.view_is) (ap (λ es. listed es c.self.inside.limit) (sym (to_front-shown c.args.cell c.self.inside.cache.entries c.self.invariant.distinct)))
