use Rattle.std.proofs.Common.{Some, None, sym, ap, ◌∙◌}
use Rattle.sj_node.specs.Entries.{listed}
use Rattle.sj_node.proofs.Kept.{IsListed-removed}
use Rattle.sj_node.proofs.Shown.{without-shown, total-removed}
use Rattle.sj_node.proofs.entries.Entries.take_out.Goals as goal
use Rattle.sj_node.proofs.entries.Entries.take_out.Goals.{in-Some, in-None}

pub invariant_of-self : goal.invariant_of-self
invariant_of-self c = rw c.pop.ensures.entries (IsListed-removed c.args.cell.0 c.self.inside.cache c.self.inside.limit c.self.invariant)

pub returns-clause-entries : goal.returns-clause-entries
returns-clause-entries c = rw (c.pop.ensures.entries, ← c.self.view_is) (ap (λ es. listed es c.self.inside.limit) (sym (without-shown c.args.cell c.self.inside.cache.entries c.self.invariant.distinct)))

pub returns-clause-bytes : goal.returns-clause-bytes
returns-clause-bytes c = elim c.match-pop.branch [
  | in-Some w ↦ rw (c.pop.ensures.entries, ← c.self.view_is, w.result-is) (total-removed c.args.cell.0 c.self.inside.cache.entries (Some w.in-Some.room) (sym c.pop.ensures.value ∙ w.in-Some.is))
  | in-None w ↦ rw (c.pop.ensures.entries, ← c.self.view_is, w.result-is) (total-removed c.args.cell.0 c.self.inside.cache.entries None (sym c.pop.ensures.value ∙ w.in-None.is))
]
