use Rattle.std.proofs.Common.{sym, ◌∙◌}
use Rattle.sj_node.proofs.Shown.{has_entry-shown}
use Rattle.sj_node.proofs.entries.Entries.has.Goals as goal

pub returns : goal.returns
returns c = rw (← c.self.view_is) (c.contains.ensures ∙ sym (has_entry-shown c.args.cell c.self.inside.cache.entries))
