use Rattle.std.proofs.Common.{◌≡◌, take}
use Rattle.sj_node.specs.Entry.{without_all}
use Rattle.sj_node.specs.Entries.{listed}
use Rattle.sj_node.proofs.entries.Entries.take_out_all.Given as goal

abbrev pub invariant-loop-cell : goal.invariant-loop-cell
invariant-loop-cell l = l.self ≡ listed (without_all (take l.cell-index l.cells) l.fn.self.order) l.fn.self.limit
