use Rattle.std.proofs.Common.{◌≡◌, take}
use Rattle.std.specs.List.{zip}
use Rattle.sj_node.specs.Entries.{listed}
use Rattle.sj_node.proofs.Putting.{put_news}
use Rattle.sj_node.proofs.entries.Entries.put_all.Given as goal

abbrev pub invariant-loop-i : goal.invariant-loop-i
invariant-loop-i l = l.self ≡ listed (put_news l.fn.self.order (take l.i (zip l.cells l.bytes))) l.fn.self.limit
