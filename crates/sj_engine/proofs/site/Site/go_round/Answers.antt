use Rattle.std.proofs.Common.{rules}
use Rattle.std.proofs.Math.Seq.{map-set_same}
use Rattle.std.proofs.lemmas.List.Elements.{All-set}
use Rattle.sj_engine.proofs.site.Site.go_round.Goals as goal

pub loop-k-preserved : goal.loop-k-preserved
loop-k-preserved g c = record {
  posts = search (rules, All-set);
  numbers = search (rules, map-set_same);
}
