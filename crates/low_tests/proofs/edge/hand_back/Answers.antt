use Rattle.sj_edge.proofs.GivenBackLemmas.{all_untouched-same}
use Rattle.low_tests.proofs.edge.hand_back.Goals as goal

pub returns : goal.returns
returns g c = all_untouched-same _ _ _ _ c.args.disks.items
