use Rattle.sj_deps.proofs.Appending.{Appends-more}
use Rattle.sj_deps.proofs.entry.append.Goals as goal

pub loop-n-preserved : goal.loop-n-preserved
loop-n-preserved c = (c.in_ok-push.ensures.begun, Appends-more c.args.entered.now c.loop-n.entered c.push.new.entered c.args.member c.args.first c.loop-n.n c.requires.listed c.loop-n.invariant.1 c.in_ok-push.ensures.appended)
