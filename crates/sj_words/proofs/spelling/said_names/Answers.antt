use Rattle.sj_words.specs.Spelling.{texts}
use Rattle.sj_words.proofs.Spelled.{one_more}
use Rattle.sj_words.proofs.spelling.said_names.Goals as goal

pub loop-left-preserved : goal.loop-left-preserved
loop-left-preserved c =
    one_more (texts c.args.words.now) (texts c.loop-left.left.now) c.loop-left.names.items c.push.new.self.items c.in-Some.name (texts c.in-Some.rest.now)
    c.loop-left.invariant c.in-Some.ensures c.in_ok-push.ensures.items
