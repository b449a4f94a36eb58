use Rattle.std.proofs.Common.{[], subst, sym}
use Rattle.sj_engine.specs.Posts.{HasEachWorker}
use Rattle.sj_engine.proofs.Posting.{each-same}
use Rattle.sj_engine.proofs.site.Site.staffed.Goals as goal

pub call_in-requires-clause-each : goal.call_in-requires-clause-each
call_in-requires-clause-each g c κs within =
    subst (λ l. HasEachWorker c.args.self.now.desk.now l c.work_here.new.posts.items) (sym c.post_all.ensures.none)
    (each-same c.args.self.now.desk.now [] c.post_all.new.posts.items c.work_here.new.posts.items c.work_here.ensures.numbers c.post_all.ensures.each)
