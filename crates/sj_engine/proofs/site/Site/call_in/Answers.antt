use Rattle.std.proofs.Common.{rules, arith, [], All, Some, ap, length, subst, sym, ◌≡◌, ◌+◌, ◌∙◌}
use Rattle.std.proofs.lemmas.List.{length_push}
use Rattle.std.proofs.lemmas.List.Elements.{All-pop, All-push}
use Rattle.sj_engine.specs.Member.{IsSeatOf}
use Rattle.sj_engine.specs.Posts.{HasEachWorker, IsOnPost}
use Rattle.sj_engine.specs.Stage.{IsStoppedRow}
use Rattle.sj_engine.proofs.Posting.{each-called_in}
use Rattle.sj_engine.proofs.site.Site.call_in.Goals as goal

pub loop-post-preserved : goal.loop-post-preserved
loop-post-preserved g c =
    let i = c.loop-post.invariant in
    let desk = c.args.self.now.desk.now in
    let fewer = c.in-Some.ensures.items in
    let more = c.push_reserved.ensures.items in
    let taken : length c.loop-post.posts.items ≡ length c.pop.new.self.items + 1 = ap length fewer ∙ length_push c.pop.new.self.items c.in-Some.post in
    let given : length c.push_reserved.new.self.items ≡ length c.loop-post.seats.items + 1 = ap length more ∙ length_push c.loop-post.seats.items c.called_in.result in
    let before = i.room in
    let same = c.push_reserved.ensures.capacity in
    record {
      posts = (All-pop (IsOnPost desk c.args.self.now.queues.now) c.loop-post.posts.items c.pop.new.self.items (Some c.in-Some.post) fewer i.posts).0;
      seats = subst (All (IsSeatOf desk IsStoppedRow)) (sym more) (All-push (IsSeatOf desk IsStoppedRow) c.loop-post.seats.items c.called_in.result i.seats c.called_in.ensures.seat);
      each = subst (λ l. HasEachWorker desk l c.pop.new.self.items) (sym more)
          (each-called_in desk c.loop-post.seats.items c.called_in.result c.loop-post.posts.items c.pop.new.self.items c.in-Some.post fewer c.called_in.ensures.number i.each);
      room = omega (arith, taken, given, before, same);
    }

pub returns-clause-each : goal.returns-clause-each
returns-clause-each g c =
    let none : c.loop-post.posts.items ≡ [] = search rules in
    subst (λ l. HasEachWorker c.args.self.now.desk.now c.loop-post.seats.items l) none c.loop-post.invariant.each
