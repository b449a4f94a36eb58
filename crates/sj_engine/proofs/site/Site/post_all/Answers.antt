use Rattle.std.proofs.Common.{rules, arith, [], All, Some, ap, length, subst, sym, ◌≡◌, ◌+◌, ◌∙◌}
use Rattle.std.proofs.lemmas.List.{length_push}
use Rattle.std.proofs.lemmas.List.Elements.{All-pop, All-push}
use Rattle.sj_engine.specs.Member.{IsSeatOf}
use Rattle.sj_engine.specs.Posts.{HasEachWorker, IsOnPost}
use Rattle.sj_engine.specs.Stage.{IsFreeRow}
use Rattle.sj_engine.proofs.Posting.{each-posted}
use Rattle.sj_engine.proofs.Passing.{last-pass, passes-left}
use Rattle.sj_engine.proofs.site.Site.post_all.Goals as goal

pub loop-seat-preserved : goal.loop-seat-preserved
loop-seat-preserved g c =
    let i = c.loop-seat.invariant in
    let desk = c.args.self.now.desk.now in
    let fewer = c.in-Some.ensures.items in
    let more = c.push_reserved.ensures.items in
    let taken : length c.loop-seat.seats.items ≡ length c.pop.new.self.items + 1 = ap length fewer ∙ length_push c.pop.new.self.items c.in-Some.seat in
    let given : length c.push_reserved.new.self.items ≡ length c.loop-seat.posts.items + 1 = ap length more ∙ length_push c.loop-seat.posts.items c.placed.result in
    let before = i.count in
    record {
      seats = (All-pop (IsSeatOf desk IsFreeRow) c.loop-seat.seats.items c.pop.new.self.items (Some c.in-Some.seat) fewer i.seats).0;
      posts = subst (All (IsOnPost desk c.args.self.now.queues.now)) (sym more) (All-push (IsOnPost desk c.args.self.now.queues.now) c.loop-seat.posts.items c.placed.result i.posts c.placed.ensures.post);
      passes = passes-left desk c.args.self.now.queues.now c.loop-seat.seats.items c.pop.new.self.items c.in-Some.seat c.loop-seat.passes.items c.pop-pass.new.self.items c.pop-pass.result fewer c.pop-pass.ensures.items (λ e. search rules) i.passes;
      each = subst (λ l. HasEachWorker desk c.pop.new.self.items l) (sym more)
          (each-posted desk c.loop-seat.seats.items c.pop.new.self.items c.in-Some.seat c.loop-seat.posts.items c.placed.result fewer c.placed.ensures.number i.each);
      count = omega (arith, taken, given, before);
      room = search rules;
      capacity = search rules;
    }

pub placed-requires-clause-pass : goal.placed-requires-clause-pass
placed-requires-clause-pass g c κs within = last-pass c.args.self.now.desk.now c.args.self.now.queues.now c.loop-seat.seats.items c.pop.new.self.items c.in-Some.seat c.loop-seat.passes.items c.pop-pass.new.self.items c.pop-pass.result c.in-Some.ensures.items c.pop-pass.ensures.items (λ e. search rules) c.loop-seat.invariant.passes

pub returns-clause-each : goal.returns-clause-each
returns-clause-each g c =
    let none : c.loop-seat.seats.items ≡ [] = search rules in
    subst (λ l. HasEachWorker c.args.self.now.desk.now l c.loop-seat.posts.items) none c.loop-seat.invariant.each
