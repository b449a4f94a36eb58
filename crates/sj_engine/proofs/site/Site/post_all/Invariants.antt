use Rattle.std.proofs.Common.{◌≡◌, ◌≤◌, ◌+◌, All, length, vec_capacity}
use Rattle.sj_engine.specs.Member.{IsSeatOf}
use Rattle.sj_engine.specs.Posts.{HasEachWorker, IsOnPost}
use Rattle.sj_engine.specs.Ready.{ArePassesFor}
use Rattle.sj_engine.specs.Stage.{IsFreeRow}
use Rattle.sj_engine.proofs.site.Site.post_all.Given as goal

-- each worker has its seat yet, or its post
abbrev pub invariant-loop-seat : goal.invariant-loop-seat
invariant-loop-seat g l = record {
  seats : All (IsSeatOf l.self.desk.now IsFreeRow) l.seats.items;
  posts : All (IsOnPost l.self.desk.now l.self.queues.now) l.posts.items;
  passes : ArePassesFor l.self.desk.now l.self.queues.now l.seats.items l.passes.items;
  each : HasEachWorker l.self.desk.now l.seats.items l.posts.items;
  count : length l.posts.items + length l.seats.items ≡ length l.fn.seats.items;
  room : length l.fn.seats.items ≤ vec_capacity l.posts;
  capacity : vec_capacity l.seats ≡ vec_capacity l.fn.seats;
}

abbrev pub decreases-loop-seat : goal.decreases-loop-seat
decreases-loop-seat g l = length l.seats.items
