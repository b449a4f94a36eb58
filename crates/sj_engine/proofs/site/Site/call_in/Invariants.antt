use Rattle.std.proofs.Common.{◌≤◌, ◌+◌, All, length, vec_capacity}
use Rattle.sj_engine.specs.Member.{IsSeatOf}
use Rattle.sj_engine.specs.Posts.{HasEachWorker, IsOnPost}
use Rattle.sj_engine.specs.Stage.{IsStoppedRow}
use Rattle.sj_engine.proofs.site.Site.call_in.Given as goal

-- each worker has its post yet, or its seat
abbrev pub invariant-loop-post : goal.invariant-loop-post
invariant-loop-post g l = record {
  posts : All (IsOnPost l.self.desk.now l.self.queues.now) l.posts.items;
  seats : All (IsSeatOf l.self.desk.now IsStoppedRow) l.seats.items;
  each : HasEachWorker l.self.desk.now l.seats.items l.posts.items;
  room : length l.posts.items + length l.seats.items ≤ vec_capacity l.seats;
}

abbrev pub decreases-loop-post : goal.decreases-loop-post
decreases-loop-post g l = goal.left-loop-post g l
