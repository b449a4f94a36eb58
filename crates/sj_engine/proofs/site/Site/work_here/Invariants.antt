use Rattle.std.proofs.Common.{◌≡◌, All}
use Rattle.sj_engine.specs.Posts.{IsOnPost, numbers_of_posts}
use Rattle.sj_engine.proofs.site.Site.work_here.Given as goal

-- the same workers are at their posts
abbrev pub invariant-loop : goal.invariant-loop
invariant-loop g l = record {
  can : (goal.iterator-loop g).can_next l.iterator';
  ends : (goal.iterator-loop g).is_finite l.iterator';
  posts : All (IsOnPost l.self.desk.now l.self.queues.now) l.posts.items;
  numbers : numbers_of_posts l.posts.items ≡ numbers_of_posts l.fn.posts.items;
}
