use Rattle.std.proofs.Common.{◌≡◌, All}
use Rattle.sj_engine.specs.Posts.{IsOnPost, numbers_of_posts}
use Rattle.sj_engine.proofs.site.Site.go_round.Given as goal

-- the same workers are at their posts
abbrev pub invariant-loop-k : goal.invariant-loop-k
invariant-loop-k g l = record {
  posts : All (IsOnPost l.self.desk.now l.self.queues.now) l.posts.items;
  numbers : numbers_of_posts l.posts.items ≡ numbers_of_posts l.fn.posts.items;
}
