-- Where the workers of a run work.
use Rattle.std.specs.Prelude.{◌≡◌, ◌++◌, ◌<◌, ℕ, Option, List, Contains, map}
use Rattle.sj_desk.specs.Seats.{DeskFacts, SeatFacts}
use Rattle.sj_steal.specs.Facts.{SharedFacts}
use Rattle.sj_engine.specs.Member.{IsMember}
use Rattle.sj_engine.specs.declared.posts.Post.{Post}
use Rattle.sj_engine.specs.declared.posts.Post.TheVariants.{Away, Here}
use Rattle.sj_engine.specs.declared.noted_board.NotedBoard.{NotedBoard}

module _ {D : Type 0} where
  -- the number of the worker
  abbrev pub number_of : Post D → ℕ
  number_of (Away thread) = thread.promise.number
  number_of (Here m) = m.seat.facts.number

  -- the post is that of a worker of the desk: in a thread that is to come back with it, or here, where all listen to one bell
  abbrev pub IsOnPost : DeskFacts (NotedBoard D) → Option SharedFacts → Post D → Type 0
  IsOnPost desk queues (Away thread) = (thread.promise.desk.value ≡ desk) × (thread.promise.queues.value ≡ queues) × (thread.promise.number < desk.seats)
  IsOnPost desk queues (Here m) = IsMember desk queues m × (m.bell ≡ 0)

  abbrev pub numbers_of_seats : List (SeatFacts (NotedBoard D)) → List ℕ
  numbers_of_seats seats = map (λ s. s.number) seats

  abbrev pub numbers_of_posts : List (Post D) → List ℕ
  numbers_of_posts posts = map number_of posts

  -- each worker of the desk has its seat in the one list, or its post in the other
  abbrev pub HasEachWorker : DeskFacts (NotedBoard D) → List (SeatFacts (NotedBoard D)) → List (Post D) → Type 0
  HasEachWorker desk seats posts = (n : ℕ) → n < desk.seats → Contains (numbers_of_seats seats ++ numbers_of_posts posts) n
