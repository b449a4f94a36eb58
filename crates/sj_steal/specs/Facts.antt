-- What contracts see of shared pools and of their passes.
use Rattle.std.specs.Prelude.{◌≡◌, ℕ, ◌+◌, ◌<◌, List, [], ◌∷◌, ◌++◌, length, map, slice_index_or, All, sum_by, flat_map}
use Rattle.std.specs.List.{range_with_len, AllWithin}
use Rattle.std.specs.declared.alloc.Global.{Global}
use Rattle.crossbeam_queue.specs.SegTies.{SegId}
use Rattle.sj_base.specs.declared.ids.Task.{Task}
use Rattle.sj_base.specs.declared.mode.Policy.{Policy}
use Rattle.sj_pool.specs.Pool.{home, queue_count}
use Rattle.sj_steal.specs.declared.account.Account.{Account}
use Rattle.sj_steal.specs.Account.{account, after_deal, times}

-- a pass of one queue: which queue, and what was put and taken
pub record StakeFacts : Type 0 where
  pub lane : SegId Global
  pub account : Account

-- a pool that workers share: its policy, for how many workers it is, and its queues
pub record SharedFacts : Type 0 where
  pub policy : Policy
  pub workers : ℕ
  pub lanes : List (SegId Global)

-- the pass of a worker: its pool, the worker's number, the tasks that it put and those that it took, of each queue in order
pub record PassFacts : Type 0 where
  pub shared : SharedFacts
  pub number : ℕ
  pub put : List Task
  pub taken : List Task

abbrev pub pool : Policy → ℕ → List (SegId Global) → SharedFacts
pool policy workers lanes = record { policy = policy; workers = workers; lanes = lanes }

-- ---- stakes

-- nothing was put or taken yet
abbrev pub new_stake : ℕ → SegId Global → StakeFacts
new_stake parts lane = record { lane = lane; account = account parts [] [] }

abbrev pub with_a_part_less : StakeFacts → StakeFacts
with_a_part_less s = record { lane = s.lane; account = after_deal s.account }

-- of stakes in some queues: which queues, the parts, and what was put and taken
abbrev pub lanes_of : List StakeFacts → List (SegId Global)
lanes_of stakes = map (λ s. s.lane) stakes

abbrev pub parts_of : List StakeFacts → List ℕ
parts_of stakes = map (λ s. s.account.parts) stakes

abbrev pub put_through : List StakeFacts → List Task
put_through stakes = flat_map (λ s. s.account.put) stakes

abbrev pub taken_through : List StakeFacts → List Task
taken_through stakes = flat_map (λ s. s.account.taken) stakes

-- of 256 parts of a queue each worker's pass has one, and that of the last worker the others
abbrev pub HasShare : ℕ → ℕ → ℕ → Type 0
HasShare number workers parts = (number + 1 < workers → parts ≡ 1) × (number + 1 ≡ workers → parts + workers ≡ 257)

-- the stakes of a worker's pass, one in each queue: of each it has its share, and in those behind its own it put nothing
pub record AreStakes (policy : Policy) (number workers : ℕ) (stakes : List StakeFacts) : Type 0 where
  pub worker : number < workers
  pub count : length stakes ≡ queue_count policy workers
  pub shares : All (HasShare number workers) (parts_of stakes)
  pub own : AllWithin (λ put. put ≡ []) (map (λ s. s.account.put) stakes) (home policy number + 1) (queue_count policy workers)

-- ---- passes

-- a pass that has put and taken nothing
abbrev pub new_pass : SharedFacts → ℕ → PassFacts
new_pass shared number = record { shared = shared; number = number; put = []; taken = [] }

-- the passes of the workers, in the order of their numbers
abbrev pub new_passes : SharedFacts → List PassFacts
new_passes shared = map (new_pass shared) (range_with_len 0 shared.workers)

-- the pass, after its worker put a task more, and after it took one more, as its last
abbrev pub having_put : PassFacts → Task → PassFacts
having_put p t = record { shared = p.shared; number = p.number; put = p.put ++ t ∷ []; taken = p.taken }

abbrev pub having_taken : PassFacts → Task → PassFacts
having_taken p t = record { shared = p.shared; number = p.number; put = p.put; taken = p.taken ++ t ∷ [] }

-- the pass, after its worker took the task once more, from some queue
pub record HasTaken (old : PassFacts) (t : Task) (new : PassFacts) : Type 0 where
  pub put : new.put ≡ old.put
  pub taken : (u : Task) → times u new.taken ≡ times u old.taken + times u (t ∷ [])

-- all passes of the pool, each at the place of its number
pub record AreAllPasses (shared : SharedFacts) (passes : List PassFacts) : Type 0 where
  pub count : length passes ≡ shared.workers
  pub of : All (λ p. p.shared ≡ shared) passes
  pub numbers : (k : ℕ) (d : PassFacts) → k < shared.workers → (slice_index_or passes k d).number ≡ k

-- each task was taken as often as it was put
abbrev pub HasTakenAll : PassFacts → Type 0
HasTakenAll p = (t : Task) → times t p.put ≡ times t p.taken

-- how often the passes put the task, and how often they took it
abbrev pub puts_of : Task → List PassFacts → ℕ
puts_of t passes = sum_by (λ p. times t p.put) passes

abbrev pub takes_of : Task → List PassFacts → ℕ
takes_of t passes = sum_by (λ p. times t p.taken) passes

-- as often as the passes put a task, they took it or it is left
abbrev pub AreBalanced : List PassFacts → List Task → Type 0
AreBalanced passes left = (t : Task) → puts_of t passes ≡ takes_of t passes + times t left
