-- Where a worker gets ready tasks: from the board, or from queues that workers share.
use Rattle.std.specs.Prelude.{◌≡◌, ◌≢◌, ◌+◌, ◌++◌, [], ℕ, Bool, true, false, Option, None, Some, List}
use Rattle.std.specs.List.{AllZip}
use Rattle.sj_base.specs.declared.ids.Task.{Task as TaskNumber}
use Rattle.sj_base.specs.declared.mode.Policy.{Policy}
use Rattle.sj_base.specs.declared.mode.Policy.TheVariants.{Prio}
use Rattle.sj_desk.specs.Seats.{DeskFacts, SeatFacts}
use Rattle.sj_steal.specs.Account.{times}
use Rattle.sj_steal.specs.Facts.{AreAllPasses, HasTaken, PassFacts, SharedFacts, having_put}
use Rattle.sj_engine.specs.declared.noted_board.NotedBoard.{NotedBoard}
use Rattle.sj_engine.specs.declared.ready.ReadyFrom.{ReadyFrom}
use Rattle.sj_engine.specs.declared.ready.ReadyFrom.TheVariants.{Board, Shared}

-- ready tasks wait in shared queues
abbrev pub is_shared : ReadyFrom → Bool
is_shared Board = false
is_shared (Shared shared pass) = true

-- the pass is of the queues that it comes with
abbrev pub IsPassOfQueues : ReadyFrom → Type 0
IsPassOfQueues Board = Unit {0}
IsPassOfQueues (Shared shared pass) = pass.shared ≡ shared.now

-- where the worker of this number gets ready tasks by this policy: under prio from the board, else by its own pass
abbrev pub IsItsSource : Policy → ℕ → ReadyFrom → Type 0
IsItsSource policy number Board = policy ≡ Prio
IsItsSource policy number (Shared shared pass) = (policy ≢ Prio) × (pass.shared ≡ shared.now) × (pass.number ≡ number)

-- the shared queues, where ready tasks wait there
abbrev pub queues_of : ReadyFrom → Option SharedFacts
queues_of Board = None
queues_of (Shared shared pass) = Some shared.now

-- it is of the same queues, and whoever's it was, it still is
pub record StaysItsSource (old new : ReadyFrom) : Type 0 where
  pub queues : queues_of new ≡ queues_of old
  pub whose : (policy : Policy) (number : ℕ) → IsItsSource policy number old → IsItsSource policy number new

-- the pass of the worker of this number, where ready tasks wait in these queues; none under prio
abbrev pub IsPassBy : Option SharedFacts → Policy → ℕ → Option PassFacts → Type 0
IsPassBy None policy number None = policy ≡ Prio
IsPassBy (Some shared) policy number (Some pass) = (policy ≢ Prio) × (pass.shared ≡ shared) × (pass.number ≡ number)
IsPassBy _ policy number _ = ⊥

-- the worker has taken this task by its pass
abbrev pub TakesNumber : ReadyFrom → TaskNumber → ReadyFrom → Type 0
TakesNumber (Shared shared pass) t (Shared shared' pass') = HasTaken pass t pass'
TakesNumber _ t _ = ⊥

-- and has put this one
abbrev pub PutsNumber : ReadyFrom → TaskNumber → ReadyFrom → Type 0
PutsNumber (Shared shared pass) t (Shared shared' pass') = pass' ≡ having_put pass t
PutsNumber _ t _ = ⊥

-- and these, in order
abbrev pub PutsAll : ReadyFrom → List TaskNumber → ReadyFrom → Type 0
PutsAll (Shared shared pass) ts (Shared shared' pass') = pass' ≡ record pass { put = pass.put ++ ts }
PutsAll _ ts _ = ⊥

-- each number that it has taken by its pass, it has put by this, or it is among these, as often; and no other was put
abbrev pub LosesNone : ReadyFrom → List TaskNumber → ReadyFrom → Type 0
LosesNone (Shared shared pass) gone (Shared shared' pass') = (u : TaskNumber) → times u pass'.taken + times u pass.put ≡ times u pass.taken + times u pass'.put + times u gone
LosesNone _ gone _ = ⊥

-- ---- passes of workers that have no post yet

-- ready tasks are got in this way by this policy: from shared queues, or under prio from the board
abbrev pub GetsReadyBy : Option SharedFacts → Policy → Type 0
GetsReadyBy None policy = policy ≡ Prio
GetsReadyBy (Some shared) policy = policy ≢ Prio

-- where queues are shared, these are the passes of the workers of these seats, in the order of both
abbrev pub ArePassesOf : {D : Type 0} → Option SharedFacts → List (SeatFacts (NotedBoard D)) → List PassFacts → Type 0
ArePassesOf None seats passes = passes ≡ []
ArePassesOf (Some shared) seats passes = AllZip (λ s p. (p.shared ≡ shared) × (p.number ≡ s.number)) seats passes

-- and that is by the policy of the desk's board
pub record ArePassesFor {D : Type 0} (desk : DeskFacts (NotedBoard D)) (queues : Option SharedFacts) (seats : List (SeatFacts (NotedBoard D))) (passes : List PassFacts) : Type 0 where
  pub policy : GetsReadyBy queues desk.opening.board.run.machine.policy
  pub each : ArePassesOf queues seats passes

-- where queues are shared, these are the passes of all workers, each at the place of its number
abbrev pub ArePasses : Option SharedFacts → ℕ → List PassFacts → Type 0
ArePasses None workers passes = passes ≡ []
ArePasses (Some shared) workers passes = (shared.workers ≡ workers) × AreAllPasses shared passes
