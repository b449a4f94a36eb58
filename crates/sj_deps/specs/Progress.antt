-- What a `Deps` is seen as, and what its counters keep.
use Rattle.std.specs.Prelude.{◌≡◌, ℕ, ◌+◌, ◌≤◌, ◌<◌, All, true, false, not, List, [], ◌∷◌, ◌++◌, length, count_by, slice_set, min}
use Rattle.std.specs.Vec.{vec_capacity}
use Rattle.std.specs.List.{slice_index_or}
use Rattle.std.specs.List.Sorted.{IsNonDecreasingBy}
use Rattle.sj_base.specs.declared.ids.Task.{Task}
use Rattle.sj_base.specs.declared.program.Program.{Program}
use Rattle.sj_deps.specs.Conflict.{HasDependencies, Ready}
use Rattle.sj_deps.specs.declared.counters.Counters.{Counters}
use Rattle.sj_deps.specs.Chains.{is_party, left_of, waits_of}
use Rattle.sj_deps.specs.Counts.{HoldsAccesses, HoldsAll, Flags, CountsFit, SameMembers, Mutual, blocked, undone_among, parties_at, tasks_at, is_task}

-- a program, and the tasks that are done, in the order in which they were
pub record Dependencies : Type 0 where
  pub program : Program
  pub done : List ℕ

abbrev pub dependencies : Program → List ℕ → Dependencies
dependencies P done = record { program = P; done = done }

-- the chains, the parties and the tasks fit each other, with room for the parties that open and for the answers
pub record Ledger (c : Counters) : Type 0 where
  pub fits : CountsFit c.left.items c.chains.items c.cells.items c.waits.items
  pub matching : Mutual c.parties.items c.tasks.items
  pub held : (t : ℕ) → waits_of c.held.items t ≡ blocked c.waits.items (parties_at c.parties.items t)
  pub tasks : (n : ℕ) → All (λ (x : Task). x.0 < length c.held.items) (tasks_at c.tasks.items n)
  pub parties : (t : ℕ) → All (λ n. n < length c.tasks.items) (parties_at c.parties.items t)
  pub every_row : length c.cells.items ≡ length c.tasks.items
  pub every_wait : length c.waits.items ≡ length c.tasks.items
  pub every_left : length c.left.items ≡ length c.tasks.items
  pub every_list : length c.parties.items ≡ length c.held.items
  pub every_flag : length c.is_done.items ≡ length c.held.items
  pub room_opened : length c.tasks.items ≤ vec_capacity c.opened
  pub room_ready : length c.held.items ≤ vec_capacity c.ready

-- the counters of a program after the tasks in `order` are done, with room for the others
pub record KeepsCounts (P : Program) (c : Counters) : Type 0 where
  pub program : HasDependencies P
  pub holds : HoldsAccesses P c.chains.items c.cells.items c.tasks.items
  pub all : HoldsAll P c.chains.items c.tasks.items
  pub ledger : Ledger c
  pub left : (n : ℕ) → n < length c.tasks.items → left_of c.left.items n ≡ undone_among c.is_done.items (tasks_at c.tasks.items n)
  pub flags : Flags c.is_done.items c.order.items
  pub free : (t : ℕ) → slice_index_or c.is_done.items t false ≡ true → waits_of c.held.items t ≡ 0
  pub every_task : length c.held.items ≡ length P.tasks
  pub room_done : length c.order.items + count_by not c.is_done.items ≤ vec_capacity c.order

-- task t is counted as done in each of its parties, and the tasks that wait no more are the answers, by number
pub record Completes (old new : Counters) (t : ℕ) : Type 0 where
  pub order : new.order.items ≡ old.order.items ++ t ∷ []
  pub flags : new.is_done.items ≡ slice_set old.is_done.items t true
  pub cells : new.cells.items ≡ old.cells.items
  pub tasks : new.tasks.items ≡ old.tasks.items
  pub parties : new.parties.items ≡ old.parties.items
  pub chains : SameMembers old.chains.items new.chains.items
  pub ledger : Ledger new
  pub left : (n : ℕ) → left_of new.left.items n + count_by (is_party n) (parties_at old.parties.items t) ≡ left_of old.left.items n
  pub len : length new.held.items ≡ length old.held.items
  pub answers : (u : ℕ) → count_by (is_task u) new.ready.items + min 1 (waits_of new.held.items u) ≡ min 1 (waits_of old.held.items u)
  pub sorted : IsNonDecreasingBy (λ (x : Task). x.0) new.ready.items
  pub room_done : vec_capacity old.order ≤ vec_capacity new.order

abbrev pub after_done : Dependencies → ℕ → Dependencies
after_done p t = dependencies p.program (p.done ++ t ∷ [])

-- task u is ready once t is done, and isn't ready before
pub record BecomesReady (p : Dependencies) (t u : ℕ) : Type 0 where
  pub now : Ready p.program (p.done ++ t ∷ []) u
  pub before : ¬ Ready p.program p.done u
