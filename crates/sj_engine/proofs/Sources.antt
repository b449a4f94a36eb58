-- Where a worker gets ready tasks stays its own as it takes numbers and puts them.
use Rattle.std.proofs.Common.{◌≡◌, ◌≢◌, ◌∙◌, ℕ, true, refl}
use Rattle.sj_base.specs.declared.mode.Policy.{Policy}
use Rattle.sj_base.specs.declared.mode.Policy.TheVariants.{Prio}
use Rattle.sj_engine.specs.Ready.{IsItsSource, IsPassOfQueues, StaysItsSource, is_shared}
use Rattle.sj_engine.specs.declared.ready.ReadyFrom.{ReadyFrom}
use Rattle.sj_engine.specs.declared.ready.ReadyFrom.TheVariants.{Board, Shared}

pub stays-itself : (r : ReadyFrom) → StaysItsSource r r
stays-itself r = record { queues = refl; whose = λ policy number its. its }

pub stays-then : (a b c : ReadyFrom) → StaysItsSource a b → StaysItsSource b c → StaysItsSource a c
stays-then a b c x y = record { queues = y.queues ∙ x.queues; whose = λ policy number its. y.whose policy number (x.whose policy number its) }

-- shared queues stay shared
pub stays-shared : (a b : ReadyFrom) → StaysItsSource a b → is_shared a ≡ true → is_shared b ≡ true
stays-shared Board b stays shared = absurd (cc)
stays-shared (Shared queues pass) Board stays shared = absurd (cc (stays.queues))
stays-shared (Shared queues pass) (Shared queues' pass') stays shared = refl

-- a worker's source has a pass of its queues
pub source-pass : (policy : Policy) (number : ℕ) (r : ReadyFrom) → IsItsSource policy number r → IsPassOfQueues r
source-pass policy number Board its = tt
source-pass policy number (Shared shared pass) its = its.1

-- shared queues are not of prio, and what isn't shared is
pub source-other : (policy : Policy) (number : ℕ) (r : ReadyFrom) → IsItsSource policy number r → is_shared r ≡ true → policy ≢ Prio
source-other policy number Board its shared = absurd (cc)
source-other policy number (Shared queues pass) its shared = its.0

pub source-shared : (policy : Policy) (number : ℕ) (r : ReadyFrom) → IsItsSource policy number r → policy ≢ Prio → is_shared r ≡ true
source-shared policy number Board its other = absurd (other its)
source-shared policy number (Shared queues pass) its other = refl

pub source-prio : (policy : Policy) (number : ℕ) (r : ReadyFrom) → IsItsSource policy number r → (is_shared r ≡ true → ⊥) → policy ≡ Prio
source-prio policy number Board its none = its
source-prio policy number (Shared queues pass) its none = absurd (none refl)
