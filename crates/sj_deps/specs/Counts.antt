-- What the counters are of: the program's accesses, the parties that make them, and the tasks that are done.
use Rattle.std.specs.Prelude.{◌≡◌, ◌⊎◌, ◌==◌, ◌++◌, ◌∷◌, if◌then◌else◌, slice_set, ℕ, ◌+◌, ◌<◌, ◌≤◌, ◌-◌, Bool, true, false, not, List, [], length, count_by, nat_eq, Contains, All, min, nat_lt}
use Rattle.std.specs.List.{slice_index_or, sum_by, range_with_len}
use Rattle.sj_base.specs.declared.program.Program.{Program}
use Rattle.sj_base.specs.declared.ids.Task.{Task}
use Rattle.sj_base.specs.Ids.{task}
use Rattle.sj_deps.specs.declared.manner.Manner.{Manner}
use Rattle.sj_deps.specs.declared.manner.Manner.TheVariants.{Contribute}
use Rattle.sj_deps.specs.declared.manner.Usage.{Usage}
use Rattle.sj_deps.specs.Conflict.{Uses, usage}
use Rattle.sj_deps.specs.declared.entry.Entered.{Entered}
use Rattle.sj_deps.specs.declared.chain.Member.{Member}
use Rattle.sj_deps.specs.declared.chain.Chain.{Chain}
use Rattle.sj_deps.specs.Chains.{member, member_at, party_at, manner_at, members_at, is_of, is_party, chain_at, waits_of, wanted, CountsChain}

abbrev pub is_task : ℕ → Task → Bool
is_task t x = nat_eq x.0 t

abbrev pub cells_at : List (List ℕ) → ℕ → List ℕ
cells_at cells n = slice_index_or cells n []

abbrev pub tasks_at : List (List Task) → ℕ → List Task
tasks_at tasks n = slice_index_or tasks n []

abbrev pub parties_at : List (List ℕ) → ℕ → List ℕ
parties_at parties t = slice_index_or parties t []

-- task t is one of party n
abbrev pub In : List (List Task) → ℕ → ℕ → Type 0
In tasks n t = Contains (tasks_at tasks n) (task t)

-- party n is a reduction phase: it accesses all partial copies of a cell
pub record IsPhaseParty (P : Program) (cells : List (List ℕ)) (n : ℕ) : Type 0 where
  pub later : length P.tasks ≤ n
  pub first : ℕ
  pub copies : cells_at cells n ≡ range_with_len first P.workers

-- the chains hold accesses of P alone, and each cell's in the order of tasks; a party is a task by itself or a phase
pub record HoldsAccesses (P : Program) (chains : List Chain) (cells : List (List ℕ)) (tasks : List (List Task)) : Type 0 where
  pub every_cell : length chains ≡ length P.cells
  pub every_party : length cells ≡ length tasks
  pub every_task : length P.tasks ≤ length tasks
  pub itself : (t : ℕ) → t < length P.tasks → tasks_at tasks t ≡ task t ∷ []
  pub some : (n : ℕ) → n < length tasks → (t : ℕ) × (t < length P.tasks) × In tasks n t
  pub inside : (n t : ℕ) → In tasks n t → t < length P.tasks
  pub known : (c p : ℕ) → p < length (members_at chains c) → party_at (members_at chains c) p < length tasks
  pub sound : (c p t : ℕ) → p < length (members_at chains c) → In tasks (party_at (members_at chains c) p) t → Uses P t c (manner_at (members_at chains c) p)
  pub ordered : (c i j u t : ℕ) → i < j → j < length (members_at chains c) → In tasks (party_at (members_at chains c) i) u → In tasks (party_at (members_at chains c) j) t → u ≤ t
  pub own : (c p t : ℕ) → p < length (members_at chains c) → In tasks (party_at (members_at chains c) p) t → (manner_at (members_at chains c) p ≡ Contribute) ⊎ (party_at (members_at chains c) p ≡ t)
  pub once : (c i j t : ℕ) → i < j → j < length (members_at chains c) → In tasks (party_at (members_at chains c) i) t → In tasks (party_at (members_at chains c) j) t → manner_at (members_at chains c) i ≡ Contribute
  pub phases : (c p : ℕ) → p < length (members_at chains c) → manner_at (members_at chains c) p ≡ Contribute → IsPhaseParty P cells (party_at (members_at chains c) p)
  pub listed : (n c : ℕ) → count_by (λ d. nat_eq d c) (cells_at cells n) ≡ count_by (is_of n) (members_at chains c)

-- the access of task t to cell c in the manner m is in the chain
pub record Present (chains : List Chain) (tasks : List (List Task)) (t c : ℕ) (m : Manner) : Type 0 where
  pub place : ℕ
  pub within : place < length (members_at chains c)
  pub by : In tasks (party_at (members_at chains c) place) t
  pub manner : manner_at (members_at chains c) place ≡ m

-- each access of P is in its chain
pub record HoldsAll (P : Program) (chains : List Chain) (tasks : List (List Task)) : Type 0 where
  pub complete : (t c : ℕ) (m : Manner) → Uses P t c m → Present chains tasks t c m

-- the tasks in the list are those with a flag
pub record Flags (flags : List Bool) (done : List ℕ) : Type 0 where
  pub flagged : (t : ℕ) → Contains done t → slice_index_or flags t false ≡ true
  pub listed : (t : ℕ) → slice_index_or flags t false ≡ true → Contains done t

-- what is so while a party is counted as finished in its cells' chains, with these cells left
pub record CanSettle (chains : List Chain) (w : List ℕ) (left : List ℕ) : Type 0 where
  pub inside : All (λ c. c < length chains) left
  pub within : (c : ℕ) → (chain_at chains c).released ≤ length (members_at chains c)
  pub unfinished : (c : ℕ) → (chain_at chains c).finished + count_by (λ d. nat_eq d c) left ≤ (chain_at chains c).released
  pub parties : (c : ℕ) → All (λ m. m.party < length w) (members_at chains c)
  pub waits : (n : ℕ) → waits_of w n ≡ wanted chains n

-- the chains keep their accesses
pub record SameMembers (old new : List Chain) : Type 0 where
  pub len : length new ≡ length old
  pub members : (c : ℕ) → members_at new c ≡ members_at old c

-- and counts that fitted but for these cells now fit but for those left
pub record Settles (old new : List Chain) (cells left : List ℕ) : Type 0 where
  pub same : SameMembers old new
  pub tracks : (done : List ℕ) → ((c : ℕ) → CountsChain done (chain_at old c) (count_by (λ d. nat_eq d c) cells)) → (c : ℕ) → CountsChain done (chain_at new c) (count_by (λ d. nat_eq d c) left)

-- the parties whose last wait is gone are appended
pub record ListsReady (w w' : List ℕ) (r r' : List ℕ) : Type 0 where
  pub len : length w' ≡ length w
  pub opened : (n : ℕ) → count_by (is_party n) r' + min 1 (waits_of w' n) ≡ count_by (is_party n) r + min 1 (waits_of w n)
  pub total : length r' + count_by (nat_lt 0) w' ≡ length r + count_by (nat_lt 0) w

-- each chain's counts fit the parties that are done, and each party's waits are its accesses that may not begin yet
pub record CountsFit (left : List ℕ) (chains : List Chain) (cells : List (List ℕ)) (w : List ℕ) : Type 0 where
  pub tracks : (c : ℕ) → CountsChain left (chain_at chains c) 0
  pub waits : (n : ℕ) → waits_of w n ≡ wanted chains n
  pub listed : (n c : ℕ) → count_by (λ d. nat_eq d c) (cells_at cells n) ≡ count_by (is_of n) (members_at chains c)
  pub parties : (c : ℕ) → All (λ m. m.party < length w) (members_at chains c)

-- the chains while accesses are entered, with nothing done: a party that isn't the last of each of its chains is closed
pub record Begun (e : Entered) : Type 0 where
  pub tracks : (c : ℕ) → CountsChain [] (chain_at e.chains.items c) 0
  pub waits : (n : ℕ) → waits_of e.waits.items n ≡ wanted e.chains.items n
  pub closed : (c p : ℕ) → p + 1 < length (members_at e.chains.items c) → slice_index_or e.is_closed.items (party_at (members_at e.chains.items c) p) true ≡ true
  pub every_wait : length e.waits.items ≡ length e.tasks.items
  pub every_flag : length e.is_closed.items ≡ length e.tasks.items
  pub parties : (c p : ℕ) → p < length (members_at e.chains.items c) → party_at (members_at e.chains.items c) p < length e.tasks.items

-- the accesses of the tasks below t and these of task t are entered
pub record Entering (P : Program) (t : ℕ) (us : List Usage) (e : Entered) : Type 0 where
  pub holds : HoldsAccesses P e.chains.items e.cells.items e.tasks.items
  pub before : (u c : ℕ) (m : Manner) → u < t → Uses P u c m → Present e.chains.items e.tasks.items u c m
  pub current : (c : ℕ) (m : Manner) → Contains us (usage m c) → Present e.chains.items e.tasks.items t c m
  pub upto : (c p u : ℕ) → p < length (members_at e.chains.items c) → In e.tasks.items (party_at (members_at e.chains.items c) p) u → u ≤ t

-- the last access is one of party n
abbrev pub ends_with_party : List Member → ℕ → Bool
ends_with_party ms n = if length ms == 0 then false else is_of n (member_at ms (length ms - 1))

-- the party's accesses to the cells from first on are appended to their chains
pub record Appends (old new : Entered) (x : Member) (first count : ℕ) : Type 0 where
  pub len : length new.chains.items ≡ length old.chains.items
  pub pushed : (c : ℕ) → first ≤ c → c < first + count → members_at new.chains.items c ≡ members_at old.chains.items c ++ x ∷ []
  pub others : (c : ℕ) → (c < first) ⊎ (first + count ≤ c) → members_at new.chains.items c ≡ members_at old.chains.items c
  pub cells : new.cells.items ≡ slice_set old.cells.items x.party (cells_at old.cells.items x.party ++ range_with_len first count)
  pub tasks : new.tasks.items ≡ old.tasks.items

-- a party of one task more, with no access
pub record Adds (old new : Entered) (t : ℕ) : Type 0 where
  pub chains : new.chains.items ≡ old.chains.items
  pub cells : new.cells.items ≡ old.cells.items ++ [] ∷ []
  pub tasks : new.tasks.items ≡ old.tasks.items ++ (task t ∷ []) ∷ []

-- a phase of one task more, with these copies
pub record Opens (old new : Entered) (t first count : ℕ) : Type 0 where
  pub between : Entered
  pub adds : Adds old between t
  pub appends : Appends between new (member (length old.tasks.items) Contribute) first count

-- one task more in a party
pub record JoinsParty (old new : Entered) (n t : ℕ) : Type 0 where
  pub chains : new.chains.items ≡ old.chains.items
  pub cells : new.cells.items ≡ old.cells.items
  pub tasks : new.tasks.items ≡ slice_set old.tasks.items n (tasks_at old.tasks.items n ++ task t ∷ [])

-- party n stands at the end, and is a phase
pub record EndsInPhase (ms : List Member) (n : ℕ) : Type 0 where
  pub place : ℕ
  pub last : place + 1 ≡ length ms
  pub party : party_at ms place ≡ n
  pub manner : manner_at ms place ≡ Contribute

-- and it is open, with this first copy
pub record IsOpen (e : Entered) (first n : ℕ) : Type 0 where
  pub ends : EndsInPhase (members_at e.chains.items first) n
  pub unclosed : slice_index_or e.is_closed.items n true ≡ false
  pub copies : slice_index_or (cells_at e.cells.items n) 0 0 ≡ first
  pub some : 0 < length (cells_at e.cells.items n)

-- all accesses of P are entered, and none is finished
pub record Built (P : Program) (e : Entered) : Type 0 where
  pub holds : HoldsAccesses P e.chains.items e.cells.items e.tasks.items
  pub all : HoldsAll P e.chains.items e.tasks.items
  pub begun : Begun e

-- how many tasks of a party aren't done
abbrev pub undone_among : List Bool → List Task → ℕ
undone_among flags ts = count_by (λ (x : Task). not (slice_index_or flags x.0 false)) ts

-- how many of these parties wait
abbrev pub blocked : List ℕ → List ℕ → ℕ
blocked w ns = count_by (λ n. nat_lt 0 (waits_of w n)) ns

-- how often a task is one of these parties
abbrev pub owed : List (List Task) → List ℕ → ℕ → ℕ
owed tasks ns t = sum_by (λ n. count_by (is_task t) (tasks_at tasks n)) ns

-- each task that these are gives up so many waits, and is appended where it waits no more
pub record Frees (h h' : List ℕ) (r r' : List Task) (owes : ℕ → ℕ) : Type 0 where
  pub held : (t : ℕ) → waits_of h' t + owes t ≡ waits_of h t
  pub len : length h' ≡ length h
  pub ready : (t : ℕ) → count_by (is_task t) r' + min 1 (waits_of h' t) ≡ count_by (is_task t) r + min 1 (waits_of h t)
  pub total : length r' + count_by (nat_lt 0) h' ≡ length r + count_by (nat_lt 0) h

-- the parties of each task are those that have it
abbrev pub Mutual : List (List ℕ) → List (List Task) → Type 0
Mutual parties tasks = (t n : ℕ) → count_by (is_party n) (parties_at parties t) ≡ count_by (is_task t) (tasks_at tasks n)
