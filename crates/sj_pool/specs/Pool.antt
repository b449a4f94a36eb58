-- A pool as contracts see it: its policy, for how many workers and tasks it was made, and its queues.
use Rattle.std.specs.Prelude.{◌≡◌, ℕ, zero, suc, ◌+◌, ◌-◌, ◌<◌, ◌≤◌, Bool, false, nat_eq, List, [], ◌∷◌, ◌++◌, length, map, slice_set, slice_index_or, replicate, Option, option_map, All, IsTrue, if◌then◌else◌}
use Rattle.std.specs.List.{list_any, find, range_with_len, sum_by}
use Rattle.std.specs.Option.{option_and_then, option_map_or}
use Rattle.sj_base.specs.declared.ids.Task.{Task}
use Rattle.sj_base.specs.declared.mode.Policy.{Policy}
use Rattle.sj_base.specs.declared.mode.Policy.TheVariants.{Prio, Ws}
use Rattle.sj_pool.specs.declared.entry.Entry.{Entry}
use Rattle.sj_pool.specs.Entry.{fits_room, precedes}
use Rattle.sj_pool.specs.Queue.{Queued, queued, has_fitting, first_fitting, without_first_fitting, put_by_urgency, is_by_urgency}

pub record Pooled : Type 0 where
  pub policy : Policy
  pub workers : ℕ
  pub limit : ℕ
  pub queues : List (List Entry)

abbrev pub pooled : Policy → ℕ → ℕ → List (List Entry) → Pooled
pooled p w n qs = record { policy = p; workers = w; limit = n; queues = qs }

-- how many queues there are: one, or under ws one for each worker
abbrev pub queue_count : Policy → ℕ → ℕ
queue_count Ws workers = workers
queue_count _ workers = 1

-- no entry
abbrev pub empty_pool : Policy → ℕ → ℕ → Pooled
empty_pool p w n = pooled p w n (replicate (queue_count p w) [])

-- the number of a worker's queue
abbrev pub home : Policy → ℕ → ℕ
home Ws w = w
home _ w = 0

abbrev pub queue : List (List Entry) → ℕ → List Entry
queue qs i = slice_index_or qs i []

-- ---- which tasks are there

abbrev pub has_task : ℕ → List Entry → Bool
has_task t es = list_any (λ e. nat_eq e.task.0 t) es

abbrev pub contains : List (List Entry) → ℕ → Bool
contains qs t = list_any (has_task t) qs

-- ---- putting

-- the entry goes behind all others, or under prio where its urgency has it
abbrev pub put_into : Policy → Entry → List Entry → List Entry
put_into Prio e es = put_by_urgency e es
put_into _ e es = es ++ e ∷ []

-- the queues where the entry is put into one
abbrev pub with_entry_at : Policy → List (List Entry) → ℕ → Entry → List (List Entry)
with_entry_at p qs i e = slice_set qs i (put_into p e (queue qs i))

-- the entry goes to the queue of the worker that puts it
abbrev pub with_entry : Pooled → Entry → ℕ → Pooled
with_entry p e by = record p { queues = with_entry_at p.policy p.queues (home p.policy by) e }

-- ---- taking

-- the queues in the order in which a worker looks for work: its own, and the next ones cyclically
abbrev pub turns : ℕ → ℕ → List ℕ
turns count first = range_with_len first (count - first) ++ range_with_len 0 first

-- the first of these queues where an entry fits
abbrev pub serving : List (List Entry) → ℕ → List ℕ → Option ℕ
serving qs room order = find (λ i. has_fitting room (queue qs i)) order

-- the queue that serves a worker
abbrev pub serves : Pooled → ℕ → ℕ → Option ℕ
serves p w room = serving p.queues room (turns (length p.queues) (home p.policy w))

-- the entry that a worker takes: the first that fits in the queue that serves it
abbrev pub entry_for : Pooled → ℕ → ℕ → Option Entry
entry_for p w room = option_and_then (λ i. first_fitting room (queue p.queues i)) (serves p w room)

-- its task
abbrev pub task_for : Pooled → ℕ → ℕ → Option Task
task_for p w room = option_map (λ e. e.task) (entry_for p w room)

-- the task of the first entry of a queue that fits
abbrev pub first_task : ℕ → List Entry → Option Task
first_task room es = option_map (λ e. e.task) (first_fitting room es)

-- the queues where the first entry that fits is taken out of one
abbrev pub without_first_at : List (List Entry) → ℕ → ℕ → List (List Entry)
without_first_at qs i room = slice_set qs i (without_first_fitting room (queue qs i))

-- the entry that a worker takes is taken out, and all else stays
abbrev pub without_entry_for : Pooled → ℕ → ℕ → Pooled
without_entry_for p w room =
    record p { queues = option_map_or (λ i. without_first_at p.queues i room) (serves p w room) p.queues }

-- no entry that fits is more urgent
abbrev pub IsMostUrgent : Entry → ℕ → List (List Entry) → Type 0
IsMostUrgent e room qs = All (All (λ x. IsTrue (fits_room room x) → precedes x e ≡ false)) qs

-- ---- what a pool keeps

-- the entries of the queues
abbrev pub lists : List Queued → List (List Entry)
lists qs = map (λ q. q.entries) qs

abbrev pub queue_at : List Queued → ℕ → Queued
queue_at qs i = slice_index_or qs i (queued [] 0)

-- the queues where one has other entries
abbrev pub with_entries_at : List Queued → ℕ → List Entry → List Queued
with_entries_at qs i es = slice_set qs i (record (queue_at qs i) { entries = es })

-- how many entries there are
abbrev pub count_entries : List (List Entry) → ℕ
count_entries qs = sum_by length qs

-- how many numbers below a limit fail a test
abbrev pub count_failing : (ℕ → Bool) → ℕ → ℕ
count_failing f zero = 0
count_failing f (suc n) = if f n then count_failing f n else count_failing f n + 1

-- the entries and the absent tasks together are no more than the tasks, and each queue can have as many entries
pub record IsPool (policy : Policy) (workers limit : ℕ) (qs : List Queued) : Type 0 where
  pub some_worker : 0 < workers
  pub count : length qs ≡ queue_count policy workers
  pub few : count_entries (lists qs) + count_failing (contains (lists qs)) limit ≤ limit
  pub room : All (λ q. limit ≤ q.limit) qs
  pub by_urgency : policy ≡ Prio → All (λ q. IsTrue (is_by_urgency q)) (lists qs)
