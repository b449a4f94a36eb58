-- For what workers rest, and which of them a turn wakes.
--
-- A worker rests without a task, since none was ready when it looked, or since it couldn't claim what was; or with one that it
-- has claimed, since another worker has to go on first. Who rests has a note, with the bell that its thread sleeps on. The note
-- is due where its worker is to look again. A turn wakes one worker at most, whose note goes: the next one behind the turn's own
-- worker that is due. Who was woken has a turn in any case, and wakes the next one in it: so all that are due have a turn, one
-- after the other, and none is forgotten.
use Rattle.std.specs.Prelude.{ℕ, ◌+◌, Bool, true, false, not, ◌&&◌, ◌||◌, if◌then◌else◌, is_some, Option, Some, None, List, drop, map, option_and_then, option_map, position, slice_index_or, slice_set}
use Rattle.std.specs.List.{list_all, list_any}
use Rattle.std.specs.Option.{option_or}
use Rattle.sj_base.specs.declared.trace.Event.{Event}
use Rattle.sj_base.specs.declared.trace.Event.TheVariants.{Claim, Drop, End, Move, Moved, Run}
use Rattle.sj_core.specs.Machine.{is_done}
use Rattle.sj_board.specs.Standing.{state}
use Rattle.sj_board.specs.Board.{BoardState}
use Rattle.sj_pool.specs.Queue.{has_fitting}
use Rattle.sj_engine.specs.declared.sleepers.Change.{Change}
use Rattle.sj_engine.specs.declared.sleepers.Change.TheVariants.{Claimed, Begun, Freed, Ended}
use Rattle.sj_engine.specs.declared.sleepers.Note.{Note}
use Rattle.sj_engine.specs.declared.sleepers.RestReason.{RestReason}
use Rattle.sj_engine.specs.declared.sleepers.RestReason.TheVariants.{Idle, Blocked}

-- ---- changes

-- what an event is for those that rest. A claim takes room and marks copies, and the beginning of a transfer changes neither: no
-- wait ends by them. A transfer that ends, also by a disk that comes back, a copy that goes and a kernel that begins, which takes
-- copies away from other nodes, end waits; so does the end of a task, which unpins its cells and gives commuting ones back,
-- and by which others become ready
abbrev pub change_of : Event → Change
change_of (Claim t w) = Claimed
change_of (Move c from to) = Begun
change_of (Moved c from to) = Freed
change_of (Drop c n) = Freed
change_of (Run t w) = Freed
change_of (End t w) = Ended

-- another worker may go on that waits for this one
abbrev pub gives_way : Change → Bool
gives_way Freed = true
gives_way Ended = true
gives_way _ = false

-- the worker has looked for a task
abbrev pub looks : Change → Bool
looks Claimed = true
looks _ = false

-- ---- the board

-- all tasks are done, or a fault is kept
abbrev pub is_over : {D : Type 0} → BoardState D → Bool
is_over b = list_all is_done (state b.run).tasks || is_some b.fault

-- a task stands in the pool: under prio, one that is ready and that nobody was given
abbrev pub has_ready : {D : Type 0} → BoardState D → Bool
has_ready b = list_any (has_fitting 18446744073709551615) b.pool.queues

-- ---- notes

-- for each worker its note, where it rests
abbrev pub RestNotes : Type 0
RestNotes = List (Option Note)

abbrev pub note : RestReason → ℕ → Bool → Note
note reason bell due = record { reason = reason; bell = bell; is_due = due }

-- a worker rests that is to look again
abbrev pub is_due : Option Note → Bool
is_due None = false
is_due (Some n) = n.is_due

abbrev pub is_for_want_of_a_task : RestReason → Bool
is_for_want_of_a_task Idle = true
is_for_want_of_a_task Blocked = false

-- a worker rests, and no task was ready when it looked
abbrev pub rests_idle : Option Note → Bool
rests_idle None = false
rests_idle (Some n) = is_for_want_of_a_task n.reason

-- a worker rests that waits for another one
abbrev pub rests_blocked : Option Note → Bool
rests_blocked None = false
rests_blocked (Some n) = not (is_for_want_of_a_task n.reason)

abbrev pub made_due : Option Note → Option Note
made_due = option_map (λ n. note n.reason n.bell true)

-- the note where all are made due, or those that wait for another worker
abbrev pub due_where : Bool → Option Note → Option Note
due_where all n = if all || rests_blocked n then made_due n else n

-- the first place behind this one at which it is so, or else the first of all
abbrev pub place_behind : ℕ → (Option Note → Bool) → RestNotes → Option ℕ
place_behind w p notes = option_or (option_map (λ k. w + 1 + k) (position p (drop (w + 1) notes))) (position p notes)

abbrev pub due_at : RestNotes → Option ℕ → RestNotes
due_at notes None = notes
due_at notes (Some k) = slice_set notes k (made_due (slice_index_or notes k None))

abbrev pub gone_at : RestNotes → Option ℕ → RestNotes
gone_at notes None = notes
gone_at notes (Some k) = slice_set notes k None

-- the bell of the note at this place
abbrev pub bell_at : RestNotes → ℕ → Option ℕ
bell_at notes k = option_map (λ n. n.bell) (slice_index_or notes k None)

-- ---- who is due

-- where the run is over all that rest are due, and where a worker gives way all that wait for another one
abbrev pub due_by : Bool → Bool → RestNotes → RestNotes
due_by over gives notes = if over || gives then map (due_where over) notes else notes

-- where a worker has looked and tasks are left that nobody was given, the first that rests for want of one is due
abbrev pub due_for_task : Bool → RestNotes → RestNotes
due_for_task left notes = if left then due_at notes (position rests_idle notes) else notes

-- the notes in a turn of the worker, which doesn't rest
abbrev pub due_in_turn : ℕ → Bool → Bool → Bool → RestNotes → RestNotes
due_in_turn w over gives left notes = due_for_task left (due_by over gives (slice_set notes w None))

-- ---- who is woken

-- the bell that is rung at the end of a turn of the worker, where one is due, and the notes that are left
abbrev pub woken : ℕ → RestNotes → Option ℕ
woken w notes = option_and_then (bell_at notes) (place_behind w is_due notes)

abbrev pub left_resting : ℕ → RestNotes → RestNotes
left_resting w notes = gone_at notes (place_behind w is_due notes)

-- at the end of a turn that did this, after which the run is over or not, and a task is ready or not
abbrev pub due_after : ℕ → Change → Bool → Bool → RestNotes → RestNotes
due_after w change over ready notes = due_in_turn w over (gives_way change) (looks change && ready) notes

abbrev pub wakes : ℕ → Change → Bool → Bool → RestNotes → Option ℕ
wakes w change over ready notes = woken w (due_after w change over ready notes)

abbrev pub noted : ℕ → Change → Bool → Bool → RestNotes → RestNotes
noted w change over ready notes = left_resting w (due_after w change over ready notes)

-- ---- who rests

-- a worker without a task rests for want of one, where none was ready
abbrev pub reason_of : Bool → Bool → RestReason
reason_of claimed ready = if claimed || ready then Blocked else Idle

-- a worker that rests without a task has looked for one
abbrev pub due_at_rest : ℕ → Bool → Bool → RestNotes → RestNotes
due_at_rest w claimed ready notes = due_in_turn w false false (not claimed && ready) notes

abbrev pub wakes_at_rest : ℕ → Bool → Bool → RestNotes → Option ℕ
wakes_at_rest w claimed ready notes = woken w (due_at_rest w claimed ready notes)

-- it is noted last, with its bell: its own turn never wakes it
abbrev pub noted_at_rest : ℕ → ℕ → Bool → Bool → RestNotes → RestNotes
noted_at_rest w bell claimed ready notes = slice_set (left_resting w (due_at_rest w claimed ready notes)) w (Some (note (reason_of claimed ready) bell false))
