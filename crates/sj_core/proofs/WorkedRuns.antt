-- Worked jobs whose runs are legal and complete: a sum, vectors that don't fit their node together, a reduction.
use Rattle.sj_core.proofs.Words.{[], Add, arith, arrays_of, cell, Claim, Conflict, Deliver, disk_of, Drop, End, Event, given, HasSwapFor, IsComplete, IsLegal, IsMachineFor, IsShared, List, lit<, lit≤, Load, Machine, Manner, mark, May, Move, Moved, None, order, out, pos, Program, R, refl, Run, RW, state_of, task, Uses, Valid, vector, victims_of, W, worker, Write, writes, ℕ, ◌∷◌, ◌≡◌}
use Rattle.std.specs.Int.{int_wrap}
use Rattle.std.proofs.lemmas.Bool.{false≢true}
use Rattle.sj_core.proofs.{Readiness.Ready-earlier, Sharing.write_isn't_read, Testing.legal-from, Worked.a_machine, Worked.a_task, Worked.access, Worked.columns, Worked.disk, Worked.node, Worked.turn}
use Rattle.sj_core.proofs.Reduction

-- ---- a sum

-- x: 1 2 3, y: 10 20 30, y becomes y + x, y is printed
abbrev pub sum : Program
sum = record {
  cells = columns 3 None ∷ columns 3 None ∷ [];
  tasks = a_task Load (pos 1 ∷ pos 2 ∷ pos 3 ∷ []) (access W 0 ∷ []) ∷ a_task Load (pos 10 ∷ pos 20 ∷ pos 30 ∷ []) (access W 1 ∷ []) ∷ a_task Add [] (access R 0 ∷ access RW 1 ∷ []) ∷ a_task Deliver [] (access R 1 ∷ []) ∷ [];
  deliveries = (record { task = task 3; root = record { 0 = 1 }; place = (0, 0); print = 0 }) ∷ [];
  workers = 1;
}

-- a node of 64 bytes and a disk
abbrev pub machine : Machine
machine = a_machine 1 (64 ∷ []) (4096 ∷ [])

abbrev sum-trace : List Event
sum-trace = turn 0 0 (turn 1 0 (turn 2 0 (turn 3 0 [])))

pub sum-legal : IsLegal sum machine sum-trace
sum-legal = legal-from sum machine sum-trace refl

-- it is complete; what is printed is y + x; at the end the printed cell, which was written twice, holds that array on the node
pub sum-delivers : IsComplete (state_of sum machine sum-trace) × (given out sum (task 3) ≡ vector (pos 11 ∷ pos 22 ∷ pos 33 ∷ []))
    × (mark (state_of sum machine sum-trace) (cell 1) (record { 0 = 0 }) ≡ Valid)
    × (arrays_of out sum machine sum-trace (cell 1) node ≡ given out sum (task 3))
    × (writes (state_of sum machine sum-trace) (cell 1) ≡ 2)
unfolding int_wrap
sum-delivers = (refl, refl, refl, refl, refl)

-- the second load writes what the sum updates, and neither commutes
load_conflicts : Conflict sum 1 2
load_conflicts = record { cell = 1; manner_of_t = Write; manner_of_u = Write; first = (0, lit< tt, refl); second = (1, lit< tt, refl); written = λ both. (let e = both.0 in write_isn't_read e); apart = λ m g. unshared m g.shared g.first }
  where
    unshared : (m : Manner) → IsShared m → Uses sum 1 1 m → ⊥
    unshared m h u = search arith

-- the sum may not be claimed while the second load isn't done
pub sum-waits : ¬ May sum machine (state_of sum machine (turn 0 0 [])) (Claim (task 2) (worker 0))
sum-waits c = false≢true (Ready-earlier sum (state_of sum machine (turn 0 0 [])) (task 2) c.ready (task 1) (lit< tt) load_conflicts)

-- ---- vectors of which two fit the node, and three don't

-- a: 1 2 3, b: 4 5 6, c: 7 8 9, and a is printed
abbrev pub three : Program
three = record {
  cells = columns 3 None ∷ columns 3 None ∷ columns 3 None ∷ [];
  tasks = a_task Load (pos 1 ∷ pos 2 ∷ pos 3 ∷ []) (access W 0 ∷ []) ∷ a_task Load (pos 4 ∷ pos 5 ∷ pos 6 ∷ []) (access W 1 ∷ []) ∷ a_task Load (pos 7 ∷ pos 8 ∷ pos 9 ∷ []) (access W 2 ∷ []) ∷ a_task Deliver [] (access R 0 ∷ []) ∷ [];
  deliveries = [];
  workers = 1;
}

pub is_its_machine : IsMachineFor three machine
is_its_machine = record { workers = refl; some_worker = lit≤ tt; few_workers = lit≤ tt; some_node = lit≤ tt; few_nodes = lit≤ tt; few_disks = lit≤ tt }

-- the disk takes all three; where there is none, no cell has a disk
pub disks_are : HasSwapFor three machine × (disk_of three (a_machine 1 (64 ∷ []) []) (cell 0) ≡ None)
disks_are = (record { blocks_fit = refl }, refl)

-- the cell's one copy is written to the disk and dropped from the node
abbrev evict : ℕ → List Event → List Event
evict c rest = Move (cell c) node disk ∷ Moved (cell c) node disk ∷ Drop (cell c) (record { 0 = 0 }) ∷ rest

-- the loads, of which the third evicts a vector, and the claim of the delivery
abbrev loads : List Event → List Event
loads rest = turn 0 0 (turn 1 0 (Claim (task 2) (worker 0) ∷ evict 0 (Run (task 2) (worker 0) ∷ End (task 2) (worker 0) ∷ Claim (task 3) (worker 0) ∷ rest)))

abbrev three-trace : List Event
three-trace = loads (evict 1 (Move (cell 0) disk node ∷ Moved (cell 0) disk node ∷ Run (task 3) (worker 0) ∷ End (task 3) (worker 0) ∷ []))

pub three-legal : IsLegal three machine three-trace
three-legal = legal-from three machine three-trace refl

-- it is complete; the delivery evicts the least recent vector, and its own comes first; the vector that comes back from the disk
-- is the one that was loaded
pub three-evicts : IsComplete (state_of three machine three-trace)
    × (victims_of (state_of three machine (loads [])) (worker 0) ≡ cell 1 ∷ [])
    × (order (state_of three machine (loads [])) (record { 0 = 0 }) ≡ cell 0 ∷ cell 2 ∷ [])
    × (mark (state_of three machine three-trace) (cell 0) (record { 0 = 0 }) ≡ Valid)
    × (arrays_of out three machine three-trace (cell 0) node ≡ vector (pos 1 ∷ pos 2 ∷ pos 3 ∷ []))
three-evicts = (refl, refl, refl, refl, refl)

-- the delivery may not run while its victim is leaving
pub three-waits : ¬ May three machine (state_of three machine (loads [])) (Run (task 3) (worker 0))
three-waits r = false≢true r.room

-- ---- a reduction by two workers

abbrev two_workers : Machine
two_workers = a_machine 2 (64 ∷ []) (4096 ∷ [])

-- the second worker contributes, while the phase is open the first one runs the task with scratch
abbrev reduction-trace : List Event
reduction-trace = turn 0 0 (turn 1 1 (turn 2 0 (turn 3 0 (turn 4 1 (turn 5 1 (turn 6 0 (turn 7 0 (turn 8 0 (turn 9 1 [])))))))))

pub reduction-legal : IsLegal Reduction.job two_workers reduction-trace
reduction-legal = legal-from Reduction.job two_workers reduction-trace refl

-- complete, and 5 + 2, also where a worker other than the first contributed
pub reduction-delivers : IsComplete (state_of Reduction.job two_workers reduction-trace)
    × (given out Reduction.job (task 9) ≡ vector (pos 7 ∷ []))
    × (mark (state_of Reduction.job two_workers reduction-trace) (cell 2) (record { 0 = 0 }) ≡ Valid)
    × (arrays_of out Reduction.job two_workers reduction-trace (cell 2) node ≡ vector (pos 7 ∷ []))
unfolding int_wrap
reduction-delivers = (refl, refl, refl, refl)
