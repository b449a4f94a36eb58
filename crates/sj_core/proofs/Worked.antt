-- Needs, first fit and victims on small programs, with the numbers worked out by hand.
use Rattle.sj_core.proofs.Words.{[], Access, AtNode, Block, Cell, cell, CellInfo, Claim, codelet_of, Eager, End, Event, footprint, GemmThree, Kernel, List, Lowered, Machine, map, Mode, nat_eq, None, not, OnDisk, Option, option_map, Place, place, pos, Program, R, Redux, refl, room, Run, Scratch, Some, Sum, swap_need, task, victims, worker, ℕ, ℤ, ◌∷◌, ◌≡◌}

-- ---- words in which worked jobs and their events are told

-- the first node and the first disk
abbrev pub node : Place
node = AtNode (record { 0 = 0 })

abbrev pub disk : Place
disk = OnDisk (record { 0 = 0 })

abbrev pub access : Mode → ℕ → Access
access mode n = record { mode = mode; cell = cell n }

abbrev pub columns : ℕ → Option Cell → CellInfo
columns n partials = record { root = record { 0 = 0 }; dims = record { rows = 1; cols = n }; partials = partials }

abbrev pub a_task : Kernel → List ℤ → List Access → Lowered
a_task k args accesses = record { codelet = codelet_of k; args = args; accesses = accesses; line = record { 0 = 2 }; priority = pos 0 }

abbrev pub a_machine : ℕ → List ℕ → List ℕ → Machine
a_machine workers nodes disks = record { workers = workers; nodes = nodes; disks = disks; policy = Eager }

-- the events of a task that needs no move
abbrev pub turn : ℕ → ℕ → List Event → List Event
turn n w rest = Claim (task n) (worker w) ∷ Run (task n) (worker w) ∷ End (task n) (worker w) ∷ rest

-- ---- needs, first fit and victims on small programs, with the numbers worked out by hand

-- a vector of four, a scalar under reduction, and its copies for two workers
abbrev reduction : Program
reduction = record { cells = columns 4 None ∷ columns 1 (Some (record { 0 = 2 })) ∷ columns 1 None ∷ columns 1 None ∷ []; tasks = a_task Sum [] (access R 0 ∷ access Redux 1 ∷ []) ∷ a_task GemmThree [] (access R 0 ∷ access R 0 ∷ access Scratch 1 ∷ []) ∷ []; deliveries = []; workers = 2 }

-- 56 + 32 + 32 + 32
pub swap_is : swap_need reduction ≡ 152
swap_is = refl

abbrev disk_and_position : Block → ℕ × ℕ
disk_and_position b = (b.disk.0, b.position)

abbrev placed : List ℕ → Option (List (ℕ × ℕ))
placed sizes = option_map (map disk_and_position) (place reduction sizes)

-- on one disk the blocks lie one behind another, and one byte less is too few; of several, each block takes the first disk with
-- room, also one that an earlier block passed over
pub places_are : (placed (152 ∷ []) ≡ Some ((0, 0) ∷ (0, 56) ∷ (0, 88) ∷ (0, 120) ∷ [])) × (placed (151 ∷ []) ≡ None)
    × (placed (40 ∷ 60 ∷ 64 ∷ []) ≡ Some ((1, 0) ∷ (0, 0) ∷ (2, 0) ∷ (2, 32) ∷ []))
places_are = (refl, refl, refl)

-- a REDUX operand counts as one cell; a cell that is named twice counts once, and scratch beside it
pub footprints_are : (footprint reduction (record { 0 = 0 }) ≡ 40) × (footprint reduction (record { 0 = 1 }) ≡ 40)
footprints_are = (refl, refl)

-- a node without a worker has no room for a task
pub rooms_are : (room (a_machine 1 (48 ∷ 1000 ∷ []) []) ≡ 48) × (room (a_machine 2 (48 ∷ 1000 ∷ []) []) ≡ 1000)
rooms_are = (refl, refl)

-- entries of 8, 16, 24 and 32 bytes, most recent first, the third pinned; 4 bytes are free: no victim, the least recent, past the
-- pinned one, all that aren't pinned, and too few
abbrev evicted : ℕ → Option (List ℕ)
evicted need = victims (λ bytes. bytes) (λ bytes. not (nat_eq bytes 24)) (8 ∷ 16 ∷ 24 ∷ 32 ∷ []) 4 need

pub evictions_are : (evicted 4 ≡ Some []) × (evicted 5 ≡ Some (32 ∷ [])) × (evicted 37 ≡ Some (16 ∷ 32 ∷ []))
    × (evicted 60 ≡ Some (8 ∷ 16 ∷ 32 ∷ [])) × (evicted 61 ≡ None)
evictions_are = (refl, refl, refl, refl, refl)
