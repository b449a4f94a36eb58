-- Which lowered tasks conflict, and which are ready (StarPU Handbook: implicit data dependencies).
use Rattle.std.specs.Prelude.{◌≡◌, ℕ, ◌<◌, ◌≤◌, ◌⊎◌, Option, Some, None, List, [], ◌∷◌, map, length, Contains, slice_get, option_and_then}
use Rattle.std.specs.List.{flat_map, range_with_len}
use Rattle.sj_base.specs.declared.ids.Cell.{Cell}
use Rattle.sj_base.specs.declared.mode.Access.{Access}
use Rattle.sj_base.specs.declared.mode.Mode.TheVariants.{R, W, RW, Scratch, Redux, Commute as CommuteMode}
use Rattle.sj_base.specs.declared.program.Codelet.{Codelet}
use Rattle.sj_base.specs.declared.program.Program.{Program}
use Rattle.sj_deps.specs.declared.manner.Manner.{Manner}
use Rattle.sj_deps.specs.declared.manner.Usage.{Usage}
use Rattle.sj_deps.specs.declared.manner.Manner.TheVariants.{Read, Write, Commute, Contribute}

-- a cell that a task accesses, and how
abbrev pub usage : Manner → ℕ → Usage
usage m c = record { cell = c; manner = m }

-- the first partial copy of a cell
abbrev pub first_copy : Program → ℕ → Option Cell
first_copy P c = option_and_then (λ info. info.partials) (slice_get P.cells c)

-- the partial copies of a cell, one for each worker
abbrev pub copies_of : Program → ℕ → List ℕ
copies_of P c = elim (first_copy P c) [ None ↦ [] | Some first ↦ range_with_len first.0 P.workers ]

-- what an operand of a codelet counts as: REDUX is an access to each partial copy of its cell, and SCRATCH is none
abbrev pub usages_of : Program → Codelet → Access → List Usage
usages_of P k a =
    elim a.mode [ R ↦ usage Read a.cell.0 ∷ [] | W ↦ usage Write a.cell.0 ∷ [] | RW ↦ usage Write a.cell.0 ∷ [] | Scratch ↦ [] | Redux ↦ map (usage Contribute) (copies_of P a.cell.0) | CommuteMode ↦ usage (Commute k) a.cell.0 ∷ [] ]

-- the cells that a task accesses, operand by operand
abbrev pub usages : Program → ℕ → List Usage
usages P t = elim (slice_get P.tasks t) [ None ↦ [] | Some task ↦ flat_map (usages_of P task.codelet) task.accesses ]

-- task t accesses cell c in the manner m
abbrev pub Uses : Program → ℕ → ℕ → Manner → Type 0
Uses P t c m = Contains (usages P t) (usage m c)

-- task v stands between t and u
abbrev pub IsBetween : ℕ → ℕ → ℕ → Type 0
IsBetween t u v = ((t < v) × (v < u)) ⊎ ((u < v) × (v < t))

-- the manners in which several tasks may write one cell in any order
abbrev pub IsShared : Manner → Type 0
IsShared Read = ⊥
IsShared Write = ⊥
IsShared (Commute k) = Unit {0}
IsShared Contribute = Unit {0}

-- for cell c, t and u are members of one commuting group or of one REDUX phase: both access it in one
-- shared manner, and no task between them accesses it in another
pub record SameGroup (P : Program) (t u c : ℕ) (m : Manner) : Type 0 where
  pub shared : IsShared m
  pub first : Uses P t c m
  pub second : Uses P u c m
  pub alike : (v : ℕ) (n : Manner) → IsBetween t u v → Uses P v c n → n ≡ m

-- t and u share a cell that not both only read, and for it they are members of no one group or phase
pub record Conflict (P : Program) (t u : ℕ) : Type 0 where
  pub cell : ℕ
  pub manner_of_t : Manner
  pub manner_of_u : Manner
  pub first : Uses P t cell manner_of_t
  pub second : Uses P u cell manner_of_u
  pub written : ¬ ((manner_of_t ≡ Read) × (manner_of_u ≡ Read))
  pub apart : (m : Manner) → ¬ SameGroup P t u cell m

-- task t of P isn't done, and each earlier task that conflicts with it is
pub record Ready (P : Program) (done : List ℕ) (t : ℕ) : Type 0 where
  pub task : t < length P.tasks
  pub waiting : ¬ Contains done t
  pub earlier : (u : ℕ) → u < t → Conflict P u t → Contains done u

-- a program whose dependencies can be counted: each access names a cell, and a task accesses a cell in one manner
pub record HasDependencies (P : Program) : Type 0 where
  pub tasks : length P.tasks ≤ 4194304
  pub cells : (t c : ℕ) (m : Manner) → Uses P t c m → c < length P.cells
  pub manners : (t c : ℕ) (m n : Manner) → Uses P t c m → Uses P t c n → m ≡ n
