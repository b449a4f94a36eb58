-- A test of programs whose dependencies can be counted.
use Rattle.std.specs.Prelude.{◌≡◌, ℕ, ◌<◌, List, length, All}
use Rattle.sj_base.specs.declared.program.Program.{Program}
use Rattle.sj_deps.specs.declared.manner.Usage.{Usage}
use Rattle.sj_deps.specs.Conflict.{usages}

-- each of these accesses of one cell with u is in its manner
abbrev pub Agrees : List Usage → Usage → Type 0
Agrees us u = All (λ v. v.cell ≡ u.cell → v.manner ≡ u.manner) us

-- each access of task t names a cell, and those of one cell are in one manner
pub record IsCountable (P : Program) (t : ℕ) : Type 0 where
  pub cells : All (λ u. u.cell < length P.cells) (usages P t)
  pub manners : All (Agrees (usages P t)) (usages P t)
