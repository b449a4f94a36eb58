-- How many events a trace has at most: three for each task of its program, and five for each operand.
use Rattle.std.specs.Prelude.{ℕ, ◌+◌, ◌*◌, ◌≤◌, List, length, sum_by}
use Rattle.sj_base.specs.declared.trace.Event.{Event}
use Rattle.sj_base.specs.declared.program.Program.{Program}

-- how many operands the tasks of a program have together
abbrev pub operands : Program → ℕ
operands p = sum_by (λ l. length l.accesses) p.tasks

-- a task is claimed, runs and ends; for an operand a copy comes by a move, which begins and ends, and later leaves by another
-- and a drop
abbrev pub HasAtMostThreePerTaskAndFivePerOperand : Program → List Event → Type 0
HasAtMostThreePerTaskAndFivePerOperand p trace = length trace ≤ 3 * length p.tasks + 5 * operands p
