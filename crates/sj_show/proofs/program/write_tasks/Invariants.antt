use Rattle.std.proofs.Common.{◌≡◌, ◌++◌, take}
use Rattle.std.specs.List.{enumerate_from, flat_map}
use Rattle.sj_show.specs.Program.{line_of_task}
use Rattle.sj_show.proofs.program.write_tasks.Given as goal

abbrev pub invariant-loop-number : goal.invariant-loop-number
invariant-loop-number l = l.text.items ≡ l.initial.text.items ++ flat_map line_of_task (enumerate_from 0 (take l.number l.tasks))
