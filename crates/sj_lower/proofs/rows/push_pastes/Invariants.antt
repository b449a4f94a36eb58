use Rattle.sj_lower.proofs.Words.{cells_from, map, paste_row, pastes_of, ◌++◌, ◌≡◌}
use Rattle.std.proofs.Common.{take}
use Rattle.sj_lower.proofs.rows.push_pastes.Given as goal

-- the tasks of the pastes so far
abbrev pub invariant-loop-paste : goal.invariant-loop-paste
invariant-loop-paste l =
    l.tasks.items ≡ l.initial.tasks.items ++ map (paste_row (cells_from l.old.first l.old.parts) (cells_from l.new.first l.new.parts) l.line) (take l.paste-index (pastes_of l.fn.dims l.old.parts l.new.parts))
