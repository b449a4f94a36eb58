use Rattle.std.proofs.Common.{◌≡◌, ◌<◌, ◌≤◌, ℕ, None, get_or, length}
use Rattle.sj_engine.specs.Resting.{due_where}
use Rattle.sj_engine.proofs.sleepers.call.Given as goal

-- the notes before the place are made due, and the others are as they were
abbrev pub invariant-loop-k : goal.invariant-loop-k
invariant-loop-k l = record {
  every : length l.notes.items ≡ length l.fn.notes.items;
  done : (i : ℕ) → i < l.k → get_or l.notes.items i None ≡ due_where l.all (get_or l.fn.notes.items i None);
  rest : (i : ℕ) → l.k ≤ i → get_or l.notes.items i None ≡ get_or l.fn.notes.items i None;
}
