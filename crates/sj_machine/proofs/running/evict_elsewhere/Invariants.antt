use Rattle.sj_machine.proofs.Words.{evicted_at, get_or, length, Store, ℕ, ◌<◌, ◌≡◌, ◌≤◌}
use Rattle.sj_machine.proofs.running.evict_elsewhere.Given as goal

abbrev pub invariant-loop-k : goal.invariant-loop-k
invariant-loop-k l = record {
  every : length l.nodes.items ≡ length l.fn.nodes.items;
  done : (j : ℕ) (d : Store) → j < l.k → j < length l.fn.nodes.items → get_or l.nodes.items j d ≡ evicted_at l.n l.written j (get_or l.fn.nodes.items j d);
  rest : (j : ℕ) (d : Store) → l.k ≤ j → get_or l.nodes.items j d ≡ get_or l.fn.nodes.items j d;
}
