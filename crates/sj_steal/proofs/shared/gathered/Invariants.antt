use Rattle.std.proofs.Common.{◌≡◌, ◌+◌, ◌<◌, ℕ, All, length, sum_by, get_or}
use Rattle.sj_base.specs.declared.ids.Task.{Task}
use Rattle.sj_steal.specs.Account.{times}
use Rattle.sj_steal.specs.Facts.{PassFacts, lanes_of, parts_of, pool, put_through, taken_through}
use Rattle.sj_steal.proofs.shared.gathered.Given as goal

-- each pass that is left has one part of each queue, and what the others had is in one stake in each
abbrev pub invariant-loop-pass : goal.invariant-loop-pass
invariant-loop-pass l = record {
  of : lanes_of l.whole.items ≡ l.lanes.items;
  parts : All (λ parts. parts + length l.passes.items ≡ 256) (parts_of l.whole.items);
  fewer : length l.passes.items < l.workers;
  each : All (λ p. p.shared ≡ pool l.fn.policy l.workers l.lanes.items) l.passes.items;
  numbers : (k : ℕ) (d : PassFacts) → k < length l.passes.items → (get_or l.passes.items k d).number ≡ k;
  put : (t : Task) → times t (put_through l.whole.items) + sum_by (λ p. times t p.put) l.passes.items ≡ sum_by (λ p. times t p.put) l.fn.passes.items;
  taken : (t : Task) → times t (taken_through l.whole.items) + sum_by (λ p. times t p.taken) l.passes.items ≡ sum_by (λ p. times t p.taken) l.fn.passes.items;
}

abbrev pub decreases-loop-pass : goal.decreases-loop-pass
decreases-loop-pass l = goal.left-loop-pass l
