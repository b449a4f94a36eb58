-- The loop over the tasks that are put into the pool.
use Rattle.sj_board.proofs.Words.{CanPutEach, drop, List, Option, Pooled, Program, Task, with_each, Worker, ℕ, ◌≡◌}

-- so many of the tasks were put, and the rest is to come
pub record IsPutting (p : Program) (by : Option Worker) (old now : Pooled) (ts : List Task) (i : ℕ) : Type 0 where
  pub left : with_each p by now (drop i ts) ≡ with_each p by old ts
  pub can : CanPutEach p by now (drop i ts)
