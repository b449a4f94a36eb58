use Rattle.std.proofs.Common.{◌≡◌, ◌≢◌, ◌++◌, length}
use Rattle.std.specs.Prelude.{OnOk}
use Rattle.sj_base.specs.declared.ids.Worker.{Worker}
use Rattle.sj_board.specs.Board.{released_of}
use Rattle.sj_engine.specs.Turn.{IsWorkerOf}
use Rattle.sj_engine.proofs.shared_board.SharedBoard.take_released.Given as goal

-- the pool alone has changed, and of it what this worker has released: so many are in the list, and the others are left
abbrev pub invariant-loop-t : goal.invariant-loop-t
invariant-loop-t g l = record {
  pool : l.self ≡ record l.fn.self { pool = l.self.pool };
  others : (v : Worker) → v ≢ l.w → released_of l.self v ≡ released_of l.fn.self v;
  worker : IsWorkerOf l.self l.w;
  all : OnOk l.result (l.list.items ++ released_of l.self l.w ≡ l.fn.list.items ++ released_of l.fn.self l.w);
}

-- each turn of the loop leaves fewer
abbrev pub decreases-loop-t : goal.decreases-loop-t
decreases-loop-t g l = length (released_of l.self l.w)
