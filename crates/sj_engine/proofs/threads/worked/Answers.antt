use Rattle.std.proofs.Common.{◌≡◌, ◌∙◌, ap, length, subst, sym}
use Rattle.sj_board.specs.Board.{BoardState}
use Rattle.sj_board.specs.BoardRow.{BoardKey}
use Rattle.sj_base.specs.declared.program.Program.{Program}
use Rattle.sj_engine.specs.Run.{AllStopped}
use Rattle.sj_engine.specs.Stage.{IsFreeRow, IsStoppedRow}
use Rattle.sj_engine.proofs.Posting.{each-seated, numbers-back, seats-of, stopped-back, waiting-back}
use Rattle.sj_engine.proofs.threads.worked.Goals as goal

pub work_all-seats-requires-clause-seats : goal.work_all-seats-requires-clause-seats
work_all-seats-requires-clause-seats g c κs within = seats-of c.args.desk IsFreeRow c.args.seats.items c.requires.free

pub work_all-seats-requires-clause-each : goal.work_all-seats-requires-clause-each
work_all-seats-requires-clause-each g c κs within = each-seated c.args.desk IsFreeRow c.args.seats.items c.args.posts.items c.requires.free

pub close-requires-clause-waiting : goal.close-requires-clause-waiting
close-requires-clause-waiting g c = waiting-back c.args.desk IsStoppedRow c.work_all-seats.result.items c.work_all-seats.ensures.seats

pub close-requires-clause-all_its_seats : goal.close-requires-clause-all_its_seats
close-requires-clause-all_its_seats g c = numbers-back c.args.desk c.work_all-seats.result.items c.work_all-seats.ensures.each

pub returns-clause-stopped : goal.returns-clause-stopped
returns-clause-stopped g c =
    let program : c.close.result.board.run.program ≡ c.args.program.now = ap (λ (k : BoardKey _). k.program) c.close.ensures.key ∙ c.requires.program in
    let staffed : length c.close.result.board.hands ≡ c.args.desk.seats = c.close.ensures.sound.board.board.inside.hands_agree.every_worker ∙ ap (λ (p : Program). p.workers) program ∙ sym c.requires.workers in
    subst (λ (b : BoardState _). AllStopped b.hands) (sym c.into_board.ensures) (stopped-back c.args.desk c.close.result c.work_all-seats.result.items c.work_all-seats.ensures.each c.work_all-seats.ensures.seats staffed c.close.ensures.rows)
