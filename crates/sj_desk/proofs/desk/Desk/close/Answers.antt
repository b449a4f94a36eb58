use Rattle.sj_desk.proofs.Ends.{has_rows, all_rows_left}
use Rattle.sj_desk.proofs.desk.Desk.close.Goals as goal

pub end-requires-clause-all_rows : goal.end-requires-clause-all_rows
end-requires-clause-all_rows g c = has_rows c.args.self c.args.seats.items _ c.gather-ticket.ensures.rows c.requires.all_its_seats

pub returns-clause-rows : goal.returns-clause-rows
returns-clause-rows g c = all_rows_left g.T.Keyed.row_of c.end.result c.args.seats.items _ c.gather-ticket.ensures.rows c.end.ensures.rows
