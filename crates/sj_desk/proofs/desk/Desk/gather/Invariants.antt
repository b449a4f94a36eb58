use Rattle.std.proofs.Common.{◌≡◌, All}
use Rattle.sj_desk.specs.Seats.{IsWaiting}
use Rattle.sj_desk.specs.Views.{IsOutOfTurn, Gathered}
use Rattle.sj_desk.proofs.desk.Desk.gather.Given as goal

-- the ticket answers for the rows of the seats that were taken from the list
abbrev pub invariant-loop-seat : goal.invariant-loop-seat
invariant-loop-seat g l = record {
  table : l.ticket.table_id ≡ l.self.table;
  idle : IsOutOfTurn l.self l.ticket.me.0.rows l.ticket.me;
  waiting : All (IsWaiting l.self) l.seats.items;
  gathered : Gathered l.fn.seats.items l.seats.items l.ticket.me.0.rows;
}

abbrev pub decreases-loop-seat : goal.decreases-loop-seat
decreases-loop-seat g l = goal.left-loop-seat g l
