use Rattle.std.proofs.Common.{◌≡◌, ◌≤◌, map, vec_capacity}
use Rattle.std.specs.List.{range_with_len}
use Rattle.sj_desk.specs.Seats.{new_seat}
use Rattle.sj_desk.specs.Views.{IsDealer}
use Rattle.sj_desk.proofs.desk.Desk.deal.Given as goal

-- the seats below the number are dealt, and the dealer answers for the other rows
abbrev pub invariant-loop-number : goal.invariant-loop-number
invariant-loop-number g l = record {
  table : l.dealer.table_id ≡ l.self.table;
  dealer : IsDealer l.self l.number l.dealer.me;
  seats : l.self.seats ≡ l.seats;
  list : l.list.items ≡ map (new_seat l.self) (range_with_len 0 l.number);
  room : l.seats ≤ vec_capacity l.list;
}
