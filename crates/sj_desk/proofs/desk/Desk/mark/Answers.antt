use Rattle.std.proofs.Common.{None, arith}
use Rattle.sj_desk.specs.Turns.{FitsOpening}
use Rattle.sj_desk.proofs.Seats.{sits, marks_at, marked_seated}
use Rattle.sj_desk.proofs.desk.Desk.mark.Goals as goal

pub compare_exchange-requires : goal.compare_exchange-requires
compare_exchange-requires g c =
    let s = sits _ _ _ _ _ c.self.inside.table.shared.key None _ _ c.seat.invariant c.seat.view_is c.self.view_is c.requires.of_this_desk c.requires.not_in_its_turn in
    (s.table, omega (arith, c.self.invariant.0), marks_at g.T.Keyed.row_of (FitsOpening g.T.Keyed.key g.T.Keyed.sound) c.self.inside.table.shared.key _ _ _ _ _ _ c.self.invariant.1 s.me_is)

pub invariant_of-seat : goal.invariant_of-seat
invariant_of-seat g c =
    let s = sits _ _ _ _ _ c.self.inside.table.shared.key None _ _ c.seat.invariant c.seat.view_is c.self.view_is c.requires.of_this_desk c.requires.not_in_its_turn in
    marked_seated _ _ _ _ c.self.inside.table.shared.key _ _ _ s.hears s.me_is c.compare_exchange.ensures.2
