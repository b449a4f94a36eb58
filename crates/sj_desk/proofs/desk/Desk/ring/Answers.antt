use Rattle.std.proofs.Common.{refl, arith}
use Rattle.sj_desk.specs.Turns.{FitsOpening}
use Rattle.sj_desk.proofs.Seats.{sits, rings_at, rung_seated}
use Rattle.sj_desk.proofs.desk.Desk.ring.Goals as goal

pub fetch_add-requires : goal.fetch_add-requires
fetch_add-requires g c =
    let s = sits _ _ _ _ _ c.self.inside.table.shared.key _ _ _ c.seat.invariant c.seat.view_is c.self.view_is c.requires.of_this_desk refl in
    (s.table, omega (arith, c.self.invariant.0, c.word_of-word.ensures.inside), rings_at g.T.Keyed.row_of (FitsOpening g.T.Keyed.key g.T.Keyed.sound) c.self.inside.table.shared.key _ _ _ _ c.args.bell _ _ _ _ c.self.invariant.1 c.word_of-word.ensures.word s.me_is)

pub invariant_of-seat : goal.invariant_of-seat
invariant_of-seat g c =
    let s = sits _ _ _ _ _ c.self.inside.table.shared.key _ _ _ c.seat.invariant c.seat.view_is c.self.view_is c.requires.of_this_desk refl in
    rung_seated _ _ _ s.left _ s.tally c.self.inside.table.shared.key _ _ s.hears s.me_is c.fetch_add.ensures.2
