use Rattle.std.proofs.Common.{refl, arith}
use Rattle.sj_desk.specs.Turns.{FitsOpening}
use Rattle.sj_desk.proofs.Seats.{sits, hears_at, hearing_seated}
use Rattle.sj_desk.proofs.desk.Desk.listen.Goals as goal

pub load-count-requires : goal.load-count-requires
load-count-requires g c =
    let s = sits _ _ _ _ _ c.self.inside.table.shared.key _ _ _ c.seat.invariant c.seat.view_is c.self.view_is c.requires.of_this_desk refl in
    (s.table, omega (arith, c.self.invariant.0, c.word_of-word.ensures.inside), hears_at g.T.Keyed.row_of (FitsOpening g.T.Keyed.key g.T.Keyed.sound) c.self.inside.table.shared.key _ _ _ _ c.args.bell _ _ _ _ c.self.invariant.1 c.word_of-word.ensures.word s.me_is)

pub invariant_of-seat : goal.invariant_of-seat
invariant_of-seat g c =
    let s = sits _ _ _ _ _ c.self.inside.table.shared.key _ _ _ c.seat.invariant c.seat.view_is c.self.view_is c.requires.of_this_desk refl in
    hearing_seated _ _ c.args.bell s.left _ s.tally c.self.inside.table.shared.key _ _ _ c.word_of-word.ensures.word s.me_is c.load-count.ensures.2
