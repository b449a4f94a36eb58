use Rattle.std.proofs.Common.{rules, ◌∙◌, ◌≢◌, ap, is_some, None, arith}
use Rattle.atomic_table.specs.Table.{Me}
use Rattle.sj_desk.specs.Turns.{FitsOpening}
use Rattle.sj_desk.proofs.Seats.{sits, rests_at, rested_seated, has_rung, heard_seen, none_heard}
use Rattle.sj_desk.proofs.desk.Desk.quiet.Goals as goal

pub unreachable-requires : goal.unreachable-requires
unreachable-requires g c = none_heard c.seat.inside.heard c.in_default.is (ap is_some (heard_seen _ _ _ _ _ c.seat.invariant c.seat.view_is) ∙ c.requires.heard)

pub load-count-requires : goal.load-count-requires
load-count-requires g c =
    let s = sits _ _ _ _ _ c.self.inside.table.shared.key None _ _ c.seat.invariant c.seat.view_is c.self.view_is c.requires.of_this_desk c.requires.not_in_its_turn in
    (s.table, omega (arith, c.self.invariant.0, c.word_of-word.ensures.inside), rests_at g.T.Keyed.row_of (FitsOpening g.T.Keyed.key g.T.Keyed.sound) c.self.inside.table.shared.key _ _ _ _ c.in-Some.heard _ _ _ c.self.invariant.1 c.word_of-word.ensures.word (s.hears ∙ c.in-Some.is) s.me_is)

pub invariant_of-seat-2 : goal.invariant_of-seat-2
invariant_of-seat-2 g c =
    let s = sits _ _ _ _ _ c.self.inside.table.shared.key None _ _ c.seat.invariant c.seat.view_is c.self.view_is c.requires.of_this_desk c.requires.not_in_its_turn in
    let other : c.load-count.result ≢ c.in-Some.heard.count = search rules in
    let heard = ap (λ (m : Me _ _). m.0.tally.heard) s.me_is ∙ s.hears ∙ c.in-Some.is in
    rested_seated _ s.left s.tally c.self.inside.table.shared.key _ _ s.me_is (has_rung _ c.in-Some.heard _ _ _ heard other c.load-count.ensures.2)
