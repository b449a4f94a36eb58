use Rattle.std.proofs.Common.{rules, ap, Option, None, Some, arith}
use Rattle.atomic_table.specs.Table.{Me}
use Rattle.sj_desk.specs.declared.view.View.{View}
use Rattle.sj_desk.specs.Turns.{FitsOpening}
use Rattle.sj_desk.proofs.Seats.{sits, tries_at, busy_seated, found_out, found_seated, found_fits}
use Rattle.sj_desk.proofs.desk.Desk.attempt.Goals as goal

pub compare_exchange-found-requires : goal.compare_exchange-found-requires
compare_exchange-found-requires g c =
    let s = sits _ _ _ _ _ c.self.inside.table.shared.key None _ _ c.seat.invariant c.seat.view_is c.self.view_is c.requires.of_this_desk c.requires.not_in_its_turn in
    (s.table, omega (arith, c.self.invariant.0), tries_at g.T.Keyed.row_of (FitsOpening g.T.Keyed.key g.T.Keyed.sound) c.self.inside.table.shared.key _ _ _ c.args.mark _ _ _ c.self.invariant.1 (λ e. omega (arith, c.requires.mark)) s.me_is)

pub invariant_of-seat : goal.invariant_of-seat
invariant_of-seat g c =
    let s = sits _ _ _ _ _ c.self.inside.table.shared.key None _ _ c.seat.invariant c.seat.view_is c.self.view_is c.requires.of_this_desk c.requires.not_in_its_turn in
    busy_seated _ _ _ _ c.self.inside.table.shared.key _ _ s.hears s.me_is (c.compare_exchange-found.ensures.2.busy c.if-found-ne-FREE.true)

pub exchange-requires : goal.exchange-requires
exchange-requires g c =
    let s = sits _ _ _ _ _ c.self.inside.table.shared.key None _ _ c.seat.invariant c.seat.view_is c.self.view_is c.requires.of_this_desk c.requires.not_in_its_turn in
    let f = c.compare_exchange-found.ensures.2.taken c.if-found-ne-FREE.false in
    (search rules, (Some f.value, found_out g.T.Keyed.row_of (FitsOpening g.T.Keyed.key g.T.Keyed.sound) c.self.inside.table.shared.key _ _ f))

pub invariant_of-seat-2 : goal.invariant_of-seat-2
invariant_of-seat-2 g c =
    let s = sits _ _ _ _ _ c.self.inside.table.shared.key None _ _ c.seat.invariant c.seat.view_is c.self.view_is c.requires.of_this_desk c.requires.not_in_its_turn in
    let f = c.compare_exchange-found.ensures.2.taken c.if-found-ne-FREE.false in
    found_seated g.T.Keyed.row_of (FitsOpening g.T.Keyed.key g.T.Keyed.sound) c.self.inside.table.shared.key _ _ _ _ _ _ _ s.hears s.me_is f c.exchange.ensures.3

pub returns-clause-sound : goal.returns-clause-sound
returns-clause-sound g c =
    let k = c.self.inside.table.shared.key in
    let s = sits _ _ _ _ _ k None _ _ c.seat.invariant c.seat.view_is c.self.view_is c.requires.of_this_desk c.requires.not_in_its_turn in
    let f = c.compare_exchange-found.ensures.2.taken c.if-found-ne-FREE.false in
    found_fits g.T.Keyed.row_of (FitsOpening g.T.Keyed.key g.T.Keyed.sound) k _ _ _ g.T.Keyed.sound f c.exchange.ensures.2
    (f.fitting k (ap (λ (m : Me (Option g.row.T.Denot) (View g.row.T.Denot)). m.0.opening) s.me_is)).1
