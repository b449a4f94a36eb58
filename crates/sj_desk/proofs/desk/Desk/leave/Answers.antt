use Rattle.std.proofs.Common.{rules, ◌∙◌, ap, sym, Some, arith}
use Rattle.sj_desk.specs.Seats.{DeskFacts}
use Rattle.sj_desk.specs.Turns.{FitsOpening}
use Rattle.sj_desk.proofs.Seats.{sits, leaves_at, put_in, left_seated, others_kept}
use Rattle.sj_desk.proofs.desk.Desk.leave.Goals as goal

pub swap-requires : goal.swap-requires
swap-requires g c =
    let k = c.self.inside.table.shared.key in
    let kept = others_kept g.T.Keyed.row_of _ _ _ c.seat.inside.ticket.me.0 k _ _ c.args.value c.seat.view_is c.self.view_is c.requires.other_rows in
    let s = sits _ _ _ _ _ k (Some kept.found) _ _ c.seat.invariant c.seat.view_is c.self.view_is c.requires.of_this_desk kept.is in
    let key = c.requires.key ∙ ap (λ (d : DeskFacts g.row.T.Denot). g.T.Keyed.key d.opening) (sym c.self.view_is) in (
      search rules,
      omega (arith, c.self.invariant.0),
      leaves_at g.T.Keyed.row_of (FitsOpening g.T.Keyed.key g.T.Keyed.sound) k _ _ _ s.left kept.found c.args.value s.tally _ c.self.invariant.1 (key, c.requires.sound) kept.others
          (put_in _ s.left kept.found c.args.value s.tally k _ _ s.me_is c.exchange-out.ensures.3),
    )

pub invariant_of-seat : goal.invariant_of-seat
invariant_of-seat g c =
    let k = c.self.inside.table.shared.key in
    let kept = others_kept g.T.Keyed.row_of _ _ _ c.seat.inside.ticket.me.0 k _ _ c.args.value c.seat.view_is c.self.view_is c.requires.other_rows in
    let s = sits _ _ _ _ _ k (Some kept.found) _ _ c.seat.invariant c.seat.view_is c.self.view_is c.requires.of_this_desk kept.is in
    left_seated _ _ s.left kept.found c.args.value s.tally k _ _ _ s.hears s.me_is c.exchange-out.ensures.3 c.swap.ensures.2
