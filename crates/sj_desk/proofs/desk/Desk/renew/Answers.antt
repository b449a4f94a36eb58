use Rattle.std.proofs.Common.{rules, Some, arith}
use Rattle.sj_desk.specs.Turns.{FitsOpening}
use Rattle.sj_desk.proofs.Seats.{sits, renews_at, put_in, renewed_out, renewed_seated, others_kept}
use Rattle.sj_desk.proofs.desk.Desk.renew.Goals as goal

pub load-requires : goal.load-requires
load-requires g c =
    let k = c.self.inside.table.shared.key in
    let kept = others_kept g.T.Keyed.row_of _ _ _ c.seat.inside.ticket.me.0 k _ _ c.args.value c.seat.view_is c.self.view_is c.requires.other_rows in
    let s = sits _ _ _ _ _ k (Some kept.found) _ _ c.seat.invariant c.seat.view_is c.self.view_is c.requires.of_this_desk kept.is in (
      search rules,
      omega (arith, c.self.invariant.0),
      renews_at g.T.Keyed.row_of (FitsOpening g.T.Keyed.key g.T.Keyed.sound) k _ _ _ 271 s.left kept.found c.args.value s.tally _ c.self.invariant.1 (λ e. omega (arith, e)) kept.others
          (put_in _ s.left kept.found c.args.value s.tally k _ _ s.me_is c.exchange-empty.ensures.3),
    )

pub exchange-back-requires : goal.exchange-back-requires
exchange-back-requires g c =
    let k = c.self.inside.table.shared.key in
    let kept = others_kept g.T.Keyed.row_of _ _ _ c.seat.inside.ticket.me.0 k _ _ c.args.value c.seat.view_is c.self.view_is c.requires.other_rows in
    let s = sits _ _ _ _ _ k (Some kept.found) _ _ c.seat.invariant c.seat.view_is c.self.view_is c.requires.of_this_desk kept.is in
    (search rules, (Some c.args.value, renewed_out _ s.left kept.found c.args.value s.tally k _ _ _ s.me_is c.exchange-empty.ensures.3 c.load.ensures.2))

pub invariant_of-seat : goal.invariant_of-seat
invariant_of-seat g c =
    let k = c.self.inside.table.shared.key in
    let kept = others_kept g.T.Keyed.row_of _ _ _ c.seat.inside.ticket.me.0 k _ _ c.args.value c.seat.view_is c.self.view_is c.requires.other_rows in
    let s = sits _ _ _ _ _ k (Some kept.found) _ _ c.seat.invariant c.seat.view_is c.self.view_is c.requires.of_this_desk kept.is in
    renewed_seated _ _ s.left kept.found c.args.value s.tally k _ _ _ _ s.hears s.me_is c.exchange-empty.ensures.3 c.load.ensures.2 c.exchange-back.ensures.3
