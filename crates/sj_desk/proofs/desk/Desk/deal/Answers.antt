use Rattle.std.proofs.Common.{rules, refl, ◌∙◌, ◌<◌, ap, None, length, arith}
use Rattle.std.proofs.lemmas.List.FromFn.{length-map-range_with_len}
use Rattle.sj_desk.specs.Seats.{new_seat}
use Rattle.sj_desk.specs.Views.{no_tally, opening_of}
use Rattle.sj_desk.specs.Turns.{FitsOpening}
use Rattle.sj_desk.proofs.Ends.{deals_at, dealer_next, dealt_me, dealt_facts, dealt_list}
use Rattle.sj_desk.proofs.desk.Desk.deal.Goals as goal

pub split_seat-ticket-requires : goal.split_seat-ticket-requires
split_seat-ticket-requires g c =
    let below : c.loop-number.number < c.args.self.now.seats = omega (arith, c.loop-number-test.true, c.loop-number.invariant.seats) in
    (search rules, omega (arith, c.self.invariant.0), deals_at g.T.Keyed.row_of (FitsOpening g.T.Keyed.key g.T.Keyed.sound) c.self.inside.table.shared.key _ _ c.self.view_is _ c.loop-number.number _ below c.loop-number.invariant.dealer)

pub invariant_of-push_reserved : goal.invariant_of-push_reserved
invariant_of-push_reserved g c =
    let below : c.loop-number.number < c.args.self.now.seats = omega (arith, c.loop-number-test.true, c.loop-number.invariant.seats) in
    record {
      opening = opening_of c.args.self.now;
      left = c.args.self.now.opening;
      found = None;
      tally = no_tally;
      hears = refl;
      me_is = dealt_me c.args.self.now c.loop-number.number _ _ below c.loop-number.invariant.dealer c.split_seat-ticket.ensures.4;
    }

pub push_reserved-requires : goal.push_reserved-requires
push_reserved-requires g c = omega (arith, c.loop-number-test.true, c.loop-number.invariant.room, ap (λ l. length l) c.loop-number.invariant.list, length-map-range_with_len (new_seat c.args.self.now) 0 c.loop-number.number)

pub loop-number-preserved : goal.loop-number-preserved
loop-number-preserved g c =
    let below : c.loop-number.number < c.args.self.now.seats = omega (arith, c.loop-number-test.true, c.loop-number.invariant.seats) in
    let me = dealt_me c.args.self.now c.loop-number.number _ _ below c.loop-number.invariant.dealer c.split_seat-ticket.ensures.4 in
    record {
      table = search rules;
      dealer = dealer_next c.args.self.now c.loop-number.number _ _ below c.loop-number.invariant.dealer c.split_seat-ticket.ensures.2;
      seats = c.loop-number.invariant.seats;
      list = dealt_list c.args.self.now c.loop-number.number _ _ _ c.loop-number.invariant.list c.push_reserved.ensures.items
          (dealt_facts c.args.self.now _ c.loop-number.number _ (c.split_seat-ticket.ensures.3 ∙ c.loop-number.invariant.table) me);
      room = omega (arith, c.loop-number.invariant.room, c.push_reserved.ensures.capacity);
    }
