use Rattle.std.proofs.Common.{◌∙◌, ◌<◌, ap, sym, Some, arith}
use Rattle.std.proofs.lemmas.List.Elements.{All-pop}
use Rattle.sj_desk.specs.Seats.{DeskFacts, IsWaiting}
use Rattle.sj_desk.specs.Turns.{FitsOpening}
use Rattle.sj_desk.proofs.Ends.{taken, none_without, gathered_first, gathered_more, joins_at, joined_idle, joined_rows}
use Rattle.sj_desk.proofs.desk.Desk.gather.Goals as goal

pub unreachable-requires : goal.unreachable-requires
unreachable-requires g c =
    let positive : 0 < c.args.self.now.seats = omega (arith, c.self.invariant.2, ap (λ (x : DeskFacts g.row.T.Denot). x.seats) c.self.view_is) in
    none_without c.args.self.now c.args.seats.items c.requires.all_its_seats positive (omega (arith, c.in_default.ensures.cases.0))

pub loop-seat-init : goal.loop-seat-init
loop-seat-init g c =
    let d = c.args.self.now in
    let waits = All-pop (IsWaiting d) _ _ (Some c.in-Some.first) c.in-Some.ensures.items c.requires.waiting in
    let t = taken _ _ _ _ _ _ d c.in-Some.first c.first.invariant c.first.view_is c.self.view_is waits.1.0 waits.1.1 in
    record {
      table = t.table;
      idle = t.idle;
      waiting = waits.0;
      gathered = gathered_first c.args.seats.items _ c.in-Some.first _ _ c.in-Some.ensures.items t.rows t.row;
    }

pub join_seat-requires : goal.join_seat-requires
join_seat-requires g c =
    let d = c.args.self.now in
    let waits = All-pop (IsWaiting d) _ _ (Some c.in-Some-pop.seat) c.in-Some-pop.ensures.items c.loop-seat.invariant.waiting in
    let t = taken _ _ _ _ _ _ d c.in-Some-pop.seat c.seat.invariant c.seat.view_is c.self.view_is waits.1.0 waits.1.1 in
    let table = ap (λ (x : DeskFacts g.row.T.Denot). x.table) (sym c.self.view_is) in (
      c.loop-seat.invariant.table ∙ table,
      t.table ∙ table,
      ap (λ m. m.1) t.idle.1,
      omega (arith, c.self.invariant.0),
      joins_at g.T.Keyed.row_of (FitsOpening g.T.Keyed.key g.T.Keyed.sound) c.self.inside.table.shared.key _ d c.self.view_is _ _ _ _ _ _ c.loop-seat.invariant.idle t.idle,
    )

pub loop-seat-preserved : goal.loop-seat-preserved
loop-seat-preserved g c =
    let d = c.args.self.now in
    let waits = All-pop (IsWaiting d) _ _ (Some c.in-Some-pop.seat) c.in-Some-pop.ensures.items c.loop-seat.invariant.waiting in
    let t = taken _ _ _ _ _ _ d c.in-Some-pop.seat c.seat.invariant c.seat.view_is c.self.view_is waits.1.0 waits.1.1 in
    record {
      table = c.join_seat.ensures.0 ∙ c.loop-seat.invariant.table;
      idle = joined_idle d _ _ c.seat.inside.ticket.me.0 c.loop-seat.invariant.idle c.join_seat.ensures.2;
      waiting = waits.0;
      gathered = gathered_more _ _ _ c.in-Some-pop.seat _ _ _ c.loop-seat.invariant.gathered c.in-Some-pop.ensures.items (joined_rows _ _ c.seat.inside.ticket.me.0 _ t.rows c.join_seat.ensures.2) t.row;
    }
