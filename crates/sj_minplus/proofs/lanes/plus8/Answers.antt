use Rattle.sj_base.specs.Array.{at}
use Rattle.sj_minplus.proofs.Vectors.{passed, lanes_passed, lane_fits, lane_plus}
use Rattle.sj_minplus.proofs.lanes.plus8.Goals as goal

pub differences-room-requires : goal.differences-room-requires
differences-room-requires c = record { x = lanes_passed _ c.all-greatest.ensures.lanes; y = lanes_passed _ c.requires.a }

pub differences-floor-requires : goal.differences-floor-requires
differences-floor-requires c = record { x = lanes_passed _ c.all-least.ensures.lanes; y = lanes_passed _ c.requires.a }

pub sums-sum-requires : goal.sums-sum-requires
sums-sum-requires c = record { x = lanes_passed _ c.where_less-kept.ensures.lanes; y = lanes_passed _ c.requires.a }

pub where_less-high-requires : goal.where_less-high-requires
where_less-high-requires c = record { x = lanes_passed _ c.differences-room.ensures.lanes; y = lanes_passed _ c.requires.b; yes = lanes_passed _ c.differences-room.ensures.lanes; no = lanes_passed _ c.requires.b }

pub where_less-low-requires : goal.where_less-low-requires
where_less-low-requires c = record { x = lanes_passed _ c.requires.b; y = lanes_passed _ c.differences-floor.ensures.lanes; yes = lanes_passed _ c.differences-floor.ensures.lanes; no = lanes_passed _ c.requires.b }

pub where_less-kept-requires : goal.where_less-kept-requires
where_less-kept-requires c = record { x = lanes_passed _ c.requires.a; y = lanes_passed _ c.all-zero.ensures.lanes; yes = lanes_passed _ c.where_less-low.ensures.lanes; no = lanes_passed _ c.where_less-high.ensures.lanes }

pub where_less-known-requires : goal.where_less-known-requires
where_less-known-requires c = record { x = lanes_passed _ c.all-greatest.ensures.lanes; y = lanes_passed _ c.requires.a; yes = lanes_passed _ c.all-inf.ensures.lanes; no = lanes_passed _ c.sums-sum.ensures.lanes }

pub where_less-requires : goal.where_less-requires
where_less-requires c = record { x = lanes_passed _ c.all-greatest.ensures.lanes; y = lanes_passed _ c.requires.b; yes = lanes_passed _ c.all-inf.ensures.lanes; no = lanes_passed _ c.where_less-known.ensures.lanes }

pub returns-clause-lanes : goal.returns-clause-lanes
returns-clause-lanes c = lanes_passed _ c.where_less.ensures.lanes

pub returns-clause-sums : goal.returns-clause-sums
returns-clause-sums c = λ i h.
    let top = c.all-greatest.ensures.each i h in
    let end = c.all-inf.ensures.each i h in
    let bottom = c.all-least.ensures.each i h in
    let none = c.all-zero.ensures.each i h in
    let room = rw (passed _ c.all-greatest.ensures.lanes, passed _ c.requires.a) at (c.differences-room.ensures.each i h) in
    let floor = rw (passed _ c.all-least.ensures.lanes, passed _ c.requires.a) at (c.differences-floor.ensures.each i h) in
    let high = rw (passed _ c.differences-room.ensures.lanes, passed _ c.requires.b) at (c.where_less-high.ensures.each i h) in
    let low = rw (passed _ c.requires.b, passed _ c.differences-floor.ensures.lanes) at (c.where_less-low.ensures.each i h) in
    let kept = rw (passed _ c.requires.a, passed _ c.all-zero.ensures.lanes, passed _ c.where_less-low.ensures.lanes, passed _ c.where_less-high.ensures.lanes) at (c.where_less-kept.ensures.each i h) in
    let sum = rw (passed _ c.where_less-kept.ensures.lanes, passed _ c.requires.a) at (c.sums-sum.ensures.each i h) in
    let known = rw (passed _ c.all-greatest.ensures.lanes, passed _ c.requires.a, passed _ c.all-inf.ensures.lanes, passed _ c.sums-sum.ensures.lanes) at (c.where_less-known.ensures.each i h) in
    let result = rw (passed _ c.all-greatest.ensures.lanes, passed _ c.requires.b, passed _ c.all-inf.ensures.lanes, passed _ c.where_less-known.ensures.lanes) at (c.where_less.ensures.each i h) in
    rw (passed c.where_less.result c.where_less.ensures.lanes)
    (lane_plus (at c.args.a i) (at c.args.b i) (at c.differences-room.result i) (at c.differences-floor.result i) (at c.where_less-high.result i) (at c.where_less-low.result i) (at c.where_less-kept.result i) (at c.sums-sum.result i) (at c.where_less-known.result i) (at c.where_less.result i) (record {
      room_is = rw top at room;
      floor_is = rw bottom at floor;
      high_is = high;
      low_is = low;
      kept_is = rw none at kept;
      sum_is = sum;
    }) (rw (top, end) at known) (rw (top, end) at result) (lane_fits c.args.a c.requires.a i h) (lane_fits c.args.b c.requires.b i h))
