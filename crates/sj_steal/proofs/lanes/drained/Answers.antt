use Rattle.std.proofs.Common.{◌≡◌, ◌∙◌, ◌∷◌, [], ◌++◌, ap, sym, arith, length, length-append}
use Rattle.std.proofs.lemmas.List.{length-map, map-append}
use Rattle.sj_steal.specs.Facts.{StakeFacts, lanes_of, parts_of}
use Rattle.sj_steal.proofs.Stakes.{all_but_last, none_from, none_through, parts_popped, times_last}
use Rattle.sj_steal.proofs.lanes.drained.Goals as goal

pub loop-lane-smaller : goal.loop-lane-smaller
loop-lane-smaller g c = omega (arith, ap length c.in-Some.ensures.items, length-append c.pop.new.self.items (c.in-Some.lane ∷ []))

pub loop-lane-preserved : goal.loop-lane-preserved
loop-lane-preserved g c =
    let inv = c.loop-lane.invariant in
    let popped = c.pop-in-Some.new.self.items in
    let s = c.in-Some-pop.stake in
    let e = c.in-Some-pop.ensures.items in
    record {
      of = all_but_last (lanes_of popped) c.pop.new.self.items s.lane c.in-Some.lane (sym (map-append (λ (x : StakeFacts). x.lane) popped (s ∷ [])) ∙ ap lanes_of (sym e) ∙ inv.of ∙ c.in-Some.ensures.items);
      parts = parts_popped (λ n. n ≡ 256) c.loop-lane.stakes.items popped s e inv.parts;
      even = λ t. omega (
        arith,
        inv.even t,
        times_last (λ (x : StakeFacts). x.account.put) t c.loop-lane.stakes.items popped s e,
        times_last (λ (x : StakeFacts). x.account.taken) t c.loop-lane.stakes.items popped s e,
        c.in_ok-drain.ensures t,
      );
    }

pub returns : goal.returns
returns g c = λ t.
    let inv = c.loop-lane.invariant in
    let none : length c.loop-lane.stakes.items ≡ 0 = omega (arith, ap length inv.of, length-map c.loop-lane.stakes.items (λ (x : StakeFacts). x.lane), c.loop-lane.lanes.ok, none_from _ c.in_default.ensures.variant.1) in
    omega (arith, inv.even t, none_through (λ (x : StakeFacts). x.account.put) t c.loop-lane.stakes.items none, none_through (λ (x : StakeFacts). x.account.taken) t c.loop-lane.stakes.items none)
