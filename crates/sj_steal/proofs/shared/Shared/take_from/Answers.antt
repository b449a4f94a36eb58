use Rattle.std.proofs.Common.{◌≡◌, ◌∙◌, ◌<◌, ap, sym, arith, length}
use Rattle.std.proofs.lemmas.List.{length-map}
use Rattle.sj_steal.specs.Facts.{StakeFacts, SharedFacts, PassFacts}
use Rattle.sj_steal.proofs.Stakes.{keeps_taken, lane_at, some_part, still_of, take_empty, take_in_order, take_none, take_some}
use Rattle.sj_steal.proofs.shared.Shared.take_from.Goals as goal

pub take-requires-clause-parts : goal.take-requires-clause-parts
take-requires-clause-parts g c =
    let i = c.pass.inside in
    let lanes = ap (λ (q : PassFacts). q.shared.lanes) c.pass.view_is ∙ ap (λ (q : SharedFacts). q.lanes) c.requires.of in
    let inside : c.args.k < length i.stakes.items = omega (arith, c.requires.lane, ap length lanes, length-map i.stakes.items (λ (x : StakeFacts). x.lane)) in
    some_part i.policy i.number i.workers i.stakes.items c.args.k c.index_mut.result.now c.pass.invariant inside c.index_mut.ensures.value (omega arith)

pub invariant_of-pass : goal.invariant_of-pass
invariant_of-pass g c =
    let i = c.pass.inside in
    let lanes = ap (λ (q : PassFacts). q.shared.lanes) c.pass.view_is ∙ ap (λ (q : SharedFacts). q.lanes) c.requires.of in
    let inside : c.args.k < length i.stakes.items = omega (arith, c.requires.lane, ap length lanes, length-map i.stakes.items (λ (x : StakeFacts). x.lane)) in
    keeps_taken i.policy i.number i.workers i.stakes.items c.args.k c.index_mut.result.now c.pass.invariant inside c.index_mut.ensures.value c.take.result c.take.new.stake c.take.ensures.some c.take.ensures.none

pub returns : goal.returns
returns g c =
    let i = c.pass.inside in
    let lanes = ap (λ (q : PassFacts). q.shared.lanes) c.pass.view_is ∙ ap (λ (q : SharedFacts). q.lanes) c.requires.of in
    let inside : c.args.k < length i.stakes.items = omega (arith, c.requires.lane, ap length lanes, length-map i.stakes.items (λ (x : StakeFacts). x.lane)) in
    let s = c.index_mut.result.now in
    let t = c.take.new.stake in
    let shared = ap (λ (q : PassFacts). q.shared) c.pass.view_is ∙ c.requires.of in
    let lane = c.take.ensures.of ∙ sym (lane_at i.stakes.items c.self.inside.lanes.items c.args.k s c.index.result.now (lanes ∙ ap (λ (q : SharedFacts). q.lanes) (sym c.self.view_is)) inside c.index_mut.ensures.value c.index.ensures) in
    record {
      of = still_of i.policy i.number i.workers i.stakes.items c.args.k s c.pass.invariant inside c.index_mut.ensures.value t c.args.pass.now c.args.self.now lane c.pass.view_is c.requires.of;
      number = ap (λ (q : PassFacts). q.number) c.pass.view_is;
      some = take_some i.policy i.number i.workers i.stakes.items c.args.k s c.pass.invariant inside c.index_mut.ensures.value t lane c.args.pass.now c.pass.view_is c.take.result c.take.ensures.some;
      order = take_in_order i.policy i.number i.workers i.stakes.items c.args.k s c.pass.invariant inside c.index_mut.ensures.value t lane c.args.pass.now c.pass.view_is c.take.result _ (sym (ap (λ (q : SharedFacts). q.policy) shared)) c.take.ensures.some;
      none = take_none i.policy i.number i.workers i.stakes.items c.args.k s c.pass.invariant inside c.index_mut.ensures.value t lane c.args.pass.now c.pass.view_is c.take.result c.take.ensures.none;
      empty = take_empty i.policy i.number i.workers i.stakes.items c.args.k s c.pass.invariant inside c.index_mut.ensures.value t lane c.args.pass.now c.pass.view_is c.take.result _ (sym (ap (λ (q : SharedFacts). q.workers) shared)) c.take.ensures.empty;
    }
