use Rattle.std.proofs.Common.{◌≡◌, ◌∙◌, ◌<◌, ap, sym, arith, length}
use Rattle.sj_steal.specs.Facts.{SharedFacts, PassFacts}
use Rattle.sj_pool.specs.Pool.{home}
use Rattle.sj_steal.proofs.Stakes.{home_below, keeps_put, lane_at, put_err, put_ok, some_part, still_of}
use Rattle.sj_steal.proofs.shared.Shared.put.Goals as goal

pub put-requires-clause-parts : goal.put-requires-clause-parts
put-requires-clause-parts g c =
    let i = c.pass.inside in
    let same = ap (λ (q : PassFacts). q.shared.policy) c.pass.view_is ∙ ap (λ (q : SharedFacts). q.policy) (c.requires.of ∙ sym c.self.view_is) in
    let here : c.home-own.result ≡ home i.policy i.number = c.home-own.ensures ∙ ap (λ p. home p i.number) (sym same) in
    let inside : c.home-own.result < length i.stakes.items = omega (arith, here, home_below i.policy i.number i.workers c.pass.invariant.worker, c.pass.invariant.count) in
    some_part i.policy i.number i.workers i.stakes.items c.home-own.result c.index_mut.result.now c.pass.invariant inside c.index_mut.ensures.value (omega arith)

pub invariant_of-pass : goal.invariant_of-pass
invariant_of-pass g c =
    let i = c.pass.inside in
    let same = ap (λ (q : PassFacts). q.shared.policy) c.pass.view_is ∙ ap (λ (q : SharedFacts). q.policy) (c.requires.of ∙ sym c.self.view_is) in
    let here : c.home-own.result ≡ home i.policy i.number = c.home-own.ensures ∙ ap (λ p. home p i.number) (sym same) in
    let inside : c.home-own.result < length i.stakes.items = omega (arith, here, home_below i.policy i.number i.workers c.pass.invariant.worker, c.pass.invariant.count) in
    keeps_put i.policy i.number i.workers i.stakes.items c.home-own.result c.index_mut.result.now c.pass.invariant inside c.index_mut.ensures.value c.put.result c.put.new.stake c.args.t here c.put.ensures.ok c.put.ensures.err

pub returns : goal.returns
returns g c =
    let i = c.pass.inside in
    let same = ap (λ (q : PassFacts). q.shared.policy) c.pass.view_is ∙ ap (λ (q : SharedFacts). q.policy) (c.requires.of ∙ sym c.self.view_is) in
    let here : c.home-own.result ≡ home i.policy i.number = c.home-own.ensures ∙ ap (λ p. home p i.number) (sym same) in
    let inside : c.home-own.result < length i.stakes.items = omega (arith, here, home_below i.policy i.number i.workers c.pass.invariant.worker, c.pass.invariant.count) in
    let s = c.index_mut.result.now in
    let t = c.put.new.stake in
    let lanes = ap (λ (q : PassFacts). q.shared.lanes) c.pass.view_is ∙ ap (λ (q : SharedFacts). q.lanes) (c.requires.of ∙ sym c.self.view_is) in
    let lane = c.put.ensures.of ∙ sym (lane_at i.stakes.items c.self.inside.lanes.items c.home-own.result s c.index.result.now lanes inside c.index_mut.ensures.value c.index.ensures) in
    record {
      of = still_of i.policy i.number i.workers i.stakes.items c.home-own.result s c.pass.invariant inside c.index_mut.ensures.value t c.args.pass.now c.args.self.now lane c.pass.view_is c.requires.of;
      number = ap (λ (q : PassFacts). q.number) c.pass.view_is;
      ok = put_ok i.policy i.number i.workers i.stakes.items c.home-own.result s c.pass.invariant inside c.index_mut.ensures.value t lane c.args.pass.now c.pass.view_is c.put.result c.args.t here c.put.ensures.ok;
      err = put_err i.policy i.number i.workers i.stakes.items c.home-own.result s c.pass.invariant inside c.index_mut.ensures.value t lane c.args.pass.now c.pass.view_is c.put.result c.put.ensures.err;
    }
