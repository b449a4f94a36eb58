use Rattle.std.proofs.Common.{◌≡◌, ◌∙◌, ◌++◌, ◌∷◌, [], ap, sym, arith, length, append_assoc}
use Rattle.sj_steal.specs.declared.account.Account.{Account}
use Rattle.sj_steal.specs.Facts.{StakeFacts}
use Rattle.sj_steal.proofs.Stakes.{merged_lanes, merged_parts, merged_some, merged_times, none_from, none_through}
use Rattle.sj_steal.proofs.lanes.merge.Goals as goal

pub gather-requires-clause-parts : goal.gather-requires-clause-parts
gather-requires-clause-parts c =
    let inv = c.loop-stake.invariant in
    merged_some c.args.lanes.now.items c.loop-stake.whole.items c.args.whole.now.items c.loop-stake.stakes.items c.pop.new.self.items c.args.stakes.items inv.rest c.len-k.result c.index_mut.result.now c.index_mut.result.now c.in-Some.stake
    c.index.result.now inv.of c.requires.of inv.all c.in-Some.ensures.items (omega (arith, c.len-k.ensures, c.pop.new.self.ok)) c.index_mut.ensures.value c.index.ensures inv.parts c.requires.some

pub loop-stake-preserved : goal.loop-stake-preserved
loop-stake-preserved c =
    let inv = c.loop-stake.invariant in
    let e = c.in-Some.ensures.items in
    let popped = c.pop.new.self.items in
    let x = c.in-Some.stake in
    let whole = c.loop-stake.whole.items in
    let stakes = c.loop-stake.stakes.items in
    let s = c.index_mut.result.now in
    let s' = c.gather.new.stake in
    let at : c.len-k.result ≡ length popped = omega (arith, c.len-k.ensures, c.pop.new.self.ok) in
    let lanes = c.args.lanes.now.items in
    record {
      rest = x ∷ inv.rest;
      all = sym (append_assoc popped (x ∷ []) inv.rest) ∙ ap (λ l. l ++ inv.rest) (sym e) ∙ inv.all;
      of = merged_lanes lanes whole c.args.whole.now.items stakes popped c.args.stakes.items inv.rest c.len-k.result s s' x c.index.result.now inv.of c.requires.of inv.all e at c.index_mut.ensures.value c.index.ensures c.gather.ensures.of;
      parts = merged_parts lanes whole c.args.whole.now.items stakes popped c.args.stakes.items inv.rest c.len-k.result s s' x c.index.result.now inv.of c.requires.of inv.all e at c.index_mut.ensures.value c.index.ensures inv.parts c.requires.one c.gather.ensures.both;
      put = λ t. merged_times lanes whole c.args.whole.now.items stakes popped c.args.stakes.items inv.rest c.len-k.result s s' x c.index.result.now inv.of c.requires.of inv.all e at c.index_mut.ensures.value c.index.ensures
          (λ (y : StakeFacts). y.account.put) (ap (λ (a : Account). a.put) c.gather.ensures.both) t _ (inv.put t);
      taken = λ t. merged_times lanes whole c.args.whole.now.items stakes popped c.args.stakes.items inv.rest c.len-k.result s s' x c.index.result.now inv.of c.requires.of inv.all e at c.index_mut.ensures.value c.index.ensures
          (λ (y : StakeFacts). y.account.taken) (ap (λ (a : Account). a.taken) c.gather.ensures.both) t _ (inv.taken t);
    }

pub returns-clause-put : goal.returns-clause-put
returns-clause-put c = λ t. omega (arith, c.loop-stake.invariant.put t, none_through (λ (x : StakeFacts). x.account.put) t c.loop-stake.stakes.items (omega (arith, c.loop-stake.stakes.ok, none_from _ c.in_default.ensures.variant.1)))

pub returns-clause-taken : goal.returns-clause-taken
returns-clause-taken c = λ t. omega (arith, c.loop-stake.invariant.taken t, none_through (λ (x : StakeFacts). x.account.taken) t c.loop-stake.stakes.items (omega (arith, c.loop-stake.stakes.ok, none_from _ c.in_default.ensures.variant.1)))
