use Rattle.std.proofs.Common.{◌≡◌, ◌∙◌, ◌<◌, ◌++◌, ◌∷◌, [], ap, sym, arith, length, map}
use Rattle.std.proofs.lemmas.List.{length-map, map-append, take_more}
use Rattle.sj_steal.specs.Facts.{StakeFacts, new_stake}
use Rattle.sj_steal.proofs.Stakes.{dealt_more, part_to_deal}
use Rattle.sj_steal.proofs.lanes.dealt.Goals as goal

pub deal-requires-clause-parts : goal.deal-requires-clause-parts
deal-requires-clause-parts c = part_to_deal c.args.rest.now.items c.loop-k.rest.items c.loop-k.k c.index_mut.result.now c.loop-k.invariant.left
    (omega (arith, c.loop-k-test.true, c.len-k-end.ensures, c.args.lanes.now.ok, ap length c.requires.of, length-map c.args.rest.now.items (λ (x : StakeFacts). x.lane))) c.index_mut.ensures.value c.requires.parts

pub loop-k-preserved : goal.loop-k-preserved
loop-k-preserved c =
    let inv = c.loop-k.invariant in
    let k = c.loop-k.k in
    let lanes = c.args.lanes.now.items in
    let inside : k < length lanes = omega (arith, c.loop-k-test.true, c.len-k-end.ensures, c.args.lanes.now.ok) in
    record {
      left = dealt_more c.args.rest.now.items c.loop-k.rest.items k c.index_mut.result.now _ inv.left (omega (arith, inside, ap length c.requires.of, length-map c.args.rest.now.items (λ (x : StakeFacts). x.lane)))
          c.index_mut.ensures.value c.deal.ensures.left;
      new = c.in_ok-push.ensures.items ∙ (λ i. inv.new i ++ (c.deal.ensures.right ∙ ap (new_stake 1) c.index.ensures) i ∷ []) ∙ sym (ap (map (new_stake 1)) (take_more lanes k c.index.result.now inside) ∙ map-append (new_stake 1) _ _);
    }
