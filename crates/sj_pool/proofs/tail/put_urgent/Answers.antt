use Rattle.std.proofs.Common.{◌≡◌, [], arith}
use Rattle.std.proofs.lemmas.Grind.{common_steps}
use Rattle.sj_pool.specs.Chunk.{urgency_place}
use Rattle.sj_pool.proofs.Queues.{by_urgency-front, by_urgency-behind, put-in_tree, put-in_back, put-at}
use Rattle.sj_pool.proofs.tail.put_urgent.Goals as goal

pub urgency_place-place-requires : goal.urgency_place-place-requires
urgency_place-place-requires c =
    let o = by_urgency-behind c.args.tree c.args.last.now c.requires.by_urgency in
    grind (arith, common_steps)

pub put_by_urgency-requires-clause-by_urgency : goal.put_by_urgency-requires-clause-by_urgency
put_by_urgency-requires-clause-by_urgency c = by_urgency-front c.args.tree c.args.last.now c.requires.by_urgency

pub returns-then-goes_into_tree : goal.returns-then-goes_into_tree
returns-then-goes_into_tree c =
    let first : urgency_place c.args.entry c.args.last.now ≡ 0 = grind (arith, common_steps) in
    let p = put-in_tree c.args.entry c.args.tree c.args.last.now first in
    grind (arith, common_steps, p)

pub returns : goal.returns
returns c =
    let none : urgency_place c.args.entry c.args.last.now ≡ 0 → c.args.tree ≡ [] = λ h. grind (arith, common_steps) in
    let p = put-in_back c.args.entry c.args.tree c.args.last.now c.requires.by_urgency none in
    let at = put-at c.args.entry c.args.last.now in
    grind (arith, common_steps, p, at)
