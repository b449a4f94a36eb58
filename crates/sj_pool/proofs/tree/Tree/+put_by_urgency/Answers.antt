use Rattle.std.proofs.Common.{rules, ◌≡◌, ◌++◌, IsTrue, arith, subst}
use Rattle.std.proofs.lemmas.Grind.{common_steps}
use Rattle.sj_pool.specs.Queue.{is_by_urgency}
use Rattle.sj_pool.proofs.Queues.{by_urgency-front, by_urgency-behind}
use Rattle.sj_pool.proofs.tree.Tree.+put_by_urgency.Goals as goal

pub put_by_urgency-requires : goal.put_by_urgency-requires
put_by_urgency-requires t c =
    let f = c.in-Some.fork.value in
    let e : c.args.self ≡ f.left ++ f.entries ++ f.right = search rules in
    let o = by_urgency-behind (f.left ++ f.entries) f.right (subst (λ q. IsTrue (is_by_urgency q)) e c.requires.by_urgency) in
    (grind (arith, common_steps), (search rules, search rules))

pub put_by_urgency-requires-then-goes_on-2 : goal.put_by_urgency-requires-then-goes_on-2
put_by_urgency-requires-then-goes_on-2 t c =
    let f = c.in-Some.fork.value in
    let e : c.args.self ≡ f.left ++ f.entries ++ f.right = search rules in
    let o = by_urgency-front f.left f.entries (by_urgency-front (f.left ++ f.entries) f.right (subst (λ q. IsTrue (is_by_urgency q)) e c.requires.by_urgency)) in
    (grind (arith, common_steps), (search rules, search rules))
