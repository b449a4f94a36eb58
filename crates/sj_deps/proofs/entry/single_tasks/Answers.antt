use Rattle.std.proofs.Common.{◌≡◌, ◌∷◌, ◌++◌, [], ap, sym, ◌∙◌, arith, rules, List}
use Rattle.std.proofs.lemmas.Grind.{common_steps}
use Rattle.std.proofs.lemmas.List.FromFn.{map-range_with_len_more}
use Rattle.sj_base.specs.declared.ids.Task.{Task}
use Rattle.sj_base.specs.Ids.{task}
use Rattle.sj_deps.proofs.entry.single_tasks.Goals as goal

pub loop-t-preserved : goal.loop-t-preserved
loop-t-preserved c =
    let pushed : c.push.new.self.items ≡ c.loop-t.lists.items ++ (task c.loop-t.t ∷ []) ∷ [] = first_of (search rules, grind (arith, common_steps)) in
    pushed ∙ ap (λ (xs : List (List Task)). xs ++ (task c.loop-t.t ∷ []) ∷ []) c.loop-t.invariant ∙ sym (map-range_with_len_more (λ t. task t ∷ []) 0 c.loop-t.t c.loop-t.t (omega arith))
