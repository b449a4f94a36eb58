use Rattle.std.proofs.Common.{◌+◌, ◌++◌, ◌∷◌, [], ap, sym, refl, ◌∙◌, map}
use Rattle.std.specs.List.{range_with_len}
use Rattle.std.proofs.lemmas.List.{append_assoc}
use Rattle.std.proofs.lemmas.List.FromFn.{map-range_with_len_more}
use Rattle.sj_deps.specs.declared.manner.Manner.TheVariants.{Contribute}
use Rattle.sj_deps.specs.Conflict.{usage}
use Rattle.low_tests.proofs.usages.add_range.Goals as goal

pub loop-n-preserved : goal.loop-n-preserved
loop-n-preserved c =
    let more = map-range_with_len_more (usage Contribute) c.args.first c.loop-n.n (c.args.first + c.loop-n.n) refl in
    c.in_ok-add_usage.ensures ∙ ap (λ xs. xs ++ usage Contribute (c.args.first + c.loop-n.n) ∷ []) c.loop-n.invariant ∙ append_assoc c.args.usages.now.items (map (usage Contribute) (range_with_len c.args.first c.loop-n.n)) _ ∙ ap (λ xs. c.args.usages.now.items ++ xs) (sym more)
