use Rattle.std.proofs.Common.{◌≡◌, ap, sym, ◌∙◌, ◌∷◌, [], ◌++◌, append-nil, arith}
use Rattle.std.specs.List.{range_with_len, flat_map}
use Rattle.std.proofs.lemmas.Int.{ints, to_z-of_z}
use Rattle.std.proofs.lemmas.Grind.{flat_map-append}
use Rattle.sj_plan.proofs.Lists.{range_more}
use Rattle.sj_plan.proofs.Windows.{table_row, table-rows}
use Rattle.sj_apps.specs.Generated.{weight, square}
use Rattle.sj_apps.proofs.paths.weights.Goals as goal

pub loop-i-preserved : goal.loop-i-preserved
loop-i-preserved c =
    let row = table_row (weight c.args.n c.args.seed) c.args.n in
    let pushed = c.in_ok-push_weights.ensures c.args.seed (grind (arith, ints, to_z-of_z)) in
    pushed ∙ ap (λ l. l ++ row c.loop-i.i) c.loop-i.invariant
    ∙ sym (ap (flat_map row) (range_more c.loop-i.i) ∙ flat_map-append row (range_with_len 0 c.loop-i.i) (c.loop-i.i ∷ []) ∙ ap (λ l. flat_map row (range_with_len 0 c.loop-i.i) ++ l) (append-nil (row c.loop-i.i)))

pub returns : goal.returns
returns c =
    let row = table_row (weight c.args.n c.args.seed) c.args.n in
    let all : c.loop-i.i ≡ c.args.n = omega arith in
    c.loop-i.invariant ∙ ap (λ k. flat_map row (range_with_len 0 k)) all ∙ table-rows (square c.args.n) (weight c.args.n c.args.seed)
