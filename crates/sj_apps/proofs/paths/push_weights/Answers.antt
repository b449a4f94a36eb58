use Rattle.std.proofs.Common.{◌≡◌, ◌+◌, ap, sym, ◌∙◌, ◌∷◌, [], ◌++◌, map, append_assoc, append-nil, arith, List, ℤ, to_z, of_z, w64}
use Rattle.std.proofs.lemmas.Int.{ints, to_z-of_z}
use Rattle.std.specs.List.{range_with_len}
use Rattle.std.proofs.lemmas.List.FromFn.{map-range_with_len_more}
use Rattle.sj_apps.specs.Generated.{weight}
use Rattle.sj_apps.proofs.paths.push_weights.Goals as goal

pub loop-j-init : goal.loop-j-init
loop-j-init c = λ seed e. sym (append-nil c.args.values.now.items)

pub loop-j-preserved : goal.loop-j-preserved
loop-j-preserved c = λ seed e.
    let f = weight c.args.n seed c.args.i in
    let more : map f (range_with_len 0 (c.loop-j.j + 1)) ≡ map f (range_with_len 0 c.loop-j.j) ++ f c.loop-j.j ∷ [] = map-range_with_len_more f 0 c.loop-j.j c.loop-j.j (omega arith) in
    let before = c.loop-j.invariant seed e in
    let item = c.weight.ensures seed e in
    let joined = append_assoc c.args.values.now.items (map f (range_with_len 0 c.loop-j.j)) (f c.loop-j.j ∷ []) in
    let whole : to_z w64 (of_z w64 c.weight.result) ≡ c.weight.result = grind (arith, ints, to_z-of_z) in
    c.in_ok-push.ensures.items ∙ ap (λ (l : List ℤ). l ++ to_z w64 (of_z w64 c.weight.result) ∷ []) before
    ∙ ap (λ z. (c.args.values.now.items ++ map f (range_with_len 0 c.loop-j.j)) ++ z ∷ []) (whole ∙ item)
    ∙ joined ∙ ap (λ l. c.args.values.now.items ++ l) (sym more)
