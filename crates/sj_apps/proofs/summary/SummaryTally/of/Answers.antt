use Rattle.std.proofs.Common.{rules, ◌≡◌, ◌<◌, ◌^◌, ◌++◌, ◌∷◌, [], ℤ, pos, List, ap, ◌∙◌, sym, w64, of_z, to_z, subst, arith, get_or, take, length}
use Rattle.std.proofs.lemmas.List.{take_more}
use Rattle.sj_apps.specs.Summary.{AreTallied}
use Rattle.sj_apps.proofs.Tallying.{infs_within}
use Rattle.sj_apps.proofs.summary.SummaryTally.of.Goals as goal

pub with-tally-requires : goal.with-tally-requires
with-tally-requires c =
    let fits : length c.args.elements.now < 2 ^ 64 = search rules in
    omega (arith, fits, c.loop-element-test.true, c.loop-element.invariant.infs_are, infs_within c.args.elements.now c.loop-element.element-index)

pub loop-element-preserved : goal.loop-element-preserved
loop-element-preserved c =
    let xs = c.args.elements.now in
    let i = c.loop-element.element-index in
    let t = c.with-tally.result in
    let same : to_z w64 (of_z w64 (get_or xs i (pos 0))) ≡ get_or xs i (pos 0) = search rules in
    subst (λ (ys : List ℤ). AreTallied ys t.infs t.sum t.lowest t.highest) (ap (λ (x : ℤ). take i xs ++ x ∷ []) same ∙ sym (take_more xs i (pos 0) c.loop-element-test.true)) (c.with-tally.ensures (take i xs) c.loop-element.invariant)
