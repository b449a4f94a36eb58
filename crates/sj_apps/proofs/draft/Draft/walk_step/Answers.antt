use Rattle.std.proofs.Common.{◌∷◌, [], ◌++◌, map}
use Rattle.std.specs.List.{flat_map}
use Rattle.sj_apps.specs.Generated.{diagonal, beside, below, aparts_in_row, others}
use Rattle.sj_apps.proofs.Telling.{tells-more}
use Rattle.sj_apps.proofs.draft.Draft.walk_step.Goals as goal

pub returns-clause-tells : goal.returns-clause-tells
returns-clause-tells c =
    let rows = map (beside c.args.k) (others c.args.p c.args.k) in
    let columns = map (below c.args.k) (others c.args.p c.args.k) in
    let apart = flat_map (aparts_in_row c.args.p c.args.k) (others c.args.p c.args.k) in
    tells-more c.args.self.now c.diagonal.new.self c.aparts.new.self (diagonal c.args.k ∷ []) (rows ++ (columns ++ apart)) c.in_ok-diagonal.ensures.tells
    (tells-more c.diagonal.new.self c.besides.new.self c.aparts.new.self rows (columns ++ apart) c.in_ok-besides.ensures.tells
    (tells-more c.besides.new.self c.belows.new.self c.aparts.new.self columns apart c.in_ok-belows.ensures.tells c.in_ok-aparts.ensures.tells))
