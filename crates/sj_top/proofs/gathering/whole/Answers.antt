use Rattle.std.proofs.Common.{◌≡◌, sym, ◌∙◌, arith}
use Rattle.std.proofs.lemmas.Bool.{and_parts}
use Rattle.std.proofs.lemmas.Bool.Decides.{Decides-eqb}
use Rattle.sj_top.specs.Gathering.{array_found, no_delivery}
use Rattle.sj_top.proofs.Placing.{assembled-whole}
use Rattle.sj_top.proofs.gathering.whole.Goals as goal

pub returns-then-eq : goal.returns-then-eq
returns-then-eq c =
    let tests = and_parts _ _ (sym c.eq.ensures ∙ c.if-eq.true) in
    let rows : c.dims.result.rows ≡ c.args.dims.rows = (Decides-eqb c.dims.result.rows c.args.dims.rows).0 tests.0 in
    let cols : c.dims.result.cols ≡ c.args.dims.cols = (Decides-eqb c.dims.result.cols c.args.dims.cols).0 tests.1 in
    let same : c.dims.result ≡ c.args.dims = λ i. record { rows = rows i; cols = cols i } in
    assembled-whole (array_found c.args.handed.now) c.args.dims c.args.deliveries.now no_delivery c.tile-tile.result.now (omega (arith, c.in-len1.len_at_least, c.in-len1.len_below)) c.tile-tile.ensures (sym c.dims.ensures.dims ∙ same) c.dims.ensures.whole c.requires.within
