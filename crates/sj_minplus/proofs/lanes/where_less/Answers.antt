use Rattle.std.proofs.Common.{ℕ, if◌then◌else◌, map, to_z, of_z, ap, subst, sym, ◌∙◌}
use Rattle.std.specs.Int.{w64}
use Rattle.std.specs.Int.Signed.{lt_z}
use lib.Lanes.{sel_l}
use Rattle.std.proofs.lemmas.Simd.{tops_compared}
use Rattle.sj_base.specs.Array.{at}
use Rattle.sj_minplus.specs.Lanes.{AreLanes}
use Rattle.sj_minplus.proofs.Vectors.{bits_of, at_selected, lanes_selected, lane_back}
use Rattle.sj_minplus.proofs.lanes.where_less.Goals as goal

pub returns-clause-lanes : goal.returns-clause-lanes
returns-clause-lanes c =
    let t = λ (a b : ℕ). lt_z (to_z w64 a) (to_z w64 b) in
    subst (λ ms. AreLanes (map (to_z w64) (sel_l ms (bits_of c.args.yes) (bits_of c.args.no)))) (sym (tops_compared w64 t (bits_of c.args.x) (bits_of c.args.y))) (lanes_selected t c.args.x c.args.y c.args.yes c.args.no c.requires.x c.requires.y c.requires.yes c.requires.no)

pub returns-clause-each : goal.returns-clause-each
returns-clause-each c = λ i h.
    let t = λ (a b : ℕ). lt_z (to_z w64 a) (to_z w64 b) in
    ap (λ ms. at (map (to_z w64) (sel_l ms (bits_of c.args.yes) (bits_of c.args.no))) i) (tops_compared w64 t (bits_of c.args.x) (bits_of c.args.y))
    ∙ at_selected t c.args.x c.args.y c.args.yes c.args.no c.requires.x c.requires.y c.requires.yes c.requires.no i h
    ∙ ap (λ z. if lt_z z (to_z w64 (of_z w64 (at c.args.y i))) then at c.args.yes i else at c.args.no i) (lane_back c.args.x c.requires.x i h)
    ∙ ap (λ z. if lt_z (at c.args.x i) z then at c.args.yes i else at c.args.no i) (lane_back c.args.y c.requires.y i h)
