use Rattle.std.proofs.Common.{◌≡◌, refl, ap, ◌∙◌, arith}
use Rattle.sj_codelet.specs.Equations.{after_turns, matrix}
use Rattle.sj_minplus.specs.Turns.{column_turn}
use Rattle.sj_minplus.proofs.Turns.{turn_more}
use Rattle.sj_minplus.proofs.Naturals.{column_natural}
use Rattle.sj_minplus.proofs.ways.fwcol.Goals as goal

pub turn_column-requires-clause-natural : goal.turn_column-requires-clause-natural
turn_column-requires-clause-natural c = λ s. column_natural (matrix c.args.n c.args.n c.args.d.now) (c.none_negative_of-natural.ensures.first s) c.loop-k.k c.args.m c.args.n c.args.a.now c.loop-k.a c.loop-k.invariant (c.none_negative_of-natural.ensures.second s)

pub loop-k-preserved : goal.loop-k-preserved
loop-k-preserved c = turn_more (column_turn (matrix c.args.n c.args.n c.args.d.now)) (λ k x. refl) c.loop-k.k c.args.m c.args.n c.args.a.now c.loop-k.a c.turn_column.new.a c.loop-k.invariant c.turn_column.ensures

pub returns : goal.returns
returns c =
    let all : c.loop-k.k ≡ c.args.n = omega arith in
    c.loop-k.invariant ∙ ap (λ k. (after_turns k (column_turn (matrix c.args.n c.args.n c.args.d.now)) (matrix c.args.m c.args.n c.args.a.now)).elements) all
