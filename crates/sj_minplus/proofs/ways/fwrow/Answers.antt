use Rattle.std.proofs.Common.{◌≡◌, refl, ap, ◌∙◌, arith}
use Rattle.sj_codelet.specs.Equations.{after_turns, matrix}
use Rattle.sj_minplus.specs.Turns.{row_turn}
use Rattle.sj_minplus.proofs.Turns.{turn_more}
use Rattle.sj_minplus.proofs.Naturals.{row_natural}
use Rattle.sj_minplus.proofs.ways.fwrow.Goals as goal

pub turn_row-requires-clause-natural : goal.turn_row-requires-clause-natural
turn_row-requires-clause-natural c = λ s. row_natural (matrix c.args.n c.args.n c.args.d.now) (c.none_negative_of-natural.ensures.first s) c.loop-k.k c.args.n c.args.m c.args.a.now c.loop-k.a c.loop-k.invariant (c.none_negative_of-natural.ensures.second s)

pub loop-k-preserved : goal.loop-k-preserved
loop-k-preserved c = turn_more (row_turn (matrix c.args.n c.args.n c.args.d.now)) (λ k x. refl) c.loop-k.k c.args.n c.args.m c.args.a.now c.loop-k.a c.turn_row.new.a c.loop-k.invariant c.turn_row.ensures

pub returns : goal.returns
returns c =
    let all : c.loop-k.k ≡ c.args.n = omega arith in
    c.loop-k.invariant ∙ ap (λ k. (after_turns k (row_turn (matrix c.args.n c.args.n c.args.d.now)) (matrix c.args.n c.args.m c.args.a.now)).elements) all
