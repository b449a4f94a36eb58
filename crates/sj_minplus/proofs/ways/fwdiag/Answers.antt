use Rattle.std.proofs.Common.{◌≡◌, refl, ap, ◌∙◌, arith}
use Rattle.sj_codelet.specs.Equations.{after_turns, matrix}
use Rattle.sj_minplus.specs.Turns.{diagonal_turn}
use Rattle.sj_minplus.proofs.Turns.{turn_more}
use Rattle.sj_minplus.proofs.Naturals.{diagonal_natural}
use Rattle.sj_minplus.proofs.ways.fwdiag.Goals as goal

pub turn_diagonal-requires-clause-natural : goal.turn_diagonal-requires-clause-natural
turn_diagonal-requires-clause-natural c = λ s. diagonal_natural c.loop-k.k c.args.n c.args.n c.args.a.now c.loop-k.a c.loop-k.invariant (c.none_negative-natural.ensures s)

pub loop-k-preserved : goal.loop-k-preserved
loop-k-preserved c = turn_more diagonal_turn (λ k x. refl) c.loop-k.k c.args.n c.args.n c.args.a.now c.loop-k.a c.turn_diagonal.new.a c.loop-k.invariant c.turn_diagonal.ensures

pub returns : goal.returns
returns c =
    let all : c.loop-k.k ≡ c.args.n = omega arith in
    c.loop-k.invariant ∙ ap (λ k. (after_turns k diagonal_turn (matrix c.args.n c.args.n c.args.a.now)).elements) all
