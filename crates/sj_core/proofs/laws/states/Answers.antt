use Rattle.sj_core.proofs.States.{legal-more, legal-before, legal-last, one-mover}
use Rattle.sj_core.proofs.laws.states.Goals as goal

pub returns : goal.returns
returns c = record {
  go_on = λ p m trace e. record { both_suffice = legal-more p m trace e; trace_is_legal = legal-before p m trace e; event_may_happen = legal-last p m trace e };
  moves = one-mover;
}
