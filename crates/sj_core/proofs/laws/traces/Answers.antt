use Rattle.sj_core.proofs.Replaying.{finished-final, legal-coherent, legal-content}
use Rattle.sj_core.proofs.laws.traces.Goals as goal

pub returns : goal.returns
returns c = record {
  keep_coherence = λ p m trace proper machine legal. legal-coherent p m proper machine trace legal;
  keep_content = λ eq has p m trace proper machine lawful legal. legal-content p m proper machine eq has lawful trace legal;
  hold_final = λ eq has p m trace proper machine lawful finished. finished-final p m proper machine eq has lawful trace finished;
}
