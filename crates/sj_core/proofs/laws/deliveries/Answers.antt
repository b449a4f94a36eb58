use Rattle.sj_core.proofs.{Given.delivers-given, Given.finds-content, Given.finds-earlier, Workers.workers-alike}
use Rattle.sj_core.proofs.laws.deliveries.Goals as goal

pub returns : goal.returns
returns c = record {
  finds_content = λ eq p m s A t w a h holds among reads at_hand. finds-content p m s h eq A holds t w a among reads at_hand;
  finds_earlier_tasks = λ eq has p m s A t w a h holds lawful among reads in_order settled at_hand. finds-earlier p m s h eq has lawful A holds t w a among reads in_order settled at_hand;
  delivers_given = λ eq has p m s A t w c h holds lawful one at_hand. delivers-given p m s h eq has lawful A holds t w c one at_hand;
  takes_any_worker = λ eq has p n c by proper lawful within settled some staffed. workers-alike eq has p proper lawful n within c settled.plain settled.closed by (λ u. record { 0 = 0 }) staffed (λ u. some);
}
