use Rattle.std.proofs.Common.{IsTrue, subst, arith, rules, ⊎_elim}
use Rattle.std.proofs.lemmas.Grind.{common_steps}
use Rattle.std.proofs.lemmas.Bool.{cases_lt}
use Rattle.low_tests.specs.Countable.{IsCountable}
use Rattle.low_tests.proofs.CountableLemmas.{HasDependencies-from}
use Rattle.low_tests.proofs.deps.is_countable.Goals as goal

pub loop-t-preserved : goal.loop-t-preserved
loop-t-preserved c =
    let passes : IsTrue c.in_ok-is_task_countable.field-0 = first_of (search rules, grind (arith, common_steps)) in
    λ u below. ⊎_elim (λ lower. c.loop-t.invariant u lower) (λ above. subst (IsCountable c.args.program.now) (omega arith) (c.in_ok-is_task_countable.ensures passes)) (cases_lt u c.loop-t.t)

pub returns : goal.returns
returns c = λ passes. HasDependencies-from c.args.program.now (omega arith) (λ t below. c.loop-t.invariant t (omega arith))
