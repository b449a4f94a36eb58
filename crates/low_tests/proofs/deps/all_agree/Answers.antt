use Rattle.std.proofs.Common.{All, IsTrue, subst, arith, rules, List}
use Rattle.std.proofs.lemmas.Grind.{common_steps}
use Rattle.std.proofs.lemmas.List.{take_all}
use Rattle.std.proofs.lemmas.List.Elements.{All-more}
use Rattle.sj_deps.specs.declared.manner.Manner.TheVariants.{Read}
use Rattle.sj_deps.specs.declared.manner.Usage.{Usage}
use Rattle.sj_deps.specs.Conflict.{usage}
use Rattle.low_tests.specs.Countable.{Agrees}
use Rattle.low_tests.proofs.deps.all_agree.Goals as goal

pub loop-u-preserved : goal.loop-u-preserved
loop-u-preserved c =
    let passes : IsTrue c.agrees.result = first_of (search rules, grind (arith, common_steps)) in
    All-more (Agrees c.args.usages.now) c.args.usages.now c.loop-u.u-index (usage Read 0) (omega arith) c.loop-u.invariant (c.agrees.ensures passes)

pub returns : goal.returns
returns c =
    λ passes. subst (λ (us : List Usage). All (Agrees c.args.usages.now) us) (take_all c.loop-u.u-index c.args.usages.now (omega arith)) c.loop-u.invariant
