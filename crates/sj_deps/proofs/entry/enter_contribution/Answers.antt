use Rattle.std.proofs.Common.{◌≡◌, ◌+◌, ◌-◌, ◌<◌, ◌++◌, ℕ, List, refl, sym, subst, map, arith, rules}
use Rattle.std.specs.Prelude.{Contains, Some}
use Rattle.std.proofs.lemmas.Grind.{common_steps}
use Rattle.sj_deps.specs.declared.manner.Manner.TheVariants.{Contribute}
use Rattle.sj_deps.specs.Conflict.{Uses, usage, first_copy}
use Rattle.sj_deps.specs.Counts.{Entering}
use Rattle.sj_deps.proofs.Accessing.{copies_some, range_has}
use Rattle.sj_deps.proofs.Appending.{on_ok}
use Rattle.sj_deps.proofs.entry.enter_contribution.Goals as goal

pub contribute-requires-clause-within : goal.contribute-requires-clause-within
contribute-requires-clause-within c =
    let P = c.args.program.now in
    let a : ℕ = c.in-Some.first.0 in
    let k : ℕ = P.workers in
    let is : first_copy P c.args.cell.0 ≡ Some c.in-Some.first = first_of (search rules, grind (arith, common_steps)) in
    let copies = copies_some P c.args.cell.0 c.in-Some.first is in
    let some : 0 < k = omega arith in
    let last : ℕ = a + k - 1 in
    let uses : Uses P c.args.t last Contribute = c.requires.uses last Contribute (subst (λ (cs : List ℕ). Contains (map (usage Contribute) cs) (usage Contribute last)) (sym copies) (range_has Contribute a k last (omega arith) (omega arith))) in
    let below = c.requires.program.cells c.args.t last Contribute uses in
    let len = c.requires.cells in
    omega arith

pub returns-in-Some-clause-entered : goal.returns-in-Some-clause-entered
returns-in-Some-clause-entered c =
    let P = c.args.program.now in
    let is : first_copy P c.args.cell.0 ≡ Some c.in-Some.first = first_of (search rules, grind (arith, common_steps)) in
    let copies = copies_some P c.args.cell.0 c.in-Some.first is in
    on_ok c.contribute.result _ _ (λ f us entering. subst (λ (cs : List ℕ). Entering P c.args.t (us ++ map (usage Contribute) cs) c.contribute.new.entered) (sym copies) (f P us c.requires.program c.requires.task refl (λ d low high. c.requires.uses d Contribute (subst (λ (cs : List ℕ). Contains (map (usage Contribute) cs) (usage Contribute d)) (sym copies) (range_has Contribute c.in-Some.first.0 P.workers d low high))) entering)) c.contribute.ensures.entered
