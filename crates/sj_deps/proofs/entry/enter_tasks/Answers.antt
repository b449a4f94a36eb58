use Rattle.std.proofs.Common.{◌≡◌, ℕ, [], ◌∷◌, subst, length, map, replicate, arith, rules}
use Rattle.std.specs.List.{range_with_len}
use Rattle.std.proofs.lemmas.Grind.{common_steps}
use Rattle.sj_base.specs.Ids.{task}
use Rattle.sj_deps.specs.Chains.{no_chain}
use Rattle.sj_deps.specs.Counts.{Entering}
use Rattle.sj_deps.proofs.Starting.{Begun-none, Entering-none, Built-all}
use Rattle.sj_deps.proofs.entry.enter_tasks.Goals as goal

pub loop-t-init : goal.loop-t-init
loop-t-init c =
    let P = c.args.program.now in
    let e = c.in_ok-entered.entered in
    let chains : e.chains.items ≡ replicate (length P.cells) no_chain = first_of (search rules, grind (arith, common_steps)) in
    let cells : e.cells.items ≡ replicate (length P.tasks) [] = first_of (search rules, grind (arith, common_steps)) in
    let tasks : e.tasks.items ≡ map (λ t. task t ∷ []) (range_with_len 0 (length P.tasks)) = first_of (search rules, grind (arith, common_steps)) in
    let waits : e.waits.items ≡ replicate (length P.tasks) 0 = first_of (search rules, grind (arith, common_steps)) in
    let flags : length e.is_closed.items ≡ length P.tasks = first_of (search rules, grind (arith, common_steps)) in
    (Begun-none P e chains cells tasks waits flags, Entering-none P e chains cells tasks waits flags)

pub returns : goal.returns
returns c = Built-all c.args.program.now c.loop-t.entered c.loop-t.invariant.0 (subst (λ (n : ℕ). Entering c.args.program.now n [] c.loop-t.entered) (omega arith) c.loop-t.invariant.1)
